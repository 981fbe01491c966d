use Rattle.std.proofs.Common.{sym, ap, subst, List, ℕ, Option, None}
use Rattle.std.specs.Prelude.{MatchOption}
use Rattle.std.specs.Option.{option_copied}
use Rattle.itip_moment.specs.declared.moment.Moment.{Moment}
use Rattle.itip_items.specs.declared.item.Item.{Item}
use Rattle.itip_items.specs.declared.key.Key.TheVariants.{Series}
use Rattle.itip_state.specs.Kept.{IsBestOf}
use Rattle.itip_state.specs.OfUid.{UidPart}
use Rattle.itip_view.specs.InQuestion.{IsInQuestion, NoneInQuestion}
use Rattle.itip_view.proofs.Governed.{live_series}
use Rattle.itip_view.proofs.in_question.InQuestion.governing.Goals as goal

-- the item in question, or that none is
abbrev IsItemInQuestion : List Item → List ℕ → Option Moment → Option Item → Type 0
IsItemInQuestion items uid id found = MatchOption found (NoneInQuestion items uid id) (IsInQuestion items uid id)

pub returns-in-Some : goal.returns-in-Some
returns-in-Some c =
    subst (λ (id : Option Moment). IsItemInQuestion c.args.self.now.items c.args.self.now.uid id (option_copied c.governing_at.result))
    (ap option_copied (sym c.in-Some.is)) c.governing_at.ensures

pub returns-in-None : goal.returns-in-None
returns-in-None c =
    let items : List Item = c.args.self.now.items in
    let uid : List ℕ = c.args.self.now.uid in
    let best : IsBestOf items (Series uid) (option_copied c.series.result) =
    subst (λ (p : UidPart). IsBestOf p.items (Series p.uid) (option_copied c.series.result)) c.self.view_is c.series.ensures in
    subst (λ (id : Option Moment). IsItemInQuestion items uid id (option_copied c.if_live.result)) (ap option_copied (sym c.in-None.is))
    (subst (IsItemInQuestion items uid None) (sym c.if_live.ensures) (live_series items uid (option_copied c.series.result) best))
