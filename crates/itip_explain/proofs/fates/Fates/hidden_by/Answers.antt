use Rattle.std.proofs.Common.{◌≡◌, ◌∙◌, sym, subst, true, false}
use Rattle.std.specs.Option.{option_copied}
use Rattle.itip_items.specs.declared.key.Key.TheVariants.{Series}
use Rattle.itip_state.specs.Kept.{IsBestOf}
use Rattle.itip_state.specs.OfUid.{UidPart}
use Rattle.itip_explain.specs.Knowing.{heard_by}
use Rattle.itip_explain.proofs.Becoming.{stands_up, hidden_up}
use Rattle.itip_explain.proofs.fates.Fates.hidden_by.Goals as goal

pub returns-then-stands_beside : goal.returns-then-stands_beside
returns-then-stands_beside c =
    let part = c.args.self.now.question in
    stands_up (heard_by c.args.self.now) part.items part.uid c.requires.sound.about c.requires.sound.kept c.args.item.now c.requires.kept
    (option_copied c.series-series.result)
    (subst (λ (p : UidPart). IsBestOf p.items (Series p.uid) (option_copied c.series-series.result)) c.items.ensures
    c.series-series.ensures) (c.stands_beside.ensures.0 c.if-stands_beside.true)

pub returns-else-stands_beside : goal.returns-else-stands_beside
returns-else-stands_beside c =
    let part = c.args.self.now.question in
    hidden_up (heard_by c.args.self.now) part.items part.uid c.requires.sound.about c.requires.sound.kept c.args.item.now
    (option_copied c.series-series.result)
    (subst (λ (p : UidPart). IsBestOf p.items (Series p.uid) (option_copied c.series-series.result)) c.items.ensures
    c.series-series.ensures) (λ b. let x : true ≡ false = sym (c.stands_beside.ensures.1 b) ∙ c.if-stands_beside.false in cc)
