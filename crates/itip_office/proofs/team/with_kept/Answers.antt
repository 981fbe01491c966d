use Rattle.std.proofs.Common.{◌≡◌, ℕ, List, [], ◌∷◌, ◌++◌, All}
use Rattle.std.proofs.lemmas.List.Elements.{All-nil, All-cons}
use Rattle.std.proofs.lemmas.Result.{IfOk-at_ok}
use Rattle.itip_items.specs.declared.item.Item.{Item}
use Rattle.itip_office.specs.declared.team.Merged.{Merged}
use Rattle.itip_office.specs.LooksAndCarries.{IsOneOf}
use Rattle.itip_office.specs.Pairs.{HasKept}
use Rattle.itip_office.proofs.Seeing.{kept_wider, all_together}
use Rattle.itip_office.proofs.team.with_kept.Goals as goal

pub returns-in_ok-push-in-Ok-clause-kept : goal.returns-in_ok-push-in-Ok-clause-kept
returns-in_ok-push-in-Ok-clause-kept g c = λ was one.
    let Holds : (ℕ → List (List Item) → Type 0) → Merged g.row.R.Denot → Type 0 =
    λ P k. HasKept (g.N.Pairs.pair k.desk) P k.desk k.answers.items k.held.texts k.held.shown in
    let kept = c.in-Ok.kept.items in
    let sources = c.in-Ok.sources.items in
    let last = c.in_ok-one-in-Ok.one in
    let others = c.in_ok-one-in-Ok.others.items in
    let w = IfOk-at_ok (λ v. All (Holds (IsOneOf v.1.items)) v.0.items) c.in-Ok.is was in
    let m = IfOk-at_ok (λ k. Holds (IsOneOf k.1.items) k.0) c.in_ok-one-in-Ok.was one in
    let pushed : c.push.new.self.items ≡ kept ++ last ∷ [] = c.in_ok-push-in-Ok.ensures.items in
    let seen : c.append.new.self.items ≡ sources ++ others = c.in_ok-append-in-Ok.ensures.items in
    all_together Holds (λ P Q wider k is. kept_wider P Q wider (g.N.Pairs.pair k.desk) k.desk k.answers.items k.held.texts k.held.shown is)
    sources others c.append.new.self.items kept (last ∷ []) c.push.new.self.items seen pushed w
    (All-cons (Holds (IsOneOf others)) last [] m (All-nil (Holds (IsOneOf others))))
