use Rattle.std.proofs.Common.{◌≡◌, ◌∙◌, sym, ap, true, false}
use Rattle.itip_items.specs.declared.item.Item.{Item}
use Rattle.itip_items.specs.declared.key.Key.TheVariants.{Series}
use Rattle.itip_view.specs.Standing.{is_live}
use Rattle.itip_view.proofs.OneRow.{one_best}
use Rattle.itip_view.proofs.whole.whole_of.Goals as goal
use Rattle.itip_view.proofs.whole.whole_of.Goals.{in_default-via-in-Some+else-is_live, in_default-via-in_default}

pub returns-in_default : goal.returns-in_default
returns-in_default c = λ item live.
    elim c.in_default.branch [
      | in_default-via-in-Some+else-is_live w ↦
          let same : item ≡ w.in-Some.item.now =
          one_best c.args.items.now.items (Series c.args.items.now.uid) item w.in-Some.item.now live.best w.in-Some.ensures in
          let x : true ≡ false = sym live.live ∙ ap (λ (i : Item). is_live i.kind) same ∙ sym w.is_live.ensures ∙ w.if-is_live.false in cc
      | in_default-via-in_default w ↦ w.in_default.ensures item live.best.is_heard live.best.about
    ]
