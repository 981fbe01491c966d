use Rattle.std.proofs.Common.{◌∙◌, sym, ap, subst, List}
use Rattle.itip_items.specs.declared.item.Item.{Item}
use Rattle.itip_state.specs.Kept.{AreKept, AreOf}
use Rattle.itip_state.specs.OfUid.{UidPart, IsUidPart}
use Rattle.itip_explain.specs.Asking.{AreInOrder}
use Rattle.itip_explain.specs.Told.{heard_of}
use Rattle.itip_explain.proofs.fates.Fates.of.Goals as goal

pub returns-clause-sound : goal.returns-clause-sound
returns-clause-sound c =
    let heard : List Item = heard_of c.args.latest.now.told.now in
    record {
      order = c.requires.order;
      about = subst (λ (p : UidPart). AreOf p.uid heard) (sym c.in_ok-question.ensures) c.requires.about;
      part = subst IsUidPart (sym c.in_ok-question.ensures) c.as_slice.ensures.part;
      kept = subst (λ (p : UidPart). AreKept p.items heard) (sym c.in_ok-question.ensures) c.requires.kept;
      asked = subst (λ (items : List Item). AreInOrder items c.in_ok-asked.asked.askings.items)
          (c.as_slice.ensures.items ∙ ap (λ (p : UidPart). p.items) (sym c.in_ok-question.ensures)) c.in_ok-asked.ensures;
    }
