use Rattle.std.proofs.Common.{◌≡◌, ◌∙◌, sym, ap, true}
use Rattle.std.specs.Ordering.{is_eq}
use Rattle.itip_items.specs.RevisionOrder.{revision_cmp}
use Rattle.itip_items.specs.Revisions.{revisions_total}
use Rattle.itip_items.specs.declared.item.Item.{Item}
use Rattle.itip_items.proofs.Revisions.{revision_exact}
use Rattle.itip_state.specs.Held.{Best}
use Rattle.itip_state.proofs.Lookups.{one_key, itself}
use Rattle.itip_state.proofs.held_of_uid.is_same.Goals as goal

pub returns : goal.returns
returns c = (
  λ e. λ i. record { value = same (sym is ∙ e) i },
  λ e. is ∙ ap (λ (b : Best). is_eq (revision_cmp b.value c.args.item.now)) e ∙ itself revisions_total revision_exact c.args.item.now,
)
  where
    is : c.eq.result ≡ is_eq (revision_cmp c.args.best.now.value c.args.item.now)
    is = c.eq.ensures ∙ ap (λ (i : Item). is_eq (revision_cmp c.args.best.now.value i)) c.revision.ensures

    same : is_eq (revision_cmp c.args.best.now.value c.args.item.now) ≡ true → c.args.best.now.value ≡ c.args.item.now
    same e = one_key revisions_total revision_exact c.args.best.now.value c.args.item.now e
