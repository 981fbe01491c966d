-- Up to, and later.
use Rattle.std.proofs.Common.{◌≡◌, refl, sym, ◌∙◌, ap, true, false}
use Rattle.std.specs.Ordering.{is_gt}
use Rattle.std.specs.declared.cmp.Ordering.{Ordering}
use Rattle.std.specs.declared.cmp.Ordering.TheVariants.{Less, Equal, Greater}
use Rattle.itip_join.specs.Ranked.{IsUpTo, IsUpTo-tie}
use Rattle.itip_items.specs.RevisionOrder.{revision_cmp, IsLater}
use Rattle.itip_items.specs.declared.item.Item.{Item}
use Rattle.itip_items.specs.Revisions.{revisions_total}
use Rattle.itip_items.proofs.Revisions.{revision_exact}

not_greater : (r : Ordering) → (r ≡ Greater → ⊥) → is_gt r ≡ false
not_greater Less n = refl
not_greater Equal n = refl
not_greater Greater n = absurd (n refl)

-- up to, and not later, are one
pub up_to_not_later : (x y : Item) → IsUpTo revision_cmp x y → ¬ IsLater x y
up_to_not_later x y up later = let e : true ≡ false = sym (ap is_gt later) ∙ up in cc

pub not_later_up_to : (x y : Item) → (¬ IsLater x y) → IsUpTo revision_cmp x y
not_later_up_to x y not = not_greater (revision_cmp x y) not

-- two items of which neither is later are one
pub neither_later : (x y : Item) → (¬ IsLater x y) → (¬ IsLater y x) → x ≡ y
neither_later x y p q = revision_exact x y (IsUpTo-tie revisions_total x y (not_later_up_to x y p) (not_later_up_to y x q))
