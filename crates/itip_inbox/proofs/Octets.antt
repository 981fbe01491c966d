-- The bytes of items, one after another.
use Rattle.std.proofs.Common.{◌≡◌, ◌∙◌, sym, ap, refl, ℕ, List, [], ◌∷◌, ◌++◌, append_assoc, append-nil}
use Rattle.itip_items.specs.declared.item.Item.{Item}
use Rattle.itip_desk.specs.DeltaFormat.{delta_octets}

pub octets_none : delta_octets [] ≡ []
unfolding delta_octets
octets_none = refl

pub octets_both : (xs ys : List Item) → delta_octets (xs ++ ys) ≡ delta_octets xs ++ delta_octets ys
unfolding delta_octets
octets_both [] ys = refl
octets_both (x ∷ xs) ys = ap (λ (t : List ℕ). x.bytes ++ t) (octets_both xs ys) ∙
    sym (append_assoc x.bytes (delta_octets xs) (delta_octets ys))

pub octets_push : (xs : List Item) (x : Item) → delta_octets (xs ++ x ∷ []) ≡ delta_octets xs ++ x.bytes
unfolding delta_octets
octets_push [] x = append-nil x.bytes
octets_push (y ∷ xs) x = ap (λ (t : List ℕ). y.bytes ++ t) (octets_push xs x) ∙ sym (append_assoc y.bytes (delta_octets xs) x.bytes)
