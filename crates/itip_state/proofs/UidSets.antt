-- The UIDs that items are about.
use Rattle.std.proofs.Common.{◌≡◌, ℕ, List, [], ◌∷◌, subst, map, inl, inr}
use Rattle.std.specs.List.{Contains}
use Rattle.itip_items.specs.KeyParts.{uid_of}
use Rattle.itip_items.specs.declared.item.Item.{Item}
use Rattle.itip_state.proofs.Members.{none_in, cons_cases, cons_first, cons_later}

module _ {X : Type 0} (f : X → Item) where
  pub uid_from : (xs : List X) (uid : List ℕ) → Contains (map (λ x. uid_of (f x).key) xs) uid → (item : Item) × Contains (map f xs) item ×
      (uid_of item.key ≡ uid)
  uid_from [] uid h = absurd (none_in uid h)
  uid_from (x ∷ xs) uid h = elim (cons_cases (uid_of (f x).key) (map (λ x. uid_of (f x).key) xs) uid h) [
    | inl same ↦ (f x, cons_first (f x) (map f xs), same)
    | inr rest ↦ let r = uid_from xs uid rest in (r.0, cons_later (f x) (map f xs) r.0 r.1, r.2)
  ]

  pub uid_among : (xs : List X) (item : Item) → Contains (map f xs) item → Contains (map (λ x. uid_of (f x).key) xs) (uid_of item.key)
  uid_among [] item h = absurd (none_in item h)
  uid_among (x ∷ xs) item h = elim (cons_cases (f x) (map f xs) item h) [
    | inl same ↦ subst (λ (i : Item). Contains (map (λ x. uid_of (f x).key) (x ∷ xs)) (uid_of i.key)) same
        (cons_first (uid_of (f x).key) (map (λ x. uid_of (f x).key) xs))
    | inr rest ↦ cons_later (uid_of (f x).key) (map (λ x. uid_of (f x).key) xs) (uid_of item.key) (uid_among xs item rest)
  ]
