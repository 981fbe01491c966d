-- Whether a text is among others, by comparing it with each.
use Rattle.std.proofs.Common.{◌≡◌, ℕ, List, [], ◌∷◌, ◌||◌, refl, sym, ◌∙◌, ap, subst, inl, inr, Bool, true, false}
use Rattle.std.specs.List.{Contains, list_any}
use Rattle.std.specs.Ordering.{is_eq}
use Rattle.std.proofs.lemmas.Cmp.{nat_list_cmp_total}
use Rattle.std.proofs.lemmas.Map.Lookups.{exact_bytes}
use Rattle.itip_state.proofs.Members.{by_bool, none_in, cons_cases, cons_first, cons_later}
use Rattle.itip_state.proofs.Lookups.{one_key, itself}
use Rattle.itip_state.proofs.Maps.{uid_cmp}

abbrev pub is_listed : List (List ℕ) → List ℕ → Bool
is_listed us q = list_any (λ u. is_eq (uid_cmp u q)) us

pub listed_in : (us : List (List ℕ)) (q : List ℕ) → is_listed us q ≡ true → Contains us q
listed_in [] q e = let x : false ≡ true = e in absurd (cc)
listed_in (u ∷ us) q e = by_bool (is_eq (uid_cmp u q)) (Contains (u ∷ us) q)
    (λ k. subst (Contains (u ∷ us)) (one_key nat_list_cmp_total exact_bytes u q k) (cons_first u us))
    (λ k. cons_later u us q (listed_in us q (sym (ap (λ b. b || is_listed us q) k) ∙ e)))

or_right : (a b : Bool) → b ≡ true → (a || b) ≡ true
or_right true b e = refl
or_right false b e = e

pub in_listed : (us : List (List ℕ)) (q : List ℕ) → Contains us q → is_listed us q ≡ true
in_listed [] q h = absurd (none_in q h)
in_listed (u ∷ us) q h = elim (cons_cases u us q h) [
  | inl same ↦ ap (λ b. b || is_listed us q) (ap (λ x. is_eq (uid_cmp x q)) same ∙ itself nat_list_cmp_total exact_bytes q)
  | inr rest ↦ or_right (is_eq (uid_cmp u q)) (is_listed us q) (in_listed us q rest)
]
