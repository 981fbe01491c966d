-- A list's text is cut at its first comma, and no rule has more than eight parts.
use Rattle.std.proofs.Common.{◌≡◌, ℕ, ◌+◌, ◌≤◌, ◌==◌, Bool, true, inl, inr, refl, arith, List, [], ◌∷◌, ◌++◌, length}
use Rattle.std.proofs.Common.{Option, Some, None, MatchOption, cond, nat_le}
use denote.Ref.{Bor}
use Rattle.std.specs.List.{list_any, list_all, count_by}
use Rattle.std.proofs.lemmas.Bool.{and_parts, or_cases, leb-true, cond-true}
use Rattle.std.proofs.lemmas.List.Splits.{slice_split_first, slice_split_none, length-slice_split}
use Rattle.std.proofs.lemmas.List.Sums.{fails_before_first, sum_by-cons}
use Rattle.std.proofs.lemmas.Str.Pattern.{IsSplitOnceResult, split_once_first, split_parts}
use Rattle.itip_recur.specs.RuleText.{elements, has_name, part_names, are_parts, rule_parts}

pub cut_first : (bs : List ℕ) (r : Option (Bor (List ℕ) × Bor (List ℕ))) → IsSplitOnceResult 44 bs r →
    MatchOption r (elements bs ≡ bs ∷ []) (λ p. (elements bs ≡ p.0.now ∷ elements p.1.now) × (bs ≡ p.0.now ++ 44 ∷ p.1.now))
cut_first bs None is =
    let all = split_once_first 44 bs None is (omega arith) in
    slice_split_none (λ c. c == 44) bs (λ k d lt. fails_before_first (λ c. c == 44) bs k d (omega (arith, all)))
cut_first bs (Some x) is =
    let h = split_once_first 44 bs (Some x) is (omega arith) in
    (rw (h.1, h.2) (slice_split_first (λ c. c == 44) bs 0 h.0), (split_parts 44 bs (Some x) is (omega arith)).0)

-- how many parts have one of the names
module _ (names_it : List ℕ → List ℕ → Bool) where
  abbrev total : List (List ℕ) → List (List ℕ) → ℕ
  total [] parts = 0
  total (name ∷ names) parts = count_by (names_it name) parts + total names parts

  -- one part more, with its own name or none
  step : (name part : List ℕ) (parts : List (List ℕ)) →
      count_by (names_it name) (part ∷ parts) ≡ cond (names_it name part) 1 0 + count_by (names_it name) parts
  step name part parts = sum_by-cons (λ x. cond (names_it name x) 1 0) part parts

  total_grows : (names : List (List ℕ)) (part : List ℕ) (parts : List (List ℕ)) → total names parts ≤ total names (part ∷ parts)
  total_grows [] part parts = omega arith
  total_grows (name ∷ names) part parts = omega (arith, total_grows names part parts, step name part parts)

  total_more : (names : List (List ℕ)) (part : List ℕ) (parts : List (List ℕ)) → list_any (λ name. names_it name part) names ≡ true →
      total names parts + 1 ≤ total names (part ∷ parts)
  total_more [] part parts h = absurd cc
  total_more (name ∷ names) part parts h =
      elim (or_cases (names_it name part) (list_any (λ name. names_it name part) names) h) [
        | inl here ↦ omega (arith, step name part parts, cond-true {A = ℕ} (names_it name part) 1 0 here, total_grows names part parts)
        | inr there ↦ omega (arith, step name part parts, total_more names part parts there)
      ]

  few_named : (names parts : List (List ℕ)) → list_all (λ part. list_any (λ name. names_it name part) names) parts ≡ true →
      length parts ≤ total names parts
  few_named names [] h = omega arith
  few_named names (part ∷ parts) h =
      let both = and_parts (list_any (λ name. names_it name part) names)
      (list_all (λ part. list_any (λ name. names_it name part) names) parts) h in
      omega (arith, few_named names parts both.1, total_more names part parts both.0)

  total_few : (names parts : List (List ℕ)) → list_all (λ name. nat_le (count_by (names_it name) parts) 1) names ≡ true →
      total names parts ≤ length names
  total_few [] parts h = omega arith
  total_few (name ∷ names) parts h =
      let both = and_parts (nat_le (count_by (names_it name) parts) 1)
      (list_all (λ name. nat_le (count_by (names_it name) parts) 1) names) h in
      omega (arith, leb-true (count_by (names_it name) parts) 1 both.0, total_few names parts both.1)

pub few_parts : (text : List ℕ) → are_parts (rule_parts text) ≡ true → 8 ≤ count_by (λ c. c == 59) text → ⊥
few_parts text lawful many =
    let both = and_parts (list_all (λ part. list_any (λ name. has_name name part) part_names) (rule_parts text))
    (list_all (λ name. nat_le (count_by (has_name name) (rule_parts text)) 1) part_names) lawful in
    let named = few_named has_name part_names (rule_parts text) both.0 in
    let few = total_few has_name part_names (rule_parts text) both.1 in
    let parts = length-slice_split (λ c. c == 59) text in
    let eight : length part_names ≡ 8 = refl in
    omega (arith, named, few, parts, eight)
