-- To-dos that are sorted by key: two of one key are neighbours.
use Rattle.std.proofs.Common.{◌≡◌, ◌∙◌, ◌+◌, ◌<◌, ℕ, Bool, true, false, not, ◌||◌, List, [], ◌∷◌, length, map, get_or, refl, sym, arith}
use Rattle.std.proofs.Common.{Bor, Option, Some, None}
use Rattle.std.specs.Prelude.{◌&&◌}
use Rattle.std.specs.Cmp.{IsTotalOrder, bool_cmp_total, eq_by_cmp_equiv}
use Rattle.std.specs.Cmp.Lexicographic.{slice_cmp, options_total, texts_ties}
use Rattle.std.specs.List.{AllByRecursion, IsAllAdjacentAnswer, IsDistinct, list_any}
use Rattle.std.specs.List.Sorted.{IsPermutation, IsSortedBy}
use Rattle.std.specs.Option.{option_cmp, option_eq}
use Rattle.std.specs.Ordering.{bool_cmp, eq_by_cmp, is_eq, is_lt, nat_cmp, ordering_reverse, ordering_then}
use Rattle.std.specs.declared.cmp.Ordering.{Ordering}
use Rattle.std.specs.declared.cmp.Ordering.TheVariants.{Less, Equal, Greater}
use Rattle.std.proofs.lemmas.Cmp.{then_total, on_total, nat_list_cmp_total}
use Rattle.std.proofs.lemmas.List.Sorted.{IsPermutation-sym}
use Rattle.std.proofs.lemmas.Map.Keys.{IsDistinct-IsPermutation, IsDistinct-cons, IsDistinct-from_apart, IsDistinct-from_sorted}
use Rattle.std.proofs.lemmas.Map.Keys.{IsDistinct-head, IsDistinct-tail, apart_from_distinct, sorted_from_all_adjacent}
use Rattle.itip_moment.specs.Order.{moment_cmp}
use Rattle.itip_moment.specs.OrderLaws.{moment_total}
use Rattle.itip_moment.specs.declared.moment.Moment.{Moment}
use Rattle.itip_todo.specs.Participation.{same_text}
use Rattle.itip_todo.specs.declared.todo.Todo.{Todo}
use Rattle.itip_state.proofs.Members.{by_bool}
use Rattle.itip_writing.specs.Requesting.{has_twins, is_twin, twin_cmp}
use Rattle.itip_writing.proofs.Twins.{or_none}
use mathlib.Core.Bool.{beq}

pub twin_total : IsTotalOrder twin_cmp
twin_total =
    then_total
    (then_total (on_total (λ (t : Todo). t.uid) nat_list_cmp_total) (on_total (λ (t : Todo). t.rid) (options_total moment_total)))
    (on_total (λ (t : Todo). t.range) bool_cmp_total)

-- ---- the order says Equal where the test says yes

then_both : (r s : Ordering) → is_eq (ordering_then r s) ≡ (is_eq r && is_eq s)
then_both Less s = refl
then_both Equal s = refl
then_both Greater s = refl

rid_test : (a b : Option Moment) → is_eq (option_cmp moment_cmp a b) ≡ option_eq (eq_by_cmp moment_cmp) a b
rid_test None None = refl
rid_test None (Some n) = refl
rid_test (Some m) None = refl
rid_test (Some m) (Some n) = refl

range_test : (a b : Bool) → is_eq (bool_cmp a b) ≡ beq a b
range_test true true = refl
range_test true false = refl
range_test false true = refl
range_test false false = refl

front_test : (a b : Todo) → is_eq (ordering_then (slice_cmp nat_cmp a.uid b.uid) (option_cmp moment_cmp a.rid b.rid)) ≡
    (same_text a.uid b.uid && option_eq (eq_by_cmp moment_cmp) a.rid b.rid)
front_test a b =
    then_both (slice_cmp nat_cmp a.uid b.uid) (option_cmp moment_cmp a.rid b.rid)
    ∙ (λ i. sym (texts_ties a.uid b.uid) i && rid_test a.rid b.rid i)

test_is : (a b : Todo) → eq_by_cmp twin_cmp a b ≡ is_twin a b
test_is a b =
    then_both (ordering_then (slice_cmp nat_cmp a.uid b.uid) (option_cmp moment_cmp a.rid b.rid)) (bool_cmp a.range b.range)
    ∙ (λ i. front_test a b i && range_test a.range b.range i)

-- ---- neighbours

is_less : (r : Ordering) → is_lt r ≡ true → r ≡ Less
is_less Less e = refl
is_less Equal e = cc
is_less Greater e = cc

level : (r s : Ordering) → r ≡ ordering_reverse s → is_lt r ≡ false → is_lt s ≡ false → is_eq r ≡ true
level Less s turned first second = cc
level Equal s turned first second = refl
level Greater Less turned first second = cc
level Greater Equal turned first second = cc
level Greater Greater turned first second = cc

module _ {X : Type 0} (todo_of : X → Todo) where
  abbrev tied : X → X → Bool
  tied a b = eq_by_cmp twin_cmp (todo_of a) (todo_of b)

  abbrev below : X → X → Bool
  below a b = is_lt (twin_cmp (todo_of a) (todo_of b))

  flips : (a b : X) → tied a b ≡ tied b a
  flips a b = (eq_by_cmp_equiv twin_total).symm (todo_of a) (todo_of b)

  nothing_tied : IsDistinct tied []
  nothing_tied = IsDistinct-from_apart tied [] (λ i j d low inside. absurd (omega (arith, inside)))

  none_tied : (x : X) (xs : List X) → list_any (is_twin (todo_of x)) (map todo_of xs) ≡ false →
      AllByRecursion (λ (y : X). tied x y ≡ false) xs
  none_tied x [] e = tt
  none_tied x (y ∷ ys) e =
      let parts = or_none (is_twin (todo_of x) (todo_of y)) (list_any (is_twin (todo_of x)) (map todo_of ys)) e in
      (test_is (todo_of x) (todo_of y) ∙ parts.0, none_tied x ys parts.1)

  all_apart : (xs : List X) → has_twins (map todo_of xs) ≡ false → IsDistinct tied xs
  all_apart [] e = nothing_tied
  all_apart (x ∷ xs) e =
      let parts = or_none (list_any (is_twin (todo_of x)) (map todo_of xs)) (has_twins (map todo_of xs)) e in
      IsDistinct-cons tied x xs (none_tied x xs parts.0) (all_apart xs parts.1)

  none_twin : (x : X) (xs : List X) → AllByRecursion (λ (y : X). tied x y ≡ false) xs →
      list_any (is_twin (todo_of x)) (map todo_of xs) ≡ false
  none_twin x [] apart = refl
  none_twin x (y ∷ ys) apart = λ i. (sym (test_is (todo_of x) (todo_of y)) ∙ apart.0) i || none_twin x ys apart.1 i

  no_twins : (xs : List X) → IsDistinct tied xs → has_twins (map todo_of xs) ≡ false
  no_twins [] apart = refl
  no_twins (x ∷ xs) apart = λ i. none_twin x xs (IsDistinct-head tied x xs apart) i || no_twins xs (IsDistinct-tail tied x xs apart) i

  rising_apart : (ys : List X) → ((k : ℕ) (d : X) → k + 1 < length ys → true ≡ below (get_or ys k d) (get_or ys (k + 1) d)) →
      IsDistinct tied ys
  rising_apart [] each = nothing_tied
  rising_apart (y ∷ ys) each =
      IsDistinct-from_sorted (λ (a b : X). twin_cmp (todo_of a) (todo_of b)) (y ∷ ys)
      (sorted_from_all_adjacent (on_total todo_of twin_total) (y ∷ ys) y (λ k inside.
      is_less (twin_cmp (todo_of (get_or (y ∷ ys) k y)) (todo_of (get_or (y ∷ ys) (k + 1) y))) (sym (each k y inside))))

  -- some neighbour isn't less than the next exactly if two of the list have one key
  pub neighbours_tell : (xs ys : List X) → IsPermutation xs ys → IsSortedBy below ys → (r : Bool) →
      IsAllAdjacentAnswer (λ (a b : X) (s : Bool). s ≡ below a b) ys r → not r ≡ has_twins (map todo_of xs)
  neighbours_tell xs ys moved up true each =
      sym (no_twins xs (IsDistinct-IsPermutation tied flips ys xs (IsPermutation-sym xs ys moved) (rising_apart ys each)))
  neighbours_tell xs [] moved up false (k, inside, at) = absurd (omega (arith, inside))
  neighbours_tell xs (y ∷ ys) moved up false (k, inside, at) =
      let first : Todo = todo_of (get_or (y ∷ ys) k y) in
      let next : Todo = todo_of (get_or (y ∷ ys) (k + 1) y) in
      let same : eq_by_cmp twin_cmp first next ≡ true =
      level (twin_cmp first next) (twin_cmp next first) (twin_total.antisymm first next) (sym (at y)) (up k y (omega arith) inside) in
      by_bool (has_twins (map todo_of xs)) (true ≡ has_twins (map todo_of xs)) (λ yes. sym yes) (λ none.
      let apart : eq_by_cmp twin_cmp first next ≡ false =
      apart_from_distinct tied (y ∷ ys) k (k + 1) y (IsDistinct-IsPermutation tied flips xs (y ∷ ys) moved (all_apart xs none))
      (omega arith) inside in
      let no : true ≡ false = sym same ∙ apart in absurd cc)

-- the test of neighbours by which references to to-dos are sorted
abbrev pub is_below : Bor Todo → Bor Todo → Bool
is_below a b = is_lt (twin_cmp a.now b.now)
