-- Whom items ask, step by step, and how one is found.
use Rattle.std.proofs.Common.{◌≡◌, ◌<◌, ◌↔◌, ◌⊎◌, ℕ, zero, suc, List, [], ◌∷◌, ◌++◌, length, get_or, refl, sym, ◌∙◌, ap, subst}
use Rattle.std.proofs.Common.{inl, inr, arith}
use Rattle.std.proofs.Common.{true, false, IsTrue, Option, Some, None, Result, Ok, Err, append_assoc, append-nil}
use Rattle.std.specs.List.{Contains}
use Rattle.std.specs.List.Sorted.{IsPermutation, IsSortedBy, IsSearchInRange, IsBinarySearchResult}
use Rattle.std.specs.Option.{option_cmp}
use Rattle.std.specs.Ordering.{nat_cmp, is_lt}
use Rattle.std.specs.Result.{is_ok}
use Rattle.std.specs.Cmp.{IsTotalOrder, tied_itself}
use Rattle.std.specs.Cmp.Lexicographic.{slice_cmp, options_total}
use Rattle.std.specs.declared.cmp.Ordering.TheVariants.{Equal}
use Rattle.std.proofs.lemmas.Bool.{cases_lt}
use Rattle.std.proofs.lemmas.Cmp.{then_total, on_total, nat_list_cmp_total}
use Rattle.std.proofs.lemmas.List.Elements.{Contains-append_cases, Contains-append_left, Contains-append_right, Contains-push}
use Rattle.std.proofs.lemmas.List.Elements.{Contains-push_cases}
use Rattle.std.proofs.lemmas.List.Sorted.{IsPermutation-sym, Contains-permutation, searchable_from_sorted}
use Rattle.std.proofs.lemmas.Map.Lookups.{exact_bytes}
use Rattle.itip_todo.specs.Table.{attendee_key}
use Rattle.itip_todo.specs.Properties.{Property}
use Rattle.itip_items.specs.declared.item.Item.{Item}
use Rattle.itip_items.specs.declared.key.Key.{Key}
use Rattle.itip_state.specs.Slots.{then_equal}
use Rattle.itip_state.proofs.Members.{none_in, cons_first, cons_later}
use Rattle.itip_view.specs.RowDays.{has_rows}
use Rattle.itip_report.specs.Lines.{place_cmp}
use Rattle.itip_report.proofs.Placing.{place_total, place_exact}
use Rattle.itip_explain.specs.Asking.{AskedPair, by_of, pair_of, pair_cmp, is_of_whole, AsksBy, IsAskedBy, IsFoundBy, AreAskings}
use Rattle.itip_explain.specs.Asking.{AddsAskings}
use Rattle.itip_explain.specs.Fates.{IsNamed}
use Rattle.itip_explain.specs.declared.asked.Asking.{Asking}

-- nothing is added if nothing is asked
pub adds_none : (P : Option Key → List ℕ → Type 0) (before : List Asking) → ((by : Option Key) (attendee : List ℕ) → P by attendee → ⊥) →
    AddsAskings P before before
adds_none P before none = record {
  found = [];
  added = sym (append-nil before);
  are = record { each = λ asking h. absurd (none_in asking h); all = λ by attendee p. absurd (none by attendee p) };
}

-- one more is added
pub adds_more : (P Q : Option Key → List ℕ → Type 0) (before found : List Asking) (asking : Asking) → AddsAskings P before found →
    ((by : Option Key) (attendee : List ℕ) → P by attendee → Q by attendee) → Q (by_of asking) asking.attendee
    → ((by : Option Key) (attendee : List ℕ) → Q by attendee → P by attendee ⊎ ((by_of asking ≡ by) × (asking.attendee ≡ attendee))) →
    AddsAskings Q before (found ++ asking ∷ [])
adds_more P Q before found asking so more here only = record {
  found = so.found ++ asking ∷ [];
  added = ap (λ (xs : List Asking). xs ++ asking ∷ []) so.added ∙ append_assoc before so.found (asking ∷ []);
  are = record {
    each = λ a h. elim (Contains-push_cases so.found asking a h) [
      | inl old ↦ more (by_of a) a.attendee (so.are.each a old)
      | inr new ↦ subst (λ (b : Asking). Q (by_of b) b.attendee) new here
    ];
    all = λ by attendee q. elim (only by attendee q) [
      | inl p ↦ let f = so.are.all by attendee p in
          record {
            asking = f.asking;
            there = Contains-append_left so.found (asking ∷ []) f.asking f.there;
            by_is = f.by_is;
            attendee_is = f.attendee_is;
          }
      | inr same ↦ record { asking = asking; there = Contains-push so.found asking; by_is = same.0; attendee_is = same.1 }
    ];
  };
}

-- the attendees on these lines, as asked by `by`
abbrev pub AsksLines : Option Key → List Property → Option Key → List ℕ → Type 0
AsksLines by lines = λ b attendee. (b ≡ by) × IsNamed lines attendee

pub lines_none : (by : Option Key) (before : List Asking) → AddsAskings (AsksLines by []) before before
lines_none by before = adds_none (AsksLines by []) before (λ b attendee p. none_in p.1.line p.1.there)

pub lines_more : (by : Option Key) (done : List Property) (line : Property) (before found : List Asking) (asking : Asking) →
    by_of asking ≡ by → asking.attendee ≡ attendee_key line.value → AddsAskings (AsksLines by done) before found →
    AddsAskings (AsksLines by (done ++ line ∷ [])) before (found ++ asking ∷ [])
lines_more by done line before found asking by_is named so =
    adds_more (AsksLines by done) (AsksLines by (done ++ line ∷ [])) before found asking so
    (λ b attendee p. (
      p.0,
      record { line = p.1.line; there = Contains-append_left done (line ∷ []) p.1.line p.1.there; same = p.1.same },
    ))
    (by_is, record { line = line; there = Contains-push done line; same = sym named }) (λ b attendee q.
    elim (Contains-push_cases done line q.1.line q.1.there) [
      | inl old ↦ inl (q.0, record { line = q.1.line; there = old; same = q.1.same })
      | inr new ↦ inr (by_is ∙ sym q.0, named ∙ ap (λ (l : Property). attendee_key l.value) new ∙ q.1.same)
    ])

-- first one, then the other
pub adds_both : (P Q R : Option Key → List ℕ → Type 0) (a b c : List Asking) → AddsAskings P a b → AddsAskings Q b c →
    ((by : Option Key) (attendee : List ℕ) → P by attendee → R by attendee)
    → ((by : Option Key) (attendee : List ℕ) → Q by attendee → R by attendee)
    → ((by : Option Key) (attendee : List ℕ) → R by attendee → P by attendee ⊎ Q by attendee) → AddsAskings R a c
adds_both P Q R a b c p q from_p from_q only = record {
  found = p.found ++ q.found;
  added = q.added ∙ ap (λ (xs : List Asking). xs ++ q.found) p.added ∙ append_assoc a p.found q.found;
  are = record {
    each = λ x h. elim (Contains-append_cases p.found q.found x h) [
      | inl left ↦ from_p (by_of x) x.attendee (p.are.each x left)
      | inr right ↦ from_q (by_of x) x.attendee (q.are.each x right)
    ];
    all = λ by attendee r. elim (only by attendee r) [
      | inl left ↦ let f = p.are.all by attendee left in
          record {
            asking = f.asking;
            there = Contains-append_left p.found q.found f.asking f.there;
            by_is = f.by_is;
            attendee_is = f.attendee_is;
          }
      | inr right ↦ let f = q.are.all by attendee right in
          record {
            asking = f.asking;
            there = Contains-append_right p.found q.found f.asking f.there;
            by_is = f.by_is;
            attendee_is = f.attendee_is;
          }
    ];
  };
}

-- the same, stated by an equivalent
pub adds_as : (P Q : Option Key → List ℕ → Type 0) (a b : List Asking) → AddsAskings P a b →
    ((by : Option Key) (attendee : List ℕ) → P by attendee ↔ Q by attendee) → AddsAskings Q a b
adds_as P Q a b p same = record {
  found = p.found;
  added = p.added;
  are = record {
    each = λ x h. (same (by_of x) x.attendee).0 (p.are.each x h);
    all = λ by attendee q. p.are.all by attendee ((same by attendee).1 q);
  };
}

module _ (item : Item) where
  -- an item that no row can come from asks nobody
  pub no_rows : has_rows item ≡ false → (by : Option Key) (attendee : List ℕ) → AsksBy item by attendee → ⊥
  no_rows off None attendee asks = let x : true ≡ false = sym asks.0 ∙ off in cc
  no_rows off (Some key) attendee asks = let x : true ≡ false = sym asks.0 ∙ off in cc

  module _ (on : has_rows item ≡ true) where
    -- for itself, and for the to-do as a whole
    pub for_itself : (by : Option Key) (attendee : List ℕ) → AsksLines (Some item.key) item.todo.attendees by attendee →
        AsksBy item by attendee
    for_itself None attendee p = absurd (let no : None ≡ Some item.key = p.0 in cc)
    for_itself (Some key) attendee p = (on, let k : item.key ≡ key = key_of key p.0 in k, p.1)
      where
        key_of : (key : Key) → Some key ≡ Some item.key → item.key ≡ key
        key_of key e = cc

    pub for_whole : is_of_whole item.key ≡ true → (by : Option Key) (attendee : List ℕ) → AsksLines None item.todo.attendees by attendee →
        AsksBy item by attendee
    for_whole of None attendee p = (on, of, p.1)
    for_whole of (Some key) attendee p = absurd (let no : Some key ≡ None = p.0 in cc)

    pub either : (by : Option Key) (attendee : List ℕ) → AsksBy item by attendee →
        AsksLines (Some item.key) item.todo.attendees by attendee ⊎ AsksLines None item.todo.attendees by attendee
    either None attendee asks = inr (refl, asks.2)
    either (Some key) attendee asks = inl (ap Some (sym asks.1), asks.2)

    pub only_itself : is_of_whole item.key ≡ false → (by : Option Key) (attendee : List ℕ) →
        AsksLines (Some item.key) item.todo.attendees by attendee ↔ AsksBy item by attendee
    only_itself off by attendee = (for_itself by attendee, back by)
      where
        back : (by : Option Key) → AsksBy item by attendee → AsksLines (Some item.key) item.todo.attendees by attendee
        back None asks = absurd (let x : true ≡ false = sym asks.1 ∙ off in cc)
        back (Some key) asks = (ap Some (sym asks.1), asks.2)

-- item by item
pub items_none : AreAskings (IsAskedBy []) []
items_none = record { each = λ asking h. absurd (none_in asking h); all = λ by attendee p. absurd (none_in p.item p.there) }

pub items_more : (done : List Item) (item : Item) (found after : List Asking) → AreAskings (IsAskedBy done) found →
    AddsAskings (AsksBy item) found after → AreAskings (IsAskedBy (done ++ item ∷ [])) after
items_more done item found after so adds = subst (AreAskings (IsAskedBy (done ++ item ∷ []))) (sym adds.added) (record {
  each = λ a h. elim (Contains-append_cases found adds.found a h) [
    | inl old ↦
        let p = so.each a old in
        record { item = p.item; there = Contains-append_left done (item ∷ []) p.item p.there; asks = p.asks }
    | inr new ↦ record { item = item; there = Contains-push done item; asks = adds.are.each a new }
  ];
  all = λ by attendee p. elim (Contains-push_cases done item p.item p.there) [
    | inl old ↦
        let f = so.all by attendee (record { item = p.item; there = old; asks = p.asks }) in
        record {
          asking = f.asking;
          there = Contains-append_left found adds.found f.asking f.there;
          by_is = f.by_is;
          attendee_is = f.attendee_is;
        }
    | inr new ↦
        let f = adds.are.all by attendee (subst (λ (i : Item). AsksBy i by attendee) (sym new) p.asks) in
        record {
          asking = f.asking;
          there = Contains-append_right found adds.found f.asking f.there;
          by_is = f.by_is;
          attendee_is = f.attendee_is;
        }
  ];
})

-- sorted
pub askings_sorted : (P : Option Key → List ℕ → Type 0) (found sorted : List Asking) → IsPermutation found sorted → AreAskings P found →
    AreAskings P sorted
askings_sorted P found sorted moved are = record {
  each = λ a h. are.each a (Contains-permutation sorted found a (IsPermutation-sym found sorted moved) h);
  all = λ by attendee p.
      let f = are.all by attendee p in
      record {
        asking = f.asking;
        there = Contains-permutation found sorted f.asking moved f.there;
        by_is = f.by_is;
        attendee_is = f.attendee_is;
      };
}

exact_option : (a b : Option Key) → option_cmp place_cmp a b ≡ Equal → a ≡ b
exact_option None None e = refl
exact_option None (Some b) e = absurd (cc)
exact_option (Some a) None e = absurd (cc)
exact_option (Some a) (Some b) e = ap Some (place_exact a b e)

pub pair_total : IsTotalOrder pair_cmp
pair_total =
    then_total (on_total (λ (p : AskedPair). p.0) (options_total place_total)) (on_total (λ (p : AskedPair). p.1) nat_list_cmp_total)

pair_exact : (a b : AskedPair) → pair_cmp a b ≡ Equal → (a.0 ≡ b.0) × (a.1 ≡ b.1)
pair_exact a b e =
    let both = then_equal (option_cmp place_cmp a.0 b.0) (slice_cmp nat_cmp a.1 b.1) e in
    (exact_option a.0 b.0 both.0, exact_bytes a.1 b.1 both.1)

-- the element at a place
element_at : {X : Type 0} (xs : List X) (i : ℕ) → i < length xs → (x : X) × Contains xs x × ((d : X) → get_or xs i d ≡ x)
element_at [] i h = absurd (omega (arith, h))
element_at (x ∷ xs) zero h = (x, cons_first x xs, λ d. refl)
element_at (x ∷ xs) (suc i) h = let r = element_at xs i (omega (arith, h)) in (r.0, cons_later x xs r.0 r.1, r.2)

-- binary search finds exactly what is there
module _ (found : List Asking) (by : Option Key) (attendee : List ℕ)
    (up : IsSortedBy (λ a b. is_lt (pair_cmp (pair_of a) (pair_of b))) found) where
  pub found_by_halves : (r : Result ℕ ℕ) → IsSearchInRange r (length found) →
      IsBinarySearchResult (λ asking. pair_cmp (pair_of asking) (by, attendee)) found r → IsTrue (is_ok r) ↔ IsFoundBy found by attendee
  found_by_halves (Ok i) bound at = (
    λ t.
        let e = element_at found i bound in
        let same = pair_exact (pair_of e.0) (by, attendee)
        (ap (λ (a : Asking). pair_cmp (pair_of a) (by, attendee)) (sym (e.2 e.0)) ∙ at e.0) in
        record { asking = e.0; there = e.1; by_is = same.0; attendee_is = same.1 },
    λ f. refl,
  )
  found_by_halves (Err i) bound parted = (
    λ t. absurd (let no : false ≡ true = t in cc),
    λ f. absurd (
        let parts = parted (searchable_from_sorted pair_total pair_of found (by, attendee) up) in
        let tied : pair_cmp (pair_of (get_or found f.there.0 f.asking)) (by, attendee) ≡ Equal =
        ap (λ (a : Asking). pair_cmp (pair_of a) (by, attendee)) f.there.2 ∙
        (λ j. pair_cmp (f.by_is j, f.attendee_is j) (by, attendee)) ∙ tied_itself pair_total (by, attendee) in
        elim (cases_lt f.there.0 i) [
          | inl below ↦ let less = parts.0 f.there.0 f.asking (omega arith) below in cc
          | inr above ↦ let greater = parts.1 f.there.0 f.asking above f.there.1 in cc
        ]
        ),
  )

-- what is found is asked, and vice versa
pub found_asks : (items : List Item) (found : List Asking) → AreAskings (IsAskedBy items) found → (by : Option Key) (attendee : List ℕ) →
    IsFoundBy found by attendee ↔ IsAskedBy items by attendee
found_asks items found are by attendee = (
  λ f. subst (IsAskedBy items by) f.attendee_is
      (subst (λ (b : Option Key). IsAskedBy items b f.asking.attendee) f.by_is (are.each f.asking f.there)),
  are.all by attendee,
)
