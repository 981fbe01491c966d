-- Rows are counted one attendee after another.
use Rattle.std.proofs.Common.{◌≡◌, ◌+◌, ◌<◌, ◌≤◌, ◌==◌, ◌||◌, ℕ, suc, List, [], ◌∷◌, ◌++◌, refl, sym, ◌∙◌, ap, subst, map, length}
use Rattle.std.proofs.Common.{take, drop, get_or, length-append, append-nil, append_assoc, min}
use Rattle.std.proofs.Common.{Bool, true, false, Option, Some, None, arith}
use Rattle.std.specs.Prelude.{cond, filter}
use Rattle.std.specs.List.{flat_map, list_any}
use Rattle.std.specs.Map.{lookup}
use Rattle.std.specs.BTreeMap.{BTreeMap, get, Updates}
use Rattle.std.specs.Ordering.{nat_cmp}
use Rattle.std.specs.Cmp.Lexicographic.{slice_cmp}
use Rattle.std.proofs.lemmas.List.{take_more, take-append-drop}
use Rattle.std.proofs.lemmas.Bool.Decides.{nat_tests}
use Rattle.std.proofs.lemmas.Grind.{flat_map-append}
use Rattle.std.proofs.lemmas.List.Folds.{list_any-append}
use Rattle.itip_state.proofs.Members.{by_bool}
use Rattle.itip_view.specs.declared.row.Row.{Row}
use Rattle.itip_report.specs.Load.{same_text, keys_in, firsts, rows_with, load_line, load_lines}
use Rattle.itip_report.specs.Records.{load_of, load_records}
use Rattle.itip_report.specs.Tally.{one_if, AreTallied, IsCounted, IsTally, rows_before, rows_of}
use Rattle.itip_report.specs.declared.load.Tallied.{Tallied}
use Rattle.itip_report.specs.declared.load.Tally.{Tally}
use Rattle.itip_report.proofs.Firsts.{same_is, same_itself, same_back, any_push, neither, firsts_new, firsts_old, any_firsts}

abbrev pub Counts : Type 0
Counts = BTreeMap (List ℕ) Tallied

abbrev pub found_at : Counts → List ℕ → Option Tallied
found_at counts key = get (slice_cmp nat_cmp) counts key

pub equal_test : (a b : ℕ) → a ≡ b → (a == b) ≡ true
equal_test a b e = grind (arith, nat_tests)

pub apart_test : (a b : ℕ) → (a ≡ b → ⊥) → (a == b) ≡ false
apart_test a b n = grind (arith, nat_tests)

equal_from : (a b : ℕ) → (a == b) ≡ true → a ≡ b
equal_from a b e = grind (arith, nat_tests)

-- ---- rows
rows_none : (k : List ℕ) (done : List Row) → list_any (same_text k) (flat_map keys_in done) ≡ false → rows_with k done ≡ 0
rows_none k [] e = refl
rows_none k (r ∷ rs) e =
    let parts = neither (list_any (same_text k) (keys_in r)) (list_any (same_text k) (flat_map keys_in rs))
    (sym (list_any-append (same_text k) (keys_in r) (flat_map keys_in rs)) ∙ e) in
    ap (λ b. length (cond b (r ∷ filter (λ row. list_any (same_text k) (keys_in row)) rs)
    (filter (λ row. list_any (same_text k) (keys_in row)) rs))) parts.0 ∙ rows_none k rs parts.1

rows_few : (k : List ℕ) (done : List Row) → rows_with k done ≤ length done
rows_few k [] = omega arith
rows_few k (r ∷ rs) =
    elim (list_any (same_text k) (keys_in r)) as
    (λ b. length (cond b (r ∷ filter (λ row. list_any (same_text k) (keys_in row)) rs)
    (filter (λ row. list_any (same_text k) (keys_in row)) rs)) ≤ suc (length rs)) [
      | true ↦ let x : rows_with k rs ≤ length rs = rows_few k rs in omega (arith, x)
      | false ↦ let x : rows_with k rs ≤ length rs = rows_few k rs in omega (arith, x)
    ]

rows_push : (k : List ℕ) (done : List Row) (row : Row) →
    rows_with k (done ++ row ∷ []) ≡ rows_with k done + one_if (list_any (same_text k) (keys_in row))
rows_push k [] row =
    elim (list_any (same_text k) (keys_in row)) as (λ b. length (cond b (row ∷ []) []) ≡ 0 + one_if b) [ true ↦ refl | false ↦ refl ]
rows_push k (r ∷ rs) row =
    let n : ℕ = one_if (list_any (same_text k) (keys_in row)) in
    let t : Row → Bool = λ row. list_any (same_text k) (keys_in row) in
    elim (t r) as (λ b. length (cond b (r ∷ filter t (rs ++ row ∷ [])) (filter t (rs ++ row ∷ []))) ≡ length
    (cond b (r ∷ filter t rs) (filter t rs)) + n) [
      | true ↦ let x : rows_with k (rs ++ row ∷ []) ≡ rows_with k rs + n = rows_push k rs row in omega (arith, x)
      | false ↦ rows_push k rs row
    ]

-- ---- one attendee is counted
right_false : (a b : Bool) → b ≡ false → (a || b) ≡ a
right_false true b e = refl
right_false false b e = e

right_true : (a b : Bool) → b ≡ true → (a || b) ≡ true
right_true true b e = refl
right_true false b e = e

some_one : (a b : Tallied) → Some a ≡ Some b → a ≡ b
some_one a b e = cc

none_some : (a : Tallied) → None ≡ Some a → ⊥
none_some a e = cc

module _ (done : List Row) (before : List (List ℕ)) (k : List ℕ) where
  -- the attendee was shown before as after
  still : (key : List ℕ) (s : Tallied) → list_any (same_text key) (before ++ k ∷ []) ≡ list_any (same_text key) before →
      IsCounted done before key s → IsCounted done (before ++ k ∷ []) key s
  still key s same c = record {
    rows = c.rows ∙ ap (λ b. rows_with key done + one_if b) (sym same);
    some = c.some;
    here = λ e. c.here (sym same ∙ e);
    earlier = λ e. c.earlier (sym same ∙ e);
  }

  other : (key : List ℕ) (s : Tallied) → same_text k key ≡ false → IsCounted done before key s → IsCounted done (before ++ k ∷ []) key s
  other key s apart = still key s (any_push (same_text key) before k ∙
      right_false (list_any (same_text key) before) (same_text key k) (same_back key k ∙ apart))

  -- the row at hand has shown the attendee already
  again : list_any (same_text k) before ≡ true → (key : List ℕ) (s : Tallied) → IsCounted done before key s →
      IsCounted done (before ++ k ∷ []) key s
  again shown key s c = by_bool (same_text key k) (IsCounted done (before ++ k ∷ []) key s)
      (λ same.
      let here : list_any (same_text key) before ≡ true = ap (λ q. list_any (same_text q) before) (same_is key k same) ∙ shown in
      still key s (any_push (same_text key) before k ∙ ap (λ b. b || same_text key k) here ∙ sym here) c)
      (λ apart. still key s (any_push (same_text key) before k ∙ right_false (list_any (same_text key) before) (same_text key k) apart) c)

  now_here : list_any (same_text k) (before ++ k ∷ []) ≡ true
  now_here = any_push (same_text k) before k ∙ right_true (list_any (same_text k) before) (same_text k k) (same_itself k)

  counted_now : (v : Tallied) → v.rows ≡ rows_with k done + 1 → v.last ≡ length done → IsCounted done (before ++ k ∷ []) k v
  counted_now v rows last = record {
    rows = rows ∙ ap (λ b. rows_with k done + one_if b) (sym now_here);
    some = omega (arith, rows);
    here = λ e. last;
    earlier = λ e. let x : true ≡ false = sym now_here ∙ e in absurd (cc);
  }

  module _ (keys : List (List ℕ)) (counts : Counts) (tally : IsTally done before keys counts) where
    all_any : list_any (same_text k) keys ≡ list_any (same_text k) (flat_map keys_in done ++ before)
    all_any = ap (list_any (same_text k)) tally.keys_are ∙ any_firsts k (flat_map keys_in done ++ before)

    assoc : (flat_map keys_in done ++ before) ++ k ∷ [] ≡ flat_map keys_in done ++ (before ++ k ∷ [])
    assoc = append_assoc (flat_map keys_in done) before (k ∷ [])

    counted_at : (s : Tallied) → found_at counts k ≡ Some s → IsCounted done before k s
    counted_at s found =
        let w = tally.counted k (tally.only k s found) in subst (IsCounted done before k) (some_one w.0 s (sym w.1 ∙ found)) w.2

    keys_stay : (s : Tallied) → found_at counts k ≡ Some s → keys ≡ firsts (flat_map keys_in done ++ (before ++ k ∷ []))
    keys_stay s found = tally.keys_are ∙ sym (firsts_old (flat_map keys_in done ++ before) k (sym all_any ∙ tally.only k s found)) ∙
        ap firsts assoc

    -- before the row at hand
    not_shown : (s : Tallied) → found_at counts k ≡ Some s → (s.last ≡ length done → ⊥) → list_any (same_text k) before ≡ false
    not_shown s found not = by_bool (list_any (same_text k) before) (list_any (same_text k) before ≡ false)
        (λ e. absurd (not ((counted_at s found).here e))) (λ e. e)

    counted_already : (s : Tallied) → found_at counts k ≡ Some s → s.last ≡ length done → IsTally done (before ++ k ∷ []) keys counts
    counted_already s found last =
        let shown : list_any (same_text k) before ≡ true =
        by_bool (list_any (same_text k) before) (list_any (same_text k) before ≡ true) (λ e. e)
        (λ e. let x : s.last < length done = (counted_at s found).earlier e in absurd (omega (arith, x, last))) in
        record {
          keys_are = keys_stay s found;
          counted = λ q h. let w = tally.counted q h in (w.0, w.1, again shown q w.0 w.2);
          only = tally.only;
        }

    module _ (v : Tallied) (last : v.last ≡ length done) (counts' : Counts)
        (put : Updates (slice_cmp nat_cmp) counts counts' k (Some v)) where
      here_now : (q : List ℕ) → same_text k q ≡ true → found_at counts' q ≡ Some v
      here_now q same = put.0 q ∙ ap (λ b. cond b (Some v) (found_at counts q)) same

      as_before : (q : List ℕ) → same_text k q ≡ false → found_at counts' q ≡ found_at counts q
      as_before q apart = put.0 q ∙ ap (λ b. cond b (Some v) (found_at counts q)) apart

      pub counted_first : (keys' : List (List ℕ)) → keys' ≡ keys ++ k ∷ [] → found_at counts k ≡ None → v.rows ≡ 1 →
          IsTally done (before ++ k ∷ []) keys' counts'
      counted_first keys' more none rows = record {
        keys_are = more ∙ ap (λ ks. ks ++ k ∷ []) tally.keys_are ∙ sym (firsts_new (flat_map keys_in done ++ before) k absent) ∙
            ap firsts assoc;
        counted = λ q h. by_bool (same_text k q)
            ((seen : Tallied) × (found_at counts' q ≡ Some seen) × IsCounted done (before ++ k ∷ []) q seen)
            (λ same. (
              v,
              here_now q same,
              subst (λ (x : List ℕ). IsCounted done (before ++ k ∷ []) x v) (same_is k q same)
                  (counted_now v (omega (arith, rows, nothing)) last),
            ))
            (λ apart.
            let w = tally.counted q (sym (pushed q ∙ right_false (list_any (same_text q) keys) (same_text q k) (same_back q k ∙ apart)) ∙
            h) in
            (w.0, as_before q apart ∙ w.1, other q w.0 apart w.2));
        only = λ q s e. by_bool (same_text k q) (list_any (same_text q) keys' ≡ true)
            (λ same. pushed q ∙ right_true (list_any (same_text q) keys) (same_text q k) (same_back q k ∙ same))
            (λ apart. pushed q ∙ ap (λ b. b || same_text q k) (tally.only q s (sym (as_before q apart) ∙ e)));
      }
        where
          pushed : (q : List ℕ) → list_any (same_text q) keys' ≡ (list_any (same_text q) keys || same_text q k)
          pushed q = ap (list_any (same_text q)) more ∙ any_push (same_text q) keys k

          no_key : list_any (same_text k) keys ≡ false
          no_key = by_bool (list_any (same_text k) keys) (list_any (same_text k) keys ≡ false)
              (λ e. let w = tally.counted k e in absurd (none_some w.0 (sym none ∙ w.1))) (λ e. e)

          absent : list_any (same_text k) (flat_map keys_in done ++ before) ≡ false
          absent = sym all_any ∙ no_key

          nothing : rows_with k done ≡ 0
          nothing = rows_none k done (neither (list_any (same_text k) (flat_map keys_in done)) (list_any (same_text k) before)
              (sym (list_any-append (same_text k) (flat_map keys_in done) before) ∙ absent)).0

      pub counted_more : (s : Tallied) → found_at counts k ≡ Some s → (s.last ≡ length done → ⊥) → v.rows ≡ s.rows + 1 →
          IsTally done (before ++ k ∷ []) keys counts'
      counted_more s found not rows = record {
        keys_are = keys_stay s found;
        counted = λ q h. by_bool (same_text k q)
            ((seen : Tallied) × (found_at counts' q ≡ Some seen) × IsCounted done (before ++ k ∷ []) q seen)
            (λ same. (
              v,
              here_now q same,
              subst (λ (x : List ℕ). IsCounted done (before ++ k ∷ []) x v) (same_is k q same)
                  (counted_now v (omega (arith, rows, so_far)) last),
            ))
            (λ apart. let w = tally.counted q h in (w.0, as_before q apart ∙ w.1, other q w.0 apart w.2));
        only = λ q t e. by_bool (same_text k q) (list_any (same_text q) keys ≡ true)
            (λ same. ap (λ x. list_any (same_text x) keys) (sym (same_is k q same)) ∙ tally.only k s found)
            (λ apart. tally.only q t (sym (as_before q apart) ∙ e));
      }
        where
          so_far : s.rows ≡ rows_with k done + 0
          so_far = (counted_at s found).rows ∙ ap (λ b. rows_with k done + one_if b) (not_shown s found not)

    -- an attendee is counted at most once for each row done
    few_rows : (s : Tallied) → found_at counts k ≡ Some s → (s.last ≡ length done → ⊥) → s.rows ≤ length done
    few_rows s found not =
        let so_far : s.rows ≡ rows_with k done + 0 = (counted_at s found).rows ∙
        ap (λ b. rows_with k done + one_if b) (not_shown s found not) in
        let few : rows_with k done ≤ length done = rows_few k done in
        omega (arith, so_far, few)

no_number : (n : ℕ) → Some n ≡ None → ⊥
no_number n e = cc

number : (a b : ℕ) → Some a ≡ Some b → a ≡ b
number a b g = cc

-- ---- what was counted before says what is to do
module _ (place : ℕ) (done : List Row) (before keys : List (List ℕ)) (counts : Counts) (k : List ℕ) (long : length done ≡ place)
    (tally : IsTally done before keys counts) where
  pub count_done : rows_before place (found_at counts k) ≡ None → IsTally done (before ++ k ∷ []) keys counts
  count_done e = by (found_at counts k) refl e
    where
      by : (o : Option Tallied) → found_at counts k ≡ o → rows_before place o ≡ None → IsTally done (before ++ k ∷ []) keys counts
      by None found h = absurd (no_number 0 h)
      by (Some s) found h =
          elim (s.last == place) as (λ b. (s.last == place) ≡ b → cond b None (Some s.rows) ≡ None → IsTally done
          (before ++ k ∷ []) keys counts) [
            | true ↦ λ same g. counted_already done before k keys counts tally s found (equal_from s.last place same ∙ sym long)
            | false ↦ λ apart g. absurd (no_number s.rows g)
          ] refl h

  module _ (rows : ℕ) (v : Tallied) (so_far : rows_before place (found_at counts k) ≡ Some rows) (small : place < 18446744073709551615)
      (counted : v.rows ≡ min (rows + 1) 18446744073709551615) (last : v.last ≡ place) (counts' : Counts)
      (put : Updates (slice_cmp nat_cmp) counts counts' k (Some v)) where
    earlier_one : (s : Tallied) → found_at counts k ≡ Some s → rows_before place (Some s) ≡ Some rows →
        (s.last ≡ length done → ⊥) × (s.rows ≡ rows)
    earlier_one s found h =
        elim (s.last == place) as (λ b. (s.last == place) ≡ b → cond b None (Some s.rows) ≡ Some rows →
        (s.last ≡ length done → ⊥) × (s.rows ≡ rows)) [
          | true ↦ λ same g. absurd (no_number rows (sym g))
          | false ↦ λ apart g. (λ here. differ (s.last == place) (equal_test s.last place (here ∙ long)) apart, number s.rows rows g)
        ] refl h
      where
        differ : (b : Bool) → b ≡ true → b ≡ false → ⊥
        differ b p q = let x : true ≡ false = sym p ∙ q in cc

    -- the attendee is new
    pub count_first : (keys' : List (List ℕ)) → keys' ≡ keys ++ k ∷ [] → rows ≡ 0 → IsTally done (before ++ k ∷ []) keys' counts'
    count_first keys' more zero = by (found_at counts k) refl so_far
      where
        by : (o : Option Tallied) → found_at counts k ≡ o → rows_before place o ≡ Some rows → IsTally done (before ++ k ∷ []) keys' counts'
        by None found h = counted_first done before k keys counts tally v (last ∙ sym long) counts' put keys' more found
            (omega (arith, zero, counted))
        by (Some s) found h =
            let same : s.rows ≡ rows = (earlier_one s found h).1 in
            let some : 0 < s.rows = (counted_at done before k keys counts tally s found).some in
            absurd (omega (arith, same, some, zero))

    -- the attendee was shown by an earlier row
    pub count_more : (rows ≡ 0 → ⊥) → IsTally done (before ++ k ∷ []) keys counts'
    count_more not = by (found_at counts k) refl so_far
      where
        by : (o : Option Tallied) → found_at counts k ≡ o → rows_before place o ≡ Some rows → IsTally done (before ++ k ∷ []) keys counts'
        by None found h = absurd (not (sym (number 0 rows h)))
        by (Some s) found h =
            let one = earlier_one s found h in
            let same : s.rows ≡ rows = one.1 in
            let few : s.rows ≤ length done = few_rows done before k keys counts tally s found one.0 in
            counted_more done before k keys counts tally v (last ∙ sym long) counts' put s found one.0
            (omega (arith, same, few, long, small, counted))

-- ---- one row
pub end_row : (done : List Row) (row : Row) (keys : List (List ℕ)) (counts : Counts) → IsTally done (keys_in row) keys counts →
    IsTally (done ++ row ∷ []) [] keys counts
end_row done row keys counts tally = record {
  keys_are = tally.keys_are ∙ ap firsts (sym (append-nil (flat_map keys_in (done ++ row ∷ [])) ∙ flat_map-append keys_in done (row ∷ []) ∙
      ap (λ ks. flat_map keys_in done ++ ks) (append-nil (keys_in row))));
  counted = λ q h. let w = tally.counted q h in (w.0, w.1, more q w.0 w.2);
  only = tally.only;
}
  where
    more : (key : List ℕ) (s : Tallied) → IsCounted done (keys_in row) key s → IsCounted (done ++ row ∷ []) [] key s
    more key s c =
        let n : ℕ = one_if (list_any (same_text key) (keys_in row)) in
        let rows : s.rows ≡ rows_with key done + n = c.rows in
        let push : rows_with key (done ++ row ∷ []) ≡ rows_with key done + n = rows_push key done row in
        let long : length (done ++ row ∷ []) ≡ length done + 1 = length-append done (row ∷ []) in
        record {
          rows = omega (arith, rows, push);
          some = c.some;
          here = λ f. let x : false ≡ true = f in absurd (cc);
          earlier = λ _. by_bool (list_any (same_text key) (keys_in row)) (s.last < length (done ++ row ∷ []))
              (λ f. let x : s.last ≡ length done = c.here f in omega (arith, x, long))
              (λ f. let x : s.last < length done = c.earlier f in omega (arith, x, long));
        }

pub no_tally : (keys : List (List ℕ)) (counts : Counts) → keys ≡ [] → counts.entries ≡ [] → IsTally [] [] keys counts
unfolding firsts
no_tally keys counts no_keys none = record {
  keys_are = no_keys;
  counted = λ q h. let x : false ≡ true = sym (ap (list_any (same_text q)) no_keys) ∙ h in absurd (cc);
  only = λ q s e. absurd (none_some s (sym (ap (lookup (same_text q)) none) ∙ e));
}

-- a row is counted after those that were counted
pub row_tallied : (done : List Row) (row : Row) (tally next : Tally) → AreTallied done tally →
    ((rows : List Row) → length rows ≡ tally.rows → IsTally rows [] tally.keys.items tally.counts →
    IsTally (rows ++ row ∷ []) [] next.keys.items next.counts) → next.rows ≡ tally.rows + 1 → AreTallied (done ++ row ∷ []) next
row_tallied done row tally next are counts one_more =
    let place : tally.rows ≡ length done = are.rows_are in
    let long : length (done ++ row ∷ []) ≡ length done + 1 = length-append done (row ∷ []) in
    record { rows_are = omega (arith, one_more, place, long); counted = counts done (sym place) are.counted }

-- ---- the lines
-- the rows counted for one of the attendees
pub rows_told : (rows : List Row) (keys : List (List ℕ)) (counts : Counts) → IsTally rows [] keys counts → (i : ℕ) (key : List ℕ) →
    i < length keys → key ≡ get_or keys i key → rows_of (found_at counts key) ≡ rows_with key rows
rows_told rows keys counts tally i key below is =
    let w = tally.counted key there in
    let counted : (w.0).rows ≡ rows_with key rows + 0 = (w.2).rows in
    ap rows_of w.1 ∙ omega (arith, counted)
  where
    there : list_any (same_text key) keys ≡ true
    there = ap (list_any (same_text key)) (sym (take-append-drop (i + 1) keys)) ∙
        list_any-append (same_text key) (take (i + 1) keys) (drop (i + 1) keys) ∙
        ap (λ b. b || list_any (same_text key) (drop (i + 1) keys))
        (ap (list_any (same_text key)) (take_more keys i key below ∙ ap (λ (k : List ℕ). take i keys ++ k ∷ []) (sym is)) ∙
        any_push (same_text key) (take i keys) key ∙ right_true (list_any (same_text key) (take i keys)) (same_text key key)
        (same_itself key))

pub tally_lines : (rows : List Row) (keys : List (List ℕ)) (counts : Counts) → IsTally rows [] keys counts →
    map (load_line rows) keys ≡ load_lines rows
tally_lines rows keys counts tally = ap (map (load_line rows)) (tally.keys_are ∙ ap firsts (append-nil (flat_map keys_in rows)))

pub tally_records : (rows : List Row) (keys : List (List ℕ)) (counts : Counts) → IsTally rows [] keys counts →
    map (load_of rows) keys ≡ load_records rows
tally_records rows keys counts tally = ap (map (load_of rows)) (tally.keys_are ∙ ap firsts (append-nil (flat_map keys_in rows)))
