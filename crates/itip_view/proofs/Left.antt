-- The rows that are left, one UID at a time.
use Rattle.std.proofs.Common.{◌≡◌, ◌↔◌, ◌<◌, ◌≤◌, ◌∙◌, ℕ, List, [], ◌∷◌, ◌++◌, refl, sym, ap, subst, ◌⊎◌, inl, inr, length, map, drop}
use Rattle.std.proofs.Common.{arith, zero, suc, true, not}
use Rattle.std.specs.List.{Contains, AllPairs, AllByRecursion, filter}
use Rattle.std.specs.List.Sorted.{IsStrictlySortedBy}
use Rattle.std.specs.Option.{option_cmp}
use Rattle.std.specs.Ordering.{nat_cmp, ordering_then}
use Rattle.std.specs.Cmp.{tied_itself}
use Rattle.std.specs.Cmp.Lexicographic.{slice_cmp, bytes_decides}
use Rattle.std.specs.declared.cmp.Ordering.{Ordering}
use Rattle.std.specs.declared.cmp.Ordering.TheVariants.{Less, Equal}
use Rattle.std.proofs.lemmas.Bool.{false≢true}
use Rattle.std.proofs.lemmas.Cmp.{nat_list_cmp_total}
use Rattle.std.proofs.lemmas.List.Elements.{Contains-append_cases, Contains-append_left, Contains-append_right}
use Rattle.std.proofs.lemmas.List.Kept.{AllPairs-filter}
use Rattle.itip_moment.specs.Order.{moment_cmp}
use Rattle.itip_todo.specs.Participation.{same_text}
use Rattle.itip_items.specs.declared.item.Item.{Item}
use Rattle.itip_state.specs.Kept.{AscendTexts}
use Rattle.itip_state.proofs.Members.{by_bool, cons_cases, cons_first, cons_later, pairs_append}
use Rattle.itip_state.proofs.OfKey.{head_pair, tail_pairs}
use Rattle.itip_view.specs.ByUid.{uids_of, IsAskedFor, AreFewLeft, AreLeft, AreAsked, AreTooManyLeft, IsCountOf}
use Rattle.itip_view.specs.UidWithMostRows.{HasRows, HasMost, HasMostAmong, IsCountAmong}
use Rattle.itip_view.specs.Rows.{IsRow, moment_of, row_cmp, row_limit}
use Rattle.itip_view.specs.Showing.{AreRowsWhere, AreTooManyWhere, IsAmong, IsOf}
use Rattle.itip_view.specs.Wanting.{Wants}
use Rattle.itip_view.specs.declared.by_uid.RowsByUid.{RowsByUid}
use Rattle.itip_view.specs.declared.row_count.MostRows.{MostRows}
use Rattle.itip_view.specs.declared.row_count.RowCount.{RowCount}
use Rattle.itip_view.specs.declared.row_count.RowCount.TheVariants.{Few, TooMany}
use Rattle.itip_view.specs.declared.row.Row.{Row}
use Rattle.itip_view.specs.declared.window.Window.{Window}
use Rattle.itip_view.proofs.Gathering.{gather_none}
use Rattle.itip_view.proofs.OneList.{one_where}
use Rattle.itip_view.proofs.SameAsked.{rows_alike}
use Rattle.itip_view.proofs.Showing.{in_filter, passes, into_filter}

module _ {X : Type 0} (cmp : X → X → Ordering) where
  each_of : (P : X → Type 0) (xs : List X) → ((x : X) → Contains xs x → P x) → AllByRecursion P xs
  each_of P [] h = tt
  each_of P (x ∷ xs) h = (h x (cons_first x xs), each_of P xs (λ y g. h y (cons_later x xs y g)))

  -- a list that has each pair in order is strictly sorted
  pub sorted_by_pairs : (xs : List X) → AllPairs (λ (a b : X). cmp a b ≡ Less) xs → IsStrictlySortedBy cmp xs
  unfolding IsStrictlySortedBy
  sorted_by_pairs [] up = tt
  sorted_by_pairs (x ∷ xs) up = (
    each_of (λ (y : X). cmp x y ≡ Less) xs (head_pair (λ (a b : X). cmp a b ≡ Less) x xs up),
    sorted_by_pairs xs (tail_pairs (λ (a b : X). cmp a b ≡ Less) x xs up),
  )

pub pairs_dropped : {X : Type 0} (R : X → X → Type 0) (i : ℕ) (xs : List X) → AllPairs R xs → AllPairs R (drop i xs)
pairs_dropped R zero xs up = up
pairs_dropped R (suc i) [] up = up
pairs_dropped R (suc i) (x ∷ xs) up = pairs_dropped R i xs (tail_pairs R x xs up)

pub map_dropped : {X Y : Type 0} (f : X → Y) (i : ℕ) (xs : List X) → map f (drop i xs) ≡ drop i (map f xs)
map_dropped f zero xs = refl
map_dropped f (suc i) [] = refl
map_dropped f (suc i) (x ∷ xs) = map_dropped f i xs

-- the rows of a UID before those of the UIDs after it
module _ (heard : List Item) (window : Window) (P : Row → Type 0) (uid : List ℕ) (uids : List (List ℕ))
    (ascend : AscendTexts (uid ∷ uids)) (rows : List Row) (of : AreRowsWhere (IsOf uid P) heard window rows) where
  earlier : (u : List ℕ) → Contains uids u → slice_cmp nat_cmp uid u ≡ Less
  earlier = head_pair (λ (a b : List ℕ). slice_cmp nat_cmp a b ≡ Less) uid uids ascend

  pub rows_joined : (rest : List Row) → AreRowsWhere (IsAmong uids P) heard window rest →
      AreRowsWhere (IsAmong (uid ∷ uids) P) heard window (rows ++ rest)
  rows_joined rest are = record {
    ascend = pairs_append (λ (a b : Row). row_cmp a b ≡ Less) rows rest of.ascend are.ascend (λ row next h g.
        ap (λ o. ordering_then o (option_cmp moment_cmp (moment_of row.id) (moment_of next.id)))
        (ap (λ (u : List ℕ). slice_cmp nat_cmp u next.uid) (of.holds row h).uid_is ∙ earlier next.uid (are.holds next g).uid_is));
    each = λ row h. elim (Contains-append_cases rows rest row h) [ inl first ↦ of.each row first | inr later ↦ are.each row later ];
    holds = λ row h. elim (Contains-append_cases rows rest row h) [
      | inl first ↦ let r = of.holds row first in
          record { uid_is = subst (Contains (uid ∷ uids)) (sym r.uid_is) (cons_first uid uids); holds = r.holds }
      | inr later ↦ let r = are.holds row later in record { uid_is = cons_later uid uids row.uid r.uid_is; holds = r.holds }
    ];
    all = λ row is among. elim (cons_cases uid uids row.uid among.uid_is) [
      | inl same ↦ Contains-append_left rows rest row (of.all row is (record { uid_is = sym same; holds = among.holds }))
      | inr behind ↦ Contains-append_right rows rest row (are.all row is (record { uid_is = behind; holds = among.holds }))
    ];
  }

  module _ (all : List Row) (are : AreRowsWhere (IsAmong (uid ∷ uids) P) heard window all) where
    apart : (row : Row) → not (same_text row.uid uid) ≡ true → row.uid ≡ uid → ⊥
    apart row off same = false≢true (sym (ap not ((bytes_decides row.uid uid).1 same)) ∙ off)

    -- a UID after it is a different one
    behind_apart : (row : Row) → Contains uids row.uid → not (same_text row.uid uid) ≡ true
    behind_apart row behind = by_bool (same_text row.uid uid) (not (same_text row.uid uid) ≡ true)
        (λ yes.
        let same : row.uid ≡ uid = (bytes_decides row.uid uid).0 yes in
        let less : slice_cmp nat_cmp uid uid ≡ Less =
        subst (λ (u : List ℕ). slice_cmp nat_cmp uid u ≡ Less) same (earlier row.uid behind) in
        absurd (let x : Less ≡ Equal = sym less ∙ tied_itself nat_list_cmp_total uid in cc))
        (λ no. ap not no)

    left_are : AreRowsWhere (IsAmong uids P) heard window (filter (λ (row : Row). not (same_text row.uid uid)) all)
    left_are = record {
      ascend = AllPairs-filter (λ (a b : Row). row_cmp a b ≡ Less) (λ (row : Row). not (same_text row.uid uid)) all are.ascend;
      each = λ row h. are.each row (in_filter (λ (row : Row). not (same_text row.uid uid)) all row h);
      holds = λ row h.
          let among = are.holds row (in_filter (λ (row : Row). not (same_text row.uid uid)) all row h) in
          elim (cons_cases uid uids row.uid among.uid_is) [
            | inl same ↦ absurd (apart row (passes (λ (row : Row). not (same_text row.uid uid)) all row h) (sym same))
            | inr behind ↦ record { uid_is = behind; holds = among.holds }
          ];
      all = λ row is among. into_filter (λ (row : Row). not (same_text row.uid uid)) all row
          (are.all row is (record { uid_is = cons_later uid uids row.uid among.uid_is; holds = among.holds }))
          (behind_apart row among.uid_is);
    }

    pub rows_split : (rest : List Row) × AreRowsWhere (IsAmong uids P) heard window rest × (all ≡ rows ++ rest)
    rows_split = (
      filter (λ (row : Row). not (same_text row.uid uid)) all,
      left_are,
      one_where (IsAmong (uid ∷ uids) P) heard window all (rows ++ filter (λ (row : Row). not (same_text row.uid uid)) all) are
          (rows_joined (filter (λ (row : Row). not (same_text row.uid uid)) all) left_are),
    )

-- without UIDs there is no row
pub none_left : (heard : List Item) (window : Window) (P : Row → Type 0) (uids : List (List ℕ)) → uids ≡ [] → (rows : List Row) →
    AreRowsWhere (IsAmong uids P) heard window rows ↔ (rows ≡ [])
none_left heard window P uids none rows = (
  λ are. one_where (IsAmong uids P) heard window rows [] are nothing,
  λ empty. subst (λ (rs : List Row). AreRowsWhere (IsAmong uids P) heard window rs) (sym empty) nothing,
)
  where
    nothing : AreRowsWhere (IsAmong uids P) heard window []
    nothing = subst (λ (us : List (List ℕ)). AreRowsWhere (IsAmong us P) heard window []) (sym none) (gather_none heard window P)

-- what is asked for, in other words
module _ (P : Row → Type 0) (heard : List Item) (window : Window) (asked : RowsByUid) (is : AreAsked P heard window asked) where
  alike_here : (row : Row) → (IsRow asked.state.now asked.window row × IsAskedFor asked row) ↔ (IsRow heard window row × P row)
  alike_here row =
      subst (λ (h : List Item). (IsRow h asked.window row × IsAskedFor asked row) ↔ (IsRow heard window row × P row)) (sym is.state_is)
      (subst (λ (w : Window). (IsRow heard w row × IsAskedFor asked row) ↔ (IsRow heard window row × P row)) (sym is.window_is) (
        λ h. (h.0, (is.alike row h.0).0 h.1),
        λ h. (h.0, (is.alike row h.0).1 h.1),
      ))

  back_here : (row : Row) → (IsRow heard window row × P row) ↔ (IsRow asked.state.now asked.window row × IsAskedFor asked row)
  back_here row = ((alike_here row).1, (alike_here row).0)

  pub too_many_where : AreTooManyLeft asked → AreTooManyWhere P heard window
  too_many_where over = record {
    some = over.some;
    ascend = over.ascend;
    each = λ row h. ((alike_here row).0 (over.each row h, over.holds row h)).0;
    holds = λ row h. ((alike_here row).0 (over.each row h, over.holds row h)).1;
    many = over.many;
  }

  to_where : (rows : List Row) → AreLeft asked rows → AreRowsWhere P heard window rows
  to_where rows are = record {
    ascend = are.ascend;
    each = λ row h. ((alike_here row).0 (are.each row h, are.holds row h)).0;
    holds = λ row h. ((alike_here row).0 (are.each row h, are.holds row h)).1;
    all = λ row is holds. let r = (alike_here row).1 (is, holds) in are.all row r.0 r.1;
  }

  from_where : (rows : List Row) → AreRowsWhere P heard window rows → AreLeft asked rows
  from_where rows are = record {
    ascend = are.ascend;
    each = λ row h. ((alike_here row).1 (are.each row h, are.holds row h)).0;
    holds = λ row h. ((alike_here row).1 (are.each row h, are.holds row h)).1;
    all = λ row is holds. let r = (alike_here row).0 (is, holds) in are.all row r.0 r.1;
  }

  pub left_where : (rows : List Row) → AreLeft asked rows ↔ AreRowsWhere P heard window rows
  left_where rows = (to_where rows, from_where rows)

-- the same, in other words, for the same rows
pub asked_as : (P Q : Row → Type 0) (heard other : List Item) (window : Window) (asked : RowsByUid) → AreAsked P heard window asked →
    heard ≡ other → ((row : Row) → IsRow other window row → P row ↔ Q row) → AreAsked Q other window asked
asked_as P Q heard other window asked is same alike = record {
  state_is = is.state_is ∙ same;
  window_is = is.window_is;
  alike = λ row there.
      let before = is.alike row (subst (λ (h : List Item). IsRow h window row) (sym same) there) in
      let after = alike row there in
      (λ h. after.0 (before.0 h), λ h. before.1 (after.1 h));
}

-- the UID with the most rows among these has the most of all rows of these
module _ (P : Row → Type 0) (heard : List Item) (window : Window) (uids : List (List ℕ)) where
  of_these : (uid : List ℕ) → Contains uids uid → (row : Row) → IsOf uid P row ↔ IsOf uid (IsAmong uids P) row
  of_these uid there row = (
    λ h. record {
      uid_is = h.uid_is;
      holds = record { uid_is = subst (Contains uids) (sym h.uid_is) there; holds = h.holds };
    },
    λ h. record { uid_is = h.uid_is; holds = h.holds.holds },
  )

  into_these : (uid : List ℕ) (number : ℕ) → Contains uids uid → HasRows P heard window uid number →
      HasRows (IsAmong uids P) heard window uid number
  into_these uid number there has = record {
    rows = has.rows;
    are_rows = rows_alike (IsOf uid P) (IsOf uid (IsAmong uids P)) (of_these uid there) heard window has.rows has.are_rows;
    number_is = has.number_is;
  }

  out_of_these : (uid : List ℕ) (number : ℕ) → Contains uids uid → HasRows (IsAmong uids P) heard window uid number →
      HasRows P heard window uid number
  out_of_these uid number there has = record {
    rows = has.rows;
    are_rows = rows_alike (IsOf uid (IsAmong uids P)) (IsOf uid P) (λ row. ((of_these uid there row).1, (of_these uid there row).0)) heard
        window has.rows has.are_rows;
    number_is = has.number_is;
  }

  -- a UID that has a row is one of these
  there_or_nothing : (uid : List ℕ) (rows : List Row) → AreRowsWhere (IsOf uid (IsAmong uids P)) heard window rows →
      (length rows ≡ 0) ⊎ Contains uids uid
  there_or_nothing uid [] are = inl refl
  there_or_nothing uid (row ∷ rows) are =
      let first = are.holds row (cons_first row rows) in inr (subst (Contains uids) first.uid_is first.holds.uid_is)

  pub most_of_these : (most : MostRows) → HasMostAmong P heard window uids most → HasMost (IsAmong uids P) heard window most
  most_of_these most is = record {
    some = is.some;
    has = into_these most.uid most.rows is.there is.has;
    no_more = λ uid number has. elim (there_or_nothing uid has.rows has.are_rows) [
      | inl nothing ↦ (let long : length has.rows ≡ number = has.number_is in omega (arith, nothing, long))
      | inr there ↦ is.no_more uid number there (out_of_these uid number there has)
    ];
    least = λ uid has other. elim (there_or_nothing uid has.rows has.are_rows) [
      | inl nothing ↦ absurd
          (let long : length has.rows ≡ most.rows = has.number_is in
          let some : 0 < most.rows = is.some in
          omega (arith, nothing, long, some))
      | inr there ↦ is.least uid there (out_of_these uid most.rows there has) other
    ];
  }

pub count_left : (asked : RowsByUid) (uids : List (List ℕ)) → uids ≡ uids_of asked → (count : RowCount) →
    IsCountAmong (Wants asked.wanted) asked.state.now asked.window uids count → IsCountOf asked count
count_left asked uids same count is =
    by count (subst (λ (us : List (List ℕ)). IsCountAmong (Wants asked.wanted) asked.state.now asked.window us count) same is)
  where
    by : (count : RowCount) → IsCountAmong (Wants asked.wanted) asked.state.now asked.window (uids_of asked) count → IsCountOf asked count
    by (Few number) are = record { rows = are.rows; are_left = are.are_rows; number_is = are.number_is; few = are.few }
    by (TooMany most) (over, is) =
        (over, most_of_these (Wants asked.wanted) asked.state.now asked.window (uids_of asked) most is)

-- if the rows that are left were counted and are few, they are no more than a list may have
pub few_left : (asked : RowsByUid) (number : ℕ) → AreFewLeft asked number → (rows : List Row) → AreLeft asked rows → length rows ≤ row_limit
few_left asked number few rows are =
    let same : length few.rows ≡ length rows = ap length
    (one_where (IsAskedFor asked) asked.state.now asked.window few.rows rows few.are_left are) in
    let counted : length few.rows ≡ number = few.number_is in
    let within : number ≤ row_limit = few.few in
    omega (arith, same, counted, within)
