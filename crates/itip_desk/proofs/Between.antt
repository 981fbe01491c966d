-- Which entries are between two bounds.
use Rattle.std.proofs.Common.{◌≡◌, ◌∙◌, ◌<◌, ◌||◌, ℕ, ℤ, ◌≤ℤ◌, ◌<ℤ◌, List, [], ◌∷◌, ◌++◌}
use Rattle.std.proofs.Common.{map, refl, sym, ap, subst, inl, inr, Bool, true, false, cond}
use Rattle.std.proofs.Common.{◌↔◌, not, ◌&&◌, arith, Option, Some, None, option_to_list}
use Rattle.std.specs.List.{Contains, list_any}
use Rattle.std.specs.Ordering.{nat_cmp, int_cmp, ordering_then, is_le, is_gt, is_eq, MatchOrdering}
use Rattle.std.specs.Cmp.{tied_itself}
use Rattle.std.specs.declared.cmp.Ordering.{Ordering}
use Rattle.std.specs.declared.cmp.Ordering.TheVariants.{Less, Equal, Greater}
use Rattle.std.specs.declared.ops.Bound.TheVariants.{Included, Excluded}
use Rattle.std.specs.BTreeMap.Range.{range_contains, IsLeBy}
use Rattle.std.specs.BTreeMap.{is_at}
use Rattle.std.specs.BTreeSet.{BTreeSet, contains, keys_between}
use Rattle.std.proofs.lemmas.Cmp.{ranked, int_ranked, nat_cmp_total}
use Rattle.std.proofs.lemmas.Map.Lookups.{CmpEqualImpliesEq}
use Rattle.std.proofs.lemmas.Map.Views.{Contains-from_any, tells_apart}
use Rattle.std.proofs.lemmas.Int.{ints}
use Rattle.itip_state.proofs.Members.{by_bool, none_in, cons_cases, cons_first, cons_later}
use Rattle.itip_view.proofs.Showing.{into_filter}
use Rattle.std.proofs.lemmas.List.Elements.{Contains-append_left, Contains-append_right}
use Rattle.itip_todo.specs.Table.{attendee_key}
use Rattle.itip_todo.specs.Properties.{Property}
use Rattle.itip_items.specs.KeyParts.{uid_of}
use Rattle.itip_items.specs.declared.item.Item.{Item}
use Rattle.itip_items.specs.declared.key.Key.{Key}
use Rattle.itip_items.specs.declared.key.Key.TheVariants.{Series, Instance, Range, Answer, Refresh}
use Rattle.itip_view.specs.RowDays.{is_of_rows, has_rows, days_at, row_days, Meets, HasRowsIn, NamesIn}
use Rattle.itip_view.specs.Rows.{IsRow, AreRows}
use Rattle.itip_view.specs.Showing.{Shows, IsAmong, AreRowsWhere}
use Rattle.itip_view.specs.Standing.{is_live}
use Rattle.itip_view.specs.declared.days.RowDays.{RowDays}
use Rattle.itip_view.specs.declared.days.RowDays.TheVariants.{One, Any}
use Rattle.itip_view.specs.declared.row.Row.{Row}
use Rattle.itip_view.specs.declared.window.Window.{Window}
use Rattle.itip_view.proofs.Needing.{row_needs_days, row_needs_name}
use Rattle.itip_desk.specs.Numbers.{text_number, uid_number}
use Rattle.itip_desk.specs.Entries.{IndexEntry, mark_cmp, mark_total, item_cmp, owner_cmp}
use Rattle.itip_desk.specs.Entries.{owner_of, day_cmp, name_cmp, day_entry, name_entry}
use Rattle.itip_desk.specs.Entries.{day_bound, name_bound, address_number, days_entry, line_entry, day_entries, line_entries, entries_of}
use Rattle.itip_desk.specs.Found.{NamesLine}
use Rattle.itip_desk.specs.Index.{has, IsEmptyIndex, IsIndexOf}
use Rattle.itip_desk.specs.declared.entry.DayEntry.{DayEntry}
use Rattle.itip_desk.specs.declared.entry.NameEntry.{NameEntry}
use Rattle.itip_desk.specs.declared.entry.Mark.{Mark}
use Rattle.itip_desk.specs.declared.entry.Mark.TheVariants.{Day, Always}
use Rattle.itip_desk.specs.declared.index.Index.{Index}
use Rattle.itip_desk.proofs.Finding.{none_there}
use Rattle.itip_desk.proofs.Noting.{entry_itself}
use Rattle.itip_desk.proofs.Numbering.{uid_inside}

pub mapped : {A B : Type 0} (f : A → B) (xs : List A) (x : A) → Contains xs x → Contains (map f xs) (f x)
mapped f [] x h = absurd (none_in x h)
mapped f (y ∷ ys) x h = elim (cons_cases y ys x h) [
  | inl same ↦ subst (Contains (map f (y ∷ ys))) (ap f same) (cons_first (f y) (map f ys))
  | inr rest ↦ cons_later (f y) (map f ys) (f x) (mapped f ys x rest)
]

-- an entry that is there and is between the bounds is found
pub found_between : {K : Type 0} (cmp : K → K → Ordering) → CmpEqualImpliesEq cmp → (set : BTreeSet K) (low high e : K) →
    contains cmp set e ≡ true → range_contains cmp (Included low) (Excluded high) e ≡ true →
    Contains (keys_between cmp (Included low) (Excluded high) set) e
found_between cmp exact set low high e there inside =
    into_filter (range_contains cmp (Included low) (Excluded high)) set.keys e
    (Contains-from_any {eq = λ a b. is_eq (cmp a b)} (tells_apart exact) e set.keys there) inside

both_ways : (a b : Bool) → a ≡ true → b ≡ false → (a && not b) ≡ true
both_ways true false p q = refl
both_ways true true p q = cc
both_ways false b p q = cc

-- ---- numbers of UIDs are between the bounds
less_is : (m n : ℕ) → m < n → nat_cmp m n ≡ Less
less_is m n below = elim (nat_cmp m n) as (λ o. nat_cmp m n ≡ o → o ≡ Less) [
  | Less ↦ λ e. refl
  | Equal ↦ λ e. absurd (let x : m ≡ n = subst (λ o. MatchOrdering o (m < n) (m ≡ n) (n < m)) e (ranked m n (nat_cmp m n) refl) in
      omega (arith, x, below))
  | Greater ↦ λ e. absurd (let x : n < m = subst (λ o. MatchOrdering o (m < n) (m ≡ n) (n < m)) e (ranked m n (nat_cmp m n) refl) in
      omega (arith, x, below))
] refl

greater_is : (m n : ℕ) → n < m → nat_cmp m n ≡ Greater
greater_is m n below = elim (nat_cmp m n) as (λ o. nat_cmp m n ≡ o → o ≡ Greater) [
  | Less ↦ λ e. absurd (let x : m < n = subst (λ o. MatchOrdering o (m < n) (m ≡ n) (n < m)) e (ranked m n (nat_cmp m n) refl) in
      omega (arith, x, below))
  | Equal ↦ λ e. absurd (let x : m ≡ n = subst (λ o. MatchOrdering o (m < n) (m ≡ n) (n < m)) e (ranked m n (nat_cmp m n) refl) in
      omega (arith, x, below))
  | Greater ↦ λ e. refl
] refl

module _ (any item : Item) where
  low_owner : owner_cmp (record { uid = 0; item = any }) (owner_of item) ≡ Less
  low_owner = ap (λ o. ordering_then o (item_cmp any item)) (less_is 0 (uid_number (uid_of item.key)) (uid_inside (uid_of item.key)).0)

  high_owner : owner_cmp (record { uid = 4294967295; item = any }) (owner_of item) ≡ Greater
  high_owner =
      ap (λ o. ordering_then o (item_cmp any item)) (greater_is 4294967295 (uid_number (uid_of item.key)) (uid_inside (uid_of item.key)).1)

bounds_forward : (any : Item) → owner_cmp (record { uid = 0; item = any }) (record { uid = 4294967295; item = any }) ≡ Less
bounds_forward any = ap (λ o. ordering_then o (item_cmp any any)) (less_is 0 4294967295 (omega arith))

-- ---- days
from_day : (r o : Ordering) (from day : ℤ) → r ≡ int_cmp from day → from ≤ℤ day → o ≡ Less → is_le (ordering_then r o) ≡ true
from_day Less o from day is below less = refl
from_day Equal o from day is below less = ap is_le less
from_day Greater o from day is below less = absurd (let over : day <ℤ from = int_ranked from day Greater is in omega (arith, ints))

to_day : (r o : Ordering) (to day : ℤ) → r ≡ int_cmp to day → day <ℤ to → is_le (ordering_then r o) ≡ false
to_day Less o to day is below = absurd (let over : to <ℤ day = int_ranked to day Less is in omega (arith, ints))
to_day Equal o to day is below = absurd (let same : to ≡ day = int_ranked to day Equal is in omega (arith, ints))
to_day Greater o to day is below = refl

pub day_inside : (any : Item) (from to day : ℤ) (item : Item) → from ≤ℤ day → day <ℤ to →
    range_contains day_cmp (Included (day_bound (Day from) 0 any)) (Excluded (day_bound (Day to) 0 any)) (day_entry item (Day day)) ≡ true
day_inside any from to day item low high = both_ways _ _ (from_day (int_cmp from day) _ from day refl low (low_owner any item))
    (to_day (int_cmp to day) _ to day refl high)

days_forward : (r o : Ordering) (from to : ℤ) → r ≡ int_cmp from to → from <ℤ to → is_gt (ordering_then r o) ≡ false
days_forward Less o from to is below = refl
days_forward Equal o from to is below = absurd (let same : from ≡ to = int_ranked from to Equal is in omega (arith, ints))
days_forward Greater o from to is below = absurd (let over : to <ℤ from = int_ranked from to Greater is in omega (arith, ints))

pub window_forward : (any : Item) (from to : ℤ) → from <ℤ to → IsLeBy day_cmp (day_bound (Day from) 0 any) (day_bound (Day to) 0 any)
window_forward any from to below = days_forward (int_cmp from to) _ from to refl below

-- ---- one mark
same_mark : (mark : Mark) → mark_cmp mark mark ≡ Equal
same_mark mark = tied_itself mark_total mark

pub mark_inside : (any : Item) (mark : Mark) (item : Item) →
    range_contains day_cmp (Included (day_bound mark 0 any)) (Excluded (day_bound mark 4294967295 any)) (day_entry item mark) ≡ true
mark_inside any mark item = both_ways _ _
    (ap (λ o. is_le (ordering_then o (owner_cmp (record { uid = 0; item = any }) (owner_of item)))) (same_mark mark)
    ∙ ap is_le (low_owner any item))
    (ap (λ o. is_le (ordering_then o (owner_cmp (record { uid = 4294967295; item = any }) (owner_of item)))) (same_mark mark)
    ∙ ap is_le (high_owner any item))

pub mark_forward : (any : Item) (mark : Mark) → IsLeBy day_cmp (day_bound mark 0 any) (day_bound mark 4294967295 any)
mark_forward any mark =
    ap (λ o. is_gt (ordering_then o (owner_cmp (record { uid = 0; item = any }) (record { uid = 4294967295; item = any }))))
    (same_mark mark) ∙ ap is_gt (bounds_forward any)

-- ---- one number of an attendee
same_number : (n : ℕ) → nat_cmp n n ≡ Equal
same_number n = tied_itself nat_cmp_total n

pub name_inside : (any : Item) (n : ℕ) (item : Item) →
    range_contains name_cmp (Included (name_bound n 0 any)) (Excluded (name_bound n 4294967295 any)) (name_entry item n) ≡ true
name_inside any n item = both_ways _ _
    (ap (λ o. is_le (ordering_then o (owner_cmp (record { uid = 0; item = any }) (owner_of item)))) (same_number n)
    ∙ ap is_le (low_owner any item))
    (ap (λ o. is_le (ordering_then o (owner_cmp (record { uid = 4294967295; item = any }) (owner_of item)))) (same_number n)
    ∙ ap is_le (high_owner any item))

pub names_forward : (any : Item) (n : ℕ) → IsLeBy name_cmp (name_bound n 0 any) (name_bound n 4294967295 any)
names_forward any n =
    ap (λ o. is_gt (ordering_then o (owner_cmp (record { uid = 0; item = any }) (record { uid = 4294967295; item = any }))))
    (same_number n) ∙ ap is_gt (bounds_forward any)

-- ---- the entries that items have
days_rows : (k : Key) (item : Item) (days : RowDays) → days_at k item ≡ Some days → is_of_rows k ≡ true
days_rows (Series uid) item days is = refl
days_rows (Instance uid id) item days is = refl
days_rows (Range uid id) item days is = refl
days_rows (Answer uid id attendee) item days is = cc
days_rows (Refresh uid id attendee) item days is = cc

rows_from_days : (item : Item) (days : RowDays) → row_days item ≡ Some days → has_rows item ≡ true
rows_from_days item days is = by_bool (is_live item.kind) (has_rows item ≡ true)
    (λ live. ap (λ b. cond b (is_live item.kind) false)
    (days_rows item.key item days (sym (ap (λ b. cond b (days_at item.key item) None) live) ∙ is)) ∙ live)
    (λ dead. absurd (let none : None ≡ Some days = sym (ap (λ b. cond b (days_at item.key item) None) dead) ∙ is in cc))

-- the entries of an item that can have rows
gives_all : (item : Item) (e : IndexEntry) → has_rows item ≡ true →
    Contains (day_entries item ++ line_entries item item.todo.attendees) e → Contains (entries_of item) e
gives_all item e rows h = subst (λ b. Contains (cond b (day_entries item ++ line_entries item item.todo.attendees) []) e) (sym rows) h

day_given : (item : Item) (days : RowDays) → row_days item ≡ Some days → Contains (entries_of item) (days_entry item days)
day_given item days is = gives_all item (days_entry item days) (rows_from_days item days is)
    (Contains-append_left (day_entries item) (line_entries item item.todo.attendees) (days_entry item days)
    (subst (λ (o : Option RowDays). Contains (map (days_entry item) (option_to_list o)) (days_entry item days)) (sym is)
    (cons_first (days_entry item days) [])))

line_given : (item : Item) (line : Property) → has_rows item ≡ true → Contains item.todo.attendees line →
    Contains (entries_of item) (line_entry item line)
line_given item line rows there = gives_all item (line_entry item line) rows
    (Contains-append_right (day_entries item) (line_entries item item.todo.attendees) (line_entry item line)
    (mapped (line_entry item) item.todo.attendees line there))

pub found_in : (kept : List Item) (index : Index) (window : Window) (found : List (List ℕ)) → IsIndexOf kept index →
    ((item : Item) (day : ℤ) → window.from ≤ℤ day → day <ℤ window.to → has index (inl (day_entry item (Day day))) ≡ true →
    Contains found (uid_of item.key)) →
    ((item : Item) → has index (inl (day_entry item Always)) ≡ true → Contains found (uid_of item.key)) → (uid : List ℕ) →
    HasRowsIn kept window uid → Contains found uid
found_in kept index window found is by_day always uid r = subst (Contains found) r.about
    (cases r.days r.meets ((is (days_entry r.item r.days)).1 (record {
      item = r.item;
      there = r.is_heard;
      gives = day_given r.item r.days r.days_are;
    })))
  where
    cases : (days : RowDays) → Meets window days → has index (days_entry r.item days) ≡ true → Contains found (uid_of r.item.key)
    cases (One day) meets there = by_day r.item day meets.0 meets.1 there
    cases Any meets there = always r.item there

pub found_named : (kept : List Item) (index : Index) (address : List ℕ) (found : List (List ℕ)) → IsIndexOf kept index →
    ((item : Item) → NamesLine address item → has index (inr (name_entry item (address_number address))) ≡ true →
    Contains found (uid_of item.key)) →
    (uid : List ℕ) → NamesIn kept (attendee_key address) uid → Contains found uid
found_named kept index address found is by_line uid n = subst (Contains found) n.about
    (by_line n.item (record { line = n.names.line; there = n.names.there; named = n.names.named })
    ((is (inr (name_entry n.item (address_number address)))).1 (record {
      item = n.item;
      there = n.is_heard;
      gives = subst (λ (k : List ℕ). Contains (entries_of n.item) (inr (name_entry n.item (text_number k)))) n.names.named
          (line_given n.item n.names.line n.names.rows n.names.there);
    })))

-- an index of no items has no entries
module _ (index : Index) (is : IsIndexOf [] index) where
  no_entry : (e : IndexEntry) → has index e ≡ true → ⊥
  no_entry e h = let n = (is e).0 h in none_in n.item n.there

  pub no_days : index.days.keys ≡ []
  no_days = by index.days.keys refl
    where
      by : (keys : List DayEntry) → index.days.keys ≡ keys → keys ≡ []
      by [] same = refl
      by (k ∷ ks) same = absurd (no_entry (inl k) (ap (λ (es : List DayEntry). list_any (is_at (day_cmp k)) es) same ∙
          ap (λ b. b || list_any (is_at (day_cmp k)) ks) (entry_itself (inl k))))

  pub no_names : index.names.keys ≡ []
  no_names = by index.names.keys refl
    where
      by : (keys : List NameEntry) → index.names.keys ≡ keys → keys ≡ []
      by [] same = refl
      by (k ∷ ks) same = absurd (no_entry (inr k) (ap (λ (es : List NameEntry). list_any (is_at (name_cmp k)) es) same ∙
          ap (λ b. b || list_any (is_at (name_cmp k)) ks) (entry_itself (inr k))))

pub empty_index : (kept : List Item) (index : Index) → kept ≡ [] → IsEmptyIndex index → IsIndexOf kept index
empty_index kept index none empty e =
    (λ h. absurd (has_none e h), λ n. absurd (none_in n.item (subst (λ (xs : List Item). Contains xs n.item) none n.there)))
  where
    has_none : (e : IndexEntry) → has index e ≡ true → ⊥
    has_none (inl d) h = none_there day_cmp index.days d empty.days h
    has_none (inr d) h = none_there name_cmp index.names d empty.names h

-- the rows of the UIDs found are those of the view
module _ (kept : List Item) (window : Window) (uids : List (List ℕ)) (P : Row → Type 0) where
  pub row_found : ((uid : List ℕ) → HasRowsIn kept window uid → Contains uids uid) → ((row : Row) → P row) → (row : Row) →
      IsRow kept window row → IsAmong uids P row ↔ Unit {0}
  row_found found every row is = (
    λ among. tt,
    λ any. record { uid_is = found row.uid (row_needs_days kept window row is); holds = every row },
  )

  pub row_naming : (address : List ℕ) → ((uid : List ℕ) → NamesIn kept (attendee_key address) uid → Contains uids uid) →
      ((row : Row) → P row ↔ Shows address row) → (row : Row) → IsRow kept window row → IsAmong uids P row ↔ Shows address row
  row_naming address found same row is = (
    λ among. (same row).0 among.holds,
    λ shows. record { uid_is = found row.uid (row_needs_name kept address window row is shows); holds = (same row).1 shows },
  )

-- all rows are asked for
pub any_rows : (kept : List Item) (window : Window) (rows : List Row) → AreRowsWhere (λ row. Unit {0}) kept window rows ↔
    AreRows kept window rows
any_rows kept window rows = (
  λ are. record { ascend = are.ascend; each = are.each; all = λ row is. are.all row is tt },
  λ are. record { ascend = are.ascend; each = are.each; holds = λ row h. tt; all = λ row is any. are.all row is },
)
