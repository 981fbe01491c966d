-- What an index of kept items has (our own form): the items by the days on which their rows can be, some of them on any day, and by
-- the attendees that their rows can show.
use Rattle.std.specs.Prelude.{◌≡◌, ◌⊎◌, ℕ, ℤ, pos, cond, List, [], ◌++◌, map, option_to_list, Bool, false}
use Rattle.std.specs.List.{Contains}
use Rattle.std.specs.Option.{option_cmp}
use Rattle.std.specs.declared.cmp.Ordering.{Ordering}
use Rattle.std.specs.declared.cmp.Ordering.TheVariants.{Less, Equal, Greater}
use Rattle.std.specs.Ordering.{nat_cmp, int_cmp, ordering_then, is_eq}
use Rattle.std.specs.Cmp.{IsTotalOrder}
use Rattle.std.specs.Cmp.Lexicographic.{options_total}
use Rattle.std.proofs.lemmas.Cmp.{then_total, on_total, nat_cmp_total, int_cmp_total}
use Rattle.std.proofs.lemmas.Map.Lookups.{CmpEqualImpliesEq, exact_unsigned, exact_signed}
use Rattle.std.proofs.Common.{ap, refl, inl, inr}
use Rattle.itip_todo.specs.Table.{attendee_key}
use Rattle.itip_todo.specs.Properties.{Property}
use Rattle.itip_moment.specs.Order.{moment_cmp}
use Rattle.itip_moment.specs.OrderLaws.{moment_total}
use Rattle.itip_items.specs.KeyParts.{uid_of, rank_of, instance_of}
use Rattle.itip_items.specs.RevisionOrder.{revision_cmp}
use Rattle.itip_items.specs.Revisions.{revisions_total}
use Rattle.itip_items.specs.declared.item.Item.{Item}
use Rattle.itip_items.proofs.Revisions.{revision_exact}
use Rattle.itip_view.specs.RowDays.{has_rows, row_days}
use Rattle.itip_view.specs.declared.days.RowDays.{RowDays}
use Rattle.itip_view.specs.declared.days.RowDays.TheVariants as days
use Rattle.itip_desk.specs.Numbers.{text_number, uid_number}
use Rattle.itip_desk.specs.declared.entry.DayEntry.{DayEntry}
use Rattle.itip_desk.specs.declared.entry.NameEntry.{NameEntry}
use Rattle.itip_desk.specs.declared.entry.Mark.{Mark}
use Rattle.itip_desk.specs.declared.entry.Mark.TheVariants.{Day, Always}
use Rattle.itip_desk.specs.declared.entry.Owner.{Owner}

-- the order of marks: by kind, then by day
abbrev pub sort_of : Mark → ℕ
sort_of (Day day) = 0
sort_of Always = 1

abbrev pub day_of : Mark → ℤ
day_of (Day day) = day
day_of Always = pos 0

abbrev pub mark_cmp : Mark → Mark → Ordering
mark_cmp a b = ordering_then (nat_cmp (sort_of a) (sort_of b)) (int_cmp (day_of a) (day_of b))

-- the order of items: by kind of key, then by instance, then as revisions
abbrev pub item_cmp : Item → Item → Ordering
item_cmp a b = ordering_then (nat_cmp (rank_of a.key) (rank_of b.key))
    (ordering_then (option_cmp moment_cmp (instance_of a.key) (instance_of b.key)) (revision_cmp a b))

-- the order of owners: by the numbers of their UIDs, then by item
abbrev pub owner_cmp : Owner → Owner → Ordering
owner_cmp a b = ordering_then (nat_cmp a.uid b.uid) (item_cmp a.item b.item)

-- by mark, then by owner
abbrev pub day_cmp : DayEntry → DayEntry → Ordering
day_cmp a b = ordering_then (mark_cmp a.mark b.mark) (owner_cmp a.owner b.owner)

-- by the number of the attendee, then by that of the UID, then by item
abbrev pub name_cmp : NameEntry → NameEntry → Ordering
name_cmp a b = ordering_then (nat_cmp a.attendee b.attendee) (ordering_then (nat_cmp a.uid b.uid) (item_cmp a.item b.item))

pub mark_total : IsTotalOrder mark_cmp
mark_total = then_total (on_total sort_of nat_cmp_total) (on_total day_of int_cmp_total)

item_total : IsTotalOrder item_cmp
item_total = then_total (on_total (λ (i : Item). rank_of i.key) nat_cmp_total)
    (then_total (on_total (λ (i : Item). instance_of i.key) (options_total moment_total)) revisions_total)

owner_total : IsTotalOrder owner_cmp
owner_total = then_total (on_total (λ (o : Owner). o.uid) nat_cmp_total) (on_total (λ (o : Owner). o.item) item_total)

pub day_total : IsTotalOrder day_cmp
day_total = then_total (on_total (λ (e : DayEntry). e.mark) mark_total) (on_total (λ (e : DayEntry). e.owner) owner_total)

pub name_total : IsTotalOrder name_cmp
name_total = then_total (on_total (λ (e : NameEntry). e.attendee) nat_cmp_total)
    (then_total (on_total (λ (e : NameEntry). e.uid) nat_cmp_total) (on_total (λ (e : NameEntry). e.item) item_total))

-- where one order followed by another says Equal, each of them does
then_equal : (r s : Ordering) → ordering_then r s ≡ Equal → (r ≡ Equal) × (s ≡ Equal)
then_equal Less s e = cc
then_equal Equal s e = (refl, e)
then_equal Greater s e = cc

mark_from : (a b : Mark) → sort_of a ≡ sort_of b → day_of a ≡ day_of b → a ≡ b
mark_from (Day x) (Day y) sort day = ap Day day
mark_from Always Always sort day = refl
mark_from (Day x) Always sort day = cc
mark_from Always (Day y) sort day = cc

mark_exact : (a b : Mark) → mark_cmp a b ≡ Equal → a ≡ b
mark_exact a b e =
    let both = then_equal (nat_cmp (sort_of a) (sort_of b)) _ e in
    mark_from a b (exact_unsigned _ _ both.0) (exact_signed _ _ both.1)

item_exact : (a b : Item) → item_cmp a b ≡ Equal → a ≡ b
item_exact a b e =
    let first = then_equal (nat_cmp (rank_of a.key) (rank_of b.key)) _ e in
    let second = then_equal (option_cmp moment_cmp (instance_of a.key) (instance_of b.key)) _ first.1 in
    revision_exact a b second.1

pub day_exact : CmpEqualImpliesEq day_cmp
day_exact a b e =
    let first = then_equal (mark_cmp a.mark b.mark) _ e in
    let second = then_equal (nat_cmp a.owner.uid b.owner.uid) _ first.1 in
    let mark : a.mark ≡ b.mark = mark_exact a.mark b.mark first.0 in
    let uid : a.owner.uid ≡ b.owner.uid = exact_unsigned _ _ second.0 in
    let item : a.owner.item ≡ b.owner.item = item_exact a.owner.item b.owner.item second.1 in
    λ i. record { mark = mark i; owner = record { uid = uid i; item = item i } }

pub name_exact : CmpEqualImpliesEq name_cmp
name_exact a b e =
    let first = then_equal (nat_cmp a.attendee b.attendee) _ e in
    let second = then_equal (nat_cmp a.uid b.uid) _ first.1 in
    let attendee : a.attendee ≡ b.attendee = exact_unsigned _ _ first.0 in
    let uid : a.uid ≡ b.uid = exact_unsigned _ _ second.0 in
    let item : a.item ≡ b.item = item_exact a.item b.item second.1 in
    λ i. record { attendee = attendee i; uid = uid i; item = item i }

-- the mark of these days
abbrev pub mark_of : RowDays → Mark
mark_of (days.One day) = Day day
mark_of days.Any = Always

-- an item, with the number of its UID
abbrev pub owner_of : Item → Owner
owner_of item = record { uid = uid_number (uid_of item.key); item = item }

-- the entry of an item under a mark
abbrev pub day_entry : Item → Mark → DayEntry
day_entry item mark = record { mark = mark; owner = owner_of item }

-- the entry of an item under the number of an attendee
abbrev pub name_entry : Item → ℕ → NameEntry
name_entry item attendee = record { attendee = attendee; uid = uid_number (uid_of item.key); item = item }

-- the same with another number in place of that of the UID: with 0 before all entries of the mark or the attendee, and with the
-- greatest number of 32 bits after them
abbrev pub day_bound : Mark → ℕ → Item → DayEntry
day_bound mark uid item = record { mark = mark; owner = record { uid = uid; item = item } }

abbrev pub name_bound : ℕ → ℕ → Item → NameEntry
name_bound attendee uid item = record { attendee = attendee; uid = uid; item = item }

-- the number of the attendee of an address
abbrev pub address_number : List ℕ → ℕ
address_number address = text_number (attendee_key address)

-- an entry of one kind or the other
abbrev pub IndexEntry : Type 0
IndexEntry = DayEntry ⊎ NameEntry

abbrev pub of_day : DayEntry → IndexEntry
of_day entry = inl entry

abbrev pub of_name : NameEntry → IndexEntry
of_name entry = inr entry

-- whether two entries are the same
abbrev pub same_entry : IndexEntry → IndexEntry → Bool
same_entry (inl a) (inl b) = is_eq (day_cmp a b)
same_entry (inl a) (inr b) = false
same_entry (inr a) (inl b) = false
same_entry (inr a) (inr b) = is_eq (name_cmp a b)

-- the item of an entry
abbrev pub item_of : IndexEntry → Item
item_of (inl e) = e.owner.item
item_of (inr e) = e.item

-- the entries of an item: of the days on which the rows that need it can be, and of its ATTENDEE lines
abbrev pub days_entry : Item → RowDays → IndexEntry
days_entry item days = of_day (day_entry item (mark_of days))

abbrev pub line_entry : Item → Property → IndexEntry
line_entry item line = of_name (name_entry item (address_number line.value))

abbrev pub day_entries : Item → List IndexEntry
day_entries item = map (days_entry item) (option_to_list (row_days item))

abbrev pub line_entries : Item → List Property → List IndexEntry
line_entries item lines = map (line_entry item) lines

-- all entries of an item, or none if it can't have rows
abbrev pub entries_of : Item → List IndexEntry
entries_of item = cond (has_rows item) (day_entries item ++ line_entries item item.todo.attendees) []

-- an item of the set has this entry
pub record IsNoted (set : List Item) (entry : IndexEntry) : Type 0 where
  pub item : Item
  pub there : Contains set item
  pub gives : Contains (entries_of item) entry
