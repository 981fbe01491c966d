-- How the entries of an index change.
use Rattle.std.proofs.Common.{◌≡◌, ◌∙◌, ◌<◌, ◌+◌, ℕ, List, [], ◌∷◌, ◌++◌, map, take, drop, length, get_or, refl}
use Rattle.std.proofs.Common.{sym, ap, inl, inr, Bool, true, false, ◌||◌, ◌&&◌, not, cond, Option, Some, None}
use Rattle.std.proofs.Common.{option_to_list}
use Rattle.std.specs.List.{list_any}
use Rattle.std.specs.Ordering.{is_eq}
use Rattle.std.specs.Cmp.{eq_by_cmp_equiv, IsTotalOrder}
use Rattle.std.specs.BTreeMap.{is_at}
use Rattle.std.specs.BTreeSet.{BTreeSet, Updates, contains}
use Rattle.std.specs.declared.cmp.Ordering.{Ordering}
use Rattle.std.proofs.lemmas.Map.Views.{tells_apart}
use Rattle.std.proofs.lemmas.List.{take_more, take-append-drop, map-append}
use Rattle.std.proofs.lemmas.List.Folds.{list_any-append}
use Rattle.itip_todo.specs.Properties.{Property}
use Rattle.itip_items.specs.declared.item.Item.{Item}
use Rattle.itip_view.specs.RowDays.{has_rows, row_days}
use Rattle.itip_view.specs.declared.days.RowDays.{RowDays}
use Rattle.itip_desk.specs.Entries.{IndexEntry, day_cmp, day_total, day_exact, name_cmp, name_total, name_exact, same_entry}
use Rattle.itip_desk.specs.Entries.{day_entry, mark_of, days_entry, line_entry, day_entries, line_entries, entries_of}
use Rattle.itip_desk.specs.Index.{has, is_in, Widens}
use Rattle.itip_desk.specs.declared.entry.DayEntry.{DayEntry}
use Rattle.itip_desk.specs.declared.entry.NameEntry.{NameEntry}
use Rattle.itip_desk.specs.declared.index.Index.{Index}

pub one_entry : (k q : IndexEntry) → same_entry k q ≡ true → k ≡ q
one_entry (inl a) (inl b) e = ap inl (tells_apart day_exact a b e)
one_entry (inl a) (inr b) e = cc
one_entry (inr a) (inl b) e = cc
one_entry (inr a) (inr b) e = ap inr (tells_apart name_exact a b e)

pub entry_itself : (k : IndexEntry) → same_entry k k ≡ true
entry_itself (inl a) = (eq_by_cmp_equiv day_total).refl a
entry_itself (inr a) = (eq_by_cmp_equiv name_total).refl a

cond_or : (b x : Bool) → cond b true x ≡ (x || b)
cond_or true true = refl
cond_or true false = refl
cond_or false true = refl
cond_or false false = refl

cond_and : (b x : Bool) → cond b false x ≡ (x && not b)
cond_and true true = refl
cond_and true false = refl
cond_and false true = refl
cond_and false false = refl

pub or_none : (b : Bool) → (b || false) ≡ b
or_none true = refl
or_none false = refl

pub and_not_none : (b : Bool) → (b && not false) ≡ b
and_not_none true = refl
and_not_none false = refl

-- ---- one set
module _ {K : Type 0} (cmp : K → K → Ordering) (total : IsTotalOrder cmp) (s n : BTreeSet K) (k : K) where
  turned : (e : K) → is_eq (cmp k e) ≡ is_eq (cmp e k)
  turned e = (eq_by_cmp_equiv total).symm k e

  set_put : Updates cmp s n k true → (e : K) → contains cmp n e ≡ (contains cmp s e || is_eq (cmp e k))
  set_put updates e = updates.0 e ∙ cond_or (is_eq (cmp k e)) (contains cmp s e) ∙ ap (λ b. contains cmp s e || b) (turned e)

  set_out : Updates cmp s n k false → (e : K) → contains cmp n e ≡ (contains cmp s e && not (is_eq (cmp e k)))
  set_out updates e = updates.0 e ∙ cond_and (is_eq (cmp k e)) (contains cmp s e) ∙ ap (λ b. contains cmp s e && not b) (turned e)

-- ---- an index
module _ (old new : Index) where
  names_same : new.names.keys ≡ old.names.keys → (e : NameEntry) → has new (inr e) ≡ has old (inr e)
  names_same same e = ap (λ keys. list_any (is_at (name_cmp e)) keys) same

  days_same : new.days.keys ≡ old.days.keys → (e : DayEntry) → has new (inl e) ≡ has old (inl e)
  days_same same e = ap (λ keys. list_any (is_at (day_cmp e)) keys) same

  pub same_index : new.days.keys ≡ old.days.keys → new.names.keys ≡ old.names.keys → (e : IndexEntry) → has new e ≡ has old e
  same_index days names (inl e) = days_same days e
  same_index days names (inr e) = names_same names e

  pub day_put : (k : DayEntry) → new.names.keys ≡ old.names.keys → Updates day_cmp old.days new.days k true → (e : IndexEntry) →
      has new e ≡ (has old e || same_entry e (inl k))
  day_put k names updates (inl e) = set_put day_cmp day_total old.days new.days k updates e
  day_put k names updates (inr e) = names_same names e ∙ sym (or_none (has old (inr e)))

  pub name_put : (k : NameEntry) → new.days.keys ≡ old.days.keys → Updates name_cmp old.names new.names k true → (e : IndexEntry) →
      has new e ≡ (has old e || same_entry e (inr k))
  name_put k days updates (inl e) = days_same days e ∙ sym (or_none (has old (inl e)))
  name_put k days updates (inr e) = set_put name_cmp name_total old.names new.names k updates e

  pub day_out : (k : DayEntry) → new.names.keys ≡ old.names.keys → Updates day_cmp old.days new.days k false → (e : IndexEntry) →
      has new e ≡ (has old e && not (same_entry e (inl k)))
  day_out k names updates (inl e) = set_out day_cmp day_total old.days new.days k updates e
  day_out k names updates (inr e) = names_same names e ∙ sym (and_not_none (has old (inr e)))

  pub name_out : (k : NameEntry) → new.days.keys ≡ old.days.keys → Updates name_cmp old.names new.names k false → (e : IndexEntry) →
      has new e ≡ (has old e && not (same_entry e (inr k)))
  name_out k days updates (inl e) = days_same days e ∙ sym (and_not_none (has old (inl e)))
  name_out k days updates (inr e) = set_out name_cmp name_total old.names new.names k updates e

-- one entry is removed
pub shrinks : (i n r x : Bool) → n ≡ (i && not x) → (n && not r) ≡ (i && not (x || r))
shrinks i n r x is = ap (λ b. b && not r) is ∙ cases i x r
  where
    cases : (i x r : Bool) → ((i && not x) && not r) ≡ (i && not (x || r))
    cases true true r = refl
    cases true false r = refl
    cases false x r = refl

-- one entry is added
pub grows : (i n r x : Bool) → n ≡ (i || x) → (n || r) ≡ (i || (x || r))
grows i n r x is = ap (λ b. b || r) is ∙ cases i x r
  where
    cases : (i x r : Bool) → ((i || x) || r) ≡ (i || (x || r))
    cases true x r = refl
    cases false x r = refl

-- ---- the entries of an item
module _ (item : Item) (e : IndexEntry) where
  abbrev pub days_in : Bool
  days_in = is_in (day_entries item) e

  abbrev pub lines_in : Bool
  lines_in = is_in (line_entries item item.todo.attendees) e

  -- an item that can have rows has those of its day and those of its lines
  pub entries_in : has_rows item ≡ true → is_in (entries_of item) e ≡ (days_in || lines_in)
  entries_in rows = ap (λ b. is_in (cond b (day_entries item ++ line_entries item item.todo.attendees) []) e) rows
      ∙ list_any-append (same_entry e) (day_entries item) (line_entries item item.todo.attendees)

  -- any other item has none
  pub entries_none : has_rows item ≡ false → is_in (entries_of item) e ≡ false
  entries_none rows = ap (λ b. is_in (cond b (day_entries item ++ line_entries item item.todo.attendees) []) e) rows

  -- the one of its day
  pub day_in : (days : RowDays) → row_days item ≡ Some days → days_in ≡ same_entry e (inl (day_entry item (mark_of days)))
  day_in days is = ap (λ (o : Option RowDays). is_in (map (days_entry item) (option_to_list o)) e) is ∙
      or_none (same_entry e (inl (day_entry item (mark_of days))))

  pub no_day : ((days : RowDays) → row_days item ≡ Some days → ⊥) → days_in ≡ false
  no_day not = by (row_days item) refl
    where
      by : (o : Option RowDays) → row_days item ≡ o → days_in ≡ false
      by None is = ap (λ (o : Option RowDays). is_in (map (days_entry item) (option_to_list o)) e) is
      by (Some days) is = absurd (not days is)

pub grown_twice : (o m n d l all : Bool) → all ≡ (d || l) → m ≡ (o || d) → n ≡ (m || l) → n ≡ (o || all)
grown_twice o m n d l all all_is m_is n_is = n_is ∙ ap (λ b. b || l) m_is ∙ three o d l ∙ ap (λ b. o || b) (sym all_is)
  where
    three : (a b c : Bool) → ((a || b) || c) ≡ (a || (b || c))
    three true b c = refl
    three false b c = refl

pub shrunk_twice : (o m n d l all : Bool) → all ≡ (d || l) → m ≡ (o && not d) → n ≡ (m && not l) → n ≡ (o && not all)
shrunk_twice o m n d l all all_is m_is n_is = n_is ∙ ap (λ b. b && not l) m_is ∙ three o d l ∙ ap (λ b. o && not b) (sym all_is)
  where
    three : (a b c : Bool) → ((a && not b) && not c) ≡ (a && not (b || c))
    three true true c = refl
    three true false c = refl
    three false b c = refl

-- ---- the entries of some of the lines of an item
module _ (item : Item) (e : IndexEntry) (lines : List Property) (i : ℕ) where
  both_parts : (xs ys : List Property) → is_in (line_entries item (xs ++ ys)) e ≡
      (is_in (line_entries item xs) e || is_in (line_entries item ys) e)
  both_parts xs ys = ap (λ es. is_in es e) (map-append (line_entry item) xs ys)
      ∙ list_any-append (same_entry e) (line_entries item xs) (line_entries item ys)

  -- with one more line
  pub line_more : (line : Property) → i < length lines → line ≡ get_or lines i line →
      is_in (line_entries item (take (i + 1) lines)) e ≡ (is_in (line_entries item (take i lines)) e || same_entry e (line_entry item line))
  line_more line below is =
      ap (λ ls. is_in (line_entries item ls) e)
      (take_more lines i line below ∙ ap (λ (x : Property). take i lines ++ x ∷ []) (sym is)) ∙ both_parts (take i lines) (line ∷ []) ∙
      ap (λ b. is_in (line_entries item (take i lines)) e || b) (or_none (same_entry e (line_entry item line)))

  -- the entries of the first lines are among those of all
  pub line_part : is_in (line_entries item (take i lines)) e ≡ true → is_in (line_entries item lines) e ≡ true
  line_part h = ap (λ ls. is_in (line_entries item ls) e) (sym (take-append-drop i lines)) ∙ both_parts (take i lines) (drop i lines) ∙
      ap (λ b. b || is_in (line_entries item (drop i lines)) e) h

-- ---- while entries are added, an index is between what it was and what it becomes
or_cases : (a b : Bool) (G : Type 0) → (a ≡ true → G) → (b ≡ true → G) → (a || b) ≡ true → G
or_cases true b G p q h = p refl
or_cases false b G p q h = q h

or_first : (a b : Bool) → a ≡ true → (a || b) ≡ true
or_first true b e = refl
or_first false b e = let x : false ≡ true = e in absurd (cc)

pub or_second : (a b : Bool) → b ≡ true → (a || b) ≡ true
or_second true b e = refl
or_second false b e = e

pub widens_same : (more : IndexEntry → Bool) (old new : Index) → ((e : IndexEntry) → has new e ≡ has old e) → Widens more old new
widens_same more old new same e = (λ h. same e ∙ h, λ h. or_first (has old e) (more e) (sym (same e) ∙ h))

-- some of the entries were added
pub widens_part : (more some : IndexEntry → Bool) (old new : Index) → ((e : IndexEntry) → has new e ≡ (has old e || some e)) →
    ((e : IndexEntry) → some e ≡ true → more e ≡ true) → Widens more old new
widens_part more some old new is part e = (
  λ h. is e ∙ or_first (has old e) (some e) h,
  λ h. or_cases (has old e) (some e) ((has old e || more e) ≡ true) (or_first (has old e) (more e))
      (λ s. or_second (has old e) (more e) (part e s)) (sym (is e) ∙ h),
)

-- some were added, and then perhaps others
pub widens_twice : (first second all : IndexEntry → Bool) (old mid new : Index) →
    ((e : IndexEntry) → has mid e ≡ (has old e || first e)) → Widens second mid new → ((e : IndexEntry) → all e ≡ (first e || second e)) →
    Widens all old new
widens_twice first second all old mid new is widens all_is e = (
  λ h. (widens e).0 (is e ∙ or_first (has old e) (first e) h),
  λ h. or_cases (has mid e) (second e) ((has old e || all e) ≡ true)
      (λ m. or_cases (has old e) (first e) ((has old e || all e) ≡ true) (or_first (has old e) (all e))
      (λ f. or_second (has old e) (all e) (all_is e ∙ or_first (first e) (second e) f)) (sym (is e) ∙ m))
      (λ s. or_second (has old e) (all e) (all_is e ∙ or_second (first e) (second e) s))
      ((widens e).1 h),
)
