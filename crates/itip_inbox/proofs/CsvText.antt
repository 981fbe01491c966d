-- Records as they are written, and as a reader of comma-separated fields reads them.
use Rattle.std.proofs.Common.{◌≡◌, ◌≤◌, ◌+◌, ◌-◌, ◌==◌, ◌||◌, ℕ, zero, suc, cond, false, List, [], ◌∷◌, ◌++◌, map, length}
use Rattle.std.proofs.Common.{Option, Some, None, refl, sym, ap, ap₂, inl}
use Rattle.std.proofs.Common.{inr, ◌∙◌, arith, append_assoc, append-nil, length-append, zero-add, suc-add}
use Rattle.std.specs.List.{flat_map, list_any}
use Rattle.std.proofs.lemmas.List.Concat.{flat_map-append}
use Rattle.std.proofs.lemmas.Bool.{cases_Bool, eqb-true}
use Rattle.csv.specs.Machine.{next_record}
use Rattle.csv.specs.Reading.{default_config, records, records_from}
use Rattle.csv.specs.Writing.{default_writer, needs_byte, needs_quotes, escaped, is_blank, read_back, row_text}
use Rattle.csv.specs.Writing.{field_text as csv_field, fields_text as csv_fields}
use Rattle.csv.specs.declared.parser.State.TheVariants as st
use Rattle.csv.proofs.RoundTrip.{read-write, rows_text}
use Rattle.itip_view.specs.declared.row.Row.{Row}
use Rattle.itip_view.specs.declared.row.ShownAttendee.{ShownAttendee}
use Rattle.itip_view.proofs.FlatMap.{then_more}
use Rattle.itip_inbox.specs.Csv.{is_special, doubled, field_text, field_behind, fields_behind}
use Rattle.itip_inbox.specs.Csv.{record_text, records_text, csv_text, field_names}
use Rattle.itip_inbox.specs.Csv.{record_of, records_for, records_of, records_of_rows, attendee_record_text, row_records_text}
use Rattle.itip_inbox.specs.Csv.{name_fields, number_fields, date_fields, last_fields, attendee_fields}
use Rattle.itip_inbox.proofs.Pieces.{join_five}

-- ---- a field

-- one without quotes
pub plain_field : (field : List ℕ) → list_any is_special field ≡ false → field_text field ≡ field
plain_field field none = ap (λ b. cond b (34 ∷ (flat_map doubled field ++ 34 ∷ [])) field) none

-- ---- a record

-- it is put as its UID, its other fields and an end
pub record_put : (row : Row) (who : Option ShownAttendee) (old t0 t1 t2 t3 t4 t5 new : List ℕ) → t0 ≡ old ++ field_text row.uid →
    t1 ≡ t0 ++ fields_behind (name_fields row) → t2 ≡ t1 ++ fields_behind (number_fields row) →
    t3 ≡ t2 ++ fields_behind (date_fields row) → t4 ≡ t3 ++ fields_behind (last_fields row) →
    t5 ≡ t4 ++ fields_behind (attendee_fields who) → new ≡ t5 ++ 10 ∷ [] → new ≡ old ++ record_text (record_of row who)
record_put row who old t0 t1 t2 t3 t4 t5 new uid one two three four five last =
    let a = name_fields row in
    let b = number_fields row in
    let d = date_fields row in
    let e = last_fields row in
    let f = attendee_fields who in
    let end : List ℕ = 10 ∷ [] in
    let shown : new ≡ t4 ++ (fields_behind f ++ end) = then_more t4 t5 new (fields_behind f) end five last in
    let rest : new ≡ t3 ++ (fields_behind e ++ (fields_behind f ++ end)) =
    then_more t3 t4 new (fields_behind e) (fields_behind f ++ end) four shown in
    let dated : new ≡ t2 ++ (fields_behind d ++ (fields_behind e ++ (fields_behind f ++ end))) =
    then_more t2 t3 new (fields_behind d) (fields_behind e ++ (fields_behind f ++ end)) three rest in
    let numbered : new ≡ t1 ++ (fields_behind b ++ (fields_behind d ++ (fields_behind e ++ (fields_behind f ++ end)))) =
    then_more t1 t2 new (fields_behind b) (fields_behind d ++ (fields_behind e ++ (fields_behind f ++ end))) two dated in
    let named : new ≡ t0 ++ (fields_behind a ++ (fields_behind b ++ (fields_behind d ++ (fields_behind e ++ (fields_behind f ++ end))))) =
    then_more t0 t1 new (fields_behind a) (fields_behind b ++ (fields_behind d ++ (fields_behind e ++ (fields_behind f ++ end)))) one
    numbered in
    then_more old t0 new (field_text row.uid)
    (fields_behind a ++ (fields_behind b ++ (fields_behind d ++ (fields_behind e ++ (fields_behind f ++ end))))) uid named ∙
    ap (λ (t : List ℕ). old ++ (field_text row.uid ++ t)) (join_five field_behind a b d e f end)

-- ---- the records of a row

-- those of its attendees
pub records_of_attendees : (row : Row) (attendees : List ShownAttendee) →
    flat_map (attendee_record_text row) attendees ≡ records_text (map (λ who. record_of row (Some who)) attendees)
records_of_attendees row [] = refl
records_of_attendees row (attendee ∷ attendees) =
    ap (λ (t : List ℕ). attendee_record_text row attendee ++ t) (records_of_attendees row attendees)

pub some_records : (row : Row) (attendees : List ShownAttendee) → (length attendees ≡ 0 → ⊥) →
    flat_map (attendee_record_text row) attendees ≡ records_text (records_for row attendees)
some_records row [] some = absurd (some refl)
some_records row (attendee ∷ attendees) some = records_of_attendees row (attendee ∷ attendees)

pub no_records : (row : Row) (attendees : List ShownAttendee) → length attendees ≡ 0 →
    record_text (record_of row None) ≡ records_text (records_for row attendees)
no_records row [] none = sym (append-nil (record_text (record_of row None)))
no_records row (attendee ∷ attendees) none = absurd (omega arith)

-- ---- what `csv` calls them

special : (octet : ℕ) → needs_byte default_writer octet ≡ is_special octet
special octet = grind arith

special_fields : (field : List ℕ) → needs_quotes default_writer field ≡ list_any is_special field
special_fields [] = refl
special_fields (octet ∷ field) = ap₂ (λ a b. a || b) (special octet) (special_fields field)

escaped_field : (field : List ℕ) → escaped default_writer field ≡ flat_map doubled field
unfolding escaped
escaped_field [] = refl
escaped_field (octet ∷ field) = elim (cases_Bool (octet == 34)) [
  | inl is ↦ rw is (ap₂ (λ (first : ℕ) (rest : List ℕ). 34 ∷ first ∷ rest) (eqb-true octet 34 is) (escaped_field field))
  | inr not ↦ rw not (ap (λ (rest : List ℕ). octet ∷ rest) (escaped_field field))
]

same_field : (field : List ℕ) → csv_field default_writer field ≡ field_text field
same_field field = ap₂ (λ b t. cond b (34 ∷ (t ++ 34 ∷ [])) field) (special_fields field) (escaped_field field)

same_fields : (fields : List (List ℕ)) → csv_fields default_writer fields ≡ fields_behind fields
unfolding csv_fields
same_fields [] = refl
same_fields (field ∷ fields) = ap₂ (λ a b. 44 ∷ (a ++ b)) (same_field field) (same_fields fields)

-- a record of two fields and more
same_record : (fields : List (List ℕ)) → 2 ≤ length fields → row_text default_writer fields ≡ record_text fields
unfolding is_blank
same_record [] long = absurd (omega arith)
same_record (one ∷ []) long = absurd (omega arith)
same_record (one ∷ two ∷ fields) long =
    ap₂ (λ a b. (a ++ b) ++ 10 ∷ []) (same_field one) (same_fields (two ∷ fields)) ∙
    append_assoc (field_text one) (fields_behind (two ∷ fields)) (10 ∷ [])

abbrev AreLong : List (List (List ℕ)) → Type 0
AreLong [] = Unit {0}
AreLong (one ∷ records) = (2 ≤ length one) × AreLong records

long_append : (some more : List (List (List ℕ))) → AreLong some → AreLong more → AreLong (some ++ more)
long_append [] more first second = second
long_append (one ∷ some) more first second = (first.0, long_append some more first.1 second)

same_text : (all : List (List (List ℕ))) → AreLong all → rows_text all ≡ records_text all
unfolding rows_text
same_text [] long = refl
same_text (one ∷ all) long = ap₂ (λ a b. a ++ b) (same_record one long.0) (same_text all long.1)

same_back : (all : List (List (List ℕ))) → AreLong all → map read_back all ≡ all
same_back [] long = refl
same_back ([] ∷ all) long = absurd (omega (arith, long.0))
same_back ((field ∷ fields) ∷ all) long = ap (λ (t : List (List (List ℕ))). (field ∷ fields) ∷ t) (same_back all long.1)

-- ---- what is read

nothing_left : (n : ℕ) → records_from default_config n st.StartRecord [] ≡ []
unfolding records_from next_record
nothing_left zero = refl
nothing_left (suc n) = refl

read_more : (all : List (List (List ℕ))) (n : ℕ) → records_from default_config (length all + n) st.StartRecord
    (rows_text all) ≡ map read_back all
unfolding records_from rows_text
read_more [] n = rw zero-add (nothing_left n)
read_more (one ∷ all) n =
    rw (suc-add, read-write one (rows_text all)) (ap (λ (t : List (List (List ℕ))). read_back one ∷ t) (read_more all n))

-- each record has an end
as_long : (all : List (List (List ℕ))) → length all ≤ length (records_text all)
as_long [] = omega arith
as_long ([] ∷ all) = omega (arith, as_long all)
as_long ((field ∷ fields) ∷ all) =
    omega (
      arith,
      as_long all,
      length-append (record_text (field ∷ fields)) (records_text all),
      length-append (field_text field) (fields_behind fields ++ 10 ∷ []),
      length-append (fields_behind fields) (10 ∷ []),
    )

-- what is written of records is read as these records, and nothing else
read_again : (all : List (List (List ℕ))) → AreLong all → records default_config (records_text all) ≡ all
read_again all long =
    let more : ℕ = length (records_text all) + 1 - length all in
    let enough : length (records_text all) + 1 ≡ length all + more = omega (arith, as_long all) in
    ap₂ (λ n t. records_from default_config n st.StartRecord t) enough (sym (same_text all long)) ∙ read_more all more ∙ same_back all long

-- ---- rows

one_long : (row : Row) (attendees : List ShownAttendee) → AreLong (map (λ who. record_of row (Some who)) attendees)
one_long row [] = tt
one_long row (attendee ∷ attendees) = (omega arith, one_long row attendees)

row_long : (row : Row) (attendees : List ShownAttendee) → AreLong (records_for row attendees)
row_long row [] = (omega arith, tt)
row_long row (attendee ∷ attendees) = one_long row (attendee ∷ attendees)

rows_long : (rows : List Row) → AreLong (flat_map records_of rows)
rows_long [] = tt
rows_long (row ∷ rows) = long_append (records_of row) (flat_map records_of rows) (row_long row row.attendees) (rows_long rows)

text_of_rows : (rows : List Row) → flat_map row_records_text rows ≡ records_text (flat_map records_of rows)
text_of_rows [] = refl
text_of_rows (row ∷ rows) =
    ap (λ (t : List ℕ). row_records_text row ++ t) (text_of_rows rows) ∙
    sym (flat_map-append record_text (records_of row) (flat_map records_of rows))

pub csv_read : (rows : List Row) → records default_config (csv_text rows) ≡ records_of_rows rows
csv_read rows =
    ap (λ (t : List ℕ). records default_config (record_text field_names ++ t)) (text_of_rows rows) ∙
    read_again (records_of_rows rows) (omega arith, rows_long rows)
