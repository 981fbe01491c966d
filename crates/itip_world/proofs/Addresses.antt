-- The address of an attendee is UTF-8, so no row shows one that isn't.
use Rattle.std.proofs.Common.{◌≡◌, ◌∙◌, ℕ, suc, ◌+◌, ◌<◌, ◌≤◌, true, false, cond, nat_lt, List, [], ◌∷◌, ◌++◌, map, length, get_or, IsUtf8}
use Rattle.std.proofs.Common.{◌⊎◌, inl, inr, refl, sym, ap, ap₂, subst, arith, append-nil, ltb-true}
use Rattle.std.specs.List.{Contains, AllByRecursion}
use Rattle.std.specs.Char.{to_ascii_lowercase}
use Rattle.std.specs.declared.cmp.Ordering.TheVariants.{Less}
use Rattle.std.proofs.lemmas.Bool.{and_parts, cases_lt}
use Rattle.std.proofs.lemmas.Str.{IsUtf8-append, IsUtf8-nil, IsUtf8-encode, encode_ascii, inside_one}
use Rattle.std.specs.Fmt.{decimal}
use Rattle.std.proofs.lemmas.List.{map-append}
use lib.Utf8.{scalars, encode, encodes, low_scalar}
use Rattle.itip_todo.specs.Lawful.{IsLawfulContent}
use Rattle.itip_todo.specs.Table.{attendee_key}
use Rattle.itip_todo.specs.Parts.{Parts}
use Rattle.itip_todo.specs.PartsOf.{parts_of}
use Rattle.itip_todo.specs.StatusText.{status_text}
use Rattle.itip_todo.specs.Written.{Content, optional, plain, moment_line, rid_line, property_line, head_contents, parts_contents}
use Rattle.itip_todo.specs.Properties.{Property}
use Rattle.itip_todo.specs.declared.property_name.PropertyName.TheVariants as name
use Rattle.itip_items.specs.declared.item.Item.{Item}
use Rattle.itip_state.proofs.Members.{none_in, cons_cases, no_pairs}
use Rattle.itip_view.specs.Rows.{IsRow, row_cmp}
use Rattle.itip_view.specs.Showing.{Shows}
use Rattle.itip_view.specs.declared.row.Row.{Row}
use Rattle.itip_view.specs.declared.window.Window.{Window}
use Rattle.itip_view.proofs.Needing.{row_needs_name}
use Rattle.itip_world.specs.Running.{AreListedFor}

-- ---- texts but for the case of letters

lower_is : (x : ℕ) → (to_ascii_lowercase x ≡ x) ⊎ ((x < 91) × (to_ascii_lowercase x ≡ x + 32))
lower_is x =
    elim (nat_lt x 65) as (λ b. (cond b x (cond (nat_lt x 91) (x + 32) x) ≡ x) ⊎
    ((x < 91) × (cond b x (cond (nat_lt x 91) (x + 32) x) ≡ x + 32))) [
      | true ↦ inl refl
      | false ↦ elim (nat_lt x 91) as (λ b. nat_lt x 91 ≡ b → (cond b (x + 32) x ≡ x) ⊎ ((x < 91) × (cond b (x + 32) x ≡ x + 32))) [
        | true ↦ λ e. inr (ltb-true x 91 e, refl)
        | false ↦ λ e. inl refl
      ] refl
    ]

low_before : (x c : ℕ) → to_ascii_lowercase x ≡ c → c < 128 → x < 128
low_before x c e low = elim (lower_is x) [
  | inl same ↦ omega (arith, e, same)
  | inr (small, moved) ↦ omega arith
]

high_same : (x c : ℕ) → to_ascii_lowercase x ≡ c → 128 ≤ c → x ≡ c
high_same x c e high = elim (lower_is x) [
  | inl same ↦ sym same ∙ e
  | inr (small, moved) ↦ absurd (omega (arith, e, moved))
]

ascii_then : (x : ℕ) (xs : List ℕ) → x < 128 → IsUtf8 xs → IsUtf8 (x ∷ xs)
ascii_then x xs small u = IsUtf8-append (x ∷ []) xs (subst IsUtf8 (encode_ascii x small) (IsUtf8-encode x (low_scalar x (omega arith)))) u

first_same : (x y : ℕ) (xs ys : List ℕ) → x ∷ xs ≡ y ∷ ys → x ≡ y
first_same x y xs ys e = ap (λ (l : List ℕ). get_or l 0 0) e

rest_same : (x y : ℕ) (xs ys : List ℕ) → x ∷ xs ≡ y ∷ ys → xs ≡ ys
rest_same x y xs ys e = cc

-- in lower case, bytes of no ASCII character are what they were before
same_front : (xs rest bs : List ℕ) → ((k : ℕ) → k < length xs → 128 ≤ get_or xs k 0) → xs ++ rest ≡ map to_ascii_lowercase bs →
    (more : List ℕ) × (bs ≡ xs ++ more) × (rest ≡ map to_ascii_lowercase more)
same_front [] rest bs high e = (bs, refl, e)
same_front (x ∷ xs) rest [] high e = absurd cc
same_front (x ∷ xs) rest (b ∷ bs) high e =
    let here : to_ascii_lowercase b ≡ x = sym (first_same x (to_ascii_lowercase b) (xs ++ rest) (map to_ascii_lowercase bs) e) in
    let more = same_front xs rest bs (λ k below. high (suc k) (omega arith))
    (rest_same x (to_ascii_lowercase b) (xs ++ rest) (map to_ascii_lowercase bs) e) in
    (more.0, ap₂ (λ (n : ℕ) (l : List ℕ). n ∷ l) (high_same b x here (high 0 (omega arith))) more.1, more.2)

all_high : (c : ℕ) → 128 ≤ c → (k : ℕ) → k < length (encode c) → 128 ≤ get_or (encode c) k 0
all_high c big k below = elim (cases_lt (get_or (encode c) k 0) 128) [
  | inl low ↦ absurd (omega (arith, inside_one c [] (encode c) k (sym (append-nil _)) below low))
  | inr h ↦ h
]

-- what an ASCII character in lower case was before
low_front : (c : ℕ) (rest bs : List ℕ) → c ∷ rest ≡ map to_ascii_lowercase bs → c < 128 → (b : ℕ) × (more : List ℕ) × (bs ≡ b ∷ more) ×
    (b < 128) × (rest ≡ map to_ascii_lowercase more)
low_front c rest [] e small = absurd cc
low_front c rest (b ∷ bs) e small =
    let here : to_ascii_lowercase b ≡ c = sym (first_same c (to_ascii_lowercase b) rest (map to_ascii_lowercase bs) e) in
    (b, bs, refl, low_before b c here small, rest_same c (to_ascii_lowercase b) rest (map to_ascii_lowercase bs) e)

lower_low : (c : ℕ) → c < 128 → to_ascii_lowercase c < 128
lower_low c low = elim (lower_is c) [
  | inl same ↦ omega (arith, same)
  | inr (small, moved) ↦ omega (arith, moved)
]

high_stays : (xs : List ℕ) → ((k : ℕ) → k < length xs → 128 ≤ get_or xs k 0) → map to_ascii_lowercase xs ≡ xs
high_stays [] high = refl
high_stays (x ∷ xs) high =
    ap₂ (λ (n : ℕ) (l : List ℕ). n ∷ l) (stays x (high 0 (omega arith))) (high_stays xs (λ k below. high (suc k) (omega arith)))
  where
    stays : (x : ℕ) → 128 ≤ x → to_ascii_lowercase x ≡ x
    stays x big = elim (lower_is x) [
      | inl same ↦ same
      | inr (small, moved) ↦ absurd (omega (arith, small, big))
    ]

-- what is a text but for the case of letters is a text
cased_text : (cs bs : List ℕ) → scalars cs ≡ true → map to_ascii_lowercase (encodes cs) ≡ map to_ascii_lowercase bs → IsUtf8 bs
cased_text [] [] s e = IsUtf8-nil
cased_text [] (b ∷ bs) s e = absurd cc
cased_text (c ∷ cs) bs s e =
    let p = and_parts _ _ s in
    let cut = sym (map-append to_ascii_lowercase (encode c) (encodes cs)) ∙ e in
    elim (cases_lt c 128) [
      | inl small ↦
          let split = low_front (to_ascii_lowercase c) (map to_ascii_lowercase (encodes cs)) bs
          (ap (λ (l : List ℕ). map to_ascii_lowercase l ++ map to_ascii_lowercase (encodes cs)) (sym (encode_ascii c small)) ∙ cut)
          (lower_low c small) in
          subst IsUtf8 (sym split.2) (ascii_then split.0 split.1 split.3 (cased_text cs split.1 p.1 split.4))
      | inr big ↦
          let stays : encode c ++ map to_ascii_lowercase (encodes cs) ≡ map to_ascii_lowercase bs =
          ap (λ (l : List ℕ). l ++ map to_ascii_lowercase (encodes cs)) (sym (high_stays (encode c) (all_high c big))) ∙ cut in
          let split = same_front (encode c) (map to_ascii_lowercase (encodes cs)) bs (all_high c big) stays in
          subst IsUtf8 (sym split.1) (IsUtf8-append (encode c) split.0 (IsUtf8-encode c p.0) (cased_text cs split.0 p.1 split.2))
    ]

text_of_key : (text address : List ℕ) → IsUtf8 text → attendee_key text ≡ attendee_key address → IsUtf8 address
text_of_key text address u same = cased_text u.0 address u.1.0 (ap (map to_ascii_lowercase) u.1.1 ∙ same)

-- ---- the addresses of a to-do

behind : (cs ds : List Content) → AllByRecursion IsLawfulContent (cs ++ ds) → AllByRecursion IsLawfulContent ds
behind [] ds h = h
behind (c ∷ cs) ds h = behind cs ds h.1

front : (cs ds : List Content) → AllByRecursion IsLawfulContent (cs ++ ds) → AllByRecursion IsLawfulContent cs
front [] ds h = tt
front (c ∷ cs) ds h = (h.0, front cs ds h.1)

module _ (parts : Parts) (lawful : AllByRecursion IsLawfulContent (parts_contents parts)) where
  attendees_lawful : AllByRecursion IsLawfulContent (map (property_line name.Attendee) parts.attendees)
  attendees_lawful =
      let base = behind (head_contents parts) _ lawful in
      let rid = behind (optional (λ n. plain name.DeskBase (decimal n)) parts.base) _ base in
      let start = behind (optional (rid_line parts.range) parts.rid) _ rid in
      let due = behind (optional (moment_line name.DtStart) parts.start) _ start in
      let status = behind (optional (moment_line name.Due) parts.due) _ due in
      let percent = behind (optional (λ s. plain name.Status (status_text s)) parts.status) _ status in
      let priority = behind (optional (λ n. plain name.PercentComplete (decimal n)) parts.percent) _ percent in
      let summary = behind (optional (λ n. plain name.Priority (decimal n)) parts.priority) _ priority in
      let organizer = behind (optional (property_line name.Summary) parts.summary) _ summary in
      let attendees = behind (optional (property_line name.Organizer) parts.organizer) _ organizer in
      front (map (property_line name.Attendee) parts.attendees) _ attendees

address_utf8 : (lines : List Property) → AllByRecursion IsLawfulContent (map (property_line name.Attendee) lines) → (line : Property) →
    Contains lines line → IsUtf8 line.value
address_utf8 [] lawful line h = absurd (none_in line h)
address_utf8 (first ∷ lines) lawful line h = elim (cons_cases first lines line h) [
  | inl same ↦ subst (λ (p : Property). IsUtf8 p.value) same lawful.0.utf8
  | inr later ↦ address_utf8 lines lawful.1 line later
]

-- ---- rows

pub none_shows : (heard : List Item) (window : Window) (address : List ℕ) → (¬ IsUtf8 address) → (row : Row) → IsRow heard window row →
    Shows address row → ⊥
none_shows heard window address not row is shows =
    let named = row_needs_name heard address window row is shows in
    let parts = parts_of named.item.todo in
    let utf8 : IsUtf8 named.names.line.value =
    address_utf8 parts.attendees (attendees_lawful parts named.item.todo.lawful.lines) named.names.line named.names.there in
    not (text_of_key named.names.line.value address utf8 named.names.named)

pub none_listed : (heard : List Item) (window : Window) (address : List ℕ) → (¬ IsUtf8 address) → AreListedFor address heard window []
none_listed heard window address not = record {
  are_rows = record {
    ascend = no_pairs (λ (a b : Row). row_cmp a b ≡ Less);
    each = λ row h. absurd (none_in row h);
    holds = λ row h. absurd (none_in row h);
    all = λ row is shows. absurd (none_shows heard window address not row is shows);
  };
  few = omega arith;
}
