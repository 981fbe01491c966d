-- Objects as they are written, and as they are read.
use Rattle.std.proofs.Common.{◌≡◌, ◌==◌, true, false, ◌≤◌, ◌-◌, ℕ, length, take, drop, get_or, take_all, ap₂}
use Rattle.std.proofs.Common.{List, [], ◌∷◌, ◌++◌, map, refl, sym, ap, subst, ◌∙◌, arith, append_assoc}
use Rattle.std.proofs.Common.{Option, Some, None}
use Rattle.std.specs.Prelude.{codes, option_map}
use Rattle.std.specs.List.{flat_map}
use Rattle.std.proofs.lemmas.Bool.{eqb-true, eqb-false}
use Rattle.std.proofs.lemmas.List.{nil_from_length}
use Rattle.std.proofs.lemmas.List.Concat.{flat_map-append}
use Rattle.json.specs.Json.{string, array, object, document}
use Rattle.json.specs.Token.{Token, begin_object, end_object, begin_array, end_array}
use Rattle.json.specs.Tree.{json_tokens, items_tokens, members_tokens, depth, items_depth, HasNumbers, ItemsHaveNumbers}
use Rattle.json.proofs.Printed.Trees.{document-print}
use Rattle.std.specs.Io.KnownBytes.{Appends}
use Rattle.itip_moment.specs.Shown.{shown_moment}
use Rattle.itip_todo.specs.Participation.{partstat_text}
use Rattle.itip_todo.specs.StatusText.{status_text}
use Rattle.itip_streams.specs.Written.{AppendsFront, MovesOut}
use Rattle.itip_streams.proofs.Writing.{moves_more, moves_on, all_moved, front_moved, front_longer, front_none}
use Rattle.itip_view.specs.ByUid.{AreLeft, IsDone, IsPart}
use Rattle.itip_view.specs.declared.by_uid.RowsByUid.{RowsByUid}
use Rattle.itip_view.specs.declared.row.Row.{Row}
use Rattle.itip_view.specs.declared.row.ShownAttendee.{ShownAttendee}
use Rattle.itip_view.proofs.FlatMap.{then_more}
use Rattle.itip_inbox.specs.Json.{Member, members_of, items_of, number_json, text_json}
use Rattle.itip_inbox.specs.Json.{attendee_object, row_object, object_text, object_behind}
use Rattle.itip_inbox.specs.Json.{json_text, attendee_members}
use Rattle.itip_inbox.specs.Csv.{row_name}
use Rattle.itip_inbox.specs.JsonTokens.{named_tokens, attendee_tokens, member_tokens, opened_text, IsFrontOf}
use Rattle.itip_inbox.proofs.Numerals.{IsNumber-numeral}
use Rattle.itip_inbox.proofs.Pieces.{join_four, three_put}

-- ---- tokens

pub members_are : (members : List Member) → members_tokens (members_of members) ≡ named_tokens members ++ end_object ∷ []
members_are [] = refl
members_are (m ∷ members) =
    ap (λ (t : List Token). member_tokens m ++ t) (members_are members) ∙
    sym (append_assoc (member_tokens m) (named_tokens members) (end_object ∷ []))

pub items_are : (attendees : List ShownAttendee) →
    items_tokens (items_of (map attendee_object attendees)) ≡ flat_map attendee_tokens attendees ++ end_array ∷ []
items_are [] = refl
items_are (attendee ∷ attendees) =
    ap (λ (t : List Token). attendee_tokens attendee ++ t) (items_are attendees) ∙
    sym (append_assoc (attendee_tokens attendee) (flat_map attendee_tokens attendees) (end_array ∷ []))

-- an object is written as its first token, its members and its last token
pub object_written : (a b c d : List Member) (old t0 t1 t2 t3 t4 new : List Token) → t0 ≡ old ++ begin_object ∷ [] →
    t1 ≡ t0 ++ named_tokens a → t2 ≡ t1 ++ named_tokens b → t3 ≡ t2 ++ named_tokens c → t4 ≡ t3 ++ named_tokens d →
    new ≡ t4 ++ end_object ∷ [] → new ≡ old ++ json_tokens (object (members_of (a ++ (b ++ (c ++ d)))))
object_written a b c d old t0 t1 t2 t3 t4 new first one two three four last =
    let end : List Token = end_object ∷ [] in
    let far : new ≡ t3 ++ (named_tokens d ++ end) = then_more t3 t4 new (named_tokens d) end four last in
    let third : new ≡ t2 ++ (named_tokens c ++ (named_tokens d ++ end)) =
    then_more t2 t3 new (named_tokens c) (named_tokens d ++ end) three far in
    let second : new ≡ t1 ++ (named_tokens b ++ (named_tokens c ++ (named_tokens d ++ end))) =
    then_more t1 t2 new (named_tokens b) (named_tokens c ++ (named_tokens d ++ end)) two third in
    let whole : new ≡ t0 ++ (named_tokens a ++ (named_tokens b ++ (named_tokens c ++ (named_tokens d ++ end)))) =
    then_more t0 t1 new (named_tokens a) (named_tokens b ++ (named_tokens c ++ (named_tokens d ++ end))) one second in
    then_more old t0 new (begin_object ∷ []) (named_tokens a ++ (named_tokens b ++ (named_tokens c ++ (named_tokens d ++ end)))) first
    whole ∙
    ap (λ (t : List Token). old ++ begin_object ∷ t)
    (join_four member_tokens a b c d end ∙ sym (members_are (a ++ (b ++ (c ++ d)))))

-- so is that of an attendee
pub attendee_written : (attendee : ShownAttendee) (old t0 t1 t2 t3 new : List Token) → t0 ≡ old ++ begin_object ∷ [] →
    t1 ≡ t0 ++ member_tokens (codes "address", string attendee.address) →
    t2 ≡ t1 ++ member_tokens (codes "partstat", string (partstat_text attendee.partstat)) →
    t3 ≡ t2 ++ member_tokens (codes "percent", number_json attendee.percent) → new ≡ t3 ++ end_object ∷ [] →
    new ≡ old ++ attendee_tokens attendee
attendee_written attendee old t0 t1 t2 t3 new first one two three last =
    let members : List Member = attendee_members attendee in
    let named : t3 ≡ t0 ++ named_tokens members =
    three_put member_tokens (codes "address", string attendee.address) (codes "partstat", string (partstat_text attendee.partstat))
    (codes "percent", number_json attendee.percent) t0 t1 t2 t3 one two three in
    let all : new ≡ t0 ++ (named_tokens members ++ end_object ∷ []) =
    then_more t0 t3 new (named_tokens members) (end_object ∷ []) named last in
    then_more old t0 new (begin_object ∷ []) (named_tokens members ++ end_object ∷ []) first all ∙
    ap (λ (t : List Token). old ++ begin_object ∷ t) (sym (members_are members))

-- an array of attendees is the value of a name
pub array_written : (name : Token) (attendees : List ShownAttendee) (old t0 t1 t2 new : List Token) → t0 ≡ old ++ name ∷ [] →
    t1 ≡ t0 ++ begin_array ∷ [] → t2 ≡ t1 ++ flat_map attendee_tokens attendees → new ≡ t2 ++ end_array ∷ [] →
    new ≡ old ++ name ∷ json_tokens (array (items_of (map attendee_object attendees)))
array_written name attendees old t0 t1 t2 new first second third last =
    let them : new ≡ t1 ++ (flat_map attendee_tokens attendees ++ end_array ∷ []) =
    then_more t1 t2 new (flat_map attendee_tokens attendees) (end_array ∷ []) third last in
    let all : new ≡ t0 ++ (begin_array ∷ (flat_map attendee_tokens attendees ++ end_array ∷ [])) =
    then_more t0 t1 new (begin_array ∷ []) (flat_map attendee_tokens attendees ++ end_array ∷ []) second them in
    then_more old t0 new (name ∷ []) (begin_array ∷ (flat_map attendee_tokens attendees ++ end_array ∷ [])) first all ∙
    ap (λ (t : List Token). old ++ name ∷ begin_array ∷ t) (sym (items_are attendees))

-- ---- what is read of an object

number_ok : (n : Option ℕ) → HasNumbers (number_json n)
number_ok None = tt
number_ok (Some n) = IsNumber-numeral n

text_ok : (text : Option (List ℕ)) → HasNumbers (text_json text)
text_ok None = tt
text_ok (Some text) = tt

attendees_ok : (attendees : List ShownAttendee) → ItemsHaveNumbers (items_of (map attendee_object attendees))
attendees_ok [] = tt
attendees_ok (attendee ∷ attendees) = ((tt, (tt, (number_ok attendee.percent, tt))), attendees_ok attendees)

flat : (n : Option ℕ) → depth (number_json n) ≡ 0
flat None = refl
flat (Some n) = refl

flat_text : (text : Option (List ℕ)) → depth (text_json text) ≡ 0
flat_text None = refl
flat_text (Some text) = refl

attendees_deep : (attendees : List ShownAttendee) → items_depth (items_of (map attendee_object attendees)) ≤ 1
attendees_deep [] = omega arith
attendees_deep (attendee ∷ attendees) = omega (arith, attendees_deep attendees, flat attendee.percent)

pub row_shallow : (row : Row) → depth (row_object row) ≤ 3
row_shallow row =
    omega (
      arith,
      flat_text (row_name row.id),
      flat_text (option_map status_text row.status),
      flat row.percent,
      flat row.priority,
      flat_text (option_map shown_moment row.start),
      flat_text (option_map shown_moment row.due),
      flat_text row.summary,
      attendees_deep row.attendees,
      flat row.progress,
    )

pub row_ok : (row : Row) → HasNumbers (row_object row)
row_ok row = (
  tt,
  (
    text_ok (row_name row.id),
    (
      IsNumber-numeral row.seq,
      (
        text_ok (option_map status_text row.status),
        (
          number_ok row.percent,
          (
            number_ok row.priority,
            (
              text_ok (option_map shown_moment row.start),
              (
                text_ok (option_map shown_moment row.due),
                (
                  text_ok row.summary,
                  (
                    attendees_ok row.attendees,
                    (number_ok row.progress, tt),
                  ),
                ),
              ),
            ),
          ),
        ),
      ),
    ),
  ),
)

pub object_read : (row : Row) → document (object_text row) ≡ Some (row_object row)
object_read row = document-print (row_object row) (row_ok row) (omega (arith, row_shallow row))

-- ---- the first rows

-- a vector of this length has no element, or some
pub empty_by : {X : Type 0} (xs : List X) (long : ℕ) → long ≡ length xs → (long == 0) ≡ true → xs ≡ []
empty_by xs long is none = nil_from_length xs (sym is ∙ eqb-true long 0 none)

pub some_by : {X : Type 0} (xs : List X) (long : ℕ) → long ≡ length xs → (long == 0) ≡ false → xs ≡ [] → ⊥
some_by xs long is some none = eqb-false long 0 some (is ∙ ap length none)

pub front_part : (old new : RowsByUid) (some : List Row) → IsPart old new some → (some ≡ [] → ⊥) → (all : List Row) → AreLeft old all →
    IsFrontOf new some all
front_part old new some part is_some all are =
    let split = part.splits all are in (split.0, split.1, split.2, λ none. absurd (is_some none))

pub no_part : (old new : RowsByUid) (some : List Row) → IsPart old new some → some ≡ [] → (all : List Row) → AreLeft old all →
    AreLeft new all
no_part old new some part none all are =
    let split = part.splits all are in
    subst (λ (rows : List Row). AreLeft new rows) (sym (split.2 ∙ ap (λ (rows : List Row). rows ++ split.0) none)) split.1

pub no_rows : (old new : RowsByUid) → IsDone old new → (all : List Row) → AreLeft old all → IsFrontOf new [] all
no_rows old new done all are =
    let none : all ≡ [] = (done.no_row all).0 are in (
      [],
      subst (λ (asked : RowsByUid). AreLeft asked []) (sym done.same) (subst (λ (rows : List Row). AreLeft old rows) none are),
      none,
      λ _. none,
    )

-- ---- the array

-- some rows are the first of them and the others
pub first_of : (rows : List Row) (first : Row) → 1 ≤ length rows → first ≡ get_or rows 0 first →
    rows ≡ first ∷ take (length rows - 1) (drop 1 rows)
first_of [] first some is = absurd (omega (arith, some))
first_of (row ∷ rows) first some is =
    ap₂ (λ (r : Row) (rs : List Row). r ∷ rs) (sym is) (sym (take_all (length (row ∷ rows) - 1) rows (omega arith)))

-- it is opened with the first object, and the others come after it
pub opened_again : (old p mid : List ℕ) (row : Row) (others rows : List Row) → p ≡ old ++ codes "[\n" → mid ≡ p ++ object_text row →
    rows ≡ row ∷ others → mid ++ flat_map object_behind others ≡ old ++ opened_text rows
opened_again old p mid row others rows first second are =
    ap (λ (t : List ℕ). t ++ flat_map object_behind others) second ∙ append_assoc p (object_text row) (flat_map object_behind others) ∙
    ap (λ (t : List ℕ). t ++ (object_text row ++ flat_map object_behind others)) first ∙
    append_assoc old (codes "[\n") (object_text row ++ flat_map object_behind others) ∙
    ap (λ (rs : List Row). old ++ opened_text rs) (sym are)

-- if it is opened with the first of all rows
module _ (old mid : Option (List ℕ)) (first rest all : List Row) (kept : List ℕ) (some : first ≡ [] → ⊥) (whole : all ≡ first ++ rest) where
  abbrev end : List ℕ
  end = codes "\n]\n"

  others : (row : Row) (rows more : List Row) →
      opened_text (row ∷ rows) ++ (flat_map object_behind more ++ end) ≡ json_text ((row ∷ rows) ++ more)
  others row rows more =
      ap (λ (t : List ℕ). codes "[\n" ++ t)
      (append_assoc (object_text row) (flat_map object_behind rows) (flat_map object_behind more ++ end) ∙
      ap (λ (t : List ℕ). object_text row ++ t)
      (sym (append_assoc (flat_map object_behind rows) (flat_map object_behind more) end) ∙
      ap (λ (t : List ℕ). t ++ end) (sym (flat_map-append object_behind rows more))))

  go : (rows : List Row) → (rows ≡ [] → ⊥) → opened_text rows ++ (flat_map object_behind rest ++ end) ≡ json_text (rows ++ rest)
  go [] none = absurd (none refl)
  go (row ∷ rows) none = others row rows rest

  array_text : (opened_text first ++ flat_map object_behind rest) ++ end ≡ json_text all
  array_text = append_assoc (opened_text first) (flat_map object_behind rest) end ∙ go first some ∙ ap json_text (sym whole)

  -- a prefix of it up to the last of the first rows
  pub opened_front : AppendsFront old mid (opened_text first) → AppendsFront old mid (json_text all)
  opened_front front =
      subst (λ (t : List ℕ). AppendsFront old mid t) array_text
      (front_longer old mid (opened_text first ++ flat_map object_behind rest) end
      (front_longer old mid (opened_text first) (flat_map object_behind rest) front))

  module _ (opened : MovesOut old mid (opened_text first) kept) (new : Option (List ℕ)) where
    going_on : MovesOut old mid (opened_text first ++ flat_map object_behind rest) (kept ++ flat_map object_behind rest)
    going_on = moves_more old mid (opened_text first) kept opened (flat_map object_behind rest) (kept ++ flat_map object_behind rest) refl

    -- or up to the last of all
    pub rows_front : AppendsFront mid new (kept ++ flat_map object_behind rest) → AppendsFront old new (json_text all)
    rows_front front =
        subst (λ (t : List ℕ). AppendsFront old new t) array_text
        (front_longer old new (opened_text first ++ flat_map object_behind rest) end
        (front_moved old mid (opened_text first ++ flat_map object_behind rest) (kept ++ flat_map object_behind rest) going_on new front))

    module _ (held : List ℕ) (moved : MovesOut mid new (kept ++ flat_map object_behind rest) held) where
      all_rows : MovesOut old new (opened_text first ++ flat_map object_behind rest) held
      all_rows =
          moves_on old mid (opened_text first ++ flat_map object_behind rest) (kept ++ flat_map object_behind rest) going_on new held moved

      -- nothing more is written
      pub rows_stay : AppendsFront old new (json_text all)
      rows_stay =
          subst (λ (t : List ℕ). AppendsFront old new t) array_text
          (front_longer old new (opened_text first ++ flat_map object_behind rest) end
          (front_moved old new (opened_text first ++ flat_map object_behind rest) held all_rows new (front_none new held)))

      module _ (last : List ℕ) (last_is : last ≡ held ++ end) (after : Option (List ℕ)) where
        closed : MovesOut old new (json_text all) last
        closed =
            subst (λ (t : List ℕ). MovesOut old new t last) array_text
            (moves_more old new (opened_text first ++ flat_map object_behind rest) held all_rows end last last_is)

        pub array_written_out : Appends new after last → Appends old after (json_text all)
        array_written_out appended = all_moved old new (json_text all) last closed after appended

        pub array_cut : AppendsFront new after last → AppendsFront old after (json_text all)
        array_cut front = front_moved old new (json_text all) last closed after front
