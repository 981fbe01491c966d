-- What is read of the lines of moments and of a DTSTAMP that a program gives: one line each, with the zone as it is.
use Rattle.std.proofs.Common.{◌≡◌, ◌≢◌, ◌∙◌, refl, sym, ap, subst, ℕ, ◌<◌, true, false, cond, List, [], ◌∷◌, ◌++◌, length}
use Rattle.std.proofs.Common.{arith, append_assoc, append-nil, length-append, eq-eqb, inl, inr}
use Rattle.std.specs.Prelude.{codes}
use Rattle.std.specs.List.{list_all, list_any}
use Rattle.std.proofs.lemmas.Bool.{and_parts}
use Rattle.std.proofs.lemmas.Bool.Decides.{nat_tests}
use Rattle.std.proofs.lemmas.List.Elements.{All-cons, All-nil}
use Rattle.std.proofs.lemmas.List.Folds.{list_all-append}
use Rattle.itip_lines.specs.UnfoldedLines.{IsCutting, NumberedText, HasNoLf, numbered_lines_of}
use Rattle.itip_lines.specs.Lawful.{value_text, params_text, IsName}
use Rattle.itip_lines.specs.Octets.{is_value_octet, is_quotable_octet, is_separator}
use Rattle.itip_lines.specs.Reading.{IsGood, line_at, AreLines, Reads}
use Rattle.itip_lines.specs.Spelling.{ValueThen, IsTail, Spells}
use Rattle.itip_lines.specs.Writing.{unfolded_text}
use Rattle.itip_lines.specs.declared.line.Line.{Line}
use Rattle.itip_lines.specs.declared.line.NumberedLine.{NumberedLine}
use Rattle.itip_lines.proofs.Cuttings.{numbered_of_cut}
use Rattle.itip_lines.proofs.Lines.{one_spelling}
use Rattle.itip_lines.proofs.OctetLemmas.{value_no_break}
use Rattle.itip_lines.proofs.OneReading.{one_reading, reading_apart}
use Rattle.itip_lines.proofs.Roundtrip.{name_spells, plain_without, line_spells, clean_line, utf8_line}
use Rattle.itip_moment.specs.Written.{date_text, clock_text, local_text, stamp_text, moment_text}
use Rattle.itip_moment.specs.declared.day.Day.{Day}
use Rattle.itip_moment.specs.declared.moment.Moment.{Moment}
use Rattle.itip_moment.specs.declared.moment.Moment.TheVariants.{Date, Floating, Utc, Zoned}
use Rattle.itip_moment.specs.declared.stamp.Stamp.{Stamp}
use Rattle.itip_moment.proofs.WrittenOctets.{is_stamp_octet, stamp_text_octets}
use Rattle.itip_todo.proofs.LawfulLines.{stamp_lawful}
use Rattle.itip_items.specs.MethodNeeds.{is_property}
use Rattle.itip_message.specs.Building.{Adds, AddsMoment, RefusesText, bad_line, not_one, of_component, has_lawful_zone, zone_params}
use Rattle.itip_message.specs.Building.{moment_line_text}
use Rattle.itip_message.specs.declared.error.MessageRefusal.{MessageRefusal}
use Rattle.itip_message.proofs.Plain.{all_weaker, both, clean_name, clean_quotable}

-- ---- a text without a line feed is one line at most

no_feed : (text : List ℕ) → list_all is_value_octet text ≡ true → HasNoLf text
no_feed [] h = All-nil (λ b. b ≢ 10)
no_feed (b ∷ bs) h = let p = and_parts _ _ h in All-cons (λ x. x ≢ 10) b bs (other b p.0) (no_feed bs p.1)
  where
    other : (x : ℕ) → is_value_octet x ≡ true → x ≢ 10
    other x plain same = let differ : true ≡ false = sym (eq-eqb x 10 same) ∙ (value_no_break x plain).0 in cc

whole_cut : (text : List ℕ) → list_all is_value_octet text ≡ true → IsCutting text [] text
whole_cut text clean = record { whole = refl; each = tt; last_stretch = no_feed text clean }

whole_line : (text : List ℕ) (number : ℕ) (line : Line) → list_all is_value_octet text ≡ true → 0 < length text →
    Reads text (line_at number line ∷ []) → IsGood 1 text line
whole_line text number line clean some reads =
    only text some (subst (λ (ts : List NumberedText). AreLines 1 ts (line_at number line ∷ []))
    (numbered_of_cut text reads.pieces reads.last reads.cut ∙ sym (numbered_of_cut text [] text (whole_cut text clean))) reads.lines_are)
  where
    only : (t : List ℕ) → 0 < length t → AreLines 1 (numbered_lines_of [] t) (line_at number line ∷ []) → IsGood 1 t line
    only [] more are = absurd (omega (arith, more))
    only (b ∷ t) more are = are.1

-- ---- the text of a moment

stamp_value : (b : ℕ) → is_stamp_octet b ≡ true → is_value_octet b ≡ true
stamp_value b e = grind (arith, nat_tests)

front : (xs ys : List ℕ) → list_all is_stamp_octet (xs ++ ys) ≡ true → list_all is_stamp_octet xs ≡ true
front xs ys e = (and_parts _ _ (sym (list_all-append is_stamp_octet xs ys) ∙ e)).0

local_octets : (at : Stamp) → list_all is_stamp_octet (local_text at.day at.second) ≡ true
local_octets at = front (local_text at.day at.second) (90 ∷ []) (stamp_text_octets at).0

date_octets : (day : Day) → list_all is_stamp_octet (date_text day.number) ≡ true
date_octets day =
    let at : Stamp = record { day = day.number; second = 0; in_years = day.in_years; in_day = omega arith } in
    front (date_text day.number) (84 ∷ clock_text 0) (local_octets at)

stamp_octets : (moment : Moment) → list_all is_stamp_octet (moment_text moment) ≡ true
stamp_octets (Date day) = date_octets day
stamp_octets (Floating at) = local_octets at
stamp_octets (Utc at) = (stamp_text_octets at).0
stamp_octets (Zoned zone at) = local_octets at

clean_moment : (moment : Moment) → list_all is_value_octet (moment_text moment) ≡ true
clean_moment moment = all_weaker is_stamp_octet is_value_octet stamp_value (moment_text moment) (stamp_octets moment)

-- ---- the zone beside it

clean_zone : (moment : Moment) → has_lawful_zone moment ≡ true → list_all is_value_octet (params_text (zone_params moment)) ≡ true
clean_zone (Date day) h = refl
clean_zone (Floating at) h = refl
clean_zone (Utc at) h = refl
clean_zone (Zoned zone at) h =
    both (codes ";TZID=") (value_text zone.bytes ++ []) refl (both (value_text zone.bytes) [] (clean_quotable zone.bytes h) refl)

value_spells : (value rest : List ℕ) → list_all is_quotable_octet value ≡ true → ValueThen (value_text value ++ rest) value rest
value_spells value rest h =
    elim (list_any is_separator value) as (λ v. list_any is_separator value ≡ v →
    ValueThen (cond v (34 ∷ (value ++ 34 ∷ [])) value ++ rest) value rest) [
      | true ↦ λ e. inl (h, ap (λ (t : List ℕ). 34 ∷ t) (append_assoc value (34 ∷ []) rest))
      | false ↦ λ e. inr (plain_without value h e, refl)
    ] refl

zone_spells : (moment : Moment) → has_lawful_zone moment ≡ true →
    IsTail (params_text (zone_params moment) ++ 58 ∷ moment_text moment) (zone_params moment) (moment_text moment)
zone_spells (Date day) h = (refl, clean_moment (Date day))
zone_spells (Floating at) h = (refl, clean_moment (Floating at))
zone_spells (Utc at) h = (refl, clean_moment (Utc at))
zone_spells (Zoned zone at) h =
    let value : List ℕ = moment_text (Zoned zone at) in (
      codes "TZID=" ++ (value_text zone.bytes ++ 58 ∷ value),
      58 ∷ value,
      ap (λ (t : List ℕ). codes ";TZID=" ++ (t ++ 58 ∷ value)) (append-nil (value_text zone.bytes)),
      record {
        spelled = codes "TZID";
        after = value_text zone.bytes ++ 58 ∷ value;
        whole = refl;
        named = name_spells (codes "TZID") (record { some = omega arith; upper = refl });
        values = value_spells zone.bytes (58 ∷ value) h;
      },
      (refl, clean_moment (Zoned zone at)),
    )

-- ---- the line of a moment

moment_spells : (name : List ℕ) (moment : Moment) → IsName name → has_lawful_zone moment ≡ true →
    Spells (moment_line_text name moment) name (zone_params moment) (moment_text moment)
moment_spells name moment named lawful = record {
  spelled = name;
  tail = params_text (zone_params moment) ++ 58 ∷ moment_text moment;
  whole = refl;
  named = name_spells name named;
  tail_is = zone_spells moment lawful;
}

clean_text : (name : List ℕ) (moment : Moment) → IsName name → has_lawful_zone moment ≡ true →
    list_all is_value_octet (moment_line_text name moment) ≡ true
clean_text name moment named lawful =
    both name (params_text (zone_params moment) ++ 58 ∷ moment_text moment) (clean_name name named)
    (both (params_text (zone_params moment)) (58 ∷ moment_text moment) (clean_zone moment lawful)
    (both (58 ∷ []) (moment_text moment) refl (clean_moment moment)))

pub moment_line : (name : List ℕ) (moment : Moment) (old new : List NumberedLine) → IsName name → has_lawful_zone moment ≡ true →
    Adds (moment_line_text name moment) old new → AddsMoment name moment old new
moment_line name moment old new named lawful adds =
    let text : List ℕ = moment_line_text name moment in
    let long = length-append name (params_text (zone_params moment) ++ 58 ∷ moment_text moment) in
    let some : 0 < length text = omega (arith, named.some, long) in
    let good : IsGood 1 text adds.line =
    whole_line text adds.is.number adds.line (clean_text name moment named lawful) some adds.is.reads in
    let one = one_spelling text adds.line.name adds.line.params adds.line.value name (zone_params moment) (moment_text moment) good.spells
    (moment_spells name moment named lawful) in
    record { line = adds.line; is = adds.is; name_is = one.0; params_are = one.1; value_is = one.2; whole = adds.whole }

-- ---- the line of a DTSTAMP

stamp_line : Stamp → Line
stamp_line stamp = record { name = codes "DTSTAMP"; params = []; value = stamp_text stamp; lawful = stamp_lawful stamp }

stamp_reads : (stamp : Stamp) → Reads (codes "DTSTAMP:" ++ stamp_text stamp) (line_at 1 (stamp_line stamp) ∷ [])
unfolding stamp_line unfolded_text
stamp_reads stamp = record {
  pieces = [];
  last = codes "DTSTAMP:" ++ stamp_text stamp;
  short = omega (arith, (stamp_lawful stamp).short);
  cut = whole_cut (codes "DTSTAMP:" ++ stamp_text stamp) (clean_line (stamp_line stamp)).octets;
  lines_are = (
    refl,
    record {
      within = record { few = omega arith; short = (stamp_lawful stamp).short };
      utf8 = utf8_line (stamp_line stamp);
      spells = line_spells (stamp_line stamp);
    },
    tt,
  );
}

first_same : (n m : ℕ) (l k : Line) → line_at n l ∷ [] ≡ line_at m k ∷ [] → l ≡ k
first_same n m l k e = ap (λ (ls : List NumberedLine). (first_of ls).line) e
  where
    first_of : List NumberedLine → NumberedLine
    first_of [] = line_at n l
    first_of (x ∷ xs) = x

pub stamp_taken : (stamp : Stamp) (number : ℕ) (refusal : MessageRefusal) →
    RefusesText (codes "DTSTAMP:" ++ stamp_text stamp) number refusal → ⊥
unfolding stamp_line
stamp_taken stamp number _ (bad_line of refuses) =
    reading_apart (codes "DTSTAMP:" ++ stamp_text stamp) (line_at 1 (stamp_line stamp) ∷ []) of (stamp_reads stamp) refuses
stamp_taken stamp number _ (not_one found reads several) =
    several (ap length (one_reading (codes "DTSTAMP:" ++ stamp_text stamp) found (line_at 1 (stamp_line stamp) ∷ []) reads
    (stamp_reads stamp)))
stamp_taken stamp number _ (of_component at line reads other) =
    let same : line_at at line ∷ [] ≡ line_at 1 (stamp_line stamp) ∷ [] = one_reading (codes "DTSTAMP:" ++ stamp_text stamp)
    (line_at at line ∷ []) (line_at 1 (stamp_line stamp) ∷ []) reads (stamp_reads stamp) in
    let property : is_property (stamp_line stamp) ≡ true = refl in
    let differ : true ≡ false = sym property ∙ sym (ap is_property (first_same at 1 line (stamp_line stamp) same)) ∙ other in
    apart differ
  where
    apart : true ≡ false → ⊥
    apart e = cc
