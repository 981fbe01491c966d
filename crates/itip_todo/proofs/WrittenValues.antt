-- What each property is written as is a value that it may have.
use Rattle.std.proofs.Common.{◌≡◌, ◌∙◌, ap, refl, sym, subst, ℕ, zero, suc, ◌==◌, ◌<◌, ◌≤◌, ◌^◌, Bool, true, false, cond, ◌&&◌, List, []}
use Rattle.std.proofs.Common.{◌∷◌, ◌++◌, append-nil, drop, get_or, arith, inr, Some, map}
use Rattle.std.specs.Prelude.{IsTrue, codes, not}
use Rattle.std.specs.Fmt.{decimal}
use Rattle.std.specs.List.{AllByRecursion, list_any, list_all}
use Rattle.std.specs.Str.{str_eq_ignore_ascii_case}
use Rattle.std.specs.Str.Parse.{without_leading_plus, digits_value, IsNumeral}
use Rattle.std.proofs.lemmas.Bool.{and_parts}
use Rattle.std.proofs.lemmas.Bool.Decides.{nat_tests}
use Rattle.std.proofs.lemmas.Fmt.{decimal_is_IsNumeral, decimal_digit, first_decimal}
use Rattle.itip_lines.specs.declared.line.Line.{Line}
use Rattle.itip_lines.specs.declared.line.Param.{Param}
use Rattle.itip_moment.specs.Written.{moment_text}
use Rattle.itip_moment.specs.declared.moment.Moment.{Moment}
use Rattle.itip_moment.specs.declared.moment.Moment.TheVariants.{Date, Floating, Utc, Zoned}
use Rattle.itip_moment.proofs.ValueLaws.{stamp_text-IsStampText, moment_text-MomentText, local_text-IsLocalText}
use Rattle.itip_todo.specs.Lawful.{IsLawful, IsLawfulContent, HasValue}
use Rattle.itip_todo.specs.Participation.{same_text, param_value}
use Rattle.itip_todo.specs.Parts.{Parts}
use Rattle.itip_todo.specs.StatusText.{status_text, status_of}
use Rattle.itip_todo.specs.Table.{property_of, is_same, is_other, sequence_limit, percent_limit, priority_limit}
use Rattle.itip_todo.specs.Values.{IsNumberUpTo, IsMomentText, IsGoodValue}
use Rattle.itip_todo.specs.Written.{Content, content_of, plain, moment_line, rid_line, property_line, moment_params, range_params}
use Rattle.itip_todo.specs.Written.{parts_contents}
use Rattle.itip_todo.specs.declared.property_name.PropertyName.{PropertyName}
use Rattle.itip_todo.specs.declared.property_name.PropertyName.TheVariants as name
use Rattle.itip_todo.specs.declared.status.Status.{Status}
use Rattle.itip_todo.specs.declared.status.Status.TheVariants as status
use Rattle.itip_todo.proofs.ByProperty.{rdate_property}
use Rattle.itip_todo.proofs.GoodAgain.{IsGoodAlone}
use Rattle.itip_todo.proofs.Names.{same_is}
use Rattle.itip_todo.proofs.Segments.{AllParts, all_parts, all_optional, all_map, all_weaker}

no_plus : (first : ℕ) → 48 ≤ first → (first == 43) ≡ false
no_plus first h = grind (arith, nat_tests)

first_digit : (n : ℕ) → n < 2 ^ 64 → 48 ≤ get_or (decimal n) 0 0
first_digit zero h = let e = ap (λ (ds : List ℕ). get_or ds 0 0) (decimal_digit 0 (omega arith)) in omega (arith, e)
first_digit (suc n) h = omega (arith, first_decimal (suc n) (omega arith) h)

no_sign : (n : ℕ) → n < 2 ^ 64 → without_leading_plus (decimal n) ≡ decimal n
no_sign n h = ap (λ (b : Bool). drop (cond b 1 0) (decimal n)) (no_plus (get_or (decimal n) 0 0) (first_digit n h))

pub number_back : (limit n : ℕ) → n ≤ limit → limit < 2 ^ 64 → IsNumberUpTo limit (decimal n) n
number_back limit n h small =
    let below : n < 2 ^ 64 = omega arith in
    let is = decimal_is_IsNumeral n below in
    inr (record {
      numeral = subst (λ (ds : List ℕ). IsNumeral 10 ds) (sym (no_sign n below)) is.0;
      value = sym (ap (λ (ds : List ℕ). digits_value 10 ds) (no_sign n below) ∙ is.1);
      small = h;
    })

pub moment_back : (m : Moment) → IsMomentText (moment_params m) (moment_text m) m
moment_back (Date day) = moment_text-MomentText (Date day)
moment_back (Floating at) = (local_text-IsLocalText at, refl)
moment_back (Utc at) = moment_text-MomentText (Utc at)
moment_back (Zoned zone at) = (local_text-IsLocalText at, refl)

pub status_back : (s : Status) → status_of (status_text s) ≡ Some s
status_back status.NeedsAction = refl
status_back status.Completed = refl
status_back status.InProcess = refl
status_back status.Cancelled = refl

-- the range that parameters give
abbrev pub ranges_in : List Param → Bool
ranges_in params = str_eq_ignore_ascii_case (param_value (codes "RANGE") params) (codes "THISANDFUTURE")

-- parameters with a range that is none
abbrev bad_in : List Param → Bool
bad_in params = list_any (λ (param : Param). same_text param.name (codes "RANGE")) params && not (ranges_in params)

pub rid_back : (m : Moment) (b : Bool) → IsMomentText (moment_params m ++ range_params b) (moment_text m) m
rid_back m false = subst (λ (ps : List Param). IsMomentText ps (moment_text m) m) (sym (append-nil (moment_params m))) (moment_back m)
rid_back (Date day) true = moment_back (Date day)
rid_back (Floating at) true = moment_back (Floating at)
rid_back (Utc at) true = moment_back (Utc at)
rid_back (Zoned zone at) true = moment_back (Zoned zone at)

pub range_back : (m : Moment) (b : Bool) → ranges_in (moment_params m ++ range_params b) ≡ b
range_back (Date day) true = refl
range_back (Date day) false = refl
range_back (Floating at) true = refl
range_back (Floating at) false = refl
range_back (Utc at) true = refl
range_back (Utc at) false = refl
range_back (Zoned zone at) true = refl
range_back (Zoned zone at) false = refl

good_range : (m : Moment) (b : Bool) → bad_in (moment_params m ++ range_params b) ≡ false
good_range (Date day) true = refl
good_range (Date day) false = refl
good_range (Floating at) true = refl
good_range (Floating at) false = refl
good_range (Utc at) true = refl
good_range (Utc at) false = refl
good_range (Zoned zone at) true = refl
good_range (Zoned zone at) false = refl

-- nothing is wrong with a line of this content by itself
abbrev IsGoodContent : Content → Type 0
IsGoodContent c = (h : IsLawfulContent c) → IsGoodAlone (record { name = c.name; params = c.params; value = c.value; lawful = h })

every : {A : Type 0} (P : A → Type 0) (xs : List A) → ((x : A) → P x) → AllByRecursion P xs
every P [] h = tt
every P (x ∷ xs) h = (h x, every P xs h)

-- what is known of a line's property is known of the line
read_as_one : (line : Line) (p : PropertyName) → property_of line ≡ p → (is_same p name.RecurrenceId && bad_in line.params) ≡ false →
    IsGoodValue p line → IsGoodAlone line
read_as_one line p e range value = record {
  range = subst (λ (q : PropertyName). (is_same q name.RecurrenceId && bad_in line.params) ≡ false) (sym e) range;
  value = subst (λ (q : PropertyName). IsGoodValue q line) (sym e) value;
}

others_good : (lines : List Line) → IsTrue (list_all is_other lines) → AllByRecursion IsGoodContent (map content_of lines)
unfolding property_of
others_good [] h = tt
others_good (l ∷ lines) h =
    let two = and_parts _ _ h in (
      λ lawful. read_as_one (record { name = l.name; params = l.params; value = l.value; lawful = lawful }) name.Others
          (same_is (property_of l) name.Others two.0) refl tt,
      others_good lines two.1,
    )

parts_good : (parts : Parts) → IsLawful parts → AllParts IsGoodContent parts
unfolding property_of
parts_good parts lawful = record {
  head = (
    λ h. record { range = refl; value = lawful.uid },
    (
      λ h. record { range = refl; value = (parts.stamp, stamp_text-IsStampText parts.stamp) },
      (λ h. record { range = refl; value = (parts.seq, number_back sequence_limit parts.seq lawful.seq (omega arith)) }, tt),
    ),
  );
  base = all_optional IsGoodContent (λ (n : ℕ). plain name.DeskBase (decimal n)) parts.base
      (λ n e h. record { range = refl; value = (n, number_back sequence_limit n (lawful.base n e) (omega arith)) });
  rid = all_optional IsGoodContent (rid_line parts.range) parts.rid
      (λ m e h. record { range = good_range m parts.range; value = (m, rid_back m parts.range) });
  start = all_optional IsGoodContent (moment_line name.DtStart) parts.start (λ m e h. record { range = refl; value = (m, moment_back m) });
  due = all_optional IsGoodContent (moment_line name.Due) parts.due (λ m e h. record { range = refl; value = (m, moment_back m) });
  status = all_optional IsGoodContent (λ (s : Status). plain name.Status (status_text s)) parts.status
      (λ s e h. record { range = refl; value = (s, status_back s) });
  percent = all_optional IsGoodContent (λ (n : ℕ). plain name.PercentComplete (decimal n)) parts.percent
      (λ n e h. record { range = refl; value = (n, number_back percent_limit n (lawful.percent n e) (omega arith)) });
  priority = all_optional IsGoodContent (λ (n : ℕ). plain name.Priority (decimal n)) parts.priority
      (λ n e h. record { range = refl; value = (n, number_back priority_limit n (lawful.priority n e) (omega arith)) });
  summary = all_optional IsGoodContent (property_line name.Summary) parts.summary (λ p e h. record { range = refl; value = tt });
  organizer = all_optional IsGoodContent (property_line name.Organizer) parts.organizer
      (λ p e h. record { range = refl; value = lawful.organizer p e });
  attendee = all_map IsGoodContent (property_line name.Attendee) parts.attendees
      (all_weaker HasValue _ parts.attendees (λ p some h. record { range = refl; value = some }) lawful.attendee_values);
  rule = all_map IsGoodContent (plain name.RRule) parts.rule (every _ parts.rule (λ v h. record { range = refl; value = tt }));
  rdate = all_map IsGoodContent (moment_line name.RDate) parts.rdates
      (every _ parts.rdates (λ m h. read_as_one _ name.RDate (rdate_property m) refl (m ∷ [], moment_back m)));
  exdate = all_map IsGoodContent (moment_line name.ExDate) parts.exdates
      (every _ parts.exdates (λ m h. record { range = refl; value = (m ∷ [], moment_back m) }));
  other = others_good parts.others lawful.others;
}

lines_good : (lines : List Line) → AllByRecursion IsGoodContent (map content_of lines) → AllByRecursion IsGoodAlone lines
lines_good [] h = tt
lines_good (l ∷ lines) h = (h.0 l.lawful, lines_good lines h.1)

-- nor with the lines of the contents that a lawful to-do is written as
pub good_alone : (lines : List Line) (parts : Parts) → IsLawful parts → map content_of lines ≡ parts_contents parts →
    AllByRecursion IsGoodAlone lines
good_alone lines parts lawful e =
    lines_good lines (subst (λ (cs : List Content). AllByRecursion IsGoodContent cs) (sym e)
    (all_parts IsGoodContent parts (parts_good parts lawful)))
