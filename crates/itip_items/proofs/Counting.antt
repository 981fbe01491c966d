-- How many lines a canonical form has.
use Rattle.std.proofs.Common.{◌≡◌, refl, ℕ, ◌+◌, List, [], ◌∷◌, ◌++◌, length, length-append, arith, Option, Some, None}
use Rattle.std.specs.Option.{is_some}
use Rattle.std.proofs.lemmas.List.{length-map}
use Rattle.itip_todo.specs.Parts.{Parts}
use Rattle.itip_todo.specs.Written.{Content, content_of, parts_contents, property_line, moment_line, plain, optional}
use Rattle.itip_todo.specs.declared.property_name.PropertyName.TheVariants as name
use Rattle.std.specs.Prelude.{codes}
use Rattle.itip_items.specs.Items.{bare, canonical_contents, one_if}
use Rattle.itip_items.specs.declared.kind.Kind.{Kind}
use Rattle.itip_items.proofs.Pieces.{base_of, rid_of, start_of, due_of, status_of, percent_of, priority_of, summary_of, organizer_of}
use Rattle.itip_items.proofs.Pieces.{attendees_of, rule_of, rdates_of, exdates_of, others_of, from_rid, from_start, from_due, from_status}
use Rattle.itip_items.proofs.Pieces.{from_percent, from_priority, from_summary, from_organizer, from_attendees, from_rule, from_rdates}
use Rattle.itip_items.proofs.Pieces.{from_exdates}

abbrev ends : List Content
ends = bare (codes "END") (codes "VTODO") ∷ bare (codes "END") (codes "VCALENDAR") ∷ []

option_length : {A : Type 0} (line : A → Content) (o : Option A) → length (optional line o) ≡ one_if (is_some o)
option_length line None = refl
option_length line (Some a) = refl

then_length : (cs ds : List Content) (m n : ℕ) → length cs ≡ m → length ds ≡ n → length (cs ++ ds) ≡ m + n
then_length cs ds m n h k = let both = length-append cs ds in omega (arith, h, k)

behind_base : (p : Parts) → length (from_rid p)
    ≡ one_if (is_some p.rid) + (one_if (is_some p.start) +
    (one_if (is_some p.due) + (one_if (is_some p.status) + (one_if (is_some p.percent)
    + (one_if (is_some p.priority) + (one_if (is_some p.summary) +
    (one_if (is_some p.organizer) + (length p.attendees +
    (length p.rule + (length p.rdates + (length p.exdates + length p.others)))))))))))
behind_base p =
    then_length (rid_of p) (from_start p) _ _ (option_length _ p.rid)
    (then_length (start_of p) (from_due p) _ _ (option_length _ p.start)
    (then_length (due_of p) (from_status p) _ _ (option_length _ p.due)
    (then_length (status_of p) (from_percent p) _ _ (option_length _ p.status)
    (then_length (percent_of p) (from_priority p) _ _ (option_length _ p.percent)
    (then_length (priority_of p) (from_summary p) _ _ (option_length _ p.priority)
    (then_length (summary_of p) (from_organizer p) _ _ (option_length _ p.summary)
    (then_length (organizer_of p) (from_attendees p) _ _ (option_length _ p.organizer)
    (then_length (attendees_of p) (from_rule p) _ _ (length-map p.attendees (property_line name.Attendee))
    (then_length (rule_of p) (from_rdates p) _ _ (length-map p.rule (plain name.RRule))
    (then_length (rdates_of p) (from_exdates p) _ _ (length-map p.rdates (moment_line name.RDate))
    (then_length (exdates_of p) (others_of p) _ _ (length-map p.exdates (moment_line name.ExDate))
    (length-map p.others content_of))))))))))))

pub count_is : (k : Kind) (p : Parts) → length (canonical_contents k p)
    ≡ 10 + (one_if (is_some p.base) + (one_if (is_some p.rid) +
    (one_if (is_some p.start) + (one_if (is_some p.due) + (one_if (is_some p.status) + (one_if (is_some p.percent)
    + (one_if (is_some p.priority) + (one_if (is_some p.summary) +
    (one_if (is_some p.organizer) + (length p.attendees +
    (length p.rule + (length p.rdates + (length p.exdates + length p.others)))))))))))))
count_is k p =
    let tail : length (base_of p ++ from_rid p) ≡ one_if (is_some p.base) + length (from_rid p) =
    then_length (base_of p) (from_rid p) _ _ (option_length _ p.base) refl in
    let whole : length (parts_contents p ++ ends) ≡ length (parts_contents p) + 2 = then_length (parts_contents p) ends _ _ refl refl in
    let behind = behind_base p in
    omega (arith, tail, whole, behind)
