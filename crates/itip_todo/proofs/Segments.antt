-- What holds of each line of a to-do.
use Rattle.std.proofs.Common.{◌≡◌, List, [], ◌∷◌, ◌++◌, map, refl, Option, Some, None}
use Rattle.std.specs.List.{AllByRecursion}
use Rattle.std.specs.Fmt.{decimal}
use Rattle.itip_todo.specs.Parts.{Parts}
use Rattle.itip_todo.specs.StatusText.{status_text}
use Rattle.itip_todo.specs.Written.{Content, content_of, plain, moment_line, rid_line, property_line, optional, head_contents}
use Rattle.itip_todo.specs.Written.{parts_contents}
use Rattle.itip_todo.specs.declared.property_name.PropertyName.TheVariants as name

pub all_append : {A : Type 0} (P : A → Type 0) (xs ys : List A) → AllByRecursion P xs → AllByRecursion P ys → AllByRecursion P (xs ++ ys)
all_append P [] ys h k = k
all_append P (x ∷ xs) ys h k = (h.0, all_append P xs ys h.1 k)

pub all_optional : {A : Type 0} (P : Content → Type 0) (f : A → Content) (v : Option A) → ((a : A) → v ≡ Some a → P (f a)) →
    AllByRecursion P (optional f v)
all_optional P f None h = tt
all_optional P f (Some a) h = (h a refl, tt)

pub all_map : {A B : Type 0} (P : B → Type 0) (f : A → B) (xs : List A) → AllByRecursion (λ x. P (f x)) xs → AllByRecursion P (map f xs)
all_map P f [] h = tt
all_map P f (x ∷ xs) h = (h.0, all_map P f xs h.1)

pub all_weaker : {A : Type 0} (P Q : A → Type 0) (xs : List A) → ((x : A) → P x → Q x) → AllByRecursion P xs → AllByRecursion Q xs
all_weaker P Q [] f h = tt
all_weaker P Q (x ∷ xs) f h = (f x h.0, all_weaker P Q xs f h.1)

-- the lines of each property, and those from it on

abbrev pub base_lines : Parts → List Content
base_lines parts = optional (λ n. plain name.DeskBase (decimal n)) parts.base

abbrev pub rid_lines : Parts → List Content
rid_lines parts = optional (rid_line parts.range) parts.rid

abbrev pub start_lines : Parts → List Content
start_lines parts = optional (moment_line name.DtStart) parts.start

abbrev pub due_lines : Parts → List Content
due_lines parts = optional (moment_line name.Due) parts.due

abbrev pub status_lines : Parts → List Content
status_lines parts = optional (λ s. plain name.Status (status_text s)) parts.status

abbrev pub percent_lines : Parts → List Content
percent_lines parts = optional (λ n. plain name.PercentComplete (decimal n)) parts.percent

abbrev pub priority_lines : Parts → List Content
priority_lines parts = optional (λ n. plain name.Priority (decimal n)) parts.priority

abbrev pub summary_lines : Parts → List Content
summary_lines parts = optional (property_line name.Summary) parts.summary

abbrev pub organizer_lines : Parts → List Content
organizer_lines parts = optional (property_line name.Organizer) parts.organizer

abbrev pub attendee_lines : Parts → List Content
attendee_lines parts = map (property_line name.Attendee) parts.attendees

abbrev pub rule_lines : Parts → List Content
rule_lines parts = map (plain name.RRule) parts.rule

abbrev pub rdate_lines : Parts → List Content
rdate_lines parts = map (moment_line name.RDate) parts.rdates

abbrev pub exdate_lines : Parts → List Content
exdate_lines parts = map (moment_line name.ExDate) parts.exdates

abbrev pub other_lines : Parts → List Content
other_lines parts = map content_of parts.others

abbrev pub other_on : Parts → List Content
other_on parts = other_lines parts

abbrev pub exdate_on : Parts → List Content
exdate_on parts = exdate_lines parts ++ other_on parts

abbrev pub rdate_on : Parts → List Content
rdate_on parts = rdate_lines parts ++ exdate_on parts

abbrev pub rule_on : Parts → List Content
rule_on parts = rule_lines parts ++ rdate_on parts

abbrev pub attendee_on : Parts → List Content
attendee_on parts = attendee_lines parts ++ rule_on parts

abbrev pub organizer_on : Parts → List Content
organizer_on parts = organizer_lines parts ++ attendee_on parts

abbrev pub summary_on : Parts → List Content
summary_on parts = summary_lines parts ++ organizer_on parts

abbrev pub priority_on : Parts → List Content
priority_on parts = priority_lines parts ++ summary_on parts

abbrev pub percent_on : Parts → List Content
percent_on parts = percent_lines parts ++ priority_on parts

abbrev pub status_on : Parts → List Content
status_on parts = status_lines parts ++ percent_on parts

abbrev pub due_on : Parts → List Content
due_on parts = due_lines parts ++ status_on parts

abbrev pub start_on : Parts → List Content
start_on parts = start_lines parts ++ due_on parts

abbrev pub rid_on : Parts → List Content
rid_on parts = rid_lines parts ++ start_on parts

abbrev pub base_on : Parts → List Content
base_on parts = base_lines parts ++ rid_on parts

-- what holds of each line
pub record AllParts (P : Content → Type 0) (parts : Parts) : Type 0 where
  pub head : AllByRecursion P (head_contents parts)
  pub base : AllByRecursion P (base_lines parts)
  pub rid : AllByRecursion P (rid_lines parts)
  pub start : AllByRecursion P (start_lines parts)
  pub due : AllByRecursion P (due_lines parts)
  pub status : AllByRecursion P (status_lines parts)
  pub percent : AllByRecursion P (percent_lines parts)
  pub priority : AllByRecursion P (priority_lines parts)
  pub summary : AllByRecursion P (summary_lines parts)
  pub organizer : AllByRecursion P (organizer_lines parts)
  pub attendee : AllByRecursion P (attendee_lines parts)
  pub rule : AllByRecursion P (rule_lines parts)
  pub rdate : AllByRecursion P (rdate_lines parts)
  pub exdate : AllByRecursion P (exdate_lines parts)
  pub other : AllByRecursion P (other_lines parts)

pub all_parts : (P : Content → Type 0) (parts : Parts) → AllParts P parts → AllByRecursion P (parts_contents parts)
all_parts P parts h =
    all_append P (head_contents parts) (base_on parts) h.head
    (all_append P (base_lines parts) (rid_on parts) h.base
    (all_append P (rid_lines parts) (start_on parts) h.rid
    (all_append P (start_lines parts) (due_on parts) h.start
    (all_append P (due_lines parts) (status_on parts) h.due
    (all_append P (status_lines parts) (percent_on parts) h.status
    (all_append P (percent_lines parts) (priority_on parts) h.percent
    (all_append P (priority_lines parts) (summary_on parts) h.priority
    (all_append P (summary_lines parts) (organizer_on parts) h.summary
    (all_append P (organizer_lines parts) (attendee_on parts) h.organizer
    (all_append P (attendee_lines parts) (rule_on parts) h.attendee
    (all_append P (rule_lines parts) (rdate_on parts) h.rule
    (all_append P (rdate_lines parts) (exdate_on parts) h.rdate
    (all_append P (exdate_lines parts) (other_on parts) h.exdate h.other)))))))))))))
