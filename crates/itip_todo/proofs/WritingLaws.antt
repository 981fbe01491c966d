-- What a to-do is written as is read as this to-do.
use Rattle.std.proofs.Common.{◌≡◌, ◌∙◌, ap, refl, sym, subst, ℕ, suc, ◌<◌, ◌≤◌, Bool, true, false, List, [], ◌∷◌, length, arith, Option}
use Rattle.std.proofs.Common.{Some, None, map}
use Rattle.std.specs.Fmt.{decimal}
use Rattle.std.specs.List.{IsDistinct}
use Rattle.std.specs.Option.{is_some}
use Rattle.std.specs.Prelude.{IsTrue}
use mathlib.Core.HLevel.{is_prop→PathP}
use Rattle.std.proofs.lemmas.Option.{same_Some}
use Rattle.itip_lines.specs.Lawful as line
use Rattle.itip_lines.specs.declared.line.Line.{Line}
use Rattle.itip_moment.specs.Spelling.{IsStampText}
use Rattle.itip_moment.specs.Written.{stamp_text}
use Rattle.itip_moment.specs.declared.moment.Moment.{Moment}
use Rattle.itip_moment.proofs.ValueLaws.{stamp_text-IsStampText}
use Rattle.itip_todo.specs.Lawful.{IsLawful, keys_of}
use Rattle.itip_todo.specs.Participation.{same_text}
use Rattle.itip_todo.specs.Parts.{Parts}
use Rattle.itip_todo.specs.PartsOf.{parts_of}
use Rattle.itip_todo.specs.Reading.{ReadsTodo, lines_of, first_of, range_of, IsOptional, IsOrNought, IsUidOf, IsStampOf, IsSequenceOf}
use Rattle.itip_todo.specs.Reading.{IsPercentOf, IsPriorityOf, IsMomentOf, IsStatusOf, IsPropertyOf, IsOrganizerOf, whole_property}
use Rattle.itip_todo.specs.Reading.{value_of, key_of, ListMoments}
use Rattle.itip_todo.specs.StatusText.{status_of, status_text}
use Rattle.itip_todo.specs.Table.{stands_once, attendee_limit, sequence_limit, percent_limit, priority_limit}
use Rattle.itip_todo.specs.Values.{IsNumberUpTo, IsMomentText}
use Rattle.itip_todo.specs.Written.{Content, content_of, plain, moment_line, rid_line, property_line, optional, parts_contents}
use Rattle.itip_todo.specs.Properties.{Property}
use Rattle.itip_todo.specs.declared.property_name.PropertyName.{PropertyName}
use Rattle.itip_todo.specs.declared.property_name.PropertyName.TheVariants as name
use Rattle.itip_todo.specs.declared.todo.Todo.{Todo}
use Rattle.itip_todo.proofs.ByProperty.{lines_named, segment}
use Rattle.itip_todo.proofs.GoodAgain.{AreFewEach, are_good}
use Rattle.itip_todo.proofs.WrittenValues.{number_back, moment_back, rid_back, range_back, ranges_in, status_back, good_alone}

as_many : (lines : List Line) → length (map content_of lines) ≡ length lines
as_many [] = refl
as_many (l ∷ lines) = ap suc (as_many lines)

many_of : {A : Type 0} (f : A → Content) (xs : List A) → length (map f xs) ≡ length xs
many_of f [] = refl
many_of f (x ∷ xs) = ap suc (many_of f xs)

one_at_most : {A : Type 0} (f : A → Content) (v : Option A) → length (optional f v) ≤ 1
one_at_most f None = omega arith
one_at_most f (Some x) = omega arith

once_each : (parts : Parts) (p : PropertyName) → stands_once p ≡ true → length (segment parts p) ≤ 1
once_each parts name.Uid e = omega arith
once_each parts name.DtStamp e = omega arith
once_each parts name.Sequence e = omega arith
once_each parts name.DeskBase e = one_at_most _ parts.base
once_each parts name.RecurrenceId e = one_at_most _ parts.rid
once_each parts name.DtStart e = one_at_most _ parts.start
once_each parts name.Due e = one_at_most _ parts.due
once_each parts name.Status e = one_at_most _ parts.status
once_each parts name.PercentComplete e = one_at_most _ parts.percent
once_each parts name.Priority e = one_at_most _ parts.priority
once_each parts name.Summary e = one_at_most _ parts.summary
once_each parts name.Organizer e = one_at_most _ parts.organizer
once_each parts name.Attendee e = absurd cc
once_each parts name.RRule e = absurd cc
once_each parts name.RDate e = absurd cc
once_each parts name.ExDate e = absurd cc
once_each parts name.Others e = absurd cc

-- what lines were made of is told by their contents
made_of : {A : Type 0} (f : A → Content) (g : Line → A) → ((l : Line) (x : A) → content_of l ≡ f x → x ≡ g l) →
    (lines : List Line) (xs : List A) → map content_of lines ≡ map f xs → xs ≡ map g lines
made_of f g h [] [] e = refl
made_of f g h [] (x ∷ xs) e = absurd cc
made_of f g h (l ∷ lines) [] e = absurd cc
made_of f g h (l ∷ lines) (x ∷ xs) e =
    let head : content_of l ≡ f x = cc in
    let back : map content_of lines ≡ map f xs = cc in
    λ i. h l x head i ∷ made_of f g h lines xs back i

same_property : (p : PropertyName) (l : Line) (x : Property) → content_of l ≡ property_line p x → x ≡ whole_property l
same_property p l x e = λ i. record { params = (sym e i).params; value = (sym e i).value }

same_line : (l k : Line) → content_of l ≡ content_of k → k ≡ l
same_line l k e = let back = sym e in λ i. record {
  name = (back i).name;
  params = (back i).params;
  value = (back i).value;
  lawful = is_prop→PathP (λ j. line.IsLawful (back j).name (back j).params (back j).value)
      (λ j. line.IsLawful-prop (back j).name (back j).params (back j).value) k.lawful l.lawful i;
}

map_same : (lines : List Line) → map (λ (l : Line). l) lines ≡ lines
map_same [] = refl
map_same (l ∷ lines) = ap (λ ls. l ∷ ls) (map_same lines)

keys_back : (lines : List Line) → keys_of (map whole_property lines) ≡ map key_of lines
keys_back [] = refl
keys_back (l ∷ lines) = ap (λ ks. key_of l ∷ ks) (keys_back lines)

-- the first line of a property is what it was made of, where there is one
first_back : {A : Type 0} (P : Line → A → Type 0) (f : A → Content) (lines : List Line) (v : Option A) →
    map content_of lines ≡ optional f v → ((l : Line) (x : A) → v ≡ Some x → content_of l ≡ f x → P l x) → IsOptional P (first_of lines) v
first_back P f [] None e h = tt
first_back P f [] (Some x) e h = absurd cc
first_back P f (l ∷ lines) None e h = absurd cc
first_back P f (l ∷ lines) (Some x) e h = let head : content_of l ≡ f x = cc in h l x refl head

number_of : (limit : ℕ) (p : PropertyName) (l : Line) (n : ℕ) → n ≤ limit → limit ≤ 2147483647 → content_of l ≡ plain p (decimal n) →
    IsNumberUpTo limit l.value n
number_of limit p l n h small e = subst (λ (c : Content). IsNumberUpTo limit c.value n) (sym e) (number_back limit n h (omega arith))

moment_of : (p : PropertyName) (l : Line) (m : Moment) → content_of l ≡ moment_line p m → IsMomentOf l m
moment_of p l m e = subst (λ (c : Content). IsMomentText c.params c.value m) (sym e) (moment_back m)

-- there is a range only beside a moment
range_read : (lines : List Line) (v : Option Moment) (b : Bool) → map content_of lines ≡ optional (rid_line b) v →
    (IsTrue b → IsTrue (is_some v)) → b ≡ range_of (first_of lines)
range_read [] None true e h = absurd (let none : false ≡ true = h refl in cc)
range_read [] None false e h = refl
range_read [] (Some m) b e h = absurd cc
range_read (l ∷ lines) None b e h = absurd cc
range_read (l ∷ lines) (Some m) b e h = let head : content_of l ≡ rid_line b m = cc in
    sym (ap (λ (c : Content). ranges_in c.params) head ∙ range_back m b)

moments_back : (p : PropertyName) (lines : List Line) (ms : List Moment) → map content_of lines ≡ map (moment_line p) ms →
    ListMoments lines ms
moments_back p [] [] e = refl
moments_back p [] (m ∷ ms) e = absurd cc
moments_back p (l ∷ lines) [] e = absurd cc
moments_back p (l ∷ lines) (m ∷ ms) e =
    let head : content_of l ≡ moment_line p m = cc in
    let back : map content_of lines ≡ map (moment_line p) ms = cc in
    (m ∷ [], ms, refl, moment_of p l m head, moments_back p lines ms back)

sequence_back : (lines : List Line) (n : ℕ) → n ≤ sequence_limit → map content_of lines ≡ plain name.Sequence (decimal n) ∷ [] →
    IsOrNought IsSequenceOf (first_of lines) n
sequence_back [] n h e = absurd cc
sequence_back (l ∷ lines) n h e = let head : content_of l ≡ plain name.Sequence (decimal n) = cc in
    number_of sequence_limit name.Sequence l n h (omega arith) head

module _ (lines : List Line) (todo : Todo) (e : map content_of lines ≡ parts_contents (parts_of todo)) where
  parts : Parts
  parts = parts_of todo

  lawful : IsLawful (parts_of todo)
  lawful = todo.lawful

  at : (p : PropertyName) → map content_of (lines_of lines p) ≡ segment (parts_of todo) p
  at = lines_named lines (parts_of todo) lawful.others e

  attendees_back : todo.attendees ≡ map whole_property (lines_of lines name.Attendee)
  attendees_back = made_of (property_line name.Attendee) whole_property (same_property name.Attendee) (lines_of lines name.Attendee)
      todo.attendees (at name.Attendee)

  few_each : AreFewEach lines
  few_each = record {
    once = λ p h.
        let n = as_many (lines_of lines p) in
        let m : length (map content_of (lines_of lines p)) ≡ length (segment (parts_of todo) p) = ap length (at p) in
        let few = once_each (parts_of todo) p h in
        omega arith;
    few =
        let n = as_many (lines_of lines name.Attendee) in
        let m : length (map content_of (lines_of lines name.Attendee)) ≡ length (map (property_line name.Attendee) todo.attendees) =
        ap length (at name.Attendee) in
        let k = many_of (property_line name.Attendee) todo.attendees in
        let few : length todo.attendees ≤ attendee_limit = lawful.attendee_count in
        omega arith;
    apart = subst (λ (ks : List (List ℕ)). IsDistinct same_text ks) (ap keys_of attendees_back ∙ keys_back (lines_of lines name.Attendee))
        lawful.attendee_keys;
  }

  again : ReadsTodo lines todo
  again = record {
    good = are_good lines few_each (good_alone lines (parts_of todo) lawful e);
    uid = first_back IsUidOf (plain name.Uid) (lines_of lines name.Uid) (Some todo.uid) (at name.Uid)
        (λ l v s h. let uid : v ≡ l.value = ap (λ (c : Content). c.value) (sym h) in
        (uid, subst (λ (t : List ℕ). 0 < length t) uid (subst (λ (t : List ℕ). 0 < length t) (same_Some todo.uid v s) lawful.uid)));
    stamp = first_back IsStampOf (λ v. plain name.DtStamp (stamp_text v)) (lines_of lines name.DtStamp) (Some todo.stamp) (at name.DtStamp)
        (λ l v s h. subst (λ (c : Content). IsStampText c.value v) (sym h) (stamp_text-IsStampText v));
    seq = sequence_back (lines_of lines name.Sequence) todo.seq lawful.seq (at name.Sequence);
    base = first_back IsSequenceOf (λ n. plain name.DeskBase (decimal n)) (lines_of lines name.DeskBase) todo.base (at name.DeskBase)
        (λ l n s h. number_of sequence_limit name.DeskBase l n (lawful.base n s) (omega arith) h);
    rid = first_back IsMomentOf (rid_line todo.range) (lines_of lines name.RecurrenceId) todo.rid (at name.RecurrenceId)
        (λ l m s h. subst (λ (c : Content). IsMomentText c.params c.value m) (sym h) (rid_back m todo.range));
    range = range_read (lines_of lines name.RecurrenceId) todo.rid todo.range (at name.RecurrenceId) lawful.range;
    start = first_back IsMomentOf (moment_line name.DtStart) (lines_of lines name.DtStart) todo.start (at name.DtStart)
        (λ l m s h. moment_of name.DtStart l m h);
    due = first_back IsMomentOf (moment_line name.Due) (lines_of lines name.Due) todo.due (at name.Due)
        (λ l m s h. moment_of name.Due l m h);
    status = first_back IsStatusOf (λ s. plain name.Status (status_text s)) (lines_of lines name.Status) todo.status (at name.Status)
        (λ l v s h. subst (λ (c : Content). status_of c.value ≡ Some v) (sym h) (status_back v));
    percent = first_back IsPercentOf (λ n. plain name.PercentComplete (decimal n)) (lines_of lines name.PercentComplete) todo.percent
        (at name.PercentComplete) (λ l n s h. number_of percent_limit name.PercentComplete l n (lawful.percent n s) (omega arith) h);
    priority = first_back IsPriorityOf (λ n. plain name.Priority (decimal n)) (lines_of lines name.Priority) todo.priority
        (at name.Priority) (λ l n s h. number_of priority_limit name.Priority l n (lawful.priority n s) (omega arith) h);
    summary = first_back IsPropertyOf (property_line name.Summary) (lines_of lines name.Summary) todo.summary (at name.Summary)
        (λ l v s h. same_property name.Summary l v h);
    organizer = first_back IsOrganizerOf (property_line name.Organizer) (lines_of lines name.Organizer) todo.organizer (at name.Organizer)
        (λ l v s h. (same_property name.Organizer l v h, subst (λ (c : Content). 0 < length c.value) (sym h) (lawful.organizer v s)));
    attendees = attendees_back;
    rule = made_of (plain name.RRule) value_of (λ l v h. ap (λ (c : Content). c.value) (sym h)) (lines_of lines name.RRule) todo.rule
        (at name.RRule);
    rdates = record {
      listed = todo.rdates;
      list = moments_back name.RDate (lines_of lines name.RDate) todo.rdates (at name.RDate);
      ascending = lawful.rdates;
      each = λ m. (λ h. h, λ h. h);
    };
    exdates = record {
      listed = todo.exdates;
      list = moments_back name.ExDate (lines_of lines name.ExDate) todo.exdates (at name.ExDate);
      ascending = lawful.exdates;
      each = λ m. (λ h. h, λ h. h);
    };
    others = made_of content_of (λ (l : Line). l) same_line (lines_of lines name.Others) todo.others (at name.Others) ∙
        map_same (lines_of lines name.Others);
  }

pub read_again : (lines : List Line) (todo : Todo) → map content_of lines ≡ parts_contents (parts_of todo) → ReadsTodo lines todo
read_again lines todo e = again lines todo e
