-- One more line of a property that may appear more than once.
use Rattle.std.proofs.Common.{◌≡◌, ℕ, ◌<◌, true, false, ◌||◌, List, [], ◌∷◌, ◌++◌, length, map, refl, sym, ap, subst, ◌∙◌, arith}
use Rattle.std.proofs.Common.{append-nil, append_assoc, length-append}
use Rattle.std.proofs.Math.Bool.{or-false}
use Rattle.std.proofs.lemmas.Bool.{lt-leb}
use Rattle.std.proofs.lemmas.Cmp.{nat_list_eq_equiv}
use Rattle.std.proofs.lemmas.List.{map-append, length-map}
use Rattle.std.proofs.lemmas.List.Folds.{list_any-append}
use Rattle.std.proofs.lemmas.Map.Keys.{IsDistinct-push}
use Rattle.std.specs.BTreeSet.{BTreeSet, contains, Updates}
use Rattle.std.specs.Cmp.Lexicographic.{slice_cmp, texts_ties}
use Rattle.std.specs.List.{list_any, AllByRecursion, IsDistinct}
use Rattle.std.specs.Ordering.{nat_cmp, eq_by_cmp}
use Rattle.itip_lines.specs.declared.line.Line.{Line}
use Rattle.itip_moment.specs.Order.{moment_cmp}
use Rattle.itip_moment.specs.declared.moment.Moment.{Moment}
use Rattle.itip_todo.specs.Drafts.{IsDraftOf, Holds, HoldsAttendees, IsSetOf, PutsMoments, Takes, more, is_listed}
use Rattle.itip_todo.specs.Lawful.{HasValue}
use Rattle.itip_todo.specs.Participation.{same_text}
use Rattle.itip_todo.specs.Reading.{ListMoments, whole_property, key_of}
use Rattle.itip_todo.specs.Table.{attendee_limit}
use Rattle.itip_todo.specs.Values.{AreMoments}
use Rattle.itip_todo.specs.declared.draft.Draft.{Draft}
use Rattle.itip_todo.specs.Properties.{Property}
use Rattle.itip_todo.specs.declared.property_name.PropertyName.{PropertyName}
use Rattle.itip_todo.specs.declared.property_name.PropertyName.TheVariants as name
use Rattle.itip_todo.proofs.Putting.{cond_or}

-- the moments of one more line
pub list_more : (lines : List Line) (line : Line) (before here : List Moment) → ListMoments lines before →
    AreMoments line.params line.value here → ListMoments (lines ++ line ∷ []) (before ++ here)
list_more [] line before here h k = (here, [], ap (λ (ms : List Moment). ms ++ here) h ∙ sym (append-nil here), k, refl)
list_more (l ∷ lines) line before here h k =
    (h.0, h.1 ++ here, ap (λ (ms : List Moment). ms ++ here) h.2 ∙ append_assoc h.0 h.1 here, h.3, list_more lines line h.1 here h.4 k)

pub set_more : (lines : List Line) (line : Line) (old new : BTreeSet Moment) → IsSetOf lines old →
    PutsMoments line.params line.value old new → IsSetOf (lines ++ line ∷ []) new
set_more lines line old new is puts = record {
  listed = is.listed ++ puts.listed;
  list = list_more lines line is.listed puts.listed is.list puts.are;
  each = λ m. puts.each m ∙ ap (λ b. b || is_listed puts.listed m) (is.each m) ∙
      sym (list_any-append (λ x. eq_by_cmp moment_cmp x m) is.listed puts.listed);
}

-- the attendee of one more line
keys_more : (lines : List Line) (line : Line) (old new : BTreeSet (List ℕ)) →
    ((key : List ℕ) → contains (slice_cmp nat_cmp) old key ≡ list_any (same_text key) (map key_of lines)) →
    Updates (slice_cmp nat_cmp) old new (key_of line) true
    → (key : List ℕ) → contains (slice_cmp nat_cmp) new key ≡ list_any (same_text key) (map key_of (lines ++ line ∷ []))
keys_more lines line old new h updates key =
    updates.0 key ∙ cond_or (eq_by_cmp (slice_cmp nat_cmp) (key_of line) key) (contains (slice_cmp nat_cmp) old key)
    ∙ (λ i. h key i || (sym (texts_ties (key_of line) key) ∙ nat_list_eq_equiv.symm (key_of line) key) i)
    ∙ ap (λ b. list_any (same_text key) (map key_of lines) || b) (sym (or-false (same_text key (key_of line))))
    ∙ sym (ap (λ (keys : List (List ℕ)). list_any (same_text key) keys) (map-append key_of lines (line ∷ [])) ∙
    list_any-append (same_text key) (map key_of lines) (key_of line ∷ []))

values_more : (old : List Property) (one : Property) → AllByRecursion HasValue old → HasValue one →
    AllByRecursion HasValue (old ++ one ∷ [])
values_more [] one h some = (some, tt)
values_more (p ∷ ps) one h some = (h.0, values_more ps one h.1 some)

pub attendees_more : (lines : List Line) (line : Line) (old new : List Property) (before after : BTreeSet (List ℕ)) →
    HoldsAttendees lines old before → 0 < length line.value → length old < attendee_limit →
    list_any (same_text (key_of line)) (map key_of lines) ≡ false
    → Updates (slice_cmp nat_cmp) before after (key_of line) true → new ≡ old ++ whole_property line ∷ [] →
    HoldsAttendees (lines ++ line ∷ []) new after
attendees_more lines line old new before after h some few free updates is =
    let count : length old ≡ length lines = ap length h.whole ∙ length-map lines whole_property in record {
      whole = is ∙ ap (λ (ps : List Property). ps ++ whole_property line ∷ []) h.whole ∙ sym (map-append whole_property lines (line ∷ []));
      values = subst (λ (ps : List Property). AllByRecursion HasValue ps) (sym is) (values_more old (whole_property line) h.values some);
      few = omega (arith, few, count, length-append lines (line ∷ []));
      distinct = subst (λ (keys : List (List ℕ)). IsDistinct same_text keys) (sym (map-append key_of lines (line ∷ [])))
          (IsDistinct-push nat_list_eq_equiv (map key_of lines) (key_of line) h.distinct free);
      keys = keys_more lines line before after h.keys updates;
    }

-- how many there are, as the draft counts them
pub counted : (lines : List Line) (attendees : List Property) (keys : BTreeSet (List ℕ)) → HoldsAttendees lines attendees keys →
    length attendees ≡ length lines
counted lines attendees keys h = ap length h.whole ∙ length-map lines whole_property

pub takes_rdate : (line : Line) (d : Draft) (new : BTreeSet Moment) → PutsMoments line.params line.value d.rdates new →
    Takes name.RDate line d (record d { rdates = new })
takes_rdate line d new puts = record {
  good = λ above is. record { once = refl; range = refl; value = (puts.listed, puts.are); few = refl; new = refl };
  draft = λ above is. each above is;
}
  where
    each : (above : PropertyName → List Line) → IsDraftOf above d → (p : PropertyName) →
        Holds (record d { rdates = new }) p (more above name.RDate line p)
    each above is name.RDate = set_more (above name.RDate) line d.rdates new (is name.RDate) puts
    each above is p = is p

pub takes_exdate : (line : Line) (d : Draft) (new : BTreeSet Moment) → PutsMoments line.params line.value d.exdates new →
    Takes name.ExDate line d (record d { exdates = new })
takes_exdate line d new puts = record {
  good = λ above is. record { once = refl; range = refl; value = (puts.listed, puts.are); few = refl; new = refl };
  draft = λ above is. each above is;
}
  where
    each : (above : PropertyName → List Line) → IsDraftOf above d → (p : PropertyName) →
        Holds (record d { exdates = new }) p (more above name.ExDate line p)
    each above is name.ExDate = set_more (above name.ExDate) line d.exdates new (is name.ExDate) puts
    each above is p = is p

pub takes_attendee : (line : Line) (d new : Draft) → 0 < length line.value → length d.attendees < attendee_limit →
    contains (slice_cmp nat_cmp) d.keys (key_of line) ≡ false → Updates (slice_cmp nat_cmp) d.keys new.keys (key_of line) true
    → new.attendees ≡ d.attendees ++ whole_property line ∷ [] → new ≡ record d { attendees = new.attendees; keys = new.keys } →
    Takes name.Attendee line d new
takes_attendee line d new some few free updates is same = record {
  good = λ above is_draft. record {
    once = refl;
    range = refl;
    value = some;
    few = lt-leb attendee_limit (length (above name.Attendee))
        (subst (λ n. n < attendee_limit) (counted (above name.Attendee) d.attendees d.keys (is_draft name.Attendee)) few);
    new = sym ((is_draft name.Attendee).keys (key_of line)) ∙ free;
  };
  draft = λ above is_draft. subst (λ (e : Draft). IsDraftOf (more above name.Attendee line) e) (sym same) (each above is_draft);
}
  where
    each : (above : PropertyName → List Line) → IsDraftOf above d → (p : PropertyName) →
        Holds (record d { attendees = new.attendees; keys = new.keys }) p (more above name.Attendee line p)
    each above h name.Attendee =
        attendees_more (above name.Attendee) line d.attendees new.attendees d.keys new.keys (h name.Attendee) some few
        (sym ((h name.Attendee).keys (key_of line)) ∙ free) updates is
    each above h p = h p
