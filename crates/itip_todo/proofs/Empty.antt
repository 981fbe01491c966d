-- The draft of no line.
use Rattle.std.proofs.Common.{false, ◌≡◌, List, [], refl, sym, ap, subst, arith, None}
use Rattle.std.specs.BTreeMap.{is_at}
use Rattle.std.specs.BTreeSet.{BTreeSet}
use Rattle.std.specs.Cmp.Lexicographic.{slice_cmp}
use Rattle.std.specs.List.{list_any, AllByRecursion, IsDistinct}
use Rattle.std.specs.Ordering.{nat_cmp}
use Rattle.std.specs.Prelude.{ℕ}
use Rattle.itip_lines.specs.declared.line.Line.{Line}
use Rattle.itip_moment.specs.Order.{moment_cmp}
use Rattle.itip_moment.specs.declared.moment.Moment.{Moment}
use Rattle.itip_todo.specs.Drafts.{Holds, HoldsAttendees, IsSetOf}
use Rattle.itip_todo.specs.Lawful.{HasValue}
use Rattle.itip_todo.specs.Properties.{Property}
use Rattle.itip_todo.specs.declared.property_name.PropertyName.{PropertyName}
use Rattle.itip_todo.specs.declared.property_name.PropertyName.TheVariants as name

no_moment : (set : BTreeSet Moment) → set.keys ≡ [] → IsSetOf [] set
no_moment set e = record { listed = []; list = refl; each = λ m. ap (λ (ks : List Moment). list_any (is_at (moment_cmp m)) ks) e }

no_attendee : (attendees : List Property) (keys : BTreeSet (List ℕ)) → attendees ≡ [] → keys.keys ≡ [] → HoldsAttendees [] attendees keys
unfolding IsDistinct
no_attendee attendees keys e f =
    record {
      whole = e;
      values = subst (λ (ps : List Property). AllByRecursion HasValue ps) (sym e) tt;
      few = omega arith;
      distinct = tt;
      keys = λ key. ap (λ (ks : List (List ℕ)). list_any (is_at (slice_cmp nat_cmp key)) ks) f;
    }

pub empty_draft : (attendees : List Property) (keys : BTreeSet (List ℕ)) (rule : List (List ℕ))
    (rdates exdates : BTreeSet Moment) (others : List Line)
    → attendees ≡ [] → keys.keys ≡ [] → rule ≡ [] → rdates.keys ≡ [] → exdates.keys ≡ [] → others ≡ [] →
    (p : PropertyName)
    → Holds (record {
      uid = None;
      stamp = None;
      seq = None;
      base = None;
      rid = None;
      range = false;
      start = None;
      due = None;
      status = None;
      percent = None;
      priority = None;
      summary = None;
      organizer = None;
      attendees = attendees;
      keys = keys;
      rule = rule;
      rdates = rdates;
      exdates = exdates;
      others = others;
    }) p []
empty_draft attendees keys rule rdates exdates others a b c d e f name.RecurrenceId = (tt, refl)
empty_draft attendees keys rule rdates exdates others a b c d e f name.Attendee = no_attendee attendees keys a b
empty_draft attendees keys rule rdates exdates others a b c d e f name.RRule = c
empty_draft attendees keys rule rdates exdates others a b c d e f name.RDate = no_moment rdates d
empty_draft attendees keys rule rdates exdates others a b c d e f name.ExDate = no_moment exdates e
empty_draft attendees keys rule rdates exdates others a b c d e f name.Others = f
empty_draft attendees keys rule rdates exdates others a b c d e f p = tt
