use Rattle.std.proofs.Common.{◌∙◌, ◌||◌, ℕ, List, ap, subst, take_all}
use Rattle.std.specs.BTreeSet.{contains}
use Rattle.std.specs.Cmp.Lexicographic.{slice_cmp}
use Rattle.std.specs.Ordering.{nat_cmp}
use Rattle.itip_todo.specs.Participation.{same_text}
use Rattle.itip_todo.specs.Table.{attendee_key}
use Rattle.itip_view.specs.declared.row.ShownAttendee.{ShownAttendee}
use Rattle.itip_writing.specs.Removing.{HasKeys}
use Rattle.itip_writing.proofs.AttendeeKeys.{keys_more, no_keys}
use Rattle.itip_writing.proofs.attendee_keys.keys_of_shown.Goals as goal

pub loop-attendee-init : goal.loop-attendee-init
loop-attendee-init c = no_keys c.new-keys.result c.new-keys.ensures.empty

pub loop-attendee-preserved : goal.loop-attendee-preserved
loop-attendee-preserved c =
    keys_more (λ (attendee : ShownAttendee). attendee_key attendee.address) c.args.shown.now c.loop-attendee.attendee-index
    c.attendee-item.result c.loop-attendee.keys c.add_key.new.keys c.loop-attendee-test.true c.attendee-item.is c.loop-attendee.invariant
    (λ key. c.in_ok-add_key.ensures key ∙ ap (λ (a : List ℕ). contains (slice_cmp nat_cmp) c.loop-attendee.keys key ||
    same_text key (attendee_key a)) c.as_str.ensures)

pub returns : goal.returns
returns c =
    subst (λ (xs : List ShownAttendee). HasKeys (λ attendee. attendee_key attendee.address) xs c.loop-attendee.keys)
    (take_all c.loop-attendee.attendee-index c.args.shown.now c.loop-attendee-test.false) c.loop-attendee.invariant
