use Rattle.std.proofs.Common.{◌∙◌, ◌||◌, ℕ, List, ap, subst, take_all}
use Rattle.std.specs.BTreeSet.{contains}
use Rattle.std.specs.Cmp.Lexicographic.{slice_cmp}
use Rattle.std.specs.Ordering.{nat_cmp}
use Rattle.std.specs.String.{string_bytes}
use Rattle.itip_todo.specs.Participation.{same_text}
use Rattle.itip_todo.specs.Table.{attendee_key}
use Rattle.itip_writing.specs.Removing.{HasKeys}
use Rattle.itip_writing.proofs.AttendeeKeys.{keys_more, no_keys}
use Rattle.itip_writing.proofs.attendee_keys.keys_of.Goals as goal

pub loop-address-init : goal.loop-address-init
loop-address-init c = no_keys c.new-keys.result c.new-keys.ensures.empty

pub loop-address-preserved : goal.loop-address-preserved
loop-address-preserved c =
    keys_more (λ address. attendee_key (string_bytes address)) c.args.addresses.now c.loop-address.address-index
    c.address-item.result c.loop-address.keys c.add_key.new.keys c.loop-address-test.true c.address-item.is c.loop-address.invariant
    (λ key. c.in_ok-add_key.ensures key ∙ ap (λ (a : List ℕ). contains (slice_cmp nat_cmp) c.loop-address.keys key ||
    same_text key (attendee_key a)) c.as_str.ensures.value)

pub returns : goal.returns
returns c =
    subst (λ xs. HasKeys (λ address. attendee_key (string_bytes address)) xs c.loop-address.keys)
    (take_all c.loop-address.address-index c.args.addresses.now c.loop-address-test.false) c.loop-address.invariant
