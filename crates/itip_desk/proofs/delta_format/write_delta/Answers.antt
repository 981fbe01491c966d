use Rattle.std.proofs.Common.{◌≤◌, length, ◌∙◌, arith}
use Rattle.itip_state.proofs.Nothing.{none_left}
use Rattle.itip_desk.proofs.ReadDeltas.{write_more, write_done, written_so}
use Rattle.itip_desk.specs.DeltaFormat.{delta_octets}
use Rattle.std.proofs.Common.{ap}
use Rattle.itip_items.specs.declared.item.Item.{Item}
use Rattle.itip_desk.proofs.delta_format.write_delta.Goals as goal

pub loop-item-preserved : goal.loop-item-preserved
loop-item-preserved c =
    write_more c.as_slice-item-items.result.now c.loop-item.item-index c.item-item.result c.loop-item.octets.items
    c.append_to.new.out.items c.deref.result.now.bytes
    (omega arith) c.item-item.is (ap (λ (i : Item). i.bytes) c.deref.ensures) c.in_ok-append_to.ensures.ok c.loop-item.invariant

pub returns-clause-octets : goal.returns-clause-octets
returns-clause-octets c =
    let past : length c.as_slice-item-items.result.now ≤ c.loop-item.item-index = omega arith in
    write_done c.as_slice-item-items.result.now c.loop-item.item-index c.loop-item.octets.items past c.loop-item.invariant ∙
    ap delta_octets c.as_slice-item-items.ensures.items

pub returns-clause-read_again : goal.returns-clause-read_again
returns-clause-read_again c =
    written_so c.loop-item.octets.items c.args.batch.now c.as_slice-item-items.ensures.ascend (returns-clause-octets c)

pub returns-in_err-append_to-clause-succeeds : goal.returns-in_err-append_to-clause-succeeds
returns-in_err-append_to-clause-succeeds c = λ none.
    absurd (none_left c.as_slice-item-items.result.now c.loop-item.item-index c.loop-item-test.true
    (c.as_slice-item-items.ensures.items ∙ none))
