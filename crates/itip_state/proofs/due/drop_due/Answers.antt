use Rattle.std.proofs.Common.{◌≤◌, refl, subst}
use Rattle.itip_join.specs.KeyByKey.{value_at}
use Rattle.itip_state.specs.Slots.{slot_cmp}
use Rattle.itip_state.proofs.Dying.{none_dead, due_popped, left_more}
use Rattle.itip_state.proofs.due.drop_due.Goals as goal

pub returns-in_default-clause-alive : goal.returns-in_default-clause-alive
returns-in_default-clause-alive c = none_dead c.args.series.now c.loop.due c.loop.entries.map c.loop.invariant.due
    (λ pair there. subst (λ n. n ≤ pair.0) c.sequence_of-below.ensures (c.in_default.ensures.none pair there))

pub settle-requires : goal.settle-requires
settle-requires c = due_popped c.loop.due c.pop_below.new.due (c.in-Some.field-0-0, c.in-Some.slot) c.loop.entries.map
    c.in-Some.ensures.popped c.loop.invariant.due

pub loop-preserved : goal.loop-preserved
loop-preserved c = record {
  due = c.if-not-settle.ensures.due refl;
  left = λ q. left_more c.args.series.now q (value_at slot_cmp c.args.entries.now.map q) (value_at slot_cmp c.loop.entries.map q)
      (value_at slot_cmp c.settle.new.entries.map q) (c.loop.invariant.left q) (c.settle.ensures.left q);
}
