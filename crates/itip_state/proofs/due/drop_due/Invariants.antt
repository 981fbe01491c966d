use Rattle.itip_items.specs.declared.key.Key.{Key}
use Rattle.itip_join.specs.KeyByKey.{value_at}
use Rattle.itip_state.specs.Slots.{slot_cmp}
use Rattle.itip_state.specs.Due.{AreDue, IsLeft}
use Rattle.itip_state.proofs.due.drop_due.Given as goal

abbrev pub invariant-loop : goal.invariant-loop
invariant-loop l = record {
  due : AreDue l.due l.entries.map;
  left : (q : Key) → IsLeft l.series q (value_at slot_cmp l.fn.entries.map q) (value_at slot_cmp l.entries.map q);
}
