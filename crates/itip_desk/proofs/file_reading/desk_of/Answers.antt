use Rattle.itip_state.proofs.Keeping.{are_kept_same}
use Rattle.itip_desk.proofs.file_reading.desk_of.Goals as goal

pub returns-clause-made : goal.returns-clause-made
returns-clause-made c = record {
  kept = are_kept_same c.in_ok-of_parts.field-0.kept c.in_ok-batch.batch c.args.parts.items.items c.in_ok-batch.ensures.items.same
      c.in_ok-of_parts.ensures.kept;
  tick = c.in_ok-of_parts.ensures.tick;
  changed = c.in_ok-of_parts.ensures.changed;
}
