use Rattle.std.proofs.Common.{◌∙◌, sym, refl, arith}
use Rattle.itip_message.proofs.Parted.{at_line, parted_at}
use Rattle.itip_message.proofs.parting.part_messages.Goals as goal

pub loop-line-init : goal.loop-line-init
loop-line-init c = record {
  at = at_line c.args.bytes.now c.split_at.result.0.now c.split_at.result.1.now _ _ c.split_at.ensures.by_index.0 c.in-Some.ensures.stays
      c.in-Some.ensures.ends;
  within = omega (arith, c.in-Some.ensures.shorter, c.split_at.ensures.back_len);
}

pub loop-line-preserved : goal.loop-line-preserved
loop-line-preserved c = record {
  at = at_line c.args.bytes.now c.loop-line.invariant.at.front c.loop-line.rest.now c.in-Some-whole_line.line.now
      c.in-Some-whole_line.after.now
      c.loop-line.invariant.at.whole c.in-Some-whole_line.ensures.stays c.in-Some-whole_line.ensures.ends;
  within = omega (arith, c.in-Some-whole_line.ensures.shorter, c.loop-line.invariant.within);
}

pub returns-then-ends_calendar : goal.returns-then-ends_calendar
returns-then-ends_calendar c =
    parted_at c.args.bytes.now c.loop-line.rest.now c.in-Some-whole_line.line.now c.in-Some-whole_line.after.now _ c.loop-line.invariant.at
    c.in-Some-whole_line.ensures.stays c.in-Some-whole_line.ensures.ends c.in-Some-whole_line.ensures.some
    (sym c.ends_calendar.ensures ∙ c.if-ends_calendar.true) refl
