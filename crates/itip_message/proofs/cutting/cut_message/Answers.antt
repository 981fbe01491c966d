use Rattle.std.proofs.Common.{◌∙◌, sym, ap, refl, subst, ◌&&◌, Bool, arith}
use Rattle.itip_message.specs.Scanned.{is_empty}
use Rattle.itip_message.specs.Passing.{StaysPassing}
use Rattle.itip_message.proofs.BegunMessages.{not_cut}
use Rattle.itip_message.proofs.StaysPassing.{stays_more, stays_end, none_left}
use Rattle.itip_message.proofs.cutting.cut_message.Goals as goal

pub returns-then-ends_calendar-clause-cut : goal.returns-then-ends_calendar-clause-cut
returns-then-ends_calendar-clause-cut c =
    stays_end c.args.bytes.now c.loop-line.rest.now c.in-Some.line.now c.in-Some.after.now _ c.loop-line.all_empty
    c.loop-line.invariant.passes c.in-Some.ensures.stays (sym c.ends_calendar.ensures ∙ c.if-ends_calendar.true)
    (omega (arith, c.in-Some.ensures.shorter, c.loop-line.invariant.within)) refl

pub loop-line-preserved-then-all_empty : goal.loop-line-preserved-then-all_empty
loop-line-preserved-then-all_empty c = record {
  passes =
      subst (λ (b : Bool). StaysPassing c.args.bytes.now c.in-Some.after.now b)
      (ap (λ (t : Bool). t && is_empty c.in-Some.line.now) c.if-all_empty.true ∙ sym c.is_empty-all_empty.ensures)
      (stays_more c.args.bytes.now c.loop-line.rest.now c.in-Some.line.now c.in-Some.after.now c.loop-line.all_empty
      c.loop-line.invariant.passes c.in-Some.ensures.stays (sym c.ends_calendar.ensures ∙ c.if-ends_calendar.false));
  within = omega (arith, c.in-Some.ensures.shorter, c.loop-line.invariant.within);
  some = none_left c.args.bytes.now c.in-Some.after.now c.in-Some.ensures.some;
}

pub loop-line-preserved : goal.loop-line-preserved
loop-line-preserved c = record {
  passes =
      subst (λ (b : Bool). StaysPassing c.args.bytes.now c.in-Some.after.now b)
      (ap (λ (t : Bool). t && is_empty c.in-Some.line.now) c.if-all_empty.false ∙ sym c.if-all_empty.false)
      (stays_more c.args.bytes.now c.loop-line.rest.now c.in-Some.line.now c.in-Some.after.now c.loop-line.all_empty
      c.loop-line.invariant.passes c.in-Some.ensures.stays (sym c.ends_calendar.ensures ∙ c.if-ends_calendar.false));
  within = omega (arith, c.in-Some.ensures.shorter, c.loop-line.invariant.within);
  some = none_left c.args.bytes.now c.in-Some.after.now c.in-Some.ensures.some;
}

pub returns-clause-begun : goal.returns-clause-begun
returns-clause-begun c = record {
  passes = c.loop-line.invariant.passes;
  goes_on = c.in_default.ensures.goes_on;
  some = c.loop-line.invariant.some;
}

pub returns-clause-finds : goal.returns-clause-finds
returns-clause-finds c = λ message after stays. absurd (not_cut c.args.bytes.now c.loop-line.rest.now c.loop-line.all_empty
    c.loop-line.invariant.passes c.in_default.ensures.goes_on message after stays)
