use Rattle.std.proofs.Common.{ℕ, List, [], subst, sym}
use Rattle.std.proofs.lemmas.Result.{err_from_is_err_and}
use Rattle.itip_items.specs.declared.item.Item.{Item}
use Rattle.itip_desk.specs.FileReading.{FileSoFar, TellsTick}
use Rattle.itip_desk.proofs.FileTexts.{none_read, one_read, all_read, refuses_if}
use Rattle.itip_desk.proofs.file_reading.read_parts.Goals as goal

pub loop-message-init : goal.loop-message-init
loop-message-init c = record {
  so_far =
      subst (λ (its : List Item). FileSoFar c.args.octets.now c.args.octets.now c.in_ok-tick.tick its c.new-moves.result.items)
      (sym c.new-items.ensures.items)
      (subst (λ (ms : List (List ℕ × ℕ)). FileSoFar c.args.octets.now c.args.octets.now c.in_ok-tick.tick [] ms)
      (sym c.new-moves.ensures.items)
      (none_read c.args.octets.now c.in_ok-tick.tick));
  tick = c.in_ok-tick.ensures.found;
}

pub loop-message-preserved : goal.loop-message-preserved
loop-message-preserved c = record {
  so_far = one_read c.args.octets.now c.loop-message.rest.now c.in-Some.message.now c.in-Some.after.now c.loop-message.parts
      c.read_part.new.parts c.loop-message.invariant.so_far c.in-Some.ensures c.in_ok-read_part.ensures.added;
  tick = subst (λ (t : ℕ). TellsTick c.args.octets.now t) (sym c.in_ok-read_part.ensures.added.tick_is) c.loop-message.invariant.tick;
}

pub returns-clause-found : goal.returns-clause-found
returns-clause-found c =
    all_read c.args.octets.now c.loop-message.rest.now c.loop-message.parts c.loop-message.invariant.so_far c.loop-message.invariant.tick
    c.in_default.ensures

pub returns-in_err-read_part-clause-fault : goal.returns-in_err-read_part-clause-fault
returns-in_err-read_part-clause-fault c =
    let p = err_from_is_err_and c.from_residual-in_err-read_part.result c.from_residual-in_err-read_part.ensures.1 in
    rw (p.1, p.2)
    (refuses_if c.in_err-read_part.field-0.0 c.loop-message.number c.args.octets.now c.loop-message.rest.now c.in-Some.message.now
    c.in-Some.after.now c.loop-message.parts.tick c.loop-message.parts.items.items c.loop-message.parts.moves.items
    c.loop-message.invariant.so_far c.loop-message.invariant.tick c.in-Some.ensures c.in_err-read_part.ensures.fault)
