use Rattle.std.proofs.Common.{refl, None, Some, rules}
use Rattle.itip_desk.proofs.FileTicks.{nothing_told_tick, no_form_named, other_form_named, tick_found, no_tick_found}
use Rattle.itip_desk.proofs.FileNumbers.{no_octets_if, some_octets_if}
use Rattle.itip_desk.proofs.file_reading.tick_of.Goals as goal

pub returns-then-is_empty-clause-found : goal.returns-then-is_empty-clause-found
returns-then-is_empty-clause-found c = nothing_told_tick c.args.octets.now (no_octets_if c.args.octets.now (search rules))

pub returns-in_default-clause-fault : goal.returns-in_default-clause-fault
returns-in_default-clause-fault c =
    rw c.broken.ensures (no_form_named c.args.octets.now (some_octets_if c.args.octets.now (search rules)) c.in_default.ensures.none
    (Some 1))

pub returns-then-form-ne-FORM-clause-fault : goal.returns-then-form-ne-FORM-clause-fault
returns-then-form-ne-FORM-clause-fault c =
    other_form_named c.args.octets.now c.in-Some.form c.in-Some.after.now c.in-Some.ensures.found c.if-form-ne-FORM.true

pub returns-in-Some-first_tick-clause-found : goal.returns-in-Some-first_tick-clause-found
returns-in-Some-first_tick-clause-found c =
    tick_found c.args.octets.now c.in-Some.form c.in-Some.after.now c.in-Some.ensures.found c.if-form-ne-FORM.false
    (Some c.in-Some-first_tick.tick) c.in-Some-first_tick.ensures c.in-Some-first_tick.tick refl (search rules)

pub returns-in-None-clause-fault : goal.returns-in-None-clause-fault
returns-in-None-clause-fault c =
    rw c.broken-in-None.ensures
    (no_tick_found c.args.octets.now c.in-Some.form c.in-Some.after.now c.in-Some.ensures.found c.if-form-ne-FORM.false None
    c.in-None.ensures refl (Some 1))
