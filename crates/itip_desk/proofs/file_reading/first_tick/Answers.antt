use Rattle.itip_desk.proofs.FileNumbers.{begins_as, begins_not}
use Rattle.itip_desk.proofs.FileParsing.{between}
use Rattle.itip_desk.proofs.FileTicks.{no_product, no_tick_number, tick_read}
use Rattle.itip_desk.proofs.file_reading.first_tick.Goals as goal

pub returns-in_err-parameters : goal.returns-in_err-parameters
unfolding lib.Utf8.encode
returns-in_err-parameters c =
    rw c.from_residual.ensures
    (no_product c.args.after.now c.behind_number-after.result.now c.behind_number-after.ensures
    (begins_not c.behind_number-after.result.now c.as_bytes.result.now between c.as_bytes.ensures.value c.in_err-parameters.ensures.none))

pub returns-in_err-found : goal.returns-in_err-found
unfolding lib.Utf8.encode
returns-in_err-found c =
    rw c.from_residual-in_err-found.ensures
    (no_tick_number c.args.after.now c.behind_number-after.result.now c.behind_number-after.ensures c.in_ok-parameters.parameters.now
    (begins_as c.behind_number-after.result.now c.as_bytes.result.now between c.in_ok-parameters.parameters.now c.as_bytes.ensures.value
    c.in_ok-parameters.ensures.found) c.in_err-found.ensures.none)

pub returns : goal.returns
unfolding lib.Utf8.encode
returns c =
    tick_read c.args.after.now c.behind_number-after.result.now c.behind_number-after.ensures c.in_ok-parameters.parameters.now
    c.in_ok-found.found.0 c.in_ok-found.found.1.now
    (begins_as c.behind_number-after.result.now c.as_bytes.result.now between c.in_ok-parameters.parameters.now c.as_bytes.ensures.value
    c.in_ok-parameters.ensures.found) c.in_ok-found.ensures.found
