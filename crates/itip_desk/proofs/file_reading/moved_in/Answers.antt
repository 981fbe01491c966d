use Rattle.itip_desk.proofs.FileParsing.{none_follows, some_moved_at, no_move}
use Rattle.itip_desk.proofs.file_reading.moved_in.Goals as goal

pub returns-in_err-parameters : goal.returns-in_err-parameters
returns-in_err-parameters c = rw c.from_residual.ensures (none_follows c.args.message.now c.in_err-parameters.ensures)

pub returns-in_err-found : goal.returns-in_err-found
unfolding lib.Utf8.encode
returns-in_err-found c =
    rw c.from_residual-in_err-found.ensures
    (no_move c.args.message.now c.in_ok-parameters.parameters.now c.behind_number-after.result.now c.in_ok-parameters.ensures
    c.behind_number-after.ensures c.in_err-found.ensures.none)

pub returns : goal.returns
unfolding lib.Utf8.encode
returns c =
    some_moved_at c.args.message.now c.in_ok-parameters.parameters.now c.behind_number-after.result.now c.in_ok-parameters.ensures
    c.behind_number-after.ensures c.in_ok-found.found.0 c.in_ok-found.found.1.now c.in_ok-found.ensures.found
