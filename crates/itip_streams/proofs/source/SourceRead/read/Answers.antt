use Rattle.std.proofs.lemmas.Result.{err_from_is_err_and}
use Rattle.itip_streams.proofs.Reading.{kept_read}
use Rattle.itip_streams.proofs.source.SourceRead.read.Goals as goal

pub returns-in_err-open-clause-bytes : goal.returns-in_err-open-clause-bytes
returns-in_err-open-clause-bytes g c =
    let p = err_from_is_err_and c.from_residual.result c.from_residual.ensures.1 in
    rw p.1 c.open.ensures

pub returns-in-File-clause-bytes : goal.returns-in-File-clause-bytes
returns-in-File-clause-bytes g c = kept_read _ _ _ _ _ (rw c.in-File.is at c.open.ensures) c.read_and_drop.ensures.bytes

pub returns-in-Input-clause-bytes : goal.returns-in-Input-clause-bytes
returns-in-Input-clause-bytes g c = kept_read _ _ _ _ _ (rw c.in-Input.is at c.open.ensures) c.read_and_drop-in-Input.ensures.bytes
