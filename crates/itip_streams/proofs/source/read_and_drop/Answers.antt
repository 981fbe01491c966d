use Rattle.std.proofs.Common.{◌≡◌, ◌<◌, [], Some, length, refl, sym, arith}
use Rattle.std.proofs.lemmas.Bool.{eqb-true}
use Rattle.std.proofs.lemmas.Bool.Decides.{nat_tests}
use Rattle.std.proofs.lemmas.Result.{err_from_is_err_and}
use Rattle.std.proofs.KnownBytes.{Consumes-nil}
use Rattle.itip_streams.proofs.Reading.{ended}
use Rattle.itip_streams.proofs.source.read_and_drop.Goals as goal

pub returns-then-is_empty-clause-bytes : goal.returns-then-is_empty-clause-bytes
returns-then-is_empty-clause-bytes g c =
    let none : length c.args.buf.now ≡ 0 = eqb-true _ _ (sym c.if-is_empty.ensures) in
    (Consumes-nil _, λ _ some. absurd (omega arith))

pub returns-in_default-clause-bytes : goal.returns-in_default-clause-bytes
returns-in_default-clause-bytes g c = rw c.in_default.is (Consumes-nil (Some []), λ _ _. refl)

pub returns-in_err-count-clause-bytes : goal.returns-in_err-count-clause-bytes
returns-in_err-count-clause-bytes g c =
    let p = err_from_is_err_and c.from_residual.result c.from_residual.ensures.1 in
    rw (p.1, c.in-Some.is) c.in_err-count.ensures.bytes

pub returns-then-count-gt0-clause-bytes : goal.returns-then-count-gt0-clause-bytes
returns-then-count-gt0-clause-bytes g c = rw c.in-Some.is c.in_ok-count.ensures.bytes

pub returns-clause-bytes : goal.returns-clause-bytes
returns-clause-bytes g c =
    let long = c.read.auto.buf in
    let some : 0 < length c.read.new.buf = grind (arith, nat_tests) in
    rw c.in-Some.is
    (ended _ _ _ c.in_ok-count.ensures.bytes.0 (c.in_ok-count.ensures.bytes.1 (omega arith) some), λ _ _. refl)
