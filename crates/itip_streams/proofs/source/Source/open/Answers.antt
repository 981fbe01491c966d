use Rattle.std.proofs.KnownBytes.{Keeps-refl}
use Rattle.itip_streams.proofs.source.Source.open.Goals as goal

pub returns-in_default : goal.returns-in_default
returns-in_default g c = Keeps-refl _

pub returns-in_err-file : goal.returns-in_err-file
returns-in_err-file g c = Keeps-refl _

pub returns : goal.returns
returns g c = rw c.in-Closed.is tt
