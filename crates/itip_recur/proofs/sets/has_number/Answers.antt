use Rattle.std.proofs.lemmas.Nat.Bits.{shr_and_one}
use Rattle.itip_recur.proofs.sets.has_number.Goals as goal

pub returns : goal.returns
returns c = rw shr_and_one
