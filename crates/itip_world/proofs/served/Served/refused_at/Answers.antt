use Rattle.std.proofs.Common.{inl, inr, refl, arith}
use Rattle.itip_world.proofs.served.Served.refused_at.Goals as goal

pub returns-then-desk-len : goal.returns-then-desk-len
returns-then-desk-len c = inr (omega arith, refl)

pub returns : goal.returns
returns c = inl (omega arith, refl)
