use Rattle.std.proofs.Common.{◌≡◌, Bool, true, false, None}
use Rattle.itip_desk.proofs.FileTexts.{not_reached}
use Rattle.itip_desk.proofs.file_reading.reached_parts.Goals as goal

pub returns-then-is_reached-clause-reached : goal.returns-then-is_reached-clause-reached
returns-then-is_reached-clause-reached c = c.is_reached.ensures.0 c.if-is_reached.true

pub returns-clause-fault : goal.returns-clause-fault
returns-clause-fault c =
    rw c.broken.ensures
    (not_reached c.args.octets.now c.in_ok-parts.parts c.in_ok-parts.ensures.found
    (λ reach. differ (c.is_reached.ensures.1 reach) c.if-is_reached.false) None)
  where
    differ : {b : Bool} → b ≡ true → b ≡ false → ⊥
    differ e f = cc
