use Rattle.std.proofs.Common.{◌≡◌, Bool, true, false, None}
use Rattle.itip_desk.proofs.FileTexts.{moves_are, not_file, told_file}
use Rattle.itip_desk.proofs.file_reading.read_desk.Goals as goal

pub desk_of-requires : goal.desk_of-requires
desk_of-requires c = moves_are c.args.octets.now c.in_ok-parts.parts c.in_ok-parts.ensures.found

pub returns-then-branch-clause-found : goal.returns-then-branch-clause-found
returns-then-branch-clause-found c =
    told_file c.args.octets.now c.in_ok-parts.parts c.in_ok-desk.desk c.in_ok-parts.ensures.found c.in_ok-desk.ensures.made
    (c.in_ok-is_file_of.ensures.0 c.if-branch.true) c.in_ok-parts.ensures.reached

pub returns-clause-fault : goal.returns-clause-fault
returns-clause-fault c =
    rw c.broken.ensures
    (not_file c.args.octets.now c.in_ok-parts.parts c.in_ok-desk.desk c.in_ok-parts.ensures.found c.in_ok-desk.ensures.made
    (λ file. differ (c.in_ok-is_file_of.ensures.1 file) c.if-branch.false) None)
  where
    differ : {b : Bool} → b ≡ true → b ≡ false → ⊥
    differ e f = cc
