use Rattle.std.proofs.Common.{◌≡◌, map, take}
use Rattle.itip_office.specs.Answers.{Answer}
use Rattle.itip_office.proofs.replies.are_all_answered.Given as goal

abbrev pub invariant-loop-at : goal.invariant-loop-at
invariant-loop-at l = map (λ (a : Answer). a.0) (take l.at l.answers) ≡ take l.at l.jobs
