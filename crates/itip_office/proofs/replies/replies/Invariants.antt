use Rattle.std.proofs.Common.{◌≡◌, ◌++◌, map}
use Rattle.std.specs.Vec.Iter.{into_iter_items}
use Rattle.itip_office.specs.Answers.{Answer}
use Rattle.itip_office.proofs.replies.replies.Given as goal

abbrev pub invariant-loop-job : goal.invariant-loop-job
invariant-loop-job l =
    l.replies.items ++ map (λ (a : Answer). (a.0.number, a.1)) (into_iter_items l.job-iterator) ≡ map (λ (a : Answer). (a.0.number, a.1))
    (into_iter_items l.initial.job-iterator)
