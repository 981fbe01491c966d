use Rattle.std.proofs.Common.{rules, nat_lt, Bool, tests}
use Rattle.std.proofs.lemmas.List.Sorted.{answers_always}
use Rattle.itip_office.specs.declared.job.Job.{Job}
use Rattle.itip_office.proofs.Replying.{each_once}
use Rattle.itip_office.proofs.replies.is_each_once.Goals as goal

pub returns : goal.returns
returns c =
    let less : Job → Job → Bool = λ x y. nat_lt x.number y.number in
    each_once c.args.jobs.now c.is_sorted_by.result
    (c.is_sorted_by.ensures.cases less (answers_always _ _ _ (λ f a r g h. search (rules, tests))))
