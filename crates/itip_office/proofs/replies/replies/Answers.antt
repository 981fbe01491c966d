use Rattle.std.proofs.Common.{rules, ◌≡◌, List, [], ◌++◌, map, ap, sym, subst, ◌∙◌, append-nil, arith}
use Rattle.std.specs.Prelude.{IsPermutation}
use Rattle.std.specs.List.Sorted.{IsStrictlyIncreasing}
use Rattle.std.specs.Vec.Iter.{into_iter_items}
use Rattle.itip_office.specs.declared.job.Job.{Job}
use Rattle.itip_office.specs.Answers.{Answer}
use Rattle.itip_office.proofs.Replying.{ascend_answers, none_left}
use Rattle.itip_office.proofs.replies.replies.Goals as goal

pub returns-clause-replies : goal.returns-clause-replies
returns-clause-replies c =
    let answers = into_iter_items c.into_iter-job-iterator.result in
    let whole : answers ≡ c.sort_by_key.new.self.items = search rules in
    let sorted_are : map (λ (a : Answer). a.0) c.sort_by_key.new.self.items ≡ c.args.jobs.now = search rules in
    let jobs_are : map (λ (a : Answer). a.0) answers ≡ c.args.jobs.now = ap (map (λ (a : Answer). a.0)) whole ∙ sorted_are in
    let ended = c.in-None.ensures.steps.0 in
    let long = c.loop-job.job-iterator.rest.ok.0 in
    let empty : into_iter_items c.loop-job.job-iterator ≡ [] =
    none_left (into_iter_items c.loop-job.job-iterator) (omega (arith, ended, long)) in
    let once : IsStrictlyIncreasing (map (λ (j : Job). j.number) c.args.jobs.now) = search rules in
    record {
      answers = answers;
      given_are = subst (λ (l : List Answer). IsPermutation c.args.answers.items l) (sym whole) c.in_ok-sort_by_key.ensures.permutation;
      jobs_are = jobs_are;
      ascend = ascend_answers c.args.jobs.now answers jobs_are once;
      replies_are = sym (append-nil c.loop-job.replies.items) ∙
          ap (λ (l : List Answer). c.loop-job.replies.items ++ map (λ (a : Answer). (a.0.number, a.1)) l) (sym empty) ∙
          c.loop-job.invariant;
    }
