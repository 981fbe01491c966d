use Rattle.std.proofs.Common.{◌++◌, ◌∙◌, ap, take_all, arith}
use Rattle.std.specs.List.{flat_map}
use Rattle.itip_office.specs.Scripts.{refused_job_text}
use Rattle.itip_office.proofs.script.append_refused.Goals as goal

pub returns : goal.returns
returns c =
    let all = take_all c.loop-job.job-index c.args.refused.now (omega (arith, c.loop-job-test.false)) in
    c.loop-job.invariant ∙ ap (λ jobs. c.args.output.now.items ++ flat_map refused_job_text jobs) all
