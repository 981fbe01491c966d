use Rattle.std.proofs.Common.{rules, ◌≡◌}
use Rattle.itip_script.specs.Jobs.{errands_of}
use Rattle.itip_office.specs.Scripts.{jobs_from, others_from}
use Rattle.itip_office.proofs.Scripting.{ends_with}
use Rattle.itip_office.proofs.script.run_script.Goals as goal

pub returns-clause-ends : goal.returns-clause-ends
returns-clause-ends g c =
    let script = c.args.script.items in
    let refused = c.in_ok-refused.refused.items in
    let jobs_are : c.in_ok-jobs.field-0.jobs.items ≡ jobs_from c.args.window 0 (errands_of script) = search rules in
    let others_are : c.in_ok-jobs.field-0.others.items ≡ others_from c.args.window 0 (errands_of script) = search rules in
    ends_with c.args.window c.args.desks script c.in_ok-jobs.field-0.jobs.items c.in_ok-jobs.field-0.others.items refused
    c.in_ok-ended.ended.replies.items c.in_ok-ended.ended.desks.items jobs_are others_are c.in_ok-ended.ensures.ended
    (search rules) c.in_ok-refused.ensures.ascend
