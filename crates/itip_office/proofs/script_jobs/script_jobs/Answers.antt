use Rattle.std.proofs.Common.{ap, ◌∙◌}
use Rattle.itip_script.specs.Jobs.{errand_of, errands_of}
use Rattle.itip_script.specs.LeftJobs.{errands_left}
use Rattle.itip_office.proofs.Numbering.{none_so_far, so_far_more, all_jobs, all_others}
use Rattle.itip_office.proofs.script_jobs.script_jobs.Goals as goal

pub loop-command-init : goal.loop-command-init
loop-command-init c =
    none_so_far c.args.window (errands_of c.args.script.now) _ _ _ (ap errands_left c.into_iter-command-iterator.ensures.into_iter_gives ∙
    c.new-command-items.ensures) c.new.ensures.items c.new-2.ensures.items

pub loop-command-preserved : goal.loop-command-preserved
loop-command-preserved c =
    so_far_more c.args.window (errands_of c.args.script.now) (errands_left c.loop-command.command-iterator) (errands_left c.next.new.self)
    (errand_of c.in-Some.command) c.loop-command.all.jobs.items c.add.new.self.jobs.items
    c.loop-command.all.others.items c.add.new.self.others.items c.in_ok-work_of.field-0 c.loop-command.invariant c.in-Some.ensures.steps
    c.in_ok-work_of.ensures c.in_ok-add.ensures.jobs c.in_ok-add.ensures.others

pub returns-clause-jobs : goal.returns-clause-jobs
returns-clause-jobs c =
    all_jobs c.args.window (errands_of c.args.script.now) (errands_left c.loop-command.command-iterator) c.loop-command.all.jobs.items
    c.loop-command.all.others.items c.loop-command.invariant c.in-None.ensures.steps.0

pub returns-clause-others : goal.returns-clause-others
returns-clause-others c =
    all_others c.args.window (errands_of c.args.script.now) (errands_left c.loop-command.command-iterator) c.loop-command.all.jobs.items
    c.loop-command.all.others.items c.loop-command.invariant c.in-None.ensures.steps.0
