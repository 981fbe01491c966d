use Rattle.itip_script.specs.Jobs.{errands_of}
use Rattle.itip_script.specs.LeftJobs.{errands_left}
use Rattle.itip_office.proofs.Numbering.{AreSoFar}
use Rattle.itip_office.proofs.script_jobs.script_jobs.Given as goal

abbrev pub invariant-loop-command : goal.invariant-loop-command
invariant-loop-command l = AreSoFar l.window (errands_of l.script) (errands_left l.command-iterator) l.all.jobs.items l.all.others.items
