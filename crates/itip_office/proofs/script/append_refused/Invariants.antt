use Rattle.std.proofs.Common.{◌≡◌, ◌++◌, take}
use Rattle.std.specs.List.{flat_map}
use Rattle.itip_office.specs.Scripts.{refused_job_text}
use Rattle.itip_office.proofs.script.append_refused.Given as goal

abbrev pub invariant-loop-job : goal.invariant-loop-job
invariant-loop-job l = l.output.items ≡ l.initial.output.items ++ flat_map refused_job_text (take l.job-index l.refused)
