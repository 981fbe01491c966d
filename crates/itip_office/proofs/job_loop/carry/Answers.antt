use Rattle.std.proofs.Common.{rules, ◌≡◌}
use Rattle.itip_running.specs.Deltas.{IsDeltaAfter}
use Rattle.itip_office.proofs.Seeing.{brings_here}
use Rattle.itip_office.proofs.job_loop.carry.Goals as goal

pub returns-in-Ok-clause-seen : goal.returns-in-Ok-clause-seen
returns-in-Ok-clause-seen g c =
    let source = c.all-all.result.1 in
    let same : source.0 ≡ c.args.from = cc in
    let delta : IsDeltaAfter source.1 0 c.in-Ok.batch = search rules in
    brings_here source c.args.from same c.args.to c.in-Ok.batch delta
