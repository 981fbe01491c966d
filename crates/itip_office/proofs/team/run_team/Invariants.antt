use Rattle.std.proofs.Common.{map}
use Rattle.itip_office.specs.Pairs.{pair_at}
use Rattle.itip_office.proofs.team.run_team.Given as goal

-- the pairs of the desks that have just been started
abbrev pub ghosts-run_started : goal.ghosts-run_started
ghosts-run_started g a = record { pair = pair_at (map (λ s. s.held.shown) a.started.items) }
