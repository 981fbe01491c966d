use Rattle.itip_running.specs.ContractViews.{keeper_pair}
use Rattle.itip_live_calls.proofs.groups.started.Given as goal

-- the pair that was just started
abbrev pub ghosts-told : goal.ghosts-told
ghosts-told g a = record { pair = keeper_pair a.keeper }
