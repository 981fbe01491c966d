use Rattle.itip_running.specs.ContractViews.{pass_pair}
use Rattle.itip_live_calls.proofs.office.answered.Given as goal

-- the pair that was just started
abbrev pub ghosts-answered_alone : goal.ghosts-answered_alone
ghosts-answered_alone g a = record { pair = λ desk. pass_pair a.pass }
