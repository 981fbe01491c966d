use Rattle.itip_desk.proofs.Deltas.{up_to_date, told_up_to_date}
use Rattle.itip_desk.proofs.laws.delta_brings_up_to_date.Goals as goal

pub returns : goal.returns
returns c = record { kept = up_to_date; told = told_up_to_date }
