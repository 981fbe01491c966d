use Rattle.itip_office.proofs.Windows.{same_window}
use Rattle.itip_office.proofs.job.is_same_window.Goals as goal

pub returns : goal.returns
returns c = λ yes.
    let both = c.has_same_days.ensures yes in
    same_window c.args.one c.args.other both.0 both.1
