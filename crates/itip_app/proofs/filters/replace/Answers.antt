use Rattle.itip_app.specs.Ended.EndsSources.{unheld, replaced}
use Rattle.itip_app.proofs.filters.replace.Goals as goal

pub returns-in_default : goal.returns-in_default
returns-in_default g c = λ draft. unheld c.complain.ensures

pub returns : goal.returns
returns g c = λ draft. replaced _ c.requires c.replace_status.ensures
