use Rattle.itip_app.specs.Ended.EndsSources.{unheld, filtered}
use Rattle.itip_app.proofs.filters.filter_to.Goals as goal

pub returns-in_default : goal.returns-in_default
returns-in_default g c = unheld c.complain.ensures

pub returns-in_default-sources_of : goal.returns-in_default-sources_of
returns-in_default-sources_of g c = unheld c.complain-in_default-sources_of.ensures

pub returns : goal.returns
returns g c = filtered _ _ _ _ _ c.requires c.filter_status.ensures
