use Rattle.itip_items.specs.Revisions.{revisions_total}
use Rattle.itip_items.proofs.Revisions.{revision_exact}
use Rattle.itip_items.proofs.laws.order_of_revisions.Goals as goal

pub returns-clause-total : goal.returns-clause-total
returns-clause-total c = revisions_total

pub returns-clause-exact : goal.returns-clause-exact
returns-clause-exact c = revision_exact
