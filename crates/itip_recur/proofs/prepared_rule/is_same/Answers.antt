use Rattle.itip_moment.proofs.Same.{moment_eq-iff}
use Rattle.itip_recur.proofs.prepared_rule.is_same.Goals as goal

pub returns : goal.returns
returns c = moment_eq-iff c.args.moment.now c.args.other.now c.eq.result c.eq.ensures
