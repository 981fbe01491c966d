use Rattle.itip_join.specs.KeyByKey.{entries_from_values}
use Rattle.itip_join.proofs.TakingBack.{err_then}
use Rattle.itip_join.proofs.merge.merge.Goals as goal

pub returns-in-Some-clause-err : goal.returns-in-Some-clause-err
returns-in-Some-clause-err g c = err_then c.join_one.result
    (λ same. entries_from_values g.met.K.Ord.total g.met.K.Exact.exact c.join_one.new.map.entries c.args.map.now.entries
    c.join_one.ensures.ordered c.requires same)
    c.join_one.ensures.err
