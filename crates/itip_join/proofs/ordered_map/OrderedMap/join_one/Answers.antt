use Rattle.itip_join.specs.KeyByKey.{entries_from_values}
use Rattle.itip_join.proofs.TakingBack.{err_then}
use Rattle.itip_join.proofs.ordered_map.OrderedMap.join_one.Goals as goal

pub returns-clause-others : goal.returns-clause-others
returns-clause-others g c = rw (← c.self.view_is) c.join_one.ensures.others

pub returns-clause-err : goal.returns-clause-err
returns-clause-err g c = rw (← c.self.view_is) (err_then c.join_one.result
    (λ same. entries_from_values g.met.K.Ord.total g.met.K.Exact.exact c.join_one.new.map.entries c.self.inside.map.entries
    c.join_one.ensures.ordered (rw (c.self.view_is) c.requires) same)
    c.join_one.ensures.err)
