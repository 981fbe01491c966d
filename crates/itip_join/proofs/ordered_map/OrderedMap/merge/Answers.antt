use Rattle.itip_join.proofs.ordered_map.OrderedMap.merge.Goals as goal

pub returns-clause-ok : goal.returns-clause-ok
returns-clause-ok g c = rw (← c.self.view_is, ← c.other.view_is) c.merge.ensures.ok
