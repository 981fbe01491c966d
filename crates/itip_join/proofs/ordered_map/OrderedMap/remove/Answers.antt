use Rattle.itip_join.proofs.ordered_map.OrderedMap.remove.Goals as goal

pub returns-clause-without : goal.returns-clause-without
returns-clause-without g c = rw (← c.self.view_is) c.remove.ensures.updates.0
