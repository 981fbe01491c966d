use Rattle.itip_join.proofs.ordered_map.OrderedMap.insert.Goals as goal

pub returns-clause-updates : goal.returns-clause-updates
returns-clause-updates g c = rw (← c.self.view_is) c.in_ok-insert.ensures.updates.0
