use Rattle.itip_join.proofs.ordered_map.OrderedMap.replace.Goals as goal

pub returns-clause-with : goal.returns-clause-with
returns-clause-with g c = rw (← c.self.view_is) c.replace.ensures.with
