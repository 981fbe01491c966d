use Rattle.itip_explain.proofs.latest.Latest.of.Goals as goal

pub returns-clause-order : goal.returns-clause-order
returns-clause-order c = record {
  given = c.in_ok-given.given.items;
  given_are = c.in_ok-given.ensures;
  order = c.in_ok-sorted.ensures;
}
