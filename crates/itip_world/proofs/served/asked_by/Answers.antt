use Rattle.std.proofs.Common.{◌∙◌, sym, subst}
use Rattle.itip_world.specs.Serving.{AsksOnly}
use Rattle.itip_world.proofs.Asking.{wish_only, asks_nothing, asks_line, asks_cut}
use Rattle.itip_world.proofs.served.asked_by.Goals as goal

pub returns-then-is_empty-clause-asks : goal.returns-then-is_empty-clause-asks
returns-then-is_empty-clause-asks c = rw c.in-Some.is (asks_nothing c.in-Some.line.now (sym c.if-is_empty.ensures))

pub returns-then-not-ends_with-clause-asks : goal.returns-then-not-ends_with-clause-asks
returns-then-not-ends_with-clause-asks c =
    rw c.in-Some.is
    (asks_cut c.in-Some.line.now (sym c.if-is_empty.ensures) (sym c.ends_with.ensures.value ∙ c.if-not-ends_with.true))

pub returns-clause-asks : goal.returns-clause-asks
returns-clause-asks c =
    rw c.in-Some.is
    (asks_line c.in-Some.line.now _ (sym c.if-is_empty.ensures) (sym c.ends_with.ensures.value ∙ c.if-not-ends_with.false)
    c.of_line.ensures)

pub returns-clause-only : goal.returns-clause-only
returns-clause-only c = subst AsksOnly (sym c.of_line.ensures) (wish_only c.in-Some.line.now)
