use Rattle.itip_desk.proofs.FileNumbers.{digits_utf8, parsed_some, parsed_none}
use Rattle.itip_desk.proofs.fronts.number_of.Goals as goal

pub returns-in_default-clause-none : goal.returns-in_default-clause-none
returns-in_default-clause-none c = λ digits number is. c.in_default.ensures.cases.0 (digits_utf8 c.args.digits.now digits)

pub returns-clause-found : goal.returns-clause-found
returns-clause-found c =
    rw c.ok.ensures.value
    (parsed_some c.args.digits.now c.in-Ok.text.now c.in-Ok.ensures.cases.0 c.parse.result c.parse.ensures.value.0)

pub returns-clause-none : goal.returns-clause-none
returns-clause-none c =
    rw c.ok.ensures.value
    (parsed_none c.args.digits.now c.in-Ok.text.now c.in-Ok.ensures.cases.0 c.parse.result c.parse.ensures.value.0)
