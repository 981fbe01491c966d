use Rattle.itip_lines.proofs.Found.{leads_quoted, leads_plain}
use Rattle.itip_lines.proofs.lookup.leading_value.Goals as goal

pub returns-in-Some : goal.returns-in-Some
returns-in-Some c = λ value begins.
    leads_quoted c.args.text.now c.in-Some.quoted.now _ _ value c.in-Some.ensures c.cut_run.ensures begins

pub returns-in-None : goal.returns-in-None
returns-in-None c = λ value begins. leads_plain c.args.text.now _ _ value c.in-None.ensures c.cut_run-in-None.ensures begins
