use Rattle.std.proofs.Common.{map, ap}
use Rattle.std.specs.String.{string_bytes}
use Rattle.itip_report.proofs.NamedReports.{told_of_nothing}
use Rattle.itip_report.proofs.Nothing.{counts_none, counts_some}
use Rattle.itip_report.proofs.named.report_lines.Goals as goal

pub returns-then-entries-eq0-clause-lines : goal.returns-then-entries-eq0-clause-lines
returns-then-entries-eq0-clause-lines c = λ window all left has.
    told_of_nothing c.args.name c.args.state.now (map string_bytes c.new.result.items)
    (counts_none c.args.state.now c.entries.result c.entries.ensures.number c.if-entries-eq0.true)
    (ap (map string_bytes) c.new.ensures.items) window all has

pub returns-clause-succeeds : goal.returns-clause-succeeds
returns-clause-succeeds c = λ none.
    absurd (counts_some c.args.state.now c.entries.result c.entries.ensures.number c.if-entries-eq0.false none)
