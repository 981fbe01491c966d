use Rattle.itip_report.proofs.NamedReports.{one_named}
use Rattle.itip_report.proofs.OneReport.{one_lines, one_resend, one_next}
use Rattle.itip_report.proofs.laws.one_report.Goals as goal

pub returns : goal.returns
returns c = record {
  lines = one_lines;
  named = λ heard name window lines others mine theirs. one_named heard window name lines others mine theirs;
  resend = one_resend;
  next = one_next;
}
