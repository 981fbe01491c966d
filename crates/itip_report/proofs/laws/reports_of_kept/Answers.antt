use Rattle.itip_report.proofs.NamedReports.{report_of_kept}
use Rattle.itip_report.proofs.OfKept.{lines_of_kept, resend_of_kept, next_of_kept}
use Rattle.itip_report.proofs.laws.reports_of_kept.Goals as goal

pub returns : goal.returns
returns c = record {
  lines = λ report lines kept heard are. lines_of_kept kept heard are report lines;
  named = λ name window lines kept heard are. report_of_kept kept heard are window name lines;
  resend = λ uid bytes kept heard are. resend_of_kept kept heard are uid bytes;
  next = λ uid next kept heard are. next_of_kept kept heard are uid next;
}
