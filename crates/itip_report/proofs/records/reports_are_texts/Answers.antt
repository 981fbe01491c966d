use Rattle.itip_report.proofs.Nothing.{load_texts, progress_texts}
use Rattle.itip_report.proofs.records.reports_are_texts.Goals as goal

pub returns : goal.returns
returns c = record { load = load_texts; progress = progress_texts }
