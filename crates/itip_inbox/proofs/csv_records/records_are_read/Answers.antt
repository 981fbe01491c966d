use Rattle.itip_inbox.proofs.CsvText.{csv_read}
use Rattle.itip_inbox.proofs.csv_records.records_are_read.Goals as goal

pub returns : goal.returns
returns c = csv_read
