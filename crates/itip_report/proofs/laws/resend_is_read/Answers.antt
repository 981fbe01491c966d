use Rattle.itip_report.proofs.SentAgain.{sent_alone}
use Rattle.itip_report.proofs.laws.resend_is_read.Goals as goal

pub returns : goal.returns
returns c = sent_alone
