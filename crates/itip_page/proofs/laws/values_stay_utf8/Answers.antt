use Rattle.itip_page.proofs.Utf8.{escaped_utf8}
use Rattle.itip_page.proofs.laws.values_stay_utf8.Goals as goal

pub returns : goal.returns
returns c = escaped_utf8
