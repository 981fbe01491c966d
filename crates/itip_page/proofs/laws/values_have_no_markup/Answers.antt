use Rattle.itip_page.proofs.Harmless.{escaped_harmless}
use Rattle.itip_page.proofs.laws.values_have_no_markup.Goals as goal

pub returns : goal.returns
returns c = escaped_harmless
