use Rattle.itip_page.proofs.PageRead.{style_is_quiet}
use Rattle.itip_page.proofs.laws.style_fetches_nothing.Goals as goal

pub returns : goal.returns
returns c = style_is_quiet
