use Rattle.itip_page.proofs.PageRead.{page_tokens_are, page_names_are}
use Rattle.itip_page.proofs.laws.page_has_its_tokens.Goals as goal

pub returns : goal.returns
returns c = record { read = page_tokens_are; names = page_names_are }
