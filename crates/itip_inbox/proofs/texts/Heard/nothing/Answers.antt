use Rattle.std.proofs.Common.{refl}
use Rattle.itip_inbox.proofs.Hearing.{none_tells}
use Rattle.itip_inbox.proofs.texts.Heard.nothing.Goals as goal

pub returns : goal.returns
returns c = λ about kept. none_tells about kept _ refl c.new.ensures.items c.none.ensures c.new-2.ensures.items
