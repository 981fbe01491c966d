use Rattle.std.proofs.Common.{refl}
use Rattle.std.specs.Option.{option_copied}
use Rattle.itip_inbox.proofs.HeldParts.{front_first}
use Rattle.itip_inbox.proofs.source_reading.hear_front.Goals as goal

pub returns-clause-hears : goal.returns-clause-hears
returns-clause-hears g c = λ octets came more parted is.
    front_first (option_copied c.args.about) octets c.args.front.now c.args.back.now came more _ c.args.inbox.now c.hear.new.self parted
    c.in_ok-hear.ensures.count c.in_ok-hear.ensures.keeps refl c.in_ok-from_slice.ensures.items is
