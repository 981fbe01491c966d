use Rattle.std.specs.Option.{option_copied}
use Rattle.itip_explain.specs.Knowing.{heard_by}
use Rattle.itip_explain.proofs.Becoming.{asks_row}
use Rattle.itip_explain.proofs.fates.Fates.asks.Goals as goal

pub returns : goal.returns
returns c =
    let part = c.args.self.now.question in
    let found = c.has.ensures part.items c.requires.sound.asked in
    let asks = asks_row (heard_by c.args.self.now) part.items part.uid c.requires.sound.about c.requires.sound.kept c.args.governing.now
    c.args.id.now c.requires.in_question c.args.attendee.now (option_copied c.asking_key.result) c.asking_key.ensures in
    (λ t. asks.0 (found.0 t), λ is. found.1 (asks.1 is))
