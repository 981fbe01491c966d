use Rattle.std.proofs.Common.{map, take}
use Rattle.std.specs.Option.{option_copied}
use Rattle.itip_inbox.specs.Inbox.{placed_from}
use Rattle.itip_inbox.specs.Streaming.{Tells}
use Rattle.itip_inbox.proofs.texts.read_texts.Given as goal

abbrev pub invariant-loop-text : goal.invariant-loop-text
invariant-loop-text l = Tells (option_copied l.about) l.kept (placed_from l.source 1 (map (λ text. text.now) (take l.text-index l.texts)))
    l.heard
