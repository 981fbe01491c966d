use Rattle.std.proofs.Common.{subst, refl, List, ℕ, ◌+◌, ◌++◌, rules}
use Rattle.std.specs.Option.{option_copied}
use Rattle.std.proofs.lemmas.Result.{on_ok_weaker}
use Rattle.itip_message.specs.Scanned.{messages_of}
use Rattle.itip_inbox.specs.Inbox.{Placed, placed_from}
use Rattle.itip_inbox.specs.Streaming.{HasGot}
use Rattle.itip_inbox.proofs.HeldParts.{all_read_for, short_heard}
use Rattle.itip_inbox.proofs.source_reading.hear_all.Goals as goal

pub returns-clause-hears : goal.returns-clause-hears
returns-clause-hears g c =
    let octets : List ℕ = c.args.held.now.octets.items in
    on_ok_weaker c.hear.result (λ keeps came is.
    short_heard (option_copied c.args.about) c.args.held.now.is_long c.args.inbox.now c.hear.new.self (messages_of octets)
    (search rules)
    (subst (λ (t : List ℕ). (before : List Placed) → HasGot (option_copied c.args.about) before c.args.inbox.now →
    HasGot (option_copied c.args.about) (before ++ placed_from c.args.inbox.now.source (c.args.inbox.now.messages + 1) (messages_of t))
    c.hear.new.self) c.as_slice.ensures.value keeps) (messages_of came)
    (all_read_for c.args.held.now.is_long octets came (messages_of octets) is refl)) c.hear.ensures.keeps
