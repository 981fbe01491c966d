use Rattle.std.proofs.Common.{◌+◌, ◌++◌, sym, subst, ℕ, List, Bool}
use Rattle.std.specs.Option.{option_copied}
use Rattle.std.proofs.lemmas.Result.{on_ok_weaker}
use Rattle.itip_message.specs.Scanned.{messages_of}
use Rattle.itip_inbox.specs.Inbox.{placed_from}
use Rattle.itip_inbox.specs.Streaming.{HasGot, IsHeld}
use Rattle.itip_inbox.proofs.HeldParts.{whole_read_for}
use Rattle.itip_inbox.proofs.source_reading.hear_last.Goals as goal

pub returns-then-may_wait-clause-hears : goal.returns-then-may_wait-clause-hears
returns-then-may_wait-clause-hears g c =
    let few = c.may_wait.ensures c.if-may_wait.true in
    on_ok_weaker c.let_wait.result (λ waits came is before got.
    subst (λ (n : ℕ). HasGot (option_copied c.args.about) (before ++ placed_from c.args.inbox.now.source (n + 1) (messages_of came))
    c.let_wait.new.inbox) (sym few.1)
    (subst (λ (ms : List (List ℕ)). HasGot (option_copied c.args.about) (before ++ placed_from c.args.inbox.now.source 1 ms)
    c.let_wait.new.inbox)
    (sym (whole_read_for c.args.held.octets.items came (subst (λ (b : Bool). IsHeld b c.args.held.octets.items came) few.0 is)))
    (waits before got))) c.let_wait.ensures.waits
