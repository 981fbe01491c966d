use Rattle.std.proofs.Common.{subst, Bool, List, ℕ}
use Rattle.std.proofs.lemmas.Result.{IfOk-weaker}
use Rattle.itip_message.specs.Parting.{StaysParted}
use Rattle.itip_inbox.specs.Streaming.{IsHeld}
use Rattle.itip_inbox.proofs.source_reading.hear_first.Goals as goal

pub returns-in-Some-clause-hears : goal.returns-in-Some-clause-hears
returns-in-Some-clause-hears g c =
    IfOk-weaker c.hear_front.result _ _ (λ next hears came more is.
    hears c.args.held.now.octets.items came more
    (subst (λ (t : List ℕ). StaysParted t c.in-Some.front.now c.in-Some.back.now) c.as_slice.ensures.value c.in-Some.ensures.parts)
    (subst (λ (b : Bool). IsHeld b c.args.held.now.octets.items came) c.in-Some.ensures.short is)) c.hear_front.ensures.hears
