use Rattle.std.proofs.Common.{◌∙◌, sym, ap}
use Rattle.std.specs.Prelude.{is_some}
use Rattle.itip_state.specs.Held.{at}
use Rattle.itip_state.proofs.Tests.{no_place}
use Rattle.itip_state.proofs.hear.newer_of.Goals as goal

pub returns-in_ok-copy-in-Some : goal.returns-in_ok-copy-in-Some
returns-in_ok-copy-in-Some c = (
  λ i. record { value = (c.in_ok-copy-in-Some.ensures ∙ c.revision.ensures) i },
  no_place (λ slot. slot.now) c.args.item.now.key c.slot.result c.slot.ensures (sym c.is_some.ensures ∙ c.if-is_some.false),
  ap is_some (ap (at c.args.held.now) (sym c.uid.ensures) ∙ sym c.in-Some.ensures.found),
)
