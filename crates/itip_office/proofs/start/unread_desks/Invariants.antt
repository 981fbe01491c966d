use Rattle.std.proofs.Common.{All, Option}
use Rattle.logbook.specs.Pages.{Book}
use Rattle.itip_office.specs.Pairs.{IsStarted}
use Rattle.itip_office.proofs.start.unread_desks.Given as goal

abbrev pub invariant-loop : goal.invariant-loop
invariant-loop g l = All (λ s. (pair : Option Book) → IsStarted pair s.held.texts s.held.shown s.passes.items) l.all.items

abbrev pub invariant-loop-desk : goal.invariant-loop-desk
invariant-loop-desk g l = All (λ s. (pair : Option Book) → IsStarted pair s.held.texts s.held.shown s.passes.items) l.all.items
