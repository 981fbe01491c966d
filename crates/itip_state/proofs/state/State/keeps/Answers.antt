use Rattle.std.proofs.Common.{◌≡◌, List, [], sym, subst}
use Rattle.std.specs.List.{Contains}
use Rattle.itip_items.specs.KeyParts.{uid_of}
use Rattle.itip_items.specs.declared.item.Item.{Item}
use Rattle.itip_state.specs.Kept.{ArePart}
use Rattle.itip_state.specs.UidStates.{uid_state}
use Rattle.itip_state.proofs.Reading.{held_some, held_no_part}
use Rattle.itip_state.proofs.state.State.keeps.Goals as goal

pub returns-in-Some : goal.returns-in-Some
returns-in-Some c = subst (λ (v : List Item). (x : Item) × Contains v x × (uid_of x.key ≡ c.args.uid.now)) c.self.view_is
    (held_some c.self.inside.held c.self.invariant c.args.uid.now (uid_state c.in-Some.field-0.now) (sym c.in-Some.ensures.found))

pub returns-in-None : goal.returns-in-None
returns-in-None c = subst (λ (v : List Item). ArePart c.args.uid.now [] v) c.self.view_is
    (held_no_part c.self.inside.held c.self.invariant c.args.uid.now (sym c.in-None.ensures.found))
