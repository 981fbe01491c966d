use Rattle.std.proofs.Common.{List, [], None, sym, subst}
use Rattle.itip_items.specs.declared.item.Item.{Item}
use Rattle.itip_state.specs.Held.{uid_state_items}
use Rattle.itip_state.specs.UidStates.{uid_state}
use Rattle.itip_state.specs.Organizers.{IsLastUsed}
use Rattle.itip_state.proofs.Maps.{held_state}
use Rattle.itip_state.proofs.Reading.{held_part, held_no_part}
use Rattle.itip_state.proofs.Using.{last_is}
use Rattle.itip_state.proofs.state.State.last_used.Goals as goal

pub returns-in-None : goal.returns-in-None
returns-in-None c = subst (λ (v : List Item). IsLastUsed v c.args.uid.now None) c.self.view_is
    (last_is c.args.uid.now [] _ (held_no_part c.self.inside.held c.self.invariant c.args.uid.now (sym c.in-None.ensures.found))
    (held_state c.self.inside.held c.self.invariant))

pub returns-in-Some : goal.returns-in-Some
returns-in-Some c = subst (λ (v : List Item). IsLastUsed v c.args.uid.now c.greatest.result) c.self.view_is
    (subst (IsLastUsed _ c.args.uid.now) (sym c.greatest.ensures)
    (last_is c.args.uid.now (uid_state_items (uid_state c.in-Some.series.now)) _
    (held_part c.self.inside.held c.self.invariant c.args.uid.now (uid_state c.in-Some.series.now) (sym c.in-Some.ensures.found))
    (held_state c.self.inside.held c.self.invariant)))
