use Rattle.std.proofs.Common.{refl, sym, subst}
use Rattle.std.specs.Option.{option_copied}
use Rattle.itip_state.specs.UidStates.{uid_state, uid_states}
use Rattle.itip_state.specs.Due.{AddsUnderAt}
use Rattle.itip_state.proofs.Members.{on_ok_then}
use Rattle.itip_state.proofs.Maps.{IsSoundAt, sound_at}
use Rattle.itip_state.proofs.Seeing.{seen_some, seen_none}
use Rattle.itip_state.proofs.Giving.{placed_entries}
use Rattle.itip_state.proofs.Tracking.{set_of}
use Rattle.itip_state.proofs.held.Held.share_under.Goals as goal

pub share_under-requires-clause-due : goal.share_under-requires-clause-due
share_under-requires-clause-due c = set_of c.args.uid.now c.self.inside.due (uid_states c.self.inside.map.map uid_state) c.self.invariant
    (option_copied c.get-in-Some.result) c.get-in-Some.ensures.value (uid_state c.in-Some.held.now)
    (seen_some uid_state c.self.inside.map.map (uid_states c.self.inside.map.map uid_state) refl c.args.uid.now c.in-Some.held.now
    c.in-Some.ensures)

pub share_under-requires-clause-placed : goal.share_under-requires-clause-placed
share_under-requires-clause-placed c = placed_entries c.args.uid.now (uid_state c.in-Some.held.now)
    (subst (IsSoundAt c.args.uid.now)
    (seen_some uid_state c.self.inside.map.map c.args.self.now c.self.view_is c.args.uid.now c.in-Some.held.now c.in-Some.ensures)
    (sound_at c.args.self.now c.requires c.args.uid.now)).0

pub returns-in-None : goal.returns-in-None
returns-in-None c = subst (λ o. AddsUnderAt c.args.sequence o c.args.items.now.items c.args.items.now.items)
    (sym (seen_none uid_state c.self.inside.map.map c.args.self.now c.self.view_is c.args.uid.now c.in-None.ensures)) refl

pub returns-in-Some : goal.returns-in-Some
returns-in-Some c = on_ok_then c.share_under.result
    (subst (λ o. AddsUnderAt c.args.sequence o c.args.items.now.items c.share_under.new.items.items)
    (sym (seen_some uid_state c.self.inside.map.map c.args.self.now c.self.view_is c.args.uid.now c.in-Some.held.now c.in-Some.ensures)))
    c.share_under.ensures
