use Rattle.std.proofs.Common.{◌≡◌, ◌++◌, ◌∙◌, sym, ap, map, rules}
use Rattle.std.specs.Map.{keys_of}
use Rattle.itip_state.specs.UidStates.{uid_state}
use Rattle.itip_state.proofs.Nothing.{none_keyed}
use Rattle.itip_state.proofs.Seeing.{keys_seen}
use Rattle.itip_state.proofs.held.Held.uids.Goals as goal

pub loop-uid-init : goal.loop-uid-init
loop-uid-init c =
    let start : map (λ uid. uid.now) c.new-uids.result.items ++ keys_of c.into_iter-uid-iterator.result ≡ keys_of c.self.inside.map.map =
    search rules in
    start ∙ sym (keys_seen uid_state c.self.inside.map.map) ∙ ap keys_of c.self.view_is

pub returns-in_err-push-clause-succeeds : goal.returns-in_err-push-clause-succeeds
returns-in_err-push-clause-succeeds c = λ none.
    absurd (none_keyed (map (λ uid. uid.now) c.loop-uid.uids.items) c.loop-uid.uid-iterator _ _ c.in-Some.ensures.steps
    (c.loop-uid.invariant ∙ none))
