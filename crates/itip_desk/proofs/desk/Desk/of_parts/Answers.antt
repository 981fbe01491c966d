use Rattle.std.proofs.Common.{ℕ, ◌<◌, ◌≤◌, ◌≡◌, ◌∙◌, ◌++◌, List, map, ap, subst}
use Rattle.std.proofs.lemmas.List.Elements.{All-weaker}
use Rattle.itip_items.specs.declared.item.Item.{Item}
use Rattle.itip_state.specs.Kept.{AreKept}
use Rattle.itip_desk.proofs.LastMoves.{last_up_to}
use Rattle.itip_desk.proofs.desk.Desk.of_parts.Goals as goal

pub of_moves-requires : goal.of_moves-requires
of_moves-requires c =
    All-weaker (λ (move : List ℕ × ℕ). (0 < move.1) × (move.1 ≤ c.args.last)) (λ (move : List ℕ × ℕ). 0 < move.1) (λ move is. is.0)
    c.args.moves.items c.requires

pub returns-clause-kept : goal.returns-clause-kept
returns-clause-kept c =
    let each : map (λ item. item.now) c.as_slice-2.result.now ≡ c.args.items.now =
    ap (map (λ item. item.now)) c.as_slice-2.ensures.value ∙ c.in_ok-each.ensures ∙ c.as_slice.ensures.items in
    subst (λ (heard : List Item). AreKept c.hear.new.self heard) (ap (λ (before : List Item). before ++ map (λ item. item.now)
    c.as_slice-2.result.now)
    c.empty-kept.ensures ∙ each) c.in_ok-hear.ensures.ok

pub invariant_of-result : goal.invariant_of-result
invariant_of-result c = (
  c.in_ok-moves.ensures.ticks,
  last_up_to c.args.last c.args.moves.items c.in_ok-moves.moves.carried c.requires c.in_ok-moves.ensures.moves,
)
