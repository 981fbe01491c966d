use Rattle.std.proofs.Common.{◌≡◌, ◌∙◌, ℕ, List, take, true, false, rules, sym, subst, ap}
use Rattle.std.proofs.Math.Dec.{ltb}
use Rattle.std.specs.List.{Contains}
use Rattle.std.specs.List.Sorted.{IsNonDecreasingBy, IsPartitionPoint}
use Rattle.std.proofs.lemmas.Bool.{lt-ltb, ltb-true}
use Rattle.std.proofs.lemmas.Fn.{always_returns_same}
use Rattle.std.proofs.lemmas.List.Sorted.{IsNonDecreasingBy-take, IsPartitionedBy-ltb}
use Rattle.itip_desk.specs.MovedSince.{move_tick}
use Rattle.itip_desk.proofs.Parted.{in_front, into_front}
use Rattle.itip_desk.proofs.moved_since.cut_at.Goals as goal
use Rattle.itip_desk.proofs.moved_since.cut_at.Goals.{After-partition_point-end}

-- the search parts the moves
split : (c : After-partition_point-end)
    → IsPartitionPoint (λ (m : ℕ × List ℕ). ltb m.0 c.args.tick ≡ true) (λ (m : ℕ × List ℕ). ltb m.0 c.args.tick ≡ false)
    c.deref.result.now c.partition_point-end.result
split c = c.partition_point-end.ensures.partitioned (λ (m : ℕ × List ℕ). ltb m.0 c.args.tick)
    (always_returns_same _ _ _ (λ a r f k. search rules))
    (IsPartitionedBy-ltb move_tick c.deref.result.now c.args.tick
    (subst (IsNonDecreasingBy move_tick) (sym c.deref.ensures.value) c.requires))

pub returns-clause-by_tick : goal.returns-clause-by_tick
returns-clause-by_tick c = subst (IsNonDecreasingBy move_tick) (sym c.truncate.ensures.items)
    (IsNonDecreasingBy-take move_tick c.partition_point-end.result c.args.order.now.items c.requires)

pub returns-clause-before : goal.returns-clause-before
returns-clause-before c = λ move h. ltb-true move.0 c.args.tick
    (in_front (λ (m : ℕ × List ℕ). ltb m.0 c.args.tick) c.deref.result.now c.partition_point-end.result c.partition_point-end.ensures.bound
    (split (goal.at.returns-clause-before c).After-partition_point-end) move
    (subst (λ (ms : List (ℕ × List ℕ)). Contains ms move)
    (c.truncate.ensures.items ∙ ap (take c.partition_point-end.result) (sym c.deref.ensures.value)) h))

pub returns-clause-keeps : goal.returns-clause-keeps
returns-clause-keeps c = λ move h below. subst (λ (ms : List (ℕ × List ℕ)). Contains ms move)
    (sym (c.truncate.ensures.items ∙ ap (take c.partition_point-end.result) (sym c.deref.ensures.value)))
    (into_front (λ (m : ℕ × List ℕ). ltb m.0 c.args.tick) c.deref.result.now c.partition_point-end.result
    c.partition_point-end.ensures.bound
    (split (goal.at.returns-clause-keeps c).After-partition_point-end) move
    (subst (λ (ms : List (ℕ × List ℕ)). Contains ms move) (sym c.deref.ensures.value) h) (lt-ltb move.0 c.args.tick below))
