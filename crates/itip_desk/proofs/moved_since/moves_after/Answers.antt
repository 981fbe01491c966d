use Rattle.std.proofs.Common.{◌≡◌, ◌≤◌, ℕ, List, length, drop, true, false, rules, sym, subst}
use Rattle.std.proofs.Math.Dec.{leb}
use Rattle.std.specs.List.{Contains}
use Rattle.std.specs.List.Sorted.{IsPartitionPoint}
use Rattle.std.proofs.lemmas.Bool.{leb-false, lt-leb}
use Rattle.std.proofs.lemmas.Fn.{always_returns_same}
use Rattle.std.proofs.lemmas.List.{take_rest}
use Rattle.std.proofs.lemmas.List.Sorted.{IsPartitionedBy-leb}
use Rattle.itip_desk.specs.MovedSince.{move_tick}
use Rattle.itip_desk.proofs.Parted.{in_back, into_back, from_back}
use Rattle.itip_desk.proofs.moved_since.moves_after.Goals as goal

pub returns : goal.returns
returns c = λ move.
    let order : List (ℕ × List ℕ) = c.args.order.now in
    let place : ℕ = c.partition_point-start.result in
    let within : place ≤ length order = c.partition_point-start.ensures.bound in
    let parted : IsPartitionPoint (λ (m : ℕ × List ℕ). leb m.0 c.args.tick ≡ true)
    (λ (m : ℕ × List ℕ). leb m.0 c.args.tick ≡ false) order place =
    c.partition_point-start.ensures.partitioned (λ (m : ℕ × List ℕ). leb m.0 c.args.tick)
    (always_returns_same _ _ _ (λ a r f k. search rules)) (IsPartitionedBy-leb move_tick order c.args.tick c.requires) in
    let test = λ (m : ℕ × List ℕ). leb m.0 c.args.tick in (
      λ h.
          let there : Contains (drop place order) move = subst (λ (ms : List (ℕ × List ℕ)). Contains ms move) (take_rest order place) h in (
            from_back test order place within parted move there,
            leb-false move.0 c.args.tick
                (in_back test order place within parted move there),
          ),
      λ h. subst (λ (ms : List (ℕ × List ℕ)). Contains ms move) (sym (take_rest order place))
          (into_back test order place within parted move h.0 (lt-leb move.0 c.args.tick h.1)),
    )
