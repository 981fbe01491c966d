use Rattle.std.proofs.Common.{◌≡◌, ◌≤◌, ◌<◌, ◌-◌, ℕ, zero, suc, List, length, get_or, refl, sym, ◌∙◌, true, false, rules, arith}
use Rattle.std.specs.List.Sorted.{IsPartitionPoint}
use Rattle.std.proofs.lemmas.Fn.{always_returns_same}
use Rattle.std.proofs.lemmas.List.{get_or_default}
use Rattle.itip_state.specs.OfUid.{UidPart}
use Rattle.itip_view.specs.Ruling.{AreRangesInOrder}
use Rattle.itip_view.specs.declared.ranges.RangeFrom.{RangeFrom}
use Rattle.itip_view.proofs.Ranging.{is_up_to, parted, none_reaches, last_rules, last_not}
use Rattle.itip_view.proofs.ranges.ruling_place.Goals as goal
use Rattle.itip_view.proofs.ranges.ruling_place.Goals.{After-partition_point-reached}

-- the search parts the ranges
split : (c : After-partition_point-reached) (part : UidPart) → AreRangesInOrder part c.args.standing.now
    → IsPartitionPoint (λ range. is_up_to c.args.at.now range ≡ true) (λ range. is_up_to c.args.at.now range ≡ false) c.args.standing.now
    c.partition_point-reached.result
split c part are = c.partition_point-reached.ensures.partitioned (is_up_to c.args.at.now)
    (always_returns_same _ _ _ (λ a r f k. search rules)) (parted part c.args.standing.now are c.args.at.now)

some_from : (n : ℕ) → (n ≡ 0 → ⊥) → 0 < n
some_from zero h = absurd (h refl)
some_from (suc n) h = omega arith

pub returns-then-reached-eq0-clause-rules : goal.returns-then-reached-eq0-clause-rules
returns-then-reached-eq0-clause-rules c = λ part are.
    none_reaches part c.args.standing.now are c.args.at.now c.partition_point-reached.result c.partition_point-reached.ensures.bound
    (split (goal.at.returns-then-reached-eq0-clause-rules c).After-partition_point-reached part are) c.if-reached-eq0.true

pub returns-then-have_one_form-clause-inside : goal.returns-then-have_one_form-clause-inside
returns-then-have_one_form-clause-inside c =
    let n : ℕ = c.partition_point-reached.result in
    let bound : n ≤ length c.args.standing.now = c.partition_point-reached.ensures.bound in
    let some : 0 < n = some_from n c.if-reached-eq0.false in
    omega (arith, bound, some)

pub returns-then-have_one_form-clause-rules : goal.returns-then-have_one_form-clause-rules
returns-then-have_one_form-clause-rules c = λ part are.
    let found : List RangeFrom = c.args.standing.now in
    let n : ℕ = c.partition_point-reached.result in
    let bound : n ≤ length found = c.partition_point-reached.ensures.bound in
    let some : 0 < n = some_from n c.if-reached-eq0.false in
    let inside : n - 1 < length found = omega (arith, bound, some) in
    let first : RangeFrom = get_or found (n - 1) c.index-standing-reached.result in
    let is : first ≡ get_or found (n - 1) first = get_or_default found (n - 1) c.index-standing-reached.result first inside in
    record {
      range = first;
      inside = inside;
      is = sym is;
      rules = last_rules part found are c.args.at.now n bound
          (split (goal.at.returns-then-have_one_form-clause-rules c).After-partition_point-reached part are) first some is
          (c.have_one_form.ensures.0 c.if-have_one_form.true);
    }

pub returns-else-have_one_form-clause-rules : goal.returns-else-have_one_form-clause-rules
returns-else-have_one_form-clause-rules c = λ part are.
    let found : List RangeFrom = c.args.standing.now in
    let n : ℕ = c.partition_point-reached.result in
    let bound : n ≤ length found = c.partition_point-reached.ensures.bound in
    let some : 0 < n = some_from n c.if-reached-eq0.false in
    let inside : n - 1 < length found = omega (arith, bound, some) in
    let first : RangeFrom = get_or found (n - 1) c.index-standing-reached.result in
    last_not part found are c.args.at.now n bound
    (split (goal.at.returns-else-have_one_form-clause-rules c).After-partition_point-reached part are) first some
    (get_or_default found (n - 1) c.index-standing-reached.result first inside) (λ same. let x : true ≡ false =
    sym (c.have_one_form.ensures.1 same) ∙ c.if-have_one_form.false in cc)
