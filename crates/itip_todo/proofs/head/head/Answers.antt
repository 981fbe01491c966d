use Rattle.std.proofs.Common.{◌≡◌, ◌<◌, ◌+◌, ◌-◌, ◌*◌, ◌∙◌, sym, ap, subst, ℕ, List, arith, refl}
use Rattle.std.specs.Prelude.{slice_index}
use Rattle.itip_todo.specs.Heads.{head_from, head_of}
use Rattle.itip_todo.proofs.HeadOrder.{room_for, room_next, head_next}
use Rattle.itip_todo.proofs.head.head.Goals as goal

pub overflow_mul-head : goal.overflow_mul-head
overflow_mul-head c = let fits =
    room_for c.loop-left.left c.loop-left.head 0 c.loop-left-test.true (omega arith) c.loop-left.invariant.1 in omega arith

pub overflow_add-head : goal.overflow_add-head
overflow_add-head c =
    let octet : c.from.result < 256 = omega arith in
    let fits = room_for c.loop-left.left c.loop-left.head c.from.result c.loop-left-test.true octet c.loop-left.invariant.1 in omega arith

pub loop-left-init : goal.loop-left-init
loop-left-init c = (refl, omega arith)

pub loop-left-preserved : goal.loop-left-preserved
loop-left-preserved c =
    let left = c.loop-left.left in
    let head = c.loop-left.head in
    let rest = c.loop-left.rest.now in
    let octet : c.from.result ≡ slice_index rest 0 = c.from.ensures ∙ c.split-octet.ensures.first in
    let small : c.from.result < 256 = omega arith in (
      ap (λ (x : ℕ). head_from (head * 256 + x) (left - 1) c.split-octet.result.1.now) octet
          ∙ ap (λ (text : List ℕ). head_from (head * 256 + slice_index rest 0) (left - 1) text) c.split-octet.ensures.behind
          ∙ sym (head_next left head rest c.loop-left-test.true) ∙ c.loop-left.invariant.0,
      room_next left head c.from.result c.loop-left-test.true small c.loop-left.invariant.1,
    )

pub returns : goal.returns
returns c =
    let ended : c.loop-left.left ≡ 0 = omega arith in
    record {
      number = subst (λ (left : ℕ). head_from c.loop-left.head left c.loop-left.rest.now ≡ head_of c.args.octets.now) ended
          c.loop-left.invariant.0;
      octets = λ place. (c.type_inv.octets place).fits;
    }
