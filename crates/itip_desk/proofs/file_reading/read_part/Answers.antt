use Rattle.std.proofs.Common.{◌≡◌, subst, arith, refl, ◌++◌}
use Rattle.itip_desk.specs.FileReading.{moves_at}
use Rattle.itip_desk.proofs.FileTexts.{no_move_part, other_move_part, refused_part}
use Rattle.itip_desk.proofs.file_reading.read_part.Goals as goal
use Rattle.itip_desk.proofs.file_reading.read_part.Goals.{then-moved-eq0-via-then-moved-eq0}
use Rattle.itip_desk.proofs.file_reading.read_part.Goals.{then-moved-eq0-via-else-moved-eq0+then-moved-parts}

pub returns-in_default-clause-fault : goal.returns-in_default-clause-fault
returns-in_default-clause-fault c =
    rw c.broken.ensures (refl, no_move_part c.args.parts.now.tick c.args.message.now c.in_default.ensures)

pub returns-then-moved-eq0-clause-fault : goal.returns-then-moved-eq0-clause-fault
returns-then-moved-eq0-clause-fault c =
    rw c.broken-then-moved-eq0.ensures (
      refl,
      other_move_part c.args.parts.now.tick c.args.message.now c.in-Some.moved c.in-Some.ensures
          (elim c.then-moved-eq0.branch [
            | then-moved-eq0-via-then-moved-eq0 w ↦ λ some within. omega arith
            | then-moved-eq0-via-else-moved-eq0+then-moved-parts w ↦ λ some within. omega arith
          ]),
    )

pub returns-in-Err-Refused-clause-fault : goal.returns-in-Err-Refused-clause-fault
returns-in-Err-Refused-clause-fault c =
    rw c.broken-in-Err-Refused.ensures
    (refl, refused_part c.args.parts.now.tick c.args.message.now _ (rw c.in-Err-Refused.field-0-is at c.in-Err-Refused.ensures.fault))

pub returns-clause-added : goal.returns-clause-added
returns-clause-added c = record {
  moved = c.in-Some.moved;
  given = c.in-Ok.items.items;
  part = record {
    reads = c.in-Ok.ensures.found;
    told = c.in-Some.ensures;
    some = omega arith;
    within = omega arith;
  };
  items_are = c.in_ok-append.ensures.items;
  moves_are = subst (λ (its : _). c.push_moves.new.moves.items ≡ c.args.parts.now.moves.items ++ moves_at c.in-Some.moved its)
      c.as_slice.ensures.value c.in_ok-push_moves.ensures;
  tick_is = refl;
}
