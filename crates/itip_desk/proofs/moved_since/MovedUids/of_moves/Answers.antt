use Rattle.std.proofs.Common.{rules, ◌≡◌, sym, [], arith}
use Rattle.std.proofs.lemmas.List.{nil_from_length}
use Rattle.std.specs.Vec.Iter.{into_iter_items}
use Rattle.itip_desk.proofs.LastMoves.{nothing_put, put_more, all_put, last_ticks}
use Rattle.itip_desk.proofs.moved_since.MovedUids.of_moves.Goals as goal

pub loop-uid-init : goal.loop-uid-init
loop-uid-init c =
    let given : into_iter_items c.into_iter-uid-iterator.result ≡ c.args.moves.items =
    c.into_iter-uid-iterator.ensures.into_iter_gives.0 in
    let none : c.new-ticks.result.entries ≡ [] = search rules in
    record {
      so_far = nothing_put c.args.moves.items (into_iter_items c.into_iter-uid-iterator.result) c.new-ticks.result.entries (sym given) none;
      ordered = search rules;
    }

pub loop-uid-preserved : goal.loop-uid-preserved
loop-uid-preserved c = record {
  so_far = put_more _ _ _ _ _ _ _ c.loop-uid.invariant.so_far c.in-Some.ensures.steps.0 c.in_ok-insert.ensures.updates.0;
  ordered = c.insert.ensures.ordered;
}

pub returns-clause-moves : goal.returns-clause-moves
returns-clause-moves c =
    let none : into_iter_items c.loop-uid.uid-iterator ≡ [] =
    nil_from_length _ (omega (arith, c.in-None.ensures.steps.0, c.loop-uid.uid-iterator.rest.ok.0)) in
    all_put c.args.moves.items (into_iter_items c.loop-uid.uid-iterator) c.loop-uid.ticks.entries c.loop-uid.invariant.so_far none

pub returns-clause-ticks : goal.returns-clause-ticks
returns-clause-ticks c =
    let none : into_iter_items c.loop-uid.uid-iterator ≡ [] =
    nil_from_length _ (omega (arith, c.in-None.ensures.steps.0, c.loop-uid.uid-iterator.rest.ok.0)) in
    last_ticks c.args.moves.items c.loop-uid.ticks.entries c.requires
    (all_put c.args.moves.items (into_iter_items c.loop-uid.uid-iterator) c.loop-uid.ticks.entries c.loop-uid.invariant.so_far none)
