use Rattle.std.proofs.Common.{◌≡◌, [], refl, rules, arith}
use Rattle.std.specs.Vec.Iter.{into_iter_items}
use Rattle.std.proofs.lemmas.List.{nil_from_length}
use Rattle.itip_state.proofs.Waiting.{raised_none, raised_more, raised_all, raised_here}
use Rattle.itip_state.proofs.hear.raise_all.Goals as goal

pub loop-uid-init : goal.loop-uid-init
loop-uid-init c = λ awaited. raised_none c.args.held.now c.args.newer.items _ (search rules) awaited

pub loop-uid-preserved : goal.loop-uid-preserved
loop-uid-preserved c = λ awaited.
    raised_more c.args.held.now c.loop-uid.held c.raise.new.self c.args.newer.items _ _ c.in-Some.field-0 c.in-Some.ensures.steps.0
    (c.loop-uid.invariant awaited)
    (λ a. raised_here c.in-Some.field-0.best.value c.in-Some.field-0.best c.in-Some.field-0.uid.now c.loop-uid.held c.raise.new.self a.about
    c.raise.ensures.ordered a.there a.series refl c.raise.ensures.raised c.raise.ensures.others)

pub returns : goal.returns
returns c = λ awaited.
    let none : into_iter_items c.loop-uid.uid-iterator ≡ [] =
    nil_from_length _ (omega (arith, c.in-None.ensures.steps.0, c.loop-uid.uid-iterator.rest.ok.0)) in
    raised_all c.args.held.now c.loop-uid.held c.args.newer.items _ none (c.loop-uid.invariant awaited)
