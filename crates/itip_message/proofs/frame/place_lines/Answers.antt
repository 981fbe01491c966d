use Rattle.std.proofs.Common.{◌≡◌, ◌∙◌, sym, ap, arith, length, List, [], ◌∷◌, Option, None, Err, subst, append-nil}
use Rattle.std.proofs.lemmas.Result.{err_from_is_err_and}
use Rattle.std.specs.Vec.{vec_len}
use Rattle.std.specs.Vec.Iter.{into_iter_items}
use Rattle.std.specs.Option.{option_to_list}
use Rattle.itip_message.specs.Frame.{place, with_front, innermost_first}
use Rattle.itip_message.specs.Refusals.{IfRefused}
use Rattle.itip_message.specs.declared.error.ReadError.{ReadError}
use Rattle.itip_message.specs.declared.frame.Placed.{Placed}
use Rattle.itip_message.proofs.Frames.{one_more, fails_so, not_closed, not_zero, not_some}
use Rattle.itip_message.proofs.frame.place_lines.Goals as goal

pub returns-in_err-place-clause-fault : goal.returns-in_err-place-clause-fault
returns-in_err-place-clause-fault c =
    let p = err_from_is_err_and c.from_residual-in_err-place.result c.from_residual-in_err-place.ensures.1 in
    let same : into_iter_items c.into_iter-line-iterator.result ≡ into_iter_items c.args.lines =
    ap into_iter_items c.into_iter-line-iterator.ensures.into_iter_gives in
    rw (p.1, p.2) (fails_so c.in_err-place.field-0.0 c.loop-line.placed.items (innermost_first c.loop-line.inside.items) c.in-Some.line
    (into_iter_items c.loop-line.line-iterator) (into_iter_items c.next.new.self)
    (place (c.args.name ∷ []) (into_iter_items c.args.lines)) (c.loop-line.invariant.completes ∙ ap (place (c.args.name ∷ [])) same)
    c.in-Some.ensures.steps.0 c.in_err-place.ensures.fault)

pub loop-line-preserved-in-Continue-branch-5 : goal.loop-line-preserved-in-Continue-branch-5
loop-line-preserved-in-Continue-branch-5 c =
    let was = c.loop-line.invariant.length_is in
    let gone = c.in-Some.ensures.steps.1 in
    let short = ap length c.in-Some.ensures.steps.0 in
    let rest = into_iter_items c.next.new.self in
    let now = innermost_first c.place_line.new.inside.items in
    let all = place (c.args.name ∷ []) (into_iter_items c.into_iter-line-iterator.result) in
    let step : place (innermost_first c.loop-line.inside.items) (c.in-Some.line ∷ rest) ≡ with_front (c.in-Some-2.place ∷ [])
    (place now rest) =
    c.in_ok-place.ensures.placed rest ∙ ap (λ (o : Option Placed). with_front (option_to_list o) (place now rest)) c.in-Some-2.is in
    record {
      length_is = omega arith;
      completes = subst (λ (front : List Placed). with_front front (place now rest) ≡ all) (sym c.in_ok-push-2.ensures.items)
          (one_more c.loop-line.placed.items (c.in-Some-2.place ∷ []) (innermost_first c.loop-line.inside.items) now c.in-Some.line
          (into_iter_items c.loop-line.line-iterator) rest all c.loop-line.invariant.completes c.in-Some.ensures.steps.0 step);
    }

pub loop-line-preserved : goal.loop-line-preserved
loop-line-preserved c =
    let was = c.loop-line.invariant.length_is in
    let gone = c.in-Some.ensures.steps.1 in
    let short = ap length c.in-Some.ensures.steps.0 in
    let rest = into_iter_items c.next.new.self in
    let now = innermost_first c.place_line.new.inside.items in
    let all = place (c.args.name ∷ []) (into_iter_items c.into_iter-line-iterator.result) in
    let none : c.in_ok-place.field-0 ≡ None = not_some c.in_ok-place.field-0 c.in_default.not-Some in
    let step : place (innermost_first c.loop-line.inside.items) (c.in-Some.line ∷ rest) ≡ with_front [] (place now rest) =
    c.in_ok-place.ensures.placed rest ∙ ap (λ (o : Option Placed). with_front (option_to_list o) (place now rest)) none in record {
      length_is = omega arith;
      completes = subst (λ (front : List Placed). with_front front (place now rest) ≡ all) (append-nil c.loop-line.placed.items)
          (one_more c.loop-line.placed.items [] (innermost_first c.loop-line.inside.items) now c.in-Some.line
          (into_iter_items c.loop-line.line-iterator) rest all c.loop-line.invariant.completes c.in-Some.ensures.steps.0 step);
    }

pub returns-then-not-is_empty-clause-fault : goal.returns-then-not-is_empty-clause-fault
returns-then-not-is_empty-clause-fault c =
    let same : into_iter_items c.into_iter-line-iterator.result ≡ into_iter_items c.args.lines =
    ap into_iter_items c.into_iter-line-iterator.ensures.into_iter_gives in
    let was = c.loop-line.invariant.length_is in
    let none = c.in-None.ensures.steps.0 in
    let items = not_zero (vec_len c.loop-line.inside) (sym c.is_empty.ensures ∙ c.if-not-is_empty.true) in
    subst (λ (e : ReadError). IfRefused e (λ f. place (c.args.name ∷ []) (into_iter_items c.args.lines) ≡ Err f)) (sym c.nested.ensures)
    (not_closed c.loop-line.placed.items c.loop-line.inside.items (into_iter_items c.loop-line.line-iterator)
    (place (c.args.name ∷ []) (into_iter_items c.args.lines)) (c.loop-line.invariant.completes ∙ ap (place (c.args.name ∷ [])) same)
    (omega arith) (omega arith))
