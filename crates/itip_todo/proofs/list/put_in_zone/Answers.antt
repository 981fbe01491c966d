use Rattle.std.proofs.Common.{◌≡◌, ℕ, List, subst, arith, Some}
use Rattle.std.specs.Str.{IsUtf8}
use Rattle.std.specs.Prelude.{option_copied}
use Rattle.std.proofs.lemmas.Result.{err_from_is_err_and, IfErr-weaker, on_ok_weaker}
use Rattle.itip_lines.proofs.Utf8Parts.{utf8_behind, utf8_from}
use Rattle.itip_lines.specs.declared.line.Param.{Param}
use Rattle.itip_moment.specs.Spelling.{MomentText}
use Rattle.itip_moment.specs.Zone.{zone_text}
use Rattle.itip_moment.specs.declared.moment.Moment.{Moment}
use Rattle.itip_todo.specs.Drafts.{PutsMoment}
use Rattle.itip_todo.specs.Causes.{IfCause}
use Rattle.itip_todo.specs.Values.{AreMoments}
use Rattle.itip_todo.specs.declared.error.TodoCause.TheVariants as cause
use Rattle.itip_todo.specs.declared.error.CauseError.{CauseError}
use Rattle.itip_todo.proofs.GoodLines.{IfCause-weaker}
use Rattle.itip_todo.proofs.Putting.{put_more, put_last, bad_front, bad_last}
use Rattle.itip_todo.proofs.list.put_in_zone.Goals as goal

pub returns-in_err-put_moment-clause-cause : goal.returns-in_err-put_moment-clause-cause
returns-in_err-put_moment-clause-cause c =
    let params : List Param = c.args.line.now.params in
    let text : List ℕ = c.args.line.now.value in
    let front : List ℕ = c.in-Some.front.now in
    let zone : List ℕ = zone_text (option_copied c.args.zone) in
    let p = err_from_is_err_and c.from_residual.result c.from_residual.ensures.1 in
    rw (p.1, p.2) (IfCause-weaker c.in_err-put_moment.field-0.0 (λ f. (f ≡ cause.BadValue c.args.property) ×
    ((m : Moment) → MomentText front (Some zone) m → ⊥))
    (λ f. (f ≡ cause.BadValue c.args.property) × ((ms : List Moment) → AreMoments params text ms → ⊥))
    (λ f h. (
      h.0,
      bad_front params text c.loop-front.rest.now front c.in-Some.after.now c.args.set.now c.loop-front.set
          c.loop-front.invariant.1 c.in-Some.ensures.0 c.in-Some.ensures.1
          (subst (λ (z : List ℕ). (m : Moment) → MomentText front (Some z) m → ⊥) c.requires h.1),
    ))
    c.in_err-put_moment.ensures.cause)

pub loop-front-preserved : goal.loop-front-preserved
loop-front-preserved c =
    let params : List Param = c.args.line.now.params in
    let front : List ℕ = c.in-Some.front.now in
    let puts : PutsMoment front (zone_text (option_copied c.args.zone)) c.loop-front.set c.put_moment.new.set =
    c.in_ok-put_moment.ensures.put in (
      utf8_behind 44 c.in-Some.after.now (utf8_from front 44 c.in-Some.after.now
          (subst IsUtf8 c.in-Some.ensures.0 c.loop-front.invariant.0) (omega arith)) (omega arith),
      put_more params c.args.line.now.value c.loop-front.rest.now front c.in-Some.after.now puts.moment c.args.set.now c.loop-front.set
          c.put_moment.new.set c.loop-front.invariant.1 c.in-Some.ensures.0 c.in-Some.ensures.1
          (subst (λ (z : List ℕ). MomentText front (Some z) puts.moment) c.requires puts.is) puts.each,
    )

pub returns-clause-put : goal.returns-clause-put
returns-clause-put c =
    let params : List Param = c.args.line.now.params in
    let rest : List ℕ = c.loop-front.rest.now in
    on_ok_weaker c.put_moment-2.result
    (λ (puts : PutsMoment rest (zone_text (option_copied c.args.zone)) c.loop-front.set c.put_moment-2.new.set).
    put_last params c.args.line.now.value rest puts.moment c.args.set.now c.loop-front.set c.put_moment-2.new.set c.loop-front.invariant.1
    (subst (λ (z : List ℕ). MomentText rest (Some z) puts.moment) c.requires puts.is) puts.each)
    c.put_moment-2.ensures.put

pub returns-clause-cause : goal.returns-clause-cause
returns-clause-cause c =
    let params : List Param = c.args.line.now.params in
    let text : List ℕ = c.args.line.now.value in
    let rest : List ℕ = c.loop-front.rest.now in
    let zone : List ℕ = zone_text (option_copied c.args.zone) in
    IfErr-weaker c.put_moment-2.result (λ (e : CauseError). IfCause e (λ f. (f ≡ cause.BadValue c.args.property) ×
    ((m : Moment) → MomentText rest (Some zone) m → ⊥)))
    (λ (e : CauseError). IfCause e (λ f. (f ≡ cause.BadValue c.args.property) × ((ms : List Moment) → AreMoments params text ms → ⊥)))
    (λ e. IfCause-weaker e (λ f. (f ≡ cause.BadValue c.args.property) ×
    ((m : Moment) → MomentText rest (Some zone) m → ⊥)) (λ f. (f ≡ cause.BadValue c.args.property) ×
    ((ms : List Moment) → AreMoments params text ms → ⊥))
    (λ f h. (
      h.0,
      bad_last params text rest c.args.set.now c.loop-front.set c.loop-front.invariant.1 c.in_default.ensures
          (subst (λ (z : List ℕ). (m : Moment) → MomentText rest (Some z) m → ⊥) c.requires h.1),
    )))
    c.put_moment-2.ensures.cause
