use Rattle.std.proofs.Common.{List, Option, ap, arith, subst, sym, ◌∙◌, vec_len}
use Rattle.std.specs.Option.{option_map}
use Rattle.itip_view.specs.ByUid.{IsNextOf}
use Rattle.itip_view.specs.declared.row.Row.{Row}
use Rattle.itip_inbox.specs.JsonTokens.{IsFrontOf}
use Rattle.itip_inbox.proofs.JsonText.{front_part, no_part, no_rows, empty_by, some_by}
use Rattle.itip_inbox.proofs.json_records.first_rows.Goals as goal

pub loop-some-init : goal.loop-some-init
loop-some-init c = λ all are. are

pub returns-then-not-is_empty : goal.returns-then-not-is_empty
returns-then-not-is_empty c = λ all are.
    let part = subst (λ (o : Option (List Row)). IsNextOf c.loop-some.rows c.next.new.self o)
    (ap (option_map (λ r. r.items)) c.in-Some.is) c.in_ok-some.ensures.rows in
    front_part c.loop-some.rows c.next.new.self c.in-Some.some.items part
    (some_by c.in-Some.some.items (vec_len c.in-Some.some) (omega (arith, c.in-Some.some.ok.0))
    (sym c.is_empty.ensures ∙ c.if-not-is_empty.true)) all (c.loop-some.invariant all are)

pub loop-some-preserved : goal.loop-some-preserved
loop-some-preserved c = λ all are.
    let part = subst (λ (o : Option (List Row)). IsNextOf c.loop-some.rows c.next.new.self o)
    (ap (option_map (λ r. r.items)) c.in-Some.is) c.in_ok-some.ensures.rows in
    no_part c.loop-some.rows c.next.new.self c.in-Some.some.items part
    (empty_by c.in-Some.some.items (vec_len c.in-Some.some) (omega (arith, c.in-Some.some.ok.0))
    (sym c.is_empty.ensures ∙ c.if-not-is_empty.false)) all (c.loop-some.invariant all are)

pub returns : goal.returns
returns c = λ all are.
    let done = subst (λ (o : Option (List Row)). IsNextOf c.loop-some.rows c.next.new.self o)
    (ap (option_map (λ r. r.items)) c.in_default.is) c.in_ok-some.ensures.rows in
    subst (λ (first : List Row). IsFrontOf c.next.new.self first all) (sym c.new.ensures.items)
    (no_rows c.loop-some.rows c.next.new.self done all (c.loop-some.invariant all are))
