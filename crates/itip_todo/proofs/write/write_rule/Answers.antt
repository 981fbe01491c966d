use Rattle.std.proofs.Common.{◌≡◌, ◌∙◌, ◌<◌, ◌++◌, ◌∷◌, [], ℕ, List, ap, map, sym, subst, length, arith}
use Rattle.std.specs.Prelude.{codes}
use Rattle.itip_lines.specs.TextsLeft.{texts_left}
use Rattle.itip_todo.specs.Written.{Content, contents_octets, plain, bare}
use Rattle.itip_todo.specs.declared.property_name.PropertyName.TheVariants as name
use Rattle.itip_todo.proofs.Appending.{Leaves, leaves_all, leaves_less, leaves_none, leaves_some}
use Rattle.itip_todo.proofs.write.write_rule.Goals as goal

pub loop-value-init : goal.loop-value-init
loop-value-init c =
    let left : texts_left c.into_iter-value-iterator.result ≡ c.args.rule.now =
    ap texts_left c.into_iter-value-iterator.ensures.into_iter_gives ∙ c.iter-value-items.ensures in (
      tt,
      tt,
      subst (λ (values : List (List ℕ)). Leaves (map (plain name.RRule) c.args.rule.now) c.args.out.now.items c.args.out.now.items
          (map (plain name.RRule) values)) (sym left) (leaves_all (map (plain name.RRule) c.args.rule.now) c.args.out.now.items),
    )

pub loop-value-preserved : goal.loop-value-preserved
loop-value-preserved c =
    let lines : List Content = map (plain name.RRule) c.args.rule.now in
    let rest : List Content = map (plain name.RRule) (texts_left c.next.new.self) in
    let left : Leaves lines c.args.out.now.items c.loop-value.out.items (plain name.RRule c.in-Some.value.now ∷ rest) =
    subst (λ (values : List (List ℕ)). Leaves lines c.args.out.now.items c.loop-value.out.items (map (plain name.RRule) values))
    c.in-Some.ensures.steps c.loop-value.invariant.2 in
    let wrote : c.write_value.new.out.items ≡ c.loop-value.out.items ++ contents_octets (plain name.RRule c.in-Some.value.now ∷ []) =
    c.in_ok-write_value.ensures ∙
    ap (λ (value : List ℕ). c.loop-value.out.items ++ contents_octets (bare (codes "RRULE") value ∷ [])) c.as_bytes.ensures.value in (
      tt,
      tt,
      leaves_less lines c.args.out.now.items c.loop-value.out.items (plain name.RRule c.in-Some.value.now) rest
          c.write_value.new.out.items left wrote,
    )

pub returns-then-len-limit : goal.returns-then-len-limit
returns-then-len-limit c =
    let long : c.args.limit < length c.loop-value.out.items = omega arith in
    leaves_some (map (plain name.RRule) c.args.rule.now) c.args.limit c.args.out.now.items c.loop-value.out.items _ long
    c.loop-value.invariant.2

pub returns : goal.returns
returns c =
    leaves_none (map (plain name.RRule) c.args.rule.now) c.args.limit c.args.out.now.items c.loop-value.out.items
    (subst (λ (values : List (List ℕ)). Leaves (map (plain name.RRule) c.args.rule.now) c.args.out.now.items c.loop-value.out.items
    (map (plain name.RRule) values)) c.in-None.ensures.steps.0 c.loop-value.invariant.2)
