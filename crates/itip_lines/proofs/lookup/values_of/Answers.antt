use Rattle.std.proofs.Common.{◌∙◌, sym, ap, length, arith, length-append}
use Rattle.itip_lines.proofs.Found.{stands_behind, found_here, found_none}
use Rattle.itip_lines.proofs.lookup.values_of.Goals as goal

pub loop-param-init : goal.loop-param-init
loop-param-init c = λ params stands. stands

pub loop-param-preserved : goal.loop-param-preserved
loop-param-preserved c = λ params stands.
    stands_behind c.args.name.now params c.loop-param.rest.now c.in-Some.param.now c.cut_run.result.0.now c.cut_run.result.1.now
    c.behind_values-rest.result.now (c.loop-param.invariant params stands) c.in-Some.ensures c.cut_run.ensures
    (sym c.is_named.ensures ∙ c.if-is_named.false) c.behind_values-rest.ensures.behind

pub loop-param-smaller : goal.loop-param-smaller
loop-param-smaller c =
    omega (
      arith,
      ap length c.in-Some.ensures,
      ap length c.cut_run.ensures.whole,
      length-append c.cut_run.result.0.now c.cut_run.result.1.now,
      c.behind_values-rest.ensures.shorter,
    )

pub returns-then-is_named : goal.returns-then-is_named
returns-then-is_named c = λ params stands.
    found_here c.args.name.now params c.loop-param.rest.now c.in-Some.param.now c.cut_run.result.0.now c.cut_run.result.1.now
    c.strip-then-is_named.result (c.loop-param.invariant params stands) c.in-Some.ensures c.cut_run.ensures
    (sym c.is_named.ensures ∙ c.if-is_named.true) c.strip-then-is_named.ensures

pub returns : goal.returns
returns c = λ params stands.
    found_none c.args.name.now params c.loop-param.rest.now (c.loop-param.invariant params stands) c.in_default.ensures
