use Rattle.std.proofs.Common.{List, [], refl, subst, arith}
use Rattle.std.proofs.lemmas.Result.{err_from_is_err_and}
use Rattle.itip_lines.specs.UnfoldedLines.{NumberedText}
use Rattle.itip_lines.specs.UnfoldSteps.{AreUtf8}
use Rattle.itip_lines.proofs.UnfoldRuns.{more_read, all_read, refused_line}
use Rattle.itip_lines.proofs.Utf8Lines.{utf8_lines}
use Rattle.itip_lines.proofs.read.read_lines.Goals as goal

pub loop-rest-init : goal.loop-rest-init
loop-rest-init c = (
  rw c.in_ok-lines.ensures.items (record { done = []; all = refl; are = tt }),
  omega arith,
  λ whole. utf8_lines c.args.text.now (c.is_utf8-utf8.ensures.0 whole),
)

pub read_next-requires-clause-utf8 : goal.read_next-requires-clause-utf8
read_next-requires-clause-utf8 c = (rw c.in-Some.is at c.loop-rest.invariant).2

pub returns-in_err-rest-clause-refused : goal.returns-in_err-rest-clause-refused
returns-in_err-rest-clause-refused c =
    let p = err_from_is_err_and c.from_residual-in_err-rest.result c.from_residual-in_err-rest.ensures.1 in
    rw (p.1, p.2) (refused_line _ _ c.in-Some.left _ c.if-text-gt-TEXT_LIMIT.false (rw c.in-Some.is at c.loop-rest.invariant).0
    c.in_err-rest.ensures.refused)

pub loop-rest-preserved : goal.loop-rest-preserved
loop-rest-preserved c =
    let so_far = rw c.in-Some.is at c.loop-rest.invariant in
    let next = c.in_ok-rest.ensures.next in (
      more_read _ _ _ c.in-Some.left _ so_far.0 next,
      omega (arith, so_far.1, next.within),
      λ whole. (subst (λ (ts : List NumberedText). AreUtf8 ts) next.first (so_far.2 whole)).1,
    )

pub returns-clause-found : goal.returns-clause-found
returns-clause-found c = all_read _ _ c.if-text-gt-TEXT_LIMIT.false (rw c.in_default.is at c.loop-rest.invariant).0
