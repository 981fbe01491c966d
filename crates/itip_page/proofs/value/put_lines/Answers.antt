use Rattle.std.proofs.Common.{◌++◌, ◌∙◌, List, ℕ, ap}
use Rattle.std.proofs.lemmas.Result.{on_ok_weaker}
use Rattle.itip_page.specs.Escaped.{escaped}
use Rattle.itip_page.specs.Value.{behind, lines_of, lines_markup}
use Rattle.itip_page.proofs.Lining.{line_moves, line_ends}
use Rattle.itip_page.proofs.value.put_lines.Goals as goal

pub loop-shown-init : goal.loop-shown-init
loop-shown-init c =
    ap (λ (line : List ℕ). c.args.out.now.items ++ lines_markup (behind line (lines_of c.args.value.now))) c.new-line.ensures.items

pub loop-shown-preserved : goal.loop-shown-preserved
loop-shown-preserved c =
    line_moves c.in-Some.shown c.loop-shown.out.items c.put_shown.new.out.items c.loop-shown.line.items c.put_shown.new.line.items
    c.loop-shown.rest.now c.in-Some.after.now c.in_ok-put_shown.ensures c.in-Some.ensures.next ∙ c.loop-shown.invariant

pub returns : goal.returns
returns c =
    on_ok_weaker c.put_escaped.result (λ is.
    is ∙ ap (λ (line : List ℕ). c.loop-shown.out.items ++ escaped line) c.as_slice.ensures.value ∙
    line_ends c.loop-shown.out.items c.loop-shown.line.items c.loop-shown.rest.now c.in_default.ensures.next ∙ c.loop-shown.invariant)
    c.put_escaped.ensures.ok
