use Rattle.std.proofs.Common.{◌∙◌, List, [], ap, subst}
use Rattle.std.proofs.lemmas.Result.{err_from_is_err_and}
use Rattle.itip_lines.specs.UnfoldedLines.{NumberedText}
use Rattle.itip_lines.specs.Stretches.{texts_behind}
use Rattle.itip_lines.specs.UnfoldSteps.{AreUtf8, texts_by}
use Rattle.itip_lines.proofs.UnfoldRuns.{next_refusal}
use Rattle.itip_lines.proofs.read.read_next.Goals as goal

pub push_line-requires : goal.push_line-requires
push_line-requires c =
    let first = c.cut_stretch.ensures.lines c.args.left.number [] ∙
    ap (texts_by c.args.left.number c.cut_stretch.result.0.now) c.in-Line.is in
    λ whole. (subst (λ (ts : List NumberedText). AreUtf8 ts) first (c.requires.utf8 whole)).0

pub push_line-requires-in-Fold : goal.push_line-requires-in-Fold
push_line-requires-in-Fold c =
    let first = c.cut_stretch.ensures.lines c.args.left.number [] ∙
    ap (texts_by c.args.left.number c.cut_stretch.result.0.now) c.in-Fold.is ∙ c.in_ok-line-in-Fold.ensures.lines c.args.left.number in
    λ whole. (subst (λ (ts : List NumberedText). AreUtf8 ts) first (c.requires.utf8 whole)).0

pub returns-in_err-push_line-in-Line-clause-refused :
    goal.returns-in_err-push_line-in-Line-clause-refused
returns-in_err-push_line-in-Line-clause-refused c =
    let p = err_from_is_err_and c.from_residual.result c.from_residual.ensures.1 in
    rw (p.1, p.2) (next_refusal c.args.left _ c.cut_stretch.result.0.now (texts_behind c.in-Line.after) _
    (c.cut_stretch.ensures.lines c.args.left.number [] ∙ ap (texts_by c.args.left.number c.cut_stretch.result.0.now) c.in-Line.is)
    c.in_err-push_line-in-Line.ensures.refused)

pub returns-in_err-push_line-in-Fold-clause-refused :
    goal.returns-in_err-push_line-in-Fold-clause-refused
returns-in_err-push_line-in-Fold-clause-refused c =
    let p = err_from_is_err_and c.from_residual-in_err-push_line-in-Fold.result c.from_residual-in_err-push_line-in-Fold.ensures.1 in
    rw (p.1, p.2) (next_refusal c.args.left _ c.in_ok-line-in-Fold.line.items (texts_behind c.in_ok-line-in-Fold.after) _
    (c.cut_stretch.ensures.lines c.args.left.number [] ∙ ap (texts_by c.args.left.number c.cut_stretch.result.0.now) c.in-Fold.is ∙
    c.in_ok-line-in-Fold.ensures.lines c.args.left.number)
    c.in_err-push_line-in-Fold.ensures.refused)
