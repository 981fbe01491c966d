use Rattle.std.proofs.Common.{◌∙◌, ◌∷◌, ap}
use Rattle.itip_lines.specs.Stretches.{stretches_behind}
use Rattle.itip_lines.proofs.Stretches.{texts_onto_fold, texts_onto_break, texts_onto_last}
use Rattle.itip_lines.proofs.unfold.cut_stretch.Goals as goal

pub returns-in_default-clause-lines : goal.returns-in_default-clause-lines
returns-in_default-clause-lines c =
    λ at line. texts_onto_last at line _ _ _ (c.cut_break.ensures.stretches ∙
    ap (λ o. c.cut_break.result.0.now ∷ stretches_behind o) c.in_default.is)

pub returns-in-Some-strip_blank-clause-lines : goal.returns-in-Some-strip_blank-clause-lines
returns-in-Some-strip_blank-clause-lines c =
    λ at line. texts_onto_fold at line _ _ _ c.in-Some.behind.now _ (c.cut_break.ensures.stretches ∙
    ap (λ o. c.cut_break.result.0.now ∷ stretches_behind o) c.in-Some.is) c.in-Some-strip_blank.ensures

pub returns-in-None-clause-lines : goal.returns-in-None-clause-lines
returns-in-None-clause-lines c =
    λ at line. texts_onto_break at line _ _ _ c.in-Some.behind.now (c.cut_break.ensures.stretches ∙
    ap (λ o. c.cut_break.result.0.now ∷ stretches_behind o) c.in-Some.is) c.in-None.ensures
