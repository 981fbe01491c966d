use Rattle.std.proofs.Common.{◌≡◌, List, [], sym, subst}
use Rattle.itip_office.specs.Answers.{Answer}
use Rattle.itip_office.specs.LooksAndCarries.{IsOneOf}
use Rattle.itip_office.specs.Merged.{GrewShown, GrewTexts}
use Rattle.itip_office.proofs.Merging.{grew_shown_none}
use Rattle.itip_office.proofs.Taking.{grew_texts_none}
use Rattle.itip_office.proofs.desk_loop.merge_all.Goals as goal

pub loop-init : goal.loop-init
loop-init g c =
    let none : c.new-answers.result.items ≡ [] = c.new-answers.ensures.items in
    record {
      idle = c.requires.nothing;
      texts = subst (λ (l : List Answer). GrewTexts c.args.desk c.args.texts.now c.args.texts.now l) (sym none)
          (grew_texts_none c.args.desk c.args.texts.now);
      shown = subst (λ (l : List Answer). GrewShown c.args.desk (IsOneOf c.new-sources.result.items) c.args.shown.now c.args.shown.now l)
          (sym none) (grew_shown_none (IsOneOf c.new-sources.result.items) c.args.desk c.args.shown.now);
    }

pub loop-preserved : goal.loop-preserved
loop-preserved g c = record {
  idle = c.in_ok-merge_some.ensures.nothing;
  texts = c.in_ok-merge_some.ensures.texts c.args.texts.now c.loop.invariant.texts;
  shown = c.in_ok-merge_some.ensures.published c.args.shown.now c.loop.invariant.shown;
}
