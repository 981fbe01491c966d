use Rattle.std.proofs.Common.{◌≡◌, List, [], ◌∷◌, ◌++◌, sym, subst}
use Rattle.itip_office.specs.Answers.{Answer}
use Rattle.itip_office.specs.Merged.{GrewTexts}
use Rattle.itip_office.proofs.Merging.{idle_after}
use Rattle.itip_office.proofs.Seeing.{grew_shown_seen}
use Rattle.itip_office.proofs.Taking.{grew_texts_more}
use Rattle.itip_office.proofs.desk_loop.merge_some.Goals as goal

pub loop-merge-init : goal.loop-merge-init
loop-merge-init g c = record { idle = c.requires.nothing; texts = λ first grew. grew; shown = λ first grew. grew }

pub loop-merge-preserved : goal.loop-merge-preserved
loop-merge-preserved g c =
    let was = c.loop-merge.invariant in
    let answers = c.loop-merge.found.0.items in
    let answer = c.in_ok-answer.answer in
    let one = c.in_ok-answer.ensures.merged in
    let pushed : c.keep_answer.new.found.0.items ≡ answers ++ answer ∷ [] = c.in_ok-keep_answer.ensures.answers in
    record {
      idle = idle_after answer.0.work c.loop-merge.shown c.merge_one.new.shown one.batch one.shown;
      texts = λ first grew. subst (λ (l : List Answer). GrewTexts c.args.desk first c.merge_one.new.texts l) (sym pushed)
          (grew_texts_more c.args.desk first c.loop-merge.texts c.merge_one.new.texts answers answer one.batch (was.texts first grew)
          one.answers one.texts);
      shown = λ first grew. grew_shown_seen c.args.desk c.loop-merge.found.1.items _ c.keep_answer.new.found.1.items first
          c.loop-merge.shown c.merge_one.new.shown answers c.keep_answer.new.found.0.items answer one.batch
          c.in_ok-keep_answer.ensures.sources pushed (was.shown first grew) one.answers one.brought one.shown;
    }
