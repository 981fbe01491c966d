use Rattle.std.proofs.Common.{ℕ, List, subst, inr}
use Rattle.itip_explain.specs.Fates.{IsAnswerFate}
use Rattle.itip_explain.specs.Knowing.{told_to}
use Rattle.itip_explain.proofs.Becoming.{at_series, at_instance, at_range, at_answer, at_refresh}
use Rattle.itip_explain.proofs.fates.Fates.fate_of_kept.Goals as goal

pub returns-in-Series : goal.returns-in-Series
returns-in-Series c =
    let about = c.requires.sound.about c.args.item.now c.requires.kept.best.is_heard in
    inr (inr (record {
      kept = c.requires.kept;
      by_key = at_series (told_to c.args.self.now) c.args.item.now c.standing_fate.result c.args.self.now.question.uid about
          c.in-Series.field-0 c.in-Series.is c.standing_fate.ensures;
    }))

pub returns-in-Instance : goal.returns-in-Instance
returns-in-Instance c =
    let about = c.requires.sound.about c.args.item.now c.requires.kept.best.is_heard in
    inr (inr (record {
      kept = c.requires.kept;
      by_key = at_instance (told_to c.args.self.now) c.args.item.now c.override_fate.result c.args.self.now.question.uid about
          c.in-Instance.field-0 c.in-Instance.field-1 c.in-Instance.is c.override_fate.ensures;
    }))

pub returns-in-Range : goal.returns-in-Range
returns-in-Range c =
    let about = c.requires.sound.about c.args.item.now c.requires.kept.best.is_heard in
    inr (inr (record {
      kept = c.requires.kept;
      by_key = at_range (told_to c.args.self.now) c.args.item.now c.override_fate-in-Range.result c.args.self.now.question.uid about
          c.in-Range.field-0 c.in-Range.field-1 c.in-Range.is c.override_fate-in-Range.ensures;
    }))

pub returns-in-Answer : goal.returns-in-Answer
returns-in-Answer c =
    let told = told_to c.args.self.now in
    let uid = c.args.self.now.question.uid in
    let about = c.requires.sound.about c.args.item.now c.requires.kept.best.is_heard in
    inr (inr (record {
      kept = c.requires.kept;
      by_key = at_answer told c.args.item.now c.answer_fate.result uid about c.in-Answer.field-0 c.in-Answer.id c.in-Answer.attendee
          c.in-Answer.is (subst (λ (a : List ℕ). IsAnswerFate told uid c.in-Answer.id a c.args.item.now c.answer_fate.result)
          c.as_str.ensures c.answer_fate.ensures);
    }))

pub returns-in-Refresh : goal.returns-in-Refresh
returns-in-Refresh c =
    let about = c.requires.sound.about c.args.item.now c.requires.kept.best.is_heard in
    inr (inr (record {
      kept = c.requires.kept;
      by_key = at_refresh (told_to c.args.self.now) c.args.item.now c.refresh_fate.result c.args.self.now.question.uid about
          c.in-Refresh.field-0 c.in-Refresh.id c.in-Refresh.field-2 c.in-Refresh.is c.refresh_fate.ensures;
    }))
