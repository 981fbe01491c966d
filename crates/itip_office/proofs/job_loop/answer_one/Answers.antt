use Rattle.std.proofs.Common.{rules, [], ◌∷◌}
use Rattle.std.specs.Prelude.{option_to_list}
use Rattle.std.proofs.lemmas.List.Elements.{All-nil, All-cons}
use Rattle.itip_office.specs.Answers.{Answer}
use Rattle.itip_office.specs.LooksAndCarries.{IsOneOf, IsAnswered}
use Rattle.itip_office.proofs.Seeing.{answered_together}
use Rattle.itip_office.proofs.job_loop.answer_one.Goals as goal

pub returns-clause-answered : goal.returns-clause-answered
returns-clause-answered g c = λ are.
    let answer = c.in-Some.answer in
    let more = option_to_list c.in-Some.source in
    let P : Answer → Type 0 = IsAnswered c.args.desks (IsOneOf more) in
    let one : P answer = search rules in
    answered_together c.args.desks c.args.found.now.1.items more c.keep_answer.new.found.1.items c.args.found.now.0.items (answer ∷ [])
    c.keep_answer.new.found.0.items c.in_ok-keep_answer.ensures.sources c.in_ok-keep_answer.ensures.answers are
    (All-cons P answer [] one (All-nil P))
