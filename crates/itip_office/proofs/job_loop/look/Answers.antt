use Rattle.std.proofs.Common.{rules, ◌≡◌, ◌∙◌, [], ◌∷◌, ap, refl, Err}
use Rattle.std.proofs.lemmas.Result.{IfOk-at_ok}
use Rattle.itip_view.specs.ListText.{IsListText}
use Rattle.itip_view.specs.Rows.{AreTooMany}
use Rattle.itip_desk.specs.HeardSteps.{heard}
use Rattle.itip_desk.specs.declared.refusal.Refusal.TheVariants.{TooManyRows}
use Rattle.itip_office.specs.declared.job.Work.TheVariants.{Look}
use Rattle.itip_office.specs.declared.outcome.Outcome.TheVariants.{Looked, Refused}
use Rattle.itip_office.specs.Answers.{IsLooked}
use Rattle.itip_office.specs.LooksAndCarries.{IsOneOf, LooksAt}
use Rattle.itip_office.proofs.Seeing.{shows_here}
use Rattle.itip_office.proofs.job_loop.look.Goals as goal
use Rattle.itip_office.proofs.job_loop.look.Goals.{In-Ok, In-Err-TooManyRows}

-- the text of what was seen, or that it has too many rows
text_is : (g : _) (c : In-Ok g) → IsListText (heard c.list-list.result.1.1) c.args.window c.in-Ok.text.items
text_is g c =
    IfOk-at_ok (λ text. IsListText (heard c.list-list.result.1.1) c.args.window text.items) c.in-Ok.is c.list-list.ensures.text

are_many : (g : _) (c : In-Err-TooManyRows g) → AreTooMany (heard c.list-list.result.1.1) c.args.window
are_many g c =
    let cause = rw c.in-Err-TooManyRows.is at c.in-Err-TooManyRows.field-0-is in
    c.list-list.ensures.many (c.in-Err-TooManyRows.is ∙ ap Err cause)

pub returns-in-Ok-clause-step : goal.returns-in-Ok-clause-step
returns-in-Ok-clause-step g c =
    let looked : IsLooked c.args.window (Looked c.in-Ok.text) = (_, text_is g (goal.at.returns-in-Ok-clause-step g c).In-Ok) in
    search rules

pub returns-in-Ok-clause-seen : goal.returns-in-Ok-clause-seen
returns-in-Ok-clause-seen g c =
    let source = c.list-list.result.1 in
    let same : source.0 ≡ c.args.desk = cc in
    shows_here source c.args.desk same c.args.desks c.args.window (Looked c.in-Ok.text)
    (text_is g (goal.at.returns-in-Ok-clause-seen g c).In-Ok)

pub returns-in-Err-TooManyRows-clause-step : goal.returns-in-Err-TooManyRows-clause-step
returns-in-Err-TooManyRows-clause-step g c =
    let looked : IsLooked c.args.window (Refused TooManyRows) =
    (refl, (_, are_many g (goal.at.returns-in-Err-TooManyRows-clause-step g c).In-Err-TooManyRows)) in
    search rules

pub returns-in-Err-TooManyRows-clause-seen : goal.returns-in-Err-TooManyRows-clause-seen
returns-in-Err-TooManyRows-clause-seen g c =
    let source = c.list-list.result.1 in
    let same : source.0 ≡ c.args.desk = cc in
    let shown : LooksAt c.args.desks (IsOneOf (source ∷ [])) (Look c.args.desk c.args.window) (Refused TooManyRows) =
    shows_here source c.args.desk same c.args.desks c.args.window (Refused TooManyRows)
    (refl, are_many g (goal.at.returns-in-Err-TooManyRows-clause-seen g c).In-Err-TooManyRows) in
    search rules
