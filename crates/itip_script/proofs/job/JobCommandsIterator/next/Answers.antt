use Rattle.std.proofs.Common.{sym, ◌∙◌, ap, length, rules}
use Rattle.itip_script.specs.Lines.{content_of}
use Rattle.itip_script.specs.Jobs.{errand_of, errand_at, errands_of}
use Rattle.itip_script.proofs.Jobs.{errands_after, errands_first}
use Rattle.itip_script.proofs.job.JobCommandsIterator.next.Goals as goal

pub returns-in_err-line-clause-steps : goal.returns-in_err-line-clause-steps
returns-in_err-line-clause-steps c =
    let before = c.leading_stretch-before in
    let none = sym (errands_after c.args.self.now.rest.now before.result.after.now before.ensures.after) ∙
    ap errands_of c.in_err-line.ensures in
    rw c.from_residual.ensures (none, none)

pub returns-clause-steps : goal.returns-clause-steps
returns-clause-steps c =
    let before = c.leading_stretch-before in
    let message = c.leading_stretch-message in
    errands_first c.args.self.now.rest.now before.result.after.now c.in_ok-line.line.now c.in_ok-line.after.now message.result.after.now
    (errand_of c.job_at.result) before.ensures.after c.in_ok-line.ensures.lines
    message.ensures.after (c.job_at.ensures ∙ ap (λ t. errand_at t message.result.text.now) c.content.ensures ∙
    ap (errand_at (content_of c.in_ok-line.line.now)) message.ensures.text)

pub returns-clause-goes : goal.returns-clause-goes
returns-clause-goes c =
    let before = c.leading_stretch-before in
    let message = c.leading_stretch-message in
    let shorter = ap length (errands_first c.args.self.now.rest.now before.result.after.now c.in_ok-line.line.now c.in_ok-line.after.now
    message.result.after.now (errand_of c.job_at.result) before.ensures.after c.in_ok-line.ensures.lines
    message.ensures.after (c.job_at.ensures ∙ ap (λ t. errand_at t message.result.text.now) c.content.ensures ∙
    ap (errand_at (content_of c.in_ok-line.line.now)) message.ensures.text)) in
    search rules
