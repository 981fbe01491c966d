use Rattle.std.proofs.Common.{List, Option, None, refl, sym, subst}
use Rattle.std.proofs.KnownBytes.{Appends-nil}
use Rattle.itip_inbox.specs.declared.sent.Sent.{Sent}
use Rattle.itip_message.specs.declared.error.MessageRefusal.{MessageRefusal}
use Rattle.itip_todo.specs.declared.todo.Todo.{Todo}
use Rattle.itip_words.specs.Asked.{IsErrandOf}
use Rattle.itip_app.specs.Filtered.{IsOutcomeOfSent, WritesMessage, WritesMessageFront}
use Rattle.itip_app.proofs.Filtering.{on_err}
use Rattle.itip_app.proofs.filters.write_message.Goals as goal

pub returns-in_err-hear_only-clause-front : goal.returns-in_err-hear_only-clause-front
returns-in_err-hear_only-clause-front g c =
    on_err c.from_residual.result (λ inputs are.
    subst (λ (o : Option MessageRefusal). WritesMessageFront o c.args.asked.now c.args.draft.now.todos.items c.args.at inputs
    (g.W.Write.contents c.args.writer.now) (g.W.Write.contents c.args.writer.now)) (sym c.in-Some.is)
    (Appends-nil (g.W.Write.contents c.args.writer.now)))

pub returns-in-Some-clause-output : goal.returns-in-Some-clause-output
returns-in-Some-clause-output g c = λ inputs are.
    subst (λ (o : Option MessageRefusal). WritesMessage o c.args.asked.now c.args.draft.now.todos.items c.args.at inputs
    (g.W.Write.contents c.args.writer.now) (g.W.Write.contents c.args.writer.now) c.nothing_done.result) (sym c.in-Some.is)
    (Appends-nil (g.W.Write.contents c.args.writer.now), c.nothing_done.ensures)

pub returns-in_err-is_refused-clause-front : goal.returns-in_err-is_refused-clause-front
returns-in_err-is_refused-clause-front g c =
    on_err c.from_residual-in_err-is_refused.result (λ inputs are.
    subst (λ (o : Option MessageRefusal). WritesMessageFront o c.args.asked.now c.args.draft.now.todos.items c.args.at inputs
    (g.W.Write.contents c.args.writer.now) (g.W.Write.contents c.send.new.writer)) (sym c.in_default.is)
    (record {
      errand = c.errand-errand.result;
      is_errand = subst (λ (todos : List Todo). IsErrandOf c.args.asked.now todos c.errand-errand.result) c.as_slice.ensures.value
          c.errand-errand.ensures;
      front = c.in_err-is_refused.ensures.front inputs are;
    }))

pub returns-in-Done-clause-output : goal.returns-in-Done-clause-output
returns-in-Done-clause-output g c = λ inputs are.
    subst (λ (o : Option MessageRefusal). WritesMessage o c.args.asked.now c.args.draft.now.todos.items c.args.at inputs
    (g.W.Write.contents c.args.writer.now) (g.W.Write.contents c.send.new.writer)
    (record { is_refused = c.in-Done.is_refused; lacking = c.in-Done.lacking; undone = None })) (sym c.in_default.is)
    (record {
      errand = c.errand-errand.result;
      is_errand = subst (λ (todos : List Todo). IsErrandOf c.args.asked.now todos c.errand-errand.result) c.as_slice.ensures.value
          c.errand-errand.ensures;
      what = c.in_ok-is_refused.field-0;
      sends = c.in_ok-is_refused.ensures.output inputs are;
      outcome_is = subst (λ (what : Sent). IsOutcomeOfSent what
          (record { is_refused = c.in-Done.is_refused; lacking = c.in-Done.lacking; undone = None })) (sym c.in-Done.is) (refl, refl, refl);
    })

pub returns-in-Undone-clause-output : goal.returns-in-Undone-clause-output
returns-in-Undone-clause-output g c = λ inputs are.
    subst (λ (o : Option MessageRefusal). WritesMessage o c.args.asked.now c.args.draft.now.todos.items c.args.at inputs
    (g.W.Write.contents c.args.writer.now) (g.W.Write.contents c.send.new.writer) c.nothing_done-in-Undone.result) (sym c.in_default.is)
    (record {
      errand = c.errand-errand.result;
      is_errand = subst (λ (todos : List Todo). IsErrandOf c.args.asked.now todos c.errand-errand.result) c.as_slice.ensures.value
          c.errand-errand.ensures;
      what = c.in_ok-is_refused.field-0;
      sends = c.in_ok-is_refused.ensures.output inputs are;
      outcome_is = subst (λ (what : Sent). IsOutcomeOfSent what c.nothing_done-in-Undone.result) (sym c.in-Undone.is)
          c.nothing_done-in-Undone.ensures;
    })
