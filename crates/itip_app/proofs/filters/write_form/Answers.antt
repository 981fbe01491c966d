use Rattle.itip_view.specs.Wanting.{Wants}
use Rattle.itip_inbox.specs.TaskList.{IsTaskList}
use Rattle.itip_app.proofs.Filtering.{on_err, written}
use Rattle.itip_app.proofs.filters.write_form.Goals as goal

pub returns-in_err-done-clause-front : goal.returns-in_err-done-clause-front
returns-in_err-done-clause-front g c =
    on_err c.from_residual.result (λ inputs are. record {
      wanted = c.wanted-wanted.result;
      are_wanted = record {
        attendee = c.wanted-wanted.ensures.attendee;
        is_open = c.wanted-wanted.ensures.open;
        due = c.wanted-wanted.ensures.due;
      };
      front = c.in_err-done.ensures.front inputs are;
    })

pub returns-clause-output : goal.returns-clause-output
returns-clause-output g c = λ inputs are. record {
  wanted = c.wanted-wanted.result;
  are_wanted = record {
    attendee = c.wanted-wanted.ensures.attendee;
    is_open = c.wanted-wanted.ensures.open;
    due = c.wanted-wanted.ensures.due;
  };
  writes = written (IsTaskList (g.F.ListForm.octets c.args.form.now) (Wants c.wanted-wanted.result) inputs c.args.asked.now.window)
      (g.W.Write.contents c.args.writer.now) (g.W.Write.contents c.list.new.writer) c.in_ok-done.done c.done_with.result
      c.done_with.ensures.refused c.done_with.ensures.whole c.done_with.ensures.is_done (c.in_ok-done.ensures.output inputs are);
}
