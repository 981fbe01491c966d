use Rattle.itip_todo.proofs.SameTodo.{same_todo}
use Rattle.itip_todo.proofs.todo.TodoClone.clone.Goals as goal

pub returns : goal.returns
returns c = record {
  cases = same_todo _ c.args.self.now (λ i. record {
    uid = c.in_ok-head.ensures.uid i;
    stamp = c.args.self.now.stamp;
    seq = c.args.self.now.seq;
    base = c.args.self.now.base;
    rid = (c.in_ok-head.ensures.times i).rid;
    range = c.args.self.now.range;
    start = (c.in_ok-head.ensures.times i).start;
    due = (c.in_ok-head.ensures.times i).due;
    status = c.args.self.now.status;
    percent = c.args.self.now.percent;
    priority = c.args.self.now.priority;
    summary = (c.in_ok-head.ensures.subject i).summary;
    organizer = (c.in_ok-head.ensures.subject i).organizer;
    attendees = (c.in_ok-head.ensures.subject i).attendees;
    rule = (c.in_ok-lists.ensures i).rule;
    rdates = (c.in_ok-lists.ensures i).rdates;
    exdates = (c.in_ok-lists.ensures i).exdates;
    others = (c.in_ok-lists.ensures i).others;
  });
}
