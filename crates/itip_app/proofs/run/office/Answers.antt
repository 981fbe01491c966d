use Rattle.itip_app.proofs.run.office.Goals as goal

pub returns : goal.returns
returns g c = record {
  employed = c.worker_count-workers.ensures.known;
  done = c.office_on.result;
  comes = record {
    output = c.office_on.ensures.output;
    front = c.office_on.ensures.front;
    unread = c.office_on.ensures.unread;
    unended = c.office_on.ensures.unended;
  };
  status_is = c.ended.ensures;
}
