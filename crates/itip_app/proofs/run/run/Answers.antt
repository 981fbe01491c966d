use Rattle.itip_app.proofs.run.run.Goals as goal

pub returns : goal.returns
returns g c = record {
  done = c.run_on.result;
  comes = record { output = c.run_on.ensures.output; front = c.run_on.ensures.front; unread = c.run_on.ensures.unread };
  status_is = c.ended.ensures;
}
