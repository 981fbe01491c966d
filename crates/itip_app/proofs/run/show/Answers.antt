use Rattle.itip_app.proofs.run.show.Goals as goal

pub returns : goal.returns
returns g c = record {
  done = c.check.result;
  comes = record { output = c.check.ensures.output; front = c.check.ensures.front; unread = c.check.ensures.unread };
  status_is = c.ended.ensures;
}
