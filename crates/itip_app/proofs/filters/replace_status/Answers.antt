use Rattle.itip_app.proofs.filters.replace_status.Goals as goal

pub returns : goal.returns
returns g c = record {
  asked = c.thread_count.ensures.known;
  done = c.write_replacement-replaced.result;
  output = c.write_replacement-replaced.ensures;
  told = c.status_of.ensures.told;
  status_is = c.status_of.ensures.status;
}
