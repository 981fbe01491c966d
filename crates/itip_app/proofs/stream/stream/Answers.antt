use Rattle.itip_app.proofs.stream.stream.Goals as goal

pub returns : goal.returns
returns g c = record {
  done = c.stream_on-done.result;
  comes = record { served = c.stream_on-done.ensures.served; unserved = c.stream_on-done.ensures.unserved };
  told = c.served.ensures.told;
  status_is = c.served.ensures.status;
}
