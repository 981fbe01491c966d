use Rattle.itip_app.proofs.filters.filter_status.Goals as goal

pub returns : goal.returns
returns g c = record {
  asked = c.thread_count-threads.ensures.known;
  done = c.write_filtered-done.result;
  comes = record {
    output = c.write_filtered-done.ensures.output;
    front = c.write_filtered-done.ensures.front;
    unread = c.write_filtered-done.ensures.unread;
  };
  told = c.status_of.ensures.told;
  status_is = c.status_of.ensures.status;
}
