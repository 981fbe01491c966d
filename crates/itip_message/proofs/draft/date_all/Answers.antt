use Rattle.itip_message.proofs.draft.date_all.Goals as goal

pub returns : goal.returns
returns c = record {
  stamp = c.in_ok-stamp.stamp;
  first_stamp = c.in_ok-stamp.ensures;
  each = c.in_ok-all.ensures;
}
