use Rattle.itip_desk.proofs.FileTexts.{alike, tells_or_refuses, alike_delta, alike_steps, file_messages}
use Rattle.itip_desk.proofs.laws.desk_read_again.Goals as goal

pub returns : goal.returns
returns c = record {
  alike = alike;
  apart = tells_or_refuses;
  steps = alike_steps;
  delta = alike_delta;
  messages = file_messages;
}
