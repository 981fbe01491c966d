use Rattle.std.proofs.Common.{◌≡◌, ◌++◌, take}
use Rattle.std.specs.List.{flat_map}
use Rattle.itip_inbox.specs.JsonTokens.{attendee_tokens}
use Rattle.itip_inbox.proofs.json_records.write_attendees.Given as goal

abbrev pub invariant-loop-attendee : goal.invariant-loop-attendee
invariant-loop-attendee l = record {
  tokens : l.writer.tokens ≡ l.initial.writer.tokens ++ flat_map attendee_tokens (take l.attendee-index l.attendees);
  before : l.writer.before ≡ l.initial.writer.before;
}
