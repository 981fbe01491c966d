use Rattle.std.proofs.Common.{◌++◌, ap, sym, ◌∙◌, take, append_assoc}
use Rattle.std.specs.List.{flat_map}
use Rattle.itip_view.proofs.FlatMap.{flat_map_more}
use Rattle.itip_inbox.specs.JsonTokens.{attendee_tokens}
use Rattle.itip_inbox.proofs.json_records.write_attendees.Goals as goal

pub loop-attendee-preserved : goal.loop-attendee-preserved
loop-attendee-preserved c =
    let more = flat_map_more attendee_tokens c.args.attendees.now c.loop-attendee.attendee-index c.attendee-item.result
    c.loop-attendee-test.true c.attendee-item.is in
    record {
      tokens = c.in_ok-write_attendee.ensures.tokens ∙ ap (λ front. front ++ attendee_tokens c.attendee-item.result)
          c.loop-attendee.invariant.tokens
          ∙ append_assoc c.args.writer.now.tokens (flat_map attendee_tokens (take c.loop-attendee.attendee-index c.args.attendees.now))
          (attendee_tokens c.attendee-item.result) ∙ ap (λ rest. c.args.writer.now.tokens ++ rest) (sym more);
      before = c.in_ok-write_attendee.ensures.before ∙ c.loop-attendee.invariant.before;
    }
