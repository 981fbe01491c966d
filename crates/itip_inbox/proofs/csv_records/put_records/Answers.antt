use Rattle.std.proofs.Common.{◌++◌, ap, sym, ◌∙◌, take, append_assoc}
use Rattle.std.specs.List.{flat_map}
use Rattle.itip_view.proofs.FlatMap.{flat_map_more}
use Rattle.itip_inbox.specs.Csv.{attendee_record_text}
use Rattle.itip_inbox.proofs.csv_records.put_records.Goals as goal

pub loop-attendee-preserved : goal.loop-attendee-preserved
loop-attendee-preserved c =
    let text = attendee_record_text c.args.row.now in
    let more = flat_map_more text c.args.attendees.now c.loop-attendee.attendee-index c.attendee-item.result
    c.loop-attendee-test.true c.attendee-item.is in
    c.in_ok-put_record.ensures ∙ ap (λ front. front ++ text c.attendee-item.result) c.loop-attendee.invariant
    ∙ append_assoc c.args.out.now.items (flat_map text (take c.loop-attendee.attendee-index c.args.attendees.now))
    (text c.attendee-item.result) ∙ ap (λ rest. c.args.out.now.items ++ rest) (sym more)
