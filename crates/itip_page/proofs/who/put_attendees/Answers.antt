use Rattle.std.proofs.Common.{◌++◌, ap, sym, ◌∙◌, take, append_assoc}
use Rattle.std.specs.List.{flat_map}
use Rattle.itip_view.proofs.FlatMap.{flat_map_more}
use Rattle.itip_page.specs.RowMarkup.{attendee_markup}
use Rattle.itip_page.proofs.who.put_attendees.Goals as goal

pub loop-attendee-preserved : goal.loop-attendee-preserved
loop-attendee-preserved c =
    let more = flat_map_more attendee_markup c.args.attendees.now c.loop-attendee.attendee-index c.attendee-item.result
    c.loop-attendee-test.true c.attendee-item.is in
    c.in_ok-put_attendee.ensures ∙ ap (λ front. front ++ attendee_markup c.attendee-item.result) c.loop-attendee.invariant
    ∙ append_assoc c.args.out.now.items (flat_map attendee_markup (take c.loop-attendee.attendee-index c.args.attendees.now))
    (attendee_markup c.attendee-item.result) ∙ ap (λ rest. c.args.out.now.items ++ rest) (sym more)
