use Rattle.itip_todo.specs.Written.{property_line}
use Rattle.itip_todo.specs.declared.property_name.PropertyName.TheVariants as name
use Rattle.itip_todo.proofs.Contents.{one_more}
use Rattle.itip_writing.proofs.brief.write_attendees.Goals as goal

pub loop-attendee-preserved : goal.loop-attendee-preserved
loop-attendee-preserved c =
    one_more (property_line name.Attendee) c.args.attendees.now c.loop-attendee.attendee-index c.attendee-item.result c.args.out.now.items
    c.loop-attendee.out.items c.write_property.new.out.items c.loop-attendee-test.true c.attendee-item.is c.loop-attendee.invariant
    c.in_ok-write_property.ensures.appended
