use Rattle.std.proofs.Common.{◌<◌, length, arith}
use Rattle.itip_todo.specs.Written.{property_line}
use Rattle.itip_todo.specs.declared.property_name.PropertyName.TheVariants as name
use Rattle.itip_todo.proofs.Appending.{stopped, finished}
use Rattle.itip_todo.proofs.Contents.{one_more}
use Rattle.itip_todo.proofs.write.write_attendees.Goals as goal

pub loop-attendee-preserved : goal.loop-attendee-preserved
loop-attendee-preserved c =
    one_more (property_line name.Attendee) c.args.attendees.now c.loop-attendee.attendee-index c.attendee-item.result c.args.out.now.items
    c.loop-attendee.out.items c.write_property.new.out.items c.loop-attendee-test.true c.attendee-item.is c.loop-attendee.invariant
    c.in_ok-write_property.ensures.appended

pub returns-then-len-limit : goal.returns-then-len-limit
returns-then-len-limit c =
    let long : c.args.limit < length c.loop-attendee.out.items = omega arith in
    stopped (property_line name.Attendee) c.args.attendees.now c.args.limit c.loop-attendee.attendee-index c.args.out.now.items
    c.loop-attendee.out.items c.loop-attendee.invariant long

pub returns : goal.returns
returns c =
    finished (property_line name.Attendee) c.args.attendees.now c.args.limit c.loop-attendee.attendee-index c.args.out.now.items
    c.loop-attendee.out.items c.loop-attendee-test.false c.loop-attendee.invariant
