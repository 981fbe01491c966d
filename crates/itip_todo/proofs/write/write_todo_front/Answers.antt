use Rattle.std.proofs.lemmas.Result.{on_ok_weaker}
use Rattle.itip_todo.specs.PartsOf.{parts_of}
use Rattle.itip_todo.proofs.Appending.{front_of}
use Rattle.itip_todo.proofs.write.write_todo_front.Goals as goal

pub returns : goal.returns
returns c =
    on_ok_weaker c.write_optional_property-2.result (front_of (parts_of c.args.todo.now) c.args.out.now.items c.write_value.new.out.items
    c.write_head.new.out.items c.write_count.new.out.items c.write_rid.new.out.items c.write_optional_moment.new.out.items
    c.write_optional_moment-2.new.out.items c.write_status.new.out.items c.write_small.new.out.items c.write_small-2.new.out.items
    c.write_optional_property.new.out.items c.write_optional_property-2.new.out.items c.in_ok-write_value.ensures c.in_ok-write_head.ensures
    c.in_ok-write_count.ensures
    c.in_ok-write_rid.ensures
    c.in_ok-write_optional_moment.ensures
    c.in_ok-write_optional_moment-2.ensures
    c.in_ok-write_status.ensures
    c.in_ok-write_small.ensures
    c.in_ok-write_small-2.ensures
    c.in_ok-write_optional_property.ensures) c.write_optional_property-2.ensures
