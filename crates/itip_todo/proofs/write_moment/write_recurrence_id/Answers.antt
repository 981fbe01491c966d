use Rattle.std.proofs.Common.{◌++◌}
use Rattle.itip_moment.specs.Written.{moment_text}
use Rattle.itip_todo.specs.Table.{name_text}
use Rattle.itip_todo.specs.Written.{moment_params, range_params}
use Rattle.itip_todo.specs.declared.property_name.PropertyName.TheVariants as name
use Rattle.itip_todo.proofs.MomentLines.{line_beside, both_text}
use Rattle.itip_todo.proofs.write_moment.write_recurrence_id.Goals as goal

pub returns : goal.returns
returns c =
    line_beside c.write_behind.result c.args.out.now.items c.write_behind.new.out.items (name_text name.RecurrenceId)
    c.write_range.new.out.items (moment_text c.args.moment.now) (moment_params c.args.moment.now ++ range_params c.args.range)
    (both_text c.in_ok-params.params.items c.write_moment_params.new.out.items c.write_range.new.out.items
    (moment_params c.args.moment.now) (range_params c.args.range) c.in_ok-params.ensures.items c.in_ok-write_moment_params.ensures
    c.in_ok-write_range.ensures)
    c.write_behind.ensures
