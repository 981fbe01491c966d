use Rattle.itip_moment.specs.Written.{moment_text}
use Rattle.itip_todo.specs.Table.{name_text}
use Rattle.itip_todo.specs.Written.{moment_params}
use Rattle.itip_todo.proofs.MomentLines.{line_beside, first_text}
use Rattle.itip_todo.proofs.write_moment.write_one.Goals as goal

pub returns : goal.returns
returns c =
    line_beside c.write_behind.result c.args.out.now.items c.write_behind.new.out.items (name_text c.args.property)
    c.write_moment_params.new.out.items (moment_text c.args.moment.now) (moment_params c.args.moment.now)
    (first_text c.in_ok-params.params.items c.write_moment_params.new.out.items (moment_params c.args.moment.now)
    c.in_ok-params.ensures.items c.in_ok-write_moment_params.ensures)
    c.write_behind.ensures
