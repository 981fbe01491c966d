use Rattle.std.proofs.Common.{◌<◌, length, arith}
use Rattle.itip_todo.specs.Written.{moment_line}
use Rattle.itip_todo.proofs.Appending.{stopped, finished}
use Rattle.itip_todo.proofs.Contents.{one_more}
use Rattle.itip_todo.proofs.write_moment.write_moments.Goals as goal

pub loop-moment-preserved : goal.loop-moment-preserved
loop-moment-preserved c =
    one_more (moment_line c.args.property) c.args.moments.now c.loop-moment.moment-index c.moment-item.result c.args.out.now.items
    c.loop-moment.out.items c.write_one.new.out.items c.loop-moment-test.true c.moment-item.is c.loop-moment.invariant
    c.in_ok-write_one.ensures

pub returns-then-len-limit : goal.returns-then-len-limit
returns-then-len-limit c =
    let long : c.args.limit < length c.loop-moment.out.items = omega arith in
    stopped (moment_line c.args.property) c.args.moments.now c.args.limit c.loop-moment.moment-index c.args.out.now.items
    c.loop-moment.out.items c.loop-moment.invariant long

pub returns : goal.returns
returns c =
    finished (moment_line c.args.property) c.args.moments.now c.args.limit c.loop-moment.moment-index c.args.out.now.items
    c.loop-moment.out.items c.loop-moment-test.false c.loop-moment.invariant
