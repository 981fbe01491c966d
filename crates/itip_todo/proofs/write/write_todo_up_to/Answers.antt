use Rattle.std.proofs.lemmas.Result.{on_ok_weaker}
use Rattle.itip_todo.specs.PartsOf.{parts_of}
use Rattle.itip_todo.proofs.Appending.{all_up_to}
use Rattle.itip_todo.proofs.write.write_todo_up_to.Goals as goal

pub returns : goal.returns
returns c =
    on_ok_weaker c.write_todo_rest.result (all_up_to c.args.limit (parts_of c.args.todo.now) c.args.out.now.items
    c.write_todo_front.new.out.items c.write_todo_rest.new.out.items c.in_ok-write_todo_front.ensures) c.write_todo_rest.ensures
