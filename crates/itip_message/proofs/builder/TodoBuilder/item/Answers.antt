use Rattle.std.proofs.lemmas.Result.{err_from_is_err_and}
use Rattle.itip_message.proofs.Building.{todo_refuses_item, made_suits, item_too_large, item_given}
use Rattle.itip_message.proofs.ReadAgain.{reads_again}
use Rattle.itip_message.proofs.builder.TodoBuilder.item.Goals as goal

pub returns-in_err-todo-clause-fault : goal.returns-in_err-todo-clause-fault
returns-in_err-todo-clause-fault c =
    let p = err_from_is_err_and c.from_residual.result c.from_residual.ensures.1 in
    rw (p.1, p.2) (todo_refuses_item c.in_err-todo.field-0.0 c.args.self.now c.in_err-todo.ensures.fault)

pub make_items-requires : goal.make_items-requires
make_items-requires c =
    made_suits c.args.self.now c.in_ok-todo.todo c.in_ok-all.all.items c.alloc.ensures c.in_ok-todo.ensures.found c.in_ok-all.ensures

pub returns-in_err-items-clause-fault : goal.returns-in_err-items-clause-fault
returns-in_err-items-clause-fault c =
    let p = err_from_is_err_and c.from_residual-in_err-items.result c.from_residual-in_err-items.ensures.1 in
    rw (p.1, p.2) (item_too_large c.in_err-items.field-0.0 c.args.self.now c.in_ok-todo.todo c.in_ok-all.all.items
    c.in_ok-todo.ensures.found c.in_ok-all.ensures c.in_err-items.ensures.large)

pub returns-clause-found : goal.returns-clause-found
returns-clause-found c =
    item_given c.args.self.now c.in_ok-todo.todo c.in_ok-all.all.items c.in_ok-items.items.items c.in-Some.item
    c.in_ok-todo.ensures.found c.in_ok-all.ensures c.in_ok-items.ensures.found c.in-Some.ensures

pub returns-clause-read_again : goal.returns-clause-read_again
returns-clause-read_again c = reads_again c.in-Some.item
