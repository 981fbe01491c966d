use Rattle.std.proofs.Common.{◌+◌, ℕ, List, [], sym, subst, arith, take, take_all}
use Rattle.std.proofs.lemmas.List.Elements.{all_zip_more}
use Rattle.std.proofs.lemmas.Result.{err_from_is_err_and}
use Rattle.itip_items.specs.declared.item.Item.{Item}
use Rattle.itip_todo.specs.declared.todo.Todo.{Todo}
use Rattle.itip_writing.specs.Requesting.{AreRequested, IsRequested}
use Rattle.itip_writing.proofs.Requested.{next_small, none_known, spent_cause}
use Rattle.itip_writing.proofs.request.requested.Goals as goal

pub loop-todo-init : goal.loop-todo-init
loop-todo-init c = record {
  each = subst (λ (ts : List Todo). AreRequested c.args.state.now c.args.at [] ts) (sym c.in_ok-all.ensures.items) tt;
  next = none_known c.args.state.now c.new-known.result c.new-known.ensures.empty;
}

pub written-requires : goal.written-requires
written-requires c =
    next_small c.args.state.now c.todo-item.result.uid c.in_ok-sequence.sequence (c.in_ok-sequence.ensures.next c.loop-todo.invariant.next)

pub loop-todo-preserved : goal.loop-todo-preserved
loop-todo-preserved c =
    let heard : List Item = c.args.state.now in
    let all : List Todo = c.args.draft.now in
    let i : ℕ = c.loop-todo.todo-index in
    let todo : Todo = c.todo-item.result in
    let new : Todo = c.in_ok-written.field-0 in
    let is : IsRequested heard c.args.at todo new = record {
      sequence = c.in_ok-sequence.sequence;
      next = c.in_ok-sequence.ensures.next c.loop-todo.invariant.next;
      parts_are = c.in_ok-written.ensures;
    } in record {
      each = subst (λ (ts : List Todo). AreRequested heard c.args.at (take (i + 1) all) ts) (sym {A = List Todo} c.in_ok-push.ensures.items)
          (all_zip_more (IsRequested heard c.args.at) all c.loop-todo.all.items i todo new c.loop-todo-test.true c.todo-item.is
          c.loop-todo.invariant.each is);
      next = c.in_ok-sequence.ensures.rest c.loop-todo.invariant.next;
    }

pub returns-in_err-sequence-clause-fault : goal.returns-in_err-sequence-clause-fault
returns-in_err-sequence-clause-fault c =
    let p = err_from_is_err_and c.from_residual-in_err-sequence.result c.from_residual-in_err-sequence.ensures.1 in
    rw (p.1, p.2) (spent_cause c.args.state.now c.args.draft.now c.args.at c.in_err-sequence.field-0.0 c.todo-item.result
    (c.loop-todo.todo-index, c.loop-todo-test.true, sym c.todo-item.is) c.in_err-sequence.ensures.fault)

pub returns-clause-found : goal.returns-clause-found
returns-clause-found c =
    subst (λ (ts : List Todo). AreRequested c.args.state.now c.args.at ts c.loop-todo.all.items)
    (take_all c.loop-todo.todo-index c.args.draft.now (omega arith)) c.loop-todo.invariant.each
