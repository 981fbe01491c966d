use Rattle.std.proofs.lemmas.Result.{err_from_is_err_and}
use Rattle.itip_message.proofs.Dating.{draft_suits}
use Rattle.itip_message.proofs.DraftStages.{over_refused}
use Rattle.itip_message.proofs.draft.read_draft.Goals as goal

pub returns-in_err-items-clause-fault : goal.returns-in_err-items-clause-fault
returns-in_err-items-clause-fault c =
    let p = err_from_is_err_and c.from_residual-in_err-items.result c.from_residual-in_err-items.ensures.1 in
    rw (p.1, p.2) (over_refused c.in_err-items.field-0.0 c.args.text.now c.in_ok-all.all.items c.in_ok-all.ensures.found
    c.in_err-items.ensures.large)

pub returns-clause-found : goal.returns-clause-found
returns-clause-found c = record {
  all = c.in_ok-all.all.items;
  begins = c.in_ok-all.ensures.found;
  items = c.in_ok-items.items.items;
  gives = c.in_ok-items.ensures.found;
  todos_are = c.in_ok-todos.ensures;
}

pub make_items-requires : goal.make_items-requires
make_items-requires c = draft_suits c.args.text.now c.in_ok-all.all.items c.in_ok-all.ensures.found
