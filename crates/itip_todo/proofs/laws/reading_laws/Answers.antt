use Rattle.itip_todo.proofs.BeforeRanges.{todo_now, no_range_before}
use Rattle.itip_todo.proofs.ReadingLaws.{one_todo, one_refusal, read_or_refused, refusal_place}
use Rattle.itip_todo.proofs.SomeTodo.{some_todo}
use Rattle.itip_todo.proofs.laws.reading_laws.Goals as goal

pub returns : goal.returns
returns c = record {
  some = some_todo;
  one_todo = one_todo;
  read_or_refused = read_or_refused;
  one_refusal = one_refusal;
  place = refusal_place;
  as_before = todo_now;
  no_range =
      no_range_before;
}
