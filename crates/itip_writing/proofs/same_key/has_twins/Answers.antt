use Rattle.std.proofs.Common.{◌≡◌, ◌∙◌, rules, ap, subst, List, Bor}
use Rattle.std.specs.List.{IsAllAdjacentAnswer}
use Rattle.std.specs.Ordering.{is_lt}
use Rattle.std.proofs.lemmas.Fn.{always_returns_same}
use Rattle.std.proofs.lemmas.List.Sorted.{ranks_by}
use Rattle.itip_todo.specs.declared.todo.Todo.{Todo}
use Rattle.itip_writing.specs.Requesting.{has_twins}
use Rattle.itip_writing.proofs.SortedTwins.{is_below, neighbours_tell, twin_total}
use Rattle.itip_writing.proofs.same_key.has_twins.Goals as goal

pub returns : goal.returns
returns c =
    neighbours_tell (λ (todo : Bor Todo). todo.now) c.in_ok-all.all.items c.sort_by.new.self.items c.in_ok-sort_by.ensures.permutation
    (c.in_ok-sort_by.ensures.sorted is_below (ranks_by twin_total (λ (todo : Bor Todo). todo.now))
    (always_returns_same _ (λ a r. is_lt r ≡ is_below a.0.now a.1.0.now) _ (λ a r f' k. search rules))) c.are_rising.result
    (subst (λ (all : List (Bor Todo)). IsAllAdjacentAnswer (λ a b r. r ≡ is_below a b) all c.are_rising.result) c.deref.ensures.value
    c.are_rising.ensures)
    ∙ ap has_twins c.in_ok-all.ensures
