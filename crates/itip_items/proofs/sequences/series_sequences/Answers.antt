use Rattle.std.proofs.Common.{◌≡◌, ◌∙◌, sym, ap, ℕ, ◌+◌, List, ◌∷◌, drop, subst, arith}
use Rattle.std.specs.BTreeMap.{get, is_at}
use Rattle.std.specs.Map.{lookup}
use Rattle.std.specs.Cmp.Lexicographic.{slice_cmp}
use Rattle.std.specs.Ordering.{nat_cmp}
use Rattle.std.proofs.lemmas.List.{drop_more, at_drop_all}
use Rattle.itip_todo.specs.declared.todo.Todo.{Todo}
use Rattle.itip_items.proofs.SeriesSequences.{Completes, completes_series, completes_other, completed, begun}
use Rattle.itip_items.proofs.sequences.series_sequences.Goals as goal
use Rattle.itip_items.proofs.sequences.series_sequences.Goals.{then-is_series+in_ok-raise, else-is_series}

pub returns : goal.returns
returns c = completed c.args.method c.args.all.now (drop c.loop-todo.todo-index c.args.all.now)
    (λ (u : List ℕ). get (slice_cmp nat_cmp) c.loop-todo.greatest u) c.loop-todo.invariant
    (at_drop_all (λ (list : List Todo). list) c.args.all.now c.loop-todo.todo-index (omega arith))

pub loop-todo-init : goal.loop-todo-init
loop-todo-init c = begun c.args.method c.args.all.now (λ (u : List ℕ). get (slice_cmp nat_cmp) c.new-greatest.result u)
    (λ u. ap (λ es. lookup (is_at (slice_cmp nat_cmp u)) es) c.new-greatest.ensures.empty)

pub loop-todo-preserved : goal.loop-todo-preserved
loop-todo-preserved c =
    let i = c.loop-todo.todo-index in
    let all : List Todo = c.args.all.now in
    let todo : Todo = c.todo-item.result in
    let at : drop i all ≡ todo ∷ drop (i + 1) all = drop_more all i todo c.loop-todo-test.true ∙
    ap (λ (t : Todo). t ∷ drop (i + 1) all) (sym c.todo-item.is) in
    let found = λ (u : List ℕ). get (slice_cmp nat_cmp) c.loop-todo.greatest u in
    elim c.if-is_series.branch [
      | then-is_series+in_ok-raise w ↦ subst (λ m. Completes c.args.method all (drop (i + 1) all)
          (λ (u : List ℕ). get (slice_cmp nat_cmp) m u)) (sym w.greatest-is)
          (completes_series c.args.method all (drop i all) (drop (i + 1) all) todo found
          (λ (u : List ℕ). get (slice_cmp nat_cmp) w.raise.new.greatest u) c.loop-todo.invariant at (sym c.is_series.ensures ∙
          w.if-is_series.true) w.in_ok-raise.ensures)
      | else-is_series w ↦ subst (λ m. Completes c.args.method all (drop (i + 1) all) (λ (u : List ℕ). get (slice_cmp nat_cmp) m u))
          (sym w.greatest-is)
          (completes_other c.args.method all (drop i all) (drop (i + 1) all) todo found c.loop-todo.invariant at (sym c.is_series.ensures ∙
          w.if-is_series.false))
    ]
