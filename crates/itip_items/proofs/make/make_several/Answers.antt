use Rattle.std.proofs.Common.{◌≡◌, ◌∙◌, sym, ap, ℕ, ◌≤◌, ◌+◌, List, [], ◌∷◌, ◌++◌, map, subst, length, arith, refl, inl, inr}
use Rattle.std.specs.Prelude.{◌-◌}
use Rattle.std.specs.List.{AllByRecursion}
use Rattle.std.specs.Vec.Iter.{into_iter_items}
use Rattle.itip_todo.specs.Parts.{Parts}
use Rattle.itip_todo.specs.PartsOf.{parts_of}
use Rattle.itip_todo.specs.declared.todo.Todo.{Todo}
use Rattle.itip_items.specs.Items.{ItemDraft, drafts, drafts_of, kind_of, raised, series_sequence}
use Rattle.itip_items.specs.Given.{Adds, GivesItems, IsOver, FirstOver, IfTooLarge, drafts_each}
use Rattle.itip_items.specs.declared.error.FormError.{FormError}
use Rattle.itip_items.specs.MethodNeeds.{Suits}
use Rattle.itip_items.specs.declared.item.Item.{Item}
use Rattle.itip_items.specs.declared.kind.Method.{Method}
use Rattle.itip_items.proofs.Adding.{adds_both, adds_none, adds_all, drafts_among, large_of}
use Rattle.itip_items.proofs.Lawfulness.{series_small}
use Rattle.itip_items.proofs.make.make_several.Goals as goal

-- the drafts of the first to-do, where the greatest series sequence of its UID is known
abbrev own : Method → ℕ → Todo → List ItemDraft
own m above todo = drafts_of (kind_of m (parts_of todo)) (raised (parts_of todo) above) (parts_of todo)

among_more : (m : Method) (all : List Parts) (left rest : List Todo) (todo : Todo) (above : ℕ) → left ≡ todo ∷ rest →
    above ≡ series_sequence m todo.uid all
    → drafts_among m all (map parts_of left) ≡ own m above todo ++ drafts_among m all (map parts_of rest)
among_more m all left rest todo above e is =
    ap (λ (ts : List Todo). drafts_among m all (map parts_of ts)) e ∙
    ap (λ (n : ℕ). own m n todo ++ drafts_among m all (map parts_of rest)) (sym is)

none_left : (m : Method) (all : List Parts) (rest : List Todo) → length rest ≡ 0 → drafts_among m all (map parts_of rest) ≡ []
none_left m all [] h = refl
none_left m all (todo ∷ rest) h = absurd (omega (arith, h))

first_suits : (m : Method) (left rest : List Todo) (todo : Todo) → left ≡ todo ∷ rest → AllByRecursion (Suits m) (map parts_of left) →
    Suits m (parts_of todo) × AllByRecursion (Suits m) (map parts_of rest)
first_suits m left rest todo e h = subst (λ (ts : List Todo). AllByRecursion (Suits m) (map parts_of ts)) e h

small : (m : Method) (uid : List ℕ) (all : List Todo) (above : ℕ) → above ≡ series_sequence m uid (map parts_of all) → above ≤ 2147483647
small m uid all above is = subst (λ (n : ℕ). n ≤ 2147483647) (sym is) (series_small m uid all)

pub add_items-requires : goal.add_items-requires
add_items-requires c =
    let m : Method = c.args.method in
    let todo : Todo = c.in-Some.todo in
    let above : c.sequence_in-above.result ≡ series_sequence m todo.uid (map parts_of c.deref.result.now) = c.sequence_in-above.ensures ∙
    c.in_ok-greatest.ensures todo.uid in (
      (first_suits m (into_iter_items c.loop-todo.todo-iterator) (into_iter_items c.next.new.self) todo c.in-Some.ensures.steps.0
          c.loop-todo.invariant.suits).0,
      small m todo.uid c.deref.result.now c.sequence_in-above.result above,
    )

each_more : (m : Method) (all : List Parts) (left rest : List Todo) (todo : Todo) (above : ℕ) → left ≡ todo ∷ rest →
    above ≡ series_sequence m todo.uid all
    → drafts_each m all (map parts_of left) ≡ own m above todo ∷ drafts_each m all (map parts_of rest)
each_more m all left rest todo above e is =
    ap (λ (ts : List Todo). drafts_each m all (map parts_of ts)) e ∙
    ap (λ (n : ℕ). own m n todo ∷ drafts_each m all (map parts_of rest)) (sym is)

pub returns-in-Err-clause-large : goal.returns-in-Err-clause-large
returns-in-Err-clause-large c =
    let m : Method = c.args.method in
    let todo : Todo = c.in-Some.todo in
    let whole : List Todo = into_iter_items c.into_iter-todo-iterator.result in
    let all : List Parts = map parts_of whole in
    let same : whole ≡ c.args.all.items = c.into_iter-todo-iterator.ensures.into_iter_gives.0 in
    let above : c.sequence_in-above.result ≡ series_sequence m todo.uid all =
    c.sequence_in-above.ensures ∙ c.in_ok-greatest.ensures todo.uid ∙
    ap (λ (ts : List Todo). series_sequence m todo.uid (map parts_of ts)) (c.deref.ensures.value ∙ sym same) in
    let rest : List Todo = into_iter_items c.next.new.self in
    let more = each_more m all (into_iter_items c.loop-todo.todo-iterator) rest todo c.sequence_in-above.result c.in-Some.ensures.steps.0
    above in
    let few = c.loop-todo.invariant.few in
    let n : ℕ = c.len-count.result - c.loop-todo.left + 1 in
    let sum : n + c.loop-todo.left ≡ c.len-count.result + 1 = omega (arith, few) in
    let over : IsOver (own m c.sequence_in-above.result todo) →
    FirstOver 1 (drafts_each m (map parts_of c.args.all.items) (map parts_of c.args.all.items)) n =
    λ h. subst (λ (ts : List Todo). FirstOver 1 (drafts_each m (map parts_of ts) (map parts_of ts)) n) same
    (c.loop-todo.invariant.over n n sum (subst (λ (dss : List (List ItemDraft)). FirstOver n dss n) (sym more) (inl (refl, h)))) in
    subst (λ (e : FormError). IfTooLarge e (FirstOver 1 (drafts_each m (map parts_of c.args.all.items) (map parts_of c.args.all.items))))
    (sym c.of_todo.ensures)
    (large_of _ c.in-Err.error n over c.in-Err.ensures.large)

pub loop-todo-preserved : goal.loop-todo-preserved
loop-todo-preserved c =
    let m : Method = c.args.method in
    let todo : Todo = c.in-Some.todo in
    let whole : List Todo = into_iter_items c.into_iter-todo-iterator.result in
    let all : List Parts = map parts_of whole in
    let same : whole ≡ c.args.all.items = c.into_iter-todo-iterator.ensures.into_iter_gives.0 in
    let above : c.sequence_in-above.result ≡ series_sequence m todo.uid all =
    c.sequence_in-above.ensures ∙ c.in_ok-greatest.ensures todo.uid ∙
    ap (λ (ts : List Todo). series_sequence m todo.uid (map parts_of ts)) (c.deref.ensures.value ∙ sym same) in
    let left : List Todo = into_iter_items c.loop-todo.todo-iterator in
    let rest : List Todo = into_iter_items c.next.new.self in
    let e : left ≡ todo ∷ rest = c.in-Some.ensures.steps.0 in
    let more = among_more m all left rest todo c.sequence_in-above.result e above in
    let was = c.loop-todo.invariant.length_is in
    let gone = c.in-Some.ensures.steps.1 in
    let short = ap length e in
    let first : List ItemDraft = own m c.sequence_in-above.result todo in
    let later : List ItemDraft = drafts_among m all (map parts_of rest) in
    let old : List Item = c.loop-todo.items.items in
    let each = each_more m all left rest todo c.sequence_in-above.result e above in
    let was_left = c.loop-todo.invariant.left_is in
    let few = c.loop-todo.invariant.few in
    let n : ℕ = c.len-count.result - c.loop-todo.left + 1 in
    let mid : List Item = c.add_items.new.items.items in record {
      length_is = omega arith;
      suits = (first_suits m left rest todo e c.loop-todo.invariant.suits).1;
      found = λ new h. c.loop-todo.invariant.found new
          (subst (λ (ds : List ItemDraft). Adds ds old new) (sym more) (adds_both first later old mid new c.in_default.ensures.found h));
      left_is = omega (arith, was_left, short);
      few = omega (arith, few);
      over = λ at number sum h.
          let next : at ≡ n + 1 = omega (arith, sum, few, was_left, short) in
          let before : n + c.loop-todo.left ≡ c.len-count.result + 1 = omega (arith, few) in
          c.loop-todo.invariant.over n number before
          (subst (λ (dss : List (List ItemDraft)). FirstOver n dss number) (sym each)
          (inr (
            c.in_default.ensures.found.gives.within,
            subst (λ (k : ℕ). FirstOver k (drafts_each m all (map parts_of rest)) number) next h,
          )));
    }

pub returns-clause-found : goal.returns-clause-found
returns-clause-found c =
    let m : Method = c.args.method in
    let whole : List Todo = into_iter_items c.into_iter-todo-iterator.result in
    let all : List Parts = map parts_of whole in
    let same : whole ≡ c.args.all.items = c.into_iter-todo-iterator.ensures.into_iter_gives.0 in
    let was = c.loop-todo.invariant.length_is in
    let gone = c.in-None.ensures.steps.0 in
    let none : drafts_among m all (map parts_of (into_iter_items c.loop-todo.todo-iterator)) ≡ [] =
    none_left m all (into_iter_items c.loop-todo.todo-iterator) (omega arith) in
    let items : List Item = c.loop-todo.items.items in
    subst (λ (ts : List Todo). GivesItems (drafts m (map parts_of ts)) items) same
    (adds_all (drafts m all) items (c.loop-todo.invariant.found items
    (subst (λ (ds : List ItemDraft). Adds ds items items) (sym none) (adds_none items))))
