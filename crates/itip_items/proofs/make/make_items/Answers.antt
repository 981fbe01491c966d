use Rattle.std.proofs.Common.{◌≡◌, sym, ap, ◌≤◌, List, [], ◌∷◌, ◌++◌, map, length, length-append, subst, arith}
use Rattle.std.specs.Prelude.{IfOk, IfErr}
use Rattle.std.specs.List.{AllByRecursion}
use Rattle.std.proofs.lemmas.List.{nil_from_length}
use Rattle.itip_todo.specs.PartsOf.{parts_of}
use Rattle.itip_todo.specs.declared.todo.Todo.{Todo}
use Rattle.itip_items.specs.Items.{drafts}
use Rattle.itip_items.specs.Given.{FirstOver, GivesItems, IfTooLarge, drafts_each}
use Rattle.itip_items.specs.MethodNeeds.{Suits}
use Rattle.itip_items.specs.declared.item.Item.{Item}
use Rattle.itip_items.specs.declared.kind.Method.{Method}
use Rattle.itip_items.proofs.make.make_items.Goals as goal

-- the last of one at most
only : (all front : List Todo) (todo : Todo) → all ≡ front ++ todo ∷ [] → length all ≤ 1 → all ≡ todo ∷ []
only all [] todo e few = e
only all (first ∷ front) todo e few = absurd (omega (arith, few, ap length e, length-append front (todo ∷ [])))

none_given : (m : Method) (all : List Todo) (items : List Item) → all ≡ [] → items ≡ [] → GivesItems (drafts m (map parts_of all)) items
none_given m all items none e = rw (none, e) (record { within = tt; items_are = tt })

pub make_alone-requires-clause-suits : goal.make_alone-requires-clause-suits
make_alone-requires-clause-suits c =
    let alone = only _ c.pop.new.self.items _ c.in-Some.ensures.items (omega (arith, c.args.all.ok.0)) in
    (subst (λ (ts : List Todo). AllByRecursion (Suits c.args.method) (map parts_of ts)) alone c.requires).0

pub returns-in-Some-clause-found : goal.returns-in-Some-clause-found
returns-in-Some-clause-found c =
    let alone = only _ c.pop.new.self.items _ c.in-Some.ensures.items (omega (arith, c.args.all.ok.0)) in
    subst (λ (ts : List Todo). IfOk c.make_alone.result (λ items. GivesItems (drafts c.args.method (map parts_of ts)) items.items))
    (sym alone) c.make_alone.ensures.found

pub returns-in-Some-clause-large : goal.returns-in-Some-clause-large
returns-in-Some-clause-large c =
    let alone = only _ c.pop.new.self.items _ c.in-Some.ensures.items (omega (arith, c.args.all.ok.0)) in
    subst (λ (ts : List Todo). IfErr c.make_alone.result (λ e. IfTooLarge e
    (FirstOver 1 (drafts_each c.args.method (map parts_of ts) (map parts_of ts))))) (sym alone) c.make_alone.ensures.large

pub returns-clause-found : goal.returns-clause-found
returns-clause-found c =
    none_given c.args.method c.args.all.items c.in_ok-items.items.items
    (nil_from_length c.args.all.items (omega (arith, c.args.all.ok.0, c.in-None.ensures.cases.0))) c.in_ok-items.ensures.items
