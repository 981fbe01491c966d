use Rattle.std.proofs.Common.{◌≡◌, ◌∙◌, sym, ap, List, [], ◌∷◌, ◌++◌, drop, subst, append-nil, ◌+◌, arith}
use Rattle.std.proofs.lemmas.List.{drop_more, at_drop_all}
use Rattle.std.proofs.lemmas.Result.{err_from_is_err_and}
use Rattle.itip_todo.specs.declared.todo.Todo.{Todo}
use Rattle.itip_message.specs.Message.{AreComponents}
use Rattle.itip_message.specs.declared.sort.Component.{Component}
use Rattle.itip_message.proofs.Making.{component_more, refused_more, refused_here}
use Rattle.itip_message.proofs.components.read_components.Goals as goal

pub returns-in_err-read_component-clause-fault : goal.returns-in_err-read_component-clause-fault
returns-in_err-read_component-clause-fault c =
    let p = err_from_is_err_and c.from_residual-in_err-read_component.result c.from_residual-in_err-read_component.ensures.1 in
    let i = c.loop-at.at in
    let all = c.args.components.now in
    let at : drop i all ≡ c.index-components-at.result ∷ drop (i + 1) all = drop_more all i c.index-components-at.result (omega arith) ∙
    ap (λ (component : Component). component ∷ drop (i + 1) all) (sym c.index-components-at.is) in
    rw (p.1, p.2) (refused_here c.in_err-read_component.field-0.0 c.args.method (i + 1) all (drop i all) (drop (i + 1) all)
    c.index-components-at.result c.loop-at.invariant.refused at c.in_err-read_component.ensures.fault)

pub loop-at-preserved : goal.loop-at-preserved
loop-at-preserved c =
    let i = c.loop-at.at in
    let all = c.args.components.now in
    let at : drop i all ≡ c.index-components-at.result ∷ drop (i + 1) all = drop_more all i c.index-components-at.result (omega arith) ∙
    ap (λ (component : Component). component ∷ drop (i + 1) all) (sym c.index-components-at.is) in
    let todo = c.in_ok-read_component.field-0 in record {
      found = λ more h. subst (λ (ts : List Todo). AreComponents c.args.method all (ts ++ more)) (sym c.in_ok-push.ensures.items)
          (component_more c.args.method all (drop i all) (drop (i + 1) all) c.loop-at.all.items c.index-components-at.result todo
          c.loop-at.invariant.found at c.in_ok-read_component.ensures.found more h);
      refused = λ f h. refused_more c.args.method (i + 1) all (drop i all) (drop (i + 1) all) c.index-components-at.result todo
          c.loop-at.invariant.refused at c.in_ok-read_component.ensures.found f h;
    }

pub returns-clause-found : goal.returns-clause-found
returns-clause-found c =
    let all = c.args.components.now in
    let none : drop c.loop-at.at all ≡ [] = at_drop_all (λ (cs : List Component). cs) all c.loop-at.at (omega arith) in
    let end : AreComponents c.args.method (drop c.loop-at.at all) [] =
    subst (λ (cs : List Component). AreComponents c.args.method cs []) (sym none) tt in
    subst (λ (ts : List Todo). AreComponents c.args.method all ts) (append-nil c.loop-at.all.items) (c.loop-at.invariant.found [] end)
