use Rattle.std.proofs.Common.{◌∙◌, ap, sym, List, subst}
use Rattle.itip_message.specs.Head.{head_of}
use Rattle.std.proofs.lemmas.Result.{err_from_is_err_and}
use Rattle.itip_message.specs.Message.{FirstRefused, AreComponents}
use Rattle.itip_message.specs.Refusals.{IfRefused}
use Rattle.itip_message.specs.declared.sort.Component.{Component}
use Rattle.itip_message.proofs.Stages.{lines_refused, frame_refused, head_refused, headed, component_refused, over_refused, items_given}
use Rattle.itip_message.proofs.Properties.{framed_suit}
use Rattle.itip_message.proofs.read.read_message.Goals as goal

pub returns-in_err-lines-clause-fault : goal.returns-in_err-lines-clause-fault
returns-in_err-lines-clause-fault c =
    let p = err_from_is_err_and c.from_residual.result c.from_residual.ensures.1 in
    rw (p.1, p.2) (lines_refused c.in_err-lines.field-0.0 c.args.text.now c.in_err-lines.ensures.refused)

pub returns-in_err-placed-clause-fault : goal.returns-in_err-placed-clause-fault
returns-in_err-placed-clause-fault c =
    let p = err_from_is_err_and c.from_residual-in_err-placed.result c.from_residual-in_err-placed.ensures.1 in
    rw (p.1, p.2) (frame_refused c.in_err-placed.field-0.0 c.args.text.now c.in_ok-lines.lines.items c.in_ok-lines.ensures.found
    c.in_err-placed.ensures.fault)

pub returns-in_err-method-clause-fault : goal.returns-in_err-method-clause-fault
returns-in_err-method-clause-fault c =
    let p = err_from_is_err_and c.from_residual-in_err-method.result c.from_residual-in_err-method.ensures.1 in
    rw (p.1, p.2) (head_refused c.in_err-method.field-0.0 c.args.text.now c.in_ok-lines.lines.items c.in_ok-placed.placed.items
    c.deref.result.now c.deref-2.result.now c.in_ok-lines.ensures.found c.in_ok-placed.ensures.found (c.deref.ensures.value ∙
    c.in_ok-calendar.ensures.0) (c.deref-2.ensures.value ∙ c.in_ok-calendar.ensures.1) c.in_err-method.ensures.fault)

pub returns-in_err-all-clause-fault : goal.returns-in_err-all-clause-fault
returns-in_err-all-clause-fault c =
    let p = err_from_is_err_and c.from_residual-in_err-all.result c.from_residual-in_err-all.ensures.1 in
    let has = headed c.args.text.now c.in_ok-method.method c.in_ok-lines.lines.items c.in_ok-placed.placed.items c.deref.result.now
    c.in_ok-calendar.components.items c.in_ok-lines.ensures.found c.in_ok-placed.ensures.found (c.deref.ensures.value ∙
    c.in_ok-calendar.ensures.0) c.in_ok-calendar.ensures.1
    (ap (λ (cs : List Component). head_of c.deref.result.now cs) (sym c.deref-2.ensures.value) ∙ c.in_ok-method.ensures.found) in
    rw (p.1, p.2) (component_refused c.in_err-all.field-0.0 c.args.text.now c.in_ok-method.method c.in_ok-calendar.components.items has
    (subst (λ (ls : List Component). IfRefused c.in_err-all.field-0.0 (FirstRefused c.in_ok-method.method 1 ls))
    c.deref-3.ensures.value c.in_err-all.ensures.fault))

pub returns-in_err-make_items-clause-fault : goal.returns-in_err-make_items-clause-fault
returns-in_err-make_items-clause-fault c =
    let p = err_from_is_err_and c.from_residual-in_err-make_items.result c.from_residual-in_err-make_items.ensures.1 in
    let has = headed c.args.text.now c.in_ok-method.method c.in_ok-lines.lines.items c.in_ok-placed.placed.items c.deref.result.now
    c.in_ok-calendar.components.items c.in_ok-lines.ensures.found c.in_ok-placed.ensures.found (c.deref.ensures.value ∙
    c.in_ok-calendar.ensures.0) c.in_ok-calendar.ensures.1
    (ap (λ (cs : List Component). head_of c.deref.result.now cs) (sym c.deref-2.ensures.value) ∙ c.in_ok-method.ensures.found) in
    let are = subst (λ (ls : List Component). AreComponents c.in_ok-method.method ls c.in_ok-all.all.items) c.deref-3.ensures.value
    c.in_ok-all.ensures.found in
    rw (p.1, p.2) (over_refused c.in_err-make_items.field-0.0 c.args.text.now c.in_ok-method.method c.in_ok-calendar.components.items
    c.in_ok-all.all.items has are c.in_err-make_items.ensures.large)

pub returns-clause-found : goal.returns-clause-found
returns-clause-found c =
    let has = headed c.args.text.now c.in_ok-method.method c.in_ok-lines.lines.items c.in_ok-placed.placed.items c.deref.result.now
    c.in_ok-calendar.components.items c.in_ok-lines.ensures.found c.in_ok-placed.ensures.found (c.deref.ensures.value ∙
    c.in_ok-calendar.ensures.0) c.in_ok-calendar.ensures.1
    (ap (λ (cs : List Component). head_of c.deref.result.now cs) (sym c.deref-2.ensures.value) ∙ c.in_ok-method.ensures.found) in
    let are = subst (λ (ls : List Component). AreComponents c.in_ok-method.method ls c.in_ok-all.all.items) c.deref-3.ensures.value
    c.in_ok-all.ensures.found in
    items_given c.in_ok-make_items.field-0.items c.args.text.now c.in_ok-method.method c.in_ok-calendar.components.items
    c.in_ok-all.all.items has are c.in_ok-make_items.ensures.found

pub make_items-requires : goal.make_items-requires
make_items-requires c =
    let are = subst (λ (ls : List Component). AreComponents c.in_ok-method.method ls c.in_ok-all.all.items) c.deref-3.ensures.value
    c.in_ok-all.ensures.found in
    let in_message = subst (λ (ls : List Component). AreComponents c.in_ok-method.method ls c.in_ok-all.all.items)
    c.in_ok-calendar.ensures.1 are in
    framed_suit c.in_ok-method.method c.in_ok-lines.lines.items c.in_ok-placed.placed.items c.in_ok-all.all.items
    c.in_ok-placed.ensures.found in_message
