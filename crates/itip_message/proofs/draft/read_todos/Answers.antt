use Rattle.std.proofs.Common.{◌∙◌, ap, sym, List, subst}
use Rattle.std.proofs.lemmas.Result.{err_from_is_err_and}
use Rattle.itip_items.specs.declared.kind.Method.TheVariants as method
use Rattle.itip_message.specs.Drafts.{draft_head_of}
use Rattle.itip_message.specs.Message.{FirstRefused, AreComponents}
use Rattle.itip_message.specs.Refusals.{IfRefused}
use Rattle.itip_message.specs.declared.sort.Component.{Component}
use Rattle.itip_message.proofs.DraftStages.{lines_refused, frame_refused, head_refused, headed, component_refused}
use Rattle.itip_message.proofs.draft.read_todos.Goals as goal

pub returns-in_err-lines-clause-fault : goal.returns-in_err-lines-clause-fault
returns-in_err-lines-clause-fault c =
    let p = err_from_is_err_and c.from_residual.result c.from_residual.ensures.1 in
    rw (p.1, p.2) (lines_refused c.in_err-lines.field-0.0 c.args.text.now c.in_err-lines.ensures.refused)

pub returns-in_err-placed-clause-fault : goal.returns-in_err-placed-clause-fault
returns-in_err-placed-clause-fault c =
    let p = err_from_is_err_and c.from_residual-in_err-placed.result c.from_residual-in_err-placed.ensures.1 in
    rw (p.1, p.2) (frame_refused c.in_err-placed.field-0.0 c.args.text.now c.in_ok-lines.lines.items c.in_ok-lines.ensures.found
    c.in_err-placed.ensures.fault)

pub returns-in_err-read_draft_head-clause-fault : goal.returns-in_err-read_draft_head-clause-fault
returns-in_err-read_draft_head-clause-fault c =
    let p = err_from_is_err_and c.from_residual-in_err-read_draft_head.result c.from_residual-in_err-read_draft_head.ensures.1 in
    rw (p.1, p.2) (head_refused c.in_err-read_draft_head.field-0.0 c.args.text.now c.in_ok-lines.lines.items c.in_ok-placed.placed.items
    c.deref.result.now c.deref-2.result.now c.in_ok-lines.ensures.found c.in_ok-placed.ensures.found (c.deref.ensures.value ∙
    c.in_ok-calendar.ensures.0) (c.deref-2.ensures.value ∙ c.in_ok-calendar.ensures.1) c.in_err-read_draft_head.ensures.fault)

pub returns-in_err-all-clause-fault : goal.returns-in_err-all-clause-fault
returns-in_err-all-clause-fault c =
    let p = err_from_is_err_and c.from_residual-in_err-all.result c.from_residual-in_err-all.ensures.1 in
    let has = headed c.args.text.now c.in_ok-lines.lines.items c.in_ok-placed.placed.items c.deref.result.now
    c.in_ok-calendar.components.items c.in_ok-lines.ensures.found c.in_ok-placed.ensures.found (c.deref.ensures.value ∙
    c.in_ok-calendar.ensures.0) c.in_ok-calendar.ensures.1
    (ap (λ (cs : List Component). draft_head_of c.deref.result.now cs) (sym c.deref-2.ensures.value) ∙
    c.in_ok-read_draft_head.ensures.found) in
    rw (p.1, p.2) (component_refused c.in_err-all.field-0.0 c.args.text.now c.in_ok-calendar.components.items c.in_ok-dated.dated.items has
    c.in_ok-dated.ensures (subst (λ (cs : List Component). IfRefused c.in_err-all.field-0.0 (FirstRefused method.Request 1 cs))
    c.deref-3.ensures.value c.in_err-all.ensures.fault))

pub returns-clause-found : goal.returns-clause-found
returns-clause-found c = record {
  components = c.in_ok-calendar.components.items;
  begins = headed c.args.text.now c.in_ok-lines.lines.items c.in_ok-placed.placed.items c.deref.result.now
      c.in_ok-calendar.components.items c.in_ok-lines.ensures.found c.in_ok-placed.ensures.found
      (c.deref.ensures.value ∙ c.in_ok-calendar.ensures.0) c.in_ok-calendar.ensures.1
      (ap (λ (cs : List Component). draft_head_of c.deref.result.now cs) (sym c.deref-2.ensures.value) ∙
      c.in_ok-read_draft_head.ensures.found);
  with_stamps = c.in_ok-dated.dated.items;
  dated_are = c.in_ok-dated.ensures;
  read = subst (λ (cs : List Component). AreComponents method.Request cs c.in_ok-all.all.items) c.deref-3.ensures.value
      c.in_ok-all.ensures.found;
}
