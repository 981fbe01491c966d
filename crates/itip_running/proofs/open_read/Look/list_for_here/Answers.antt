use Rattle.std.proofs.Common.{◌≡◌, ◌∙◌, List, ap, sym, subst, Err}
use Rattle.itip_items.specs.declared.item.Item.{Item}
use Rattle.itip_state.specs.Kept.{AreKept}
use Rattle.itip_desk.specs.HeardSteps.{heard}
use Rattle.itip_running.specs.History.{Items, batches_of}
use Rattle.itip_running.proofs.Seeing.{none_kept, too_many_rows, never_memory, never_entry}
use Rattle.itip_running.proofs.open_read.Look.list_for_here.Goals as goal

pub returns-in-Ok-clause-text : goal.returns-in-Ok-clause-text
returns-in-Ok-clause-text c =
    let same : batches_of c.close-end.result.front.seen.log ≡ batches_of c.args.self.front.seen.log =
    ap (λ s. batches_of s.log) c.close-end.ensures in
    c.in-Ok.ensures.text (heard (batches_of c.close-end.result.front.seen.log))
    (subst (λ (l : List Items). AreKept c.desk.result.now.kept (heard l)) (sym same) c.desk.ensures.kept)

pub returns-in-Err-clause-many : goal.returns-in-Err-clause-many
returns-in-Err-clause-many c e =
    let same : batches_of c.close-end.result.front.seen.log ≡ batches_of c.args.self.front.seen.log =
    ap (λ s. batches_of s.log) c.close-end.ensures in
    c.in-Err.ensures.many (ap Err (too_many_rows c.in-Err.fault (sym c.into.ensures ∙ cc e)))
    (heard (batches_of c.close-end.result.front.seen.log))
    (subst (λ (l : List Items). AreKept c.desk.result.now.kept (heard l)) (sym same) c.desk.ensures.kept)

pub returns-in-Err-clause-memory : goal.returns-in-Err-clause-memory
returns-in-Err-clause-memory c e = never_memory c.in-Err.fault (sym c.into.ensures ∙ cc e)

pub returns-in-Err-clause-entry : goal.returns-in-Err-clause-entry
returns-in-Err-clause-entry c e = never_entry c.in-Err.fault (sym c.into.ensures ∙ cc e)

pub returns-in-Err-clause-nothing : goal.returns-in-Err-clause-nothing
returns-in-Err-clause-nothing c = λ none.
    let kept : List Item = c.desk.result.now.kept in
    let same : batches_of c.close-end.result.front.seen.log ≡ batches_of c.args.self.front.seen.log =
    ap (λ s. batches_of s.log) c.close-end.ensures in
    c.in-Err.ensures.succeeds (none_kept kept (subst (AreKept kept) (ap heard (sym same) ∙ none) c.desk.ensures.kept))
