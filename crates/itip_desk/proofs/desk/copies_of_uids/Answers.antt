use Rattle.std.proofs.Common.{◌∙◌, [], map, subst}
use Rattle.itip_state.specs.Kept.{AreUidsOf}
use Rattle.itip_state.proofs.Nothing.{no_uids, no_view, not_ok}
use Rattle.itip_desk.proofs.desk.copies_of_uids.Goals as goal

pub returns-in_err-uids-clause-succeeds : goal.returns-in_err-uids-clause-succeeds
returns-in_err-uids-clause-succeeds c = λ none. not_ok (c.in_err-uids.ensures.succeeds none)

pub returns-clause-succeeds : goal.returns-clause-succeeds
returns-clause-succeeds c = λ none.
    let uids : AreUidsOf (map (λ uid. uid.now) c.in_ok-uids.uids.items) [] =
    subst (λ items. AreUidsOf (map (λ uid. uid.now) c.in_ok-uids.uids.items) (map (λ item. item.now) items)) none
    c.in_ok-uids.ensures.uids in
    c.copies.ensures.succeeds (c.deref.ensures.value ∙ no_view (λ uid. uid.now) c.in_ok-uids.uids.items
    (no_uids (map (λ uid. uid.now) c.in_ok-uids.uids.items) uids))
