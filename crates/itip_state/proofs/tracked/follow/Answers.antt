use Rattle.std.proofs.Common.{◌∙◌, ap, subst, inl, inr, Some}
use Rattle.std.specs.Prelude.{option_map}
use Rattle.std.specs.BTreeMap.{get}
use Rattle.std.specs.Ordering.{is_eq}
use Rattle.itip_join.specs.KeyByKey.{value_at}
use Rattle.itip_state.specs.UidStates.{uid_state}
use Rattle.itip_state.specs.Due.{IsFollowed}
use Rattle.itip_state.proofs.Maps.{uid_cmp}
use Rattle.itip_state.proofs.Tracking.{kept_follows}
use Rattle.itip_state.proofs.tracked.follow.Goals as goal

pub returns-clause-followed : goal.returns-clause-followed
returns-clause-followed c =
    let k = c.uid-uid.result.now in
    let kept = get uid_cmp c.keep.new.due k in
    subst (λ q. IsFollowed (option_map uid_state (value_at uid_cmp c.args.map.now.map q)) c.args.item.now (get uid_cmp c.args.due.now q)
    (get uid_cmp c.keep.new.due q)) c.uid-uid.ensures
    (subst (λ o. IsFollowed (option_map uid_state o) c.args.item.now (get uid_cmp c.args.due.now k) kept) c.in-Some-get.ensures
    (subst (λ was. IsFollowed (Some (uid_state c.in-Some-get.held.now)) c.args.item.now was kept) c.in-Some.ensures.value
    (kept_follows (uid_state c.in-Some-get.held.now) c.args.item.now c.in-Some.set c.grown-set.result kept c.grown-set.ensures
    (elim c.keep.ensures.here [ inl same ↦ inl same | inr out ↦ inr (out ∙ c.remove.ensures.updates.1) ]))))

pub returns-clause-others : goal.returns-clause-others
returns-clause-others c = λ q n.
    let apart = ap (λ u. is_eq (uid_cmp u q)) c.uid-uid.ensures ∙ n in
    c.keep.ensures.others q apart ∙ c.remove.ensures.updates.2 q apart
