use Rattle.std.proofs.Common.{◌≡◌, ◌∙◌}
use Rattle.std.specs.Option.{option_copied}
use Rattle.itip_items.specs.declared.key.Key.{Key}
use Rattle.itip_items.specs.declared.key.Key.TheVariants as keys
use Rattle.itip_writing.specs.Refreshing.{IsBefore, refresh_key}
use Rattle.itip_writing.specs.Stamping.{IsSpentBehind, IsStampAfter, IsStampBehind, IsTimeSpent}
use Rattle.itip_writing.proofs.Answering.{spent_found, stamp_found}
use Rattle.itip_writing.proofs.Faults.{if_err_then, late_weaker}
use Rattle.itip_state.proofs.Members.{if_ok_then}
use Rattle.itip_writing.specs.Causes.{IfLate}
use Rattle.std.specs.Prelude.{Some}
use Rattle.itip_writing.proofs.refresh.refresh_stamp.Goals as goal

pub returns-clause-stamp : goal.returns-clause-stamp
returns-clause-stamp c =
    let wanted : Key = refresh_key c.args.items.now.uid (option_copied c.args.id) c.args.asked.now.address in
    let same : c.in_ok-key.key ≡ wanted = c.in_ok-key.ensures ∙
    (λ i. keys.Refresh (c.uid.ensures i) (option_copied c.args.id) (c.args.asked.now.of_address i)) in
    if_ok_then (IsStampBehind (Some c.later_stamp-latest.result) c.args.at)
    (IsStampAfter (IsBefore c.args.items.now.items wanted c.args.asked.now.item.now) c.args.at) c.stamp_after.result
    (stamp_found c.args.items.now.items c.in_ok-key.key wanted same c.args.asked.now.item.now c.latest_equal.result c.latest_equal.ensures
    c.args.at c.later_stamp-latest.result c.later_stamp-latest.ensures)
    c.stamp_after.ensures.stamp

pub returns-clause-late : goal.returns-clause-late
returns-clause-late c =
    let wanted : Key = refresh_key c.args.items.now.uid (option_copied c.args.id) c.args.asked.now.address in
    let same : c.in_ok-key.key ≡ wanted = c.in_ok-key.ensures ∙
    (λ i. keys.Refresh (c.uid.ensures i) (option_copied c.args.id) (c.args.asked.now.of_address i)) in
    if_err_then (IfLate (IsSpentBehind (Some c.later_stamp-latest.result) c.args.at))
    (IfLate (IsTimeSpent (IsBefore c.args.items.now.items wanted c.args.asked.now.item.now) c.args.at)) c.stamp_after.result
    (late_weaker (IsSpentBehind (Some c.later_stamp-latest.result) c.args.at)
    (IsTimeSpent (IsBefore c.args.items.now.items wanted c.args.asked.now.item.now) c.args.at)
    (spent_found c.args.items.now.items c.in_ok-key.key wanted same c.args.asked.now.item.now c.latest_equal.result c.latest_equal.ensures
    c.args.at c.later_stamp-latest.result c.later_stamp-latest.ensures))
    c.stamp_after.ensures.spent
