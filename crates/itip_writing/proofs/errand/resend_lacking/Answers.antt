use Rattle.std.proofs.Common.{ℕ, List, subst}
use Rattle.std.specs.Prelude.{None}
use Rattle.itip_items.specs.declared.item.Item.{Item}
use Rattle.itip_state.proofs.Members.{if_ok_then}
use Rattle.itip_report.specs.Resending.{IsResendOf}
use Rattle.itip_report.proofs.Resending.{resend_there, resent_there}
use Rattle.itip_report.proofs.SameOf.{part_says}
use Rattle.itip_writing.specs.Causes.{IfNothing}
use Rattle.itip_writing.specs.Lacking.{IsResendLacking}
use Rattle.itip_writing.proofs.Faults.{if_err_then, nothing_weaker}
use Rattle.itip_writing.proofs.errand.resend_lacking.Goals as goal

pub returns-clause-lacking : goal.returns-clause-lacking
returns-clause-lacking c =
    let uid : List ℕ = c.args.uid.now in
    let part : List Item = c.in_ok-items.items.items in
    if_ok_then (λ lacking. IsResendLacking part c.in_ok-items.items.uid lacking.items)
    (λ lacking. IsResendLacking c.args.state.now uid lacking.items) c.lacking_in.result
    (λ lacking found.
    let is : IsResendLacking part uid lacking.items =
    subst (λ (u : List ℕ). IsResendLacking part u lacking.items) c.in_ok-items.ensures.uid found in
    record {
      series = is.series;
      overrides = is.overrides;
      resent = resent_there uid part c.args.state.now (part_says uid part c.args.state.now c.in_ok-items.ensures.items) is.series
          is.overrides is.resent;
      lacking_is = is.lacking_is;
    })
    c.lacking_in.ensures.lacking

pub returns-clause-fault : goal.returns-clause-fault
returns-clause-fault c =
    let uid : List ℕ = c.args.uid.now in
    let part : List Item = c.in_ok-items.items.items in
    if_err_then (IfNothing (IsResendOf part c.in_ok-items.items.uid None)) (IfNothing (IsResendOf c.args.state.now uid None))
    c.lacking_in.result
    (λ e h. nothing_weaker (IsResendOf part uid None) (IsResendOf c.args.state.now uid None)
    (resend_there uid part c.args.state.now (part_says uid part c.args.state.now c.in_ok-items.ensures.items) None) e
    (subst (λ (u : List ℕ). IfNothing (IsResendOf part u None) e) c.in_ok-items.ensures.uid h))
    c.lacking_in.ensures.fault
