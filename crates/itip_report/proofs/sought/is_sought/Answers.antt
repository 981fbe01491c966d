use Rattle.std.proofs.Common.{◌↔◌, sym, subst}
use Rattle.std.specs.Prelude.{IsTrue}
use Rattle.itip_report.specs.Sought.{IsSought}
use Rattle.itip_report.specs.declared.sought.Sought.{Sought}
use Rattle.itip_report.proofs.sought.is_sought.Goals as goal

pub returns-in-Standing : goal.returns-in-Standing
returns-in-Standing c =
    subst (λ (s : Sought). IsTrue c.is_standing.result ↔ IsSought s c.args.items.now c.args.item.now) (sym c.in-Standing.is)
    c.is_standing.ensures

pub returns-in-Cancelled : goal.returns-in-Cancelled
returns-in-Cancelled c =
    subst (λ (s : Sought). IsTrue c.is_cancellation.result ↔ IsSought s c.args.items.now c.args.item.now) (sym c.in-Cancelled.is)
    c.is_cancellation.ensures

pub returns-in-Orphans : goal.returns-in-Orphans
returns-in-Orphans c =
    subst (λ (s : Sought). IsTrue c.is_orphan.result ↔ IsSought s c.args.items.now c.args.item.now) (sym c.in-Orphans.is)
    c.is_orphan.ensures

pub returns-in-Wanted : goal.returns-in-Wanted
returns-in-Wanted c =
    subst (λ (s : Sought). IsTrue c.is_wanted.result ↔ IsSought s c.args.items.now c.args.item.now) (sym c.in-Wanted.is) c.is_wanted.ensures
