use Rattle.std.proofs.Common.{map, Option}
use Rattle.logbook.specs.Pages.{Book}
use Rattle.itip_office.specs.declared.start.Started.{Started}
use Rattle.itip_office.specs.Pairs.{pair_at, IsStarted}
use Rattle.itip_office.proofs.Starting.{of_any_pair}
use Rattle.itip_office.proofs.start.start_desks.Goals as goal

pub returns-clause-started : goal.returns-clause-started
returns-clause-started g c =
    let all = c.in_ok-unread_desks.field-0.items in
    of_any_pair (λ (pair : Option Book) (s : Started g.row.R.Denot). IsStarted pair s.held.texts s.held.shown s.passes.items)
    (λ (s : Started g.row.R.Denot). pair_at (map (λ (x : Started g.row.R.Denot). x.held.shown) all) s.desk) all
    c.in_ok-unread_desks.ensures.started
