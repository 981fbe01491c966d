use Rattle.std.proofs.Common.{ℕ, List, map}
use Rattle.std.specs.Prelude.{MatchOption}
use Rattle.itip_items.specs.declared.item.Item.{Item}
use Rattle.itip_view.specs.Standing.{IsLiveSeries}
use Rattle.itip_report.specs.Resending.{AreResent}
use Rattle.itip_writing.proofs.errand.lacking_in.Goals as goal

pub returns-clause-lacking : goal.returns-clause-lacking
returns-clause-lacking c =
    let items : List Item = c.args.items.now.items in
    let uid : List ℕ = c.args.items.now.uid in
    let found : MatchOption c.in_ok-resent.field-0 ((item : Item) → ¬ IsLiveSeries items uid item)
    (λ r. AreResent items uid r.series.now (map (λ item. item.now) r.overrides.items)) = c.in_ok-resent.ensures in
    record {
      series = c.in-Some.resent.series.now;
      overrides = map (λ item. item.now) c.in-Some.resent.overrides.items;
      resent = rw c.in-Some.is at found;
      lacking_is = rw c.deref.ensures.value at c.in_ok-lacking.ensures;
    }
