use Rattle.std.proofs.Common.{◌≡◌, List, sym, subst, map}
use Rattle.itip_items.specs.declared.item.Item.{Item}
use Rattle.itip_state.specs.Kept.{AreSeriesOf}
use Rattle.itip_state.specs.Held.{series_list}
use Rattle.itip_state.proofs.Members.{if_ok_then}
use Rattle.itip_state.proofs.Nothing.{no_series}
use Rattle.itip_state.proofs.Ordered.{series_of}
use Rattle.itip_state.proofs.state.State.series.Goals as goal

pub returns-clause-series : goal.returns-clause-series
returns-clause-series c = if_ok_then (λ series. map (λ item. item.now) series.items ≡ series_list c.self.inside.held)
    (λ series. AreSeriesOf (map (λ item. item.now) series.items) c.args.self.now) c.series.result
    (λ series e. subst (λ (xs : List Item). AreSeriesOf xs c.args.self.now) (sym e)
    (subst (λ (v : List Item). AreSeriesOf (series_list c.self.inside.held) v) c.self.view_is
    (series_of c.self.inside.held c.self.invariant)))
    c.series.ensures.series

pub returns-clause-succeeds : goal.returns-clause-succeeds
returns-clause-succeeds c = λ none. c.series.ensures.succeeds (no_series (series_list c.self.inside.held) c.args.self.now
    (subst (λ (v : List Item). AreSeriesOf (series_list c.self.inside.held) v) c.self.view_is
    (series_of c.self.inside.held c.self.invariant)) none)
