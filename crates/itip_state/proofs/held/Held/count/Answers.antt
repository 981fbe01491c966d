use Rattle.std.proofs.Common.{◌≡◌, ◌+◌, List, length, ap, ◌∙◌, arith}
use Rattle.itip_items.specs.declared.item.Item.{Item}
use Rattle.itip_state.specs.Held.{UidState, items_of}
use Rattle.itip_state.specs.UidStates.{uid_state, uid_states}
use Rattle.itip_state.proofs.Reading.{one_more, none_more}
use Rattle.itip_state.proofs.held.Held.count.Goals as goal

pub loop-series-preserved-in-Known : goal.loop-series-preserved-in-Known
loop-series-preserved-in-Known c =
    let sh : UidState = uid_state c.in-Some.series.now in
    let rest : List Item = items_of (uid_states c.next.new.self uid_state) in
    let step : length (items_of (uid_states c.loop-series.series-iterator uid_state)) ≡ 1 + length sh.entries + length rest =
    ap (λ es. length (items_of (uid_states es uid_state))) c.in-Some.ensures.steps ∙ one_more sh c.in-Known.field-0 rest c.in-Known.is in
    record {
      counted = omega (
        arith,
        step,
        c.loop-series.invariant.counted,
        c.loop-series.invariant.fits,
        c.len.ensures,
        c.saturating_add-count.ensures,
        c.saturating_add-count-in-Known.ensures,
      );
      fits = omega (arith, c.saturating_add-count-in-Known.ensures);
    }

pub loop-series-preserved : goal.loop-series-preserved
loop-series-preserved c =
    let sh : UidState = uid_state c.in-Some.series.now in
    let rest : List Item = items_of (uid_states c.next.new.self uid_state) in
    let step : length (items_of (uid_states c.loop-series.series-iterator uid_state)) ≡ length sh.entries + length rest =
    ap (λ es. length (items_of (uid_states es uid_state))) c.in-Some.ensures.steps ∙ none_more sh rest c.in_default.not-Known in
    record {
      counted = omega (
        arith,
        step,
        c.loop-series.invariant.counted,
        c.loop-series.invariant.fits,
        c.len.ensures,
        c.saturating_add-count.ensures,
      );
      fits = omega (arith, c.saturating_add-count.ensures);
    }
