use Rattle.std.proofs.Common.{◌≡◌, ◌∙◌, [], map, take_all, ap}
use Rattle.itip_report.specs.Reports.{line_of}
use Rattle.itip_report.proofs.Mapped.{map_twice}
use Rattle.itip_report.proofs.Nothing.{none_mapped, none_reported, some_there}
use Rattle.itip_report.proofs.lines.lines_of.Goals as goal

pub returns-clause-lines : goal.returns-clause-lines
returns-clause-lines c = record {
  items = map (λ item. item.now) c.in_ok-items.items.items;
  reported = c.in_ok-items.ensures.items;
  lines_are =
      c.loop-item.invariant
      ∙ ap (map (λ item. line_of c.args.report item.now))
      (take_all c.loop-item.item-index c.deref-item-items.result.now c.loop-item-test.false ∙ c.deref-item-items.ensures.value)
      ∙ map_twice (line_of c.args.report) (λ item. item.now) c.in_ok-items.items.items;
}

pub returns-in_err-line_of-clause-succeeds : goal.returns-in_err-line_of-clause-succeeds
returns-in_err-line_of-clause-succeeds c = λ none.
    let empty : c.in_ok-items.items.items ≡ [] = none_mapped (λ item. item.now) c.in_ok-items.items.items
    (none_reported c.args.report c.args.state.now (map (λ item. item.now) c.in_ok-items.items.items) none c.in_ok-items.ensures.items) in
    absurd (some_there c.deref-item-items.result.now c.loop-item.item-index c.loop-item-test.true
    (c.deref-item-items.ensures.value ∙ empty))

pub returns-in_err-push-clause-succeeds : goal.returns-in_err-push-clause-succeeds
returns-in_err-push-clause-succeeds c = λ none.
    let empty : c.in_ok-items.items.items ≡ [] = none_mapped (λ item. item.now) c.in_ok-items.items.items
    (none_reported c.args.report c.args.state.now (map (λ item. item.now) c.in_ok-items.items.items) none c.in_ok-items.ensures.items) in
    absurd (some_there c.deref-item-items.result.now c.loop-item.item-index c.loop-item-test.true
    (c.deref-item-items.ensures.value ∙ empty))
