use Rattle.std.proofs.Common.{refl, sym, ◌∙◌}
use Rattle.itip_report.proofs.Telling.{series_cancelled, standing_cancelled}
use Rattle.itip_report.proofs.sought.is_cancellation.Goals as goal

pub returns-in-Series : goal.returns-in-Series
returns-in-Series c = (
  λ _. series_cancelled c.args.items.now.items c.requires.part_is.ascend c.args.item.now c.requires.there c.in-Series.field-0
      c.in-Series.is (sym c.is_live.ensures ∙ c.if-is_live.false),
  λ _. refl,
)

pub returns-in_default : goal.returns-in_default
returns-in_default c =
    standing_cancelled c.args.items.now.items c.args.items.now.uid c.args.item.now
    (c.requires.part_is.about c.args.item.now c.requires.there) (sym c.is_live.ensures ∙ c.if-is_live.false)
    c.in_default.not-Series c.is_standing.result c.is_standing.ensures
