use Rattle.std.specs.Option.{option_copied}
use Rattle.itip_report.proofs.Telling.{standing_of, standing_beside}
use Rattle.itip_report.proofs.sought.is_standing.Goals as goal

pub returns-in-Instance : goal.returns-in-Instance
returns-in-Instance c =
    let part = c.requires.part_is in (
      λ e. standing_of c.args.items.now.items c.args.items.now.uid part.about part.ascend (option_copied c.series.result) c.series.ensures
          c.args.item.now c.requires.there
          c.in-Instance.is (c.stands_beside.ensures.0 e),
      λ is. c.stands_beside.ensures.1 (standing_beside c.args.items.now.items c.args.items.now.uid part.about part.ascend
          (option_copied c.series.result) c.series.ensures c.args.item.now
          c.requires.there is),
    )
