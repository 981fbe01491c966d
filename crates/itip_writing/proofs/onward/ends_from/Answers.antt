use Rattle.std.proofs.Common.{◌≡◌, ◌∙◌, sym, true, false}
use Rattle.std.specs.Option.{option_copied}
use Rattle.itip_writing.proofs.EndsTold.{ends_after, ends_beside, ends_where}
use Rattle.itip_writing.proofs.onward.ends_from.Goals as goal

pub returns-then-is_after : goal.returns-then-is_after
returns-then-is_after c =
    let part = c.requires.among.part_is in (
      λ e. ends_where c.args.items.now.items c.args.items.now.uid part.about part.ascend (option_copied c.series.result) c.series.ensures
          c.args.item.now c.requires.among.there c.args.from.now c.args.id.now c.requires.named
          (c.is_after.ensures.0 c.if-is_after.true) (c.lives_beside.ensures.0 e),
      λ is. c.lives_beside.ensures.1 (ends_beside c.args.items.now.items c.args.items.now.uid part.about part.ascend
          (option_copied c.series.result) c.series.ensures c.args.item.now c.requires.among.there c.args.from.now c.args.id.now
          c.requires.named is),
    )

pub returns-else-is_after : goal.returns-else-is_after
returns-else-is_after c = (
  λ e. let x : false ≡ true = e in absurd cc,
  λ is. let after = ends_after c.args.items.now.items c.args.items.now.uid c.args.item.now c.args.from.now c.args.id.now
      c.requires.named is in
      let x : true ≡ false = sym (c.is_after.ensures.1 after) ∙ c.if-is_after.false in absurd cc,
)
