use Rattle.std.proofs.Common.{◌≡◌, ◌∙◌, sym, true, false}
use Rattle.std.specs.Option.{option_copied}
use Rattle.itip_items.specs.declared.key.Key.TheVariants.{Instance}
use Rattle.itip_view.proofs.Beside.{stands_from, none_found, none_beside}
use Rattle.itip_view.proofs.standing.standing_item.Goals as goal

pub returns-in_default : goal.returns-in_default
returns-in_default c =
    none_found c.args.items.now.items c.args.items.now.uid (Instance c.args.items.now.uid c.args.at.now) c.in_default.ensures

pub returns-then-stands_beside : goal.returns-then-stands_beside
returns-then-stands_beside c =
    stands_from c.args.items.now.items c.args.items.now.uid (Instance c.args.items.now.uid c.args.at.now) (option_copied c.series.result)
    c.in-Some.item.now c.series.ensures
    c.in-Some.ensures (c.stands_beside.ensures.0 c.if-stands_beside.true)

pub returns-else-stands_beside : goal.returns-else-stands_beside
returns-else-stands_beside c =
    none_beside c.args.items.now.items c.args.items.now.uid (Instance c.args.items.now.uid c.args.at.now) (option_copied c.series.result)
    c.in-Some.item.now c.series.ensures
    c.in-Some.ensures (λ b. let x : true ≡ false = sym (c.stands_beside.ensures.1 b) ∙ c.if-stands_beside.false in cc)
