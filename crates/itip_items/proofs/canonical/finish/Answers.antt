use Rattle.std.proofs.Common.{refl}
use Rattle.itip_items.specs.Items.{draft_of, IsWhole}
use Rattle.itip_items.proofs.canonical.finish.Goals as goal

pub item_of-requires : goal.item_of-requires
item_of-requires c =
    let whole : IsWhole (draft_of c.args.key c.args.eff c.args.todo c.args.kind) c.in-Ok.bytes = rw c.in-Ok.is at c.requires.1 in record {
      is_canonical = c.requires.0;
      within = whole.within;
      own_is = refl;
      stamp_is = refl;
      bytes_are = whole.bytes_are;
    }

pub returns-in-Ok-clause-found : goal.returns-in-Ok-clause-found
returns-in-Ok-clause-found c =
    let whole : IsWhole (draft_of c.args.key c.args.eff c.args.todo c.args.kind) c.in-Ok.bytes = rw c.in-Ok.is at c.requires.1 in
    (c.item_of.ensures, whole.within)

pub returns-in-Err-clause-large : goal.returns-in-Err-clause-large
returns-in-Err-clause-large c = rw c.in-Err.is at c.requires.2
