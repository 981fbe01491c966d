use Rattle.std.proofs.Common.{subst}
use Rattle.itip_world.specs.Worlds.{ShownWorld, IsEntriesOf}
use Rattle.itip_world.proofs.Desks.{at_index}
use Rattle.itip_world.proofs.Events.{entries_of}
use Rattle.itip_world.proofs.world.World.entries.Goals as goal

pub returns : goal.returns
returns c =
    let at = c.in_ok-get.ensures.lookup.3 in
    let world : ShownWorld = record { desks = c.self.inside.desks.items; packets = c.self.inside.packets.items } in
    subst (λ (w : ShownWorld). IsEntriesOf w c.args.desk c.entries.result) c.self.view_is
    (entries_of world c.args.desk c.in_ok-get.field-0.now c.entries.result
    (rw (← c.deref.ensures.value) (at_index c.deref.result.now c.args.desk c.in_ok-get.field-0.now at.0 at.1)) c.entries.ensures.number)
