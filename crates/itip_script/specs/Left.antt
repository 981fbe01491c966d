-- The commands that an iterator over a script has not yielded yet (our own form).
use Rattle.std.specs.Prelude.{List}
use Rattle.itip_script.specs.declared.commands.Commands.{Commands}
use Rattle.itip_script.specs.Orders.{Order}
use Rattle.itip_script.specs.Script.{orders_of}

abbrev pub orders_left : Commands → List Order
orders_left left = orders_of left.rest.now
