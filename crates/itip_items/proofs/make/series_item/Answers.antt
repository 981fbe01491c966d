use Rattle.std.proofs.Common.{None}
use Rattle.itip_todo.specs.PartsOf.{parts_of}
use Rattle.itip_items.specs.declared.key.Key.TheVariants as key
use Rattle.itip_items.proofs.Lawfulness.{base_lawful}
use Rattle.itip_items.proofs.make.series_item.Goals as goal

pub invariant_of-todo : goal.invariant_of-todo
invariant_of-todo c = record { lawful = base_lawful (parts_of c.args.todo) None c.args.todo.lawful (λ n e. absurd cc) }
