use Rattle.std.proofs.Common.{List, [], drop, map}
use Rattle.std.specs.List.{AllByRecursion}
use Rattle.itip_todo.specs.Lawful.{IsLawful}
use Rattle.itip_todo.specs.PartsOf.{parts_of}
use Rattle.itip_items.specs.Items.{attendee_draft, kept_with, only_of, IsFrontOf}
use Rattle.itip_items.specs.Given.{Adds, IsOver}
use Rattle.itip_items.specs.declared.item.Item.{Item}
use Rattle.itip_items.proofs.make.add_attendees.Given as goal

abbrev pub invariant-loop-attendee : goal.invariant-loop-attendee
invariant-loop-attendee l =
    let rest = drop l.attendee-index l.attendee-items in
    let draft = attendee_draft l.kind (parts_of l.todo) in
    record {
      lawful : AllByRecursion (λ a. IsLawful (only_of a (parts_of l.todo))) rest;
      found : (new : List Item) → Adds (map draft rest) l.items.items new → Adds (map draft l.attendee-items) l.initial.items.items new;
      over : IsOver (map draft rest) → IsOver (map draft l.attendee-items);
      front : IsFrontOf l.kind (kept_with [] (parts_of l.todo)) l.front;
    }
