use Rattle.std.proofs.Common.{◌∙◌, ap, ◌++◌, List, ℕ}
use Rattle.itip_todo.specs.PartsOf.{parts_of}
use Rattle.itip_todo.specs.Written.{contents_octets}
use Rattle.itip_items.specs.Items.{canonical_octets_limit, opening_contents}
use Rattle.itip_items.proofs.Composing.{canonical_up_to}
use Rattle.itip_items.proofs.canonical.write_canonical.Goals as goal

pub returns : goal.returns
returns c =
    canonical_up_to canonical_octets_limit c.args.kind (parts_of c.args.todo.now) c.write_opening.new.out.items
    c.write_todo_up_to.new.out.items _ (c.in_ok-write_opening.ensures ∙
    ap (λ (front : List ℕ). front ++ contents_octets (opening_contents c.args.kind)) c.in_ok-octets.ensures.items)
    c.in_ok-write_todo_up_to.ensures (c.in_ok-exact.ensures.items ∙ c.as_slice.ensures.value ∙ c.in_ok-write_end.ensures)
