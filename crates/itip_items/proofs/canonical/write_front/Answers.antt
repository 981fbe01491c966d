use Rattle.std.proofs.Common.{◌≡◌, ◌∙◌, ap, ◌++◌, List, ℕ, subst}
use Rattle.std.specs.Prelude.{IfOk}
use Rattle.itip_todo.specs.PartsOf.{parts_of}
use Rattle.itip_todo.specs.Written.{contents_octets}
use Rattle.itip_items.specs.Items.{opening_contents}
use Rattle.itip_items.proofs.Composing.{front_is}
use Rattle.itip_items.proofs.canonical.write_front.Goals as goal

pub returns : goal.returns
returns c =
    subst (λ (octets : List ℕ). IfOk c.new.result (λ front. front ≡ octets)) (c.in_ok-exact.ensures.items ∙ c.as_slice.ensures.value ∙
    front_is c.args.kind (parts_of c.args.todo.now) c.write_opening.new.out.items c.write_todo_front.new.out.items
    (c.in_ok-write_opening.ensures ∙
    ap (λ (front : List ℕ). front ++ contents_octets (opening_contents c.args.kind)) c.in_ok-octets.ensures.items)
    c.in_ok-write_todo_front.ensures) c.new.ensures
