use Rattle.std.proofs.Common.{◌∙◌, ap, List}
use Rattle.itip_todo.specs.Parts.{Parts}
use Rattle.itip_todo.specs.PartsOf.{parts_of}
use Rattle.itip_todo.specs.Properties.{Property}
use Rattle.itip_items.specs.Items.{front_octets, kept_with}
use Rattle.itip_items.proofs.attendee_item.shared_front.Goals as goal

pub returns : goal.returns
returns c =
    c.in_ok-front.ensures ∙ ap (λ (parts : Parts). front_octets c.args.kind parts) (c.in_ok-kept.ensures ∙
    ap (λ (list : List Property). kept_with list (parts_of c.args.todo.now)) c.new.ensures)
