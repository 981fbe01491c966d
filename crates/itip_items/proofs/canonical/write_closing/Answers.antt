use Rattle.std.proofs.Common.{◌∙◌, List, ℕ, [], subst}
use Rattle.itip_todo.specs.PartsOf.{parts_of}
use Rattle.itip_todo.specs.UpTo.{AppendsUpTo}
use Rattle.itip_todo.specs.Written.{rest_contents}
use Rattle.itip_items.proofs.Composing.{end_up_to}
use Rattle.itip_items.proofs.canonical.write_closing.Goals as goal

pub returns : goal.returns
returns c =
    end_up_to c.args.room (rest_contents (parts_of c.args.todo.now)) [] c.write_todo_rest.new.out.items _
    (subst (λ (old : List ℕ). AppendsUpTo c.args.room (rest_contents (parts_of c.args.todo.now)) old c.write_todo_rest.new.out.items)
    c.in_ok-octets.ensures.items c.in_ok-write_todo_rest.ensures)
    (c.in_ok-exact.ensures.items ∙ c.as_slice.ensures.value ∙ c.in_ok-write_end.ensures)
