use Rattle.std.proofs.Common.{◌≡◌, ◌∙◌, sym, ap, ℕ, Option, subst}
use Rattle.itip_todo.specs.Lawful.{IsLawful}
use Rattle.itip_todo.specs.PartsOf.{parts_of}
use Rattle.itip_todo.specs.declared.todo.Todo.{Todo}
use Rattle.itip_items.specs.Items.{with_base}
use Rattle.itip_writing.specs.Requesting.{base_above, requested}
use Rattle.itip_writing.proofs.Requested.{requested_lawful}
use Rattle.itip_writing.proofs.request.written.Goals as goal

pub invariant_of-copy : goal.invariant_of-copy
invariant_of-copy c =
    let copy : Todo = c.in_ok-copy.copy in
    let n : ℕ = c.args.sequence in
    let base : base_above n copy.base ≡ c.base_above-copy.result =
    ap (λ (todo : Todo). base_above n todo.base) c.in_ok-copy.ensures.cases ∙ sym c.base_above-copy.ensures in
    record {
      lawful = subst (λ (o : Option ℕ). IsLawful (with_base (requested c.args.at n (parts_of copy)) o)) base
          (requested_lawful (parts_of copy) c.args.at n copy.lawful c.requires);
    }
