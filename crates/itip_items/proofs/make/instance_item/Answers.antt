use Rattle.std.proofs.Common.{◌∙◌, sym, subst, ℕ, ◌≤◌}
use Rattle.itip_todo.specs.PartsOf.{parts_of}
use Rattle.itip_items.proofs.Lawfulness.{base_lawful, raised_small, canonical_small}
use Rattle.itip_items.proofs.make.instance_item.Goals as goal

pub invariant_of-todo : goal.invariant_of-todo
invariant_of-todo c =
    let small : c.raised-eff.result ≤ 2147483647 =
    subst (λ (n : ℕ). n ≤ 2147483647) (sym c.raised-eff.ensures)
    (raised_small (parts_of c.args.todo) c.args.above c.args.todo.lawful c.requires.1) in
    record {
      lawful = base_lawful (parts_of c.args.todo) c.canonical_base-todo.result c.args.todo.lawful
          (λ n e. canonical_small c.args.todo.seq c.raised-eff.result small n (sym c.canonical_base-todo.ensures ∙ e));
    }
