use Rattle.std.proofs.Common.{◌≡◌, ◌++◌, ◌∙◌, Some, sym, ap, subst, rules, append-nil}
use Rattle.std.specs.List.{AllByRecursion}
use Rattle.itip_state.specs.Slots.{slot_total, slot_exact}
use Rattle.itip_state.specs.Held.{IsPlaceOf}
use Rattle.itip_state.specs.Due.{items_under}
use Rattle.itip_state.proofs.Lookups.{all_from_values}
use Rattle.itip_state.proofs.Dying.{adds_each}
use Rattle.itip_state.proofs.due.share_each.Goals as goal

pub loop-slot-init : goal.loop-slot-init
loop-slot-init c =
    let there : c.args.entries.now.map ≡ c.into_iter-slot-iterator.result = search rules in
    record {
      shared = ap (λ es. c.args.items.now.items ++ items_under c.args.sequence es) (sym there);
      placed = subst (AllByRecursion (λ e. IsPlaceOf (Some e.0) e.1.value.key)) there
          (all_from_values slot_total slot_exact (λ e. IsPlaceOf (Some e.0) e.1.value.key) c.args.entries.now.map
          c.args.entries.now.ordered c.requires);
    }

pub returns : goal.returns
returns c = adds_each c.args.sequence c.args.entries.now.map c.args.items.now.items c.loop-slot.items.items c.args.entries.now.ordered
    (sym (append-nil c.loop-slot.items.items)
    ∙ ap (λ es. c.loop-slot.items.items ++ items_under c.args.sequence es) (sym c.in-None.ensures.steps.0) ∙ c.loop-slot.invariant.shared)
