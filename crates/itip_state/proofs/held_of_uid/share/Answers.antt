use Rattle.std.proofs.Common.{◌≡◌, List, [], ◌∷◌, ◌++◌, append_assoc, rules, sym, ap, ◌∙◌, subst}
use Rattle.std.specs.List.{AllByRecursion}
use Rattle.itip_items.specs.declared.item.Item.{Item}
use Rattle.itip_state.specs.Held.{IsEntryAt, series_items, entry_items}
use Rattle.itip_state.specs.UidStates.{uid_state}
use Rattle.itip_state.proofs.Sharing.{placed_rest, no_series_items}
use Rattle.itip_state.proofs.held_of_uid.share.Goals as goal
use Rattle.itip_state.proofs.held_of_uid.share.Goals.{in-Known+in_ok-held_at+in_ok-push, in_default}

pub loop-slot-init : goal.loop-slot-init
loop-slot-init c =
    let there : (uid_state c.args.series.now).entries ≡ c.into_iter-slot-iterator.result = search rules in
    let before : List Item = c.args.items.now.items in
    let entries : List Item = entry_items (uid_state c.args.series.now).entries in
    let first : c.match-series.items.items ++ entries ≡ before ++ (series_items c.args.series.now.guard ++ entries) =
    elim c.match-series.branch [
      | in-Known+in_ok-held_at+in_ok-push w ↦
          ap (λ v. v.items ++ entries) w.items-is ∙
          ap (λ xs. xs ++ entries) (w.in_ok-push.ensures.items ∙ ap (λ (i : Item). before ++ i ∷ []) w.in_ok-held_at.ensures)
          ∙ append_assoc before (w.in-Known.best.value ∷ []) entries ∙ ap (λ s. before ++ (series_items s ++ entries)) (sym w.in-Known.is)
      | in_default w ↦ ap (λ v. v.items ++ entries) w.items-is ∙
          ap (λ (xs : List Item). before ++ (xs ++ entries)) (sym (no_series_items c.args.series.now.guard w.in_default.not-Known))
    ] in
    record {
      shared = ap (λ es. c.match-series.items.items ++ entry_items es) (sym there) ∙ first;
      placed = (c.requires.0, subst (AllByRecursion (λ e. IsEntryAt c.requires.0 e.0 e.1)) there (c.requires.1).entries);
    }

pub loop-slot-preserved : goal.loop-slot-preserved
loop-slot-preserved c =
    let before : List Item = c.loop-slot.items.items in
    let rest : List Item = entry_items c.next.new.self in
    record {
      shared =
          ap (λ xs. xs ++ rest) (c.in_ok-push-2.ensures.items ∙ ap (λ (i : Item). before ++ i ∷ []) c.in_ok-held_at-2.ensures)
          ∙ append_assoc before (c.in-Some.best.now.value ∷ []) rest ∙ ap (λ es. before ++ entry_items es) (sym c.in-Some.ensures.steps) ∙
          c.loop-slot.invariant.shared;
      placed = (
        (c.loop-slot.invariant.placed).0,
        placed_rest (c.loop-slot.invariant.placed).0 c.loop-slot.slot-iterator c.next.new.self c.in-Some.slot.now c.in-Some.best.now
            c.in-Some.ensures.steps (c.loop-slot.invariant.placed).1,
      );
    }
