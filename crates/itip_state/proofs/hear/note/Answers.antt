use Rattle.std.proofs.Common.{◌≡◌, ◌∙◌, ap, sym, Some, None, inl, inr, true, false}
use Rattle.itip_state.specs.Held.{UidState, at}
use Rattle.itip_state.specs.UidStates.{uid_state}
use Rattle.itip_join.specs.KeyByKey.{value_at}
use Rattle.itip_state.specs.Slots.{slot_cmp}
use Rattle.itip_state.proofs.Undoing.{noted_at}
use Rattle.itip_state.proofs.hear.note.Goals as goal

none_some : {X : Type 0} (x : X) → None ≡ Some x → ⊥
none_some x e = cc

-- a series item is noted only if nothing is held
pub returns-in-None-clause-noted : goal.returns-in-None-clause-noted
returns-in-None-clause-noted c = absurd (elim c.requires [
  | inl other ↦ let x : true ≡ false = sym c.in-None.ensures ∙ other in cc
  | inr none ↦ none_some (uid_state c.in-Some.series.now) (sym none ∙ sym (ap (at c.args.held.now) c.uid.ensures) ∙
      sym c.in-Some.ensures.found)
])

pub returns-in-None-get-clause-noted : goal.returns-in-None-get-clause-noted
returns-in-None-get-clause-noted c =
    let w : UidState = uid_state c.in-Some.series.now in (
      w,
      sym (ap (at c.args.held.now) c.uid.ensures) ∙ sym c.in-Some.ensures.found,
      noted_at c.args.item.now.key None w (record {
        sorted = c.in-Some.series.now.entries.ordered;
        alive =
            c.in-Some.series.now.no_dead_entry;
      })
          (c.in-None-get.ensures ∙ ap (value_at slot_cmp w.entries) c.in-Some-slot.ensures.0),
      c.in-Some-slot.ensures.1,
      c.in-Some-slot.ensures.0,
    )

pub returns-in_ok-copy-in-Some-get-clause-noted : goal.returns-in_ok-copy-in-Some-get-clause-noted
returns-in_ok-copy-in-Some-get-clause-noted c =
    let w : UidState = uid_state c.in-Some.series.now in (
      w,
      sym (ap (at c.args.held.now) c.uid.ensures) ∙ sym c.in-Some.ensures.found,
      noted_at c.args.item.now.key (Some c.in_ok-copy-in-Some-get.field-0) w
          (record { sorted = c.in-Some.series.now.entries.ordered; alive = c.in-Some.series.now.no_dead_entry })
          (ap Some c.in_ok-copy-in-Some-get.ensures ∙ c.in-Some-get.ensures ∙ ap (value_at slot_cmp w.entries) c.in-Some-slot.ensures.0),
      c.in-Some-slot.ensures.1,
      c.in-Some-slot.ensures.0,
    )
