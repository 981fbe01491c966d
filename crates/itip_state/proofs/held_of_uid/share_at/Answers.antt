use Rattle.std.proofs.Common.{◌∙◌, sym, ap}
use Rattle.itip_state.specs.Slots.{slot_total, slot_exact}
use Rattle.itip_state.specs.Held.{is_series, IsEntryAt}
use Rattle.itip_state.proofs.Lookups.{value_from_all}
use Rattle.itip_state.proofs.held_of_uid.share_at.Goals as goal

pub held_at-requires-in-Some-get : goal.held_at-requires-in-Some-get
held_at-requires-in-Some-get c =
    let e = value_from_all slot_total slot_exact (λ e. IsEntryAt c.requires.0 e.0 e.1) c.args.held.now.entries.map (c.requires.1).entries
    c.in-Some.slot.now c.in-Some-get.best.now (sym c.in-Some-get.ensures) in
    (sym e.in_place, ap is_series e.in_place ∙ e.other)
