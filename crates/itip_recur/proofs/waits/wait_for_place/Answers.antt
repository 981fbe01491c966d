use Rattle.std.proofs.Common.{◌≡◌, ℕ, ◌<◌, ◌≤◌, ◌+◌, ◌-◌, ◌∙◌, sym, arith, FitsSigned, to_z, to_z-of_z, w32, pos}
use Rattle.std.proofs.lemmas.Int.{ints}
use Rattle.jiff_core.proofs.SignedLemmas.{signed_arith}
use Rattle.itip_recur.specs.Calendar.{day_of_month, month_length}
use Rattle.itip_recur.proofs.WaitDays.{no_place}
use Rattle.itip_recur.proofs.waits.wait_for_place.Goals as goal
use Rattle.itip_recur.proofs.waits.wait_for_place.Goals.{else-day-wanted-via-then-day-wanted+else-wanted-day}
use Rattle.itip_recur.proofs.waits.wait_for_place.Goals.{else-day-wanted-via-else-day-wanted}

pub returns-then-wanted-day-clause-none : goal.returns-then-wanted-day-clause-none
returns-then-wanted-day-clause-none c =
    let day = c.args.day.now in
    let wanted = c.day_at_place-wanted.result in
    let unsigned : to_z w32 (wanted - day.day) ≡ pos (wanted - day.day) = omega (arith, ints) in
    rw unsigned (no_place c.args.place day.number wanted (wanted - day.day) day.in_years
    (omega (arith, day.day_is, day.length_is, c.if-day-wanted.true, c.if-wanted-day.true))
    (λ x same short. c.day_at_place-wanted.ensures x (same ∙ sym day.length_is) (omega (arith, short, day.length_is)))
    (λ m after before short is. omega (arith, after, before, is, day.day_is, c.if-day-wanted.true)))

pub returns-else-day-wanted-clause-none : goal.returns-else-day-wanted-clause-none
returns-else-day-wanted-clause-none c =
    let day = c.args.day.now in
    let wanted = c.day_at_place-wanted.result in
    let rest : FitsSigned w32 c.rest_of_month.result = omega (arith, signed_arith) in
    let none : (m : ℕ) → day_of_month day.number < m → m ≤ month_length day.number → m ≡ wanted → ⊥ =
    elim c.else-day-wanted.branch [
      | else-day-wanted-via-then-day-wanted+else-wanted-day w ↦ λ m after short is. omega (
        arith,
        short,
        is,
        day.length_is,
        w.if-wanted-day.false,
      )
      | else-day-wanted-via-else-day-wanted w ↦ λ m after short is. omega (arith, after, is, day.day_is, w.if-day-wanted.false)
    ] in
    rw (to_z-of_z, c.rest_of_month.ensures.value)
    (no_place c.args.place day.number wanted (month_length day.number + 1 - day_of_month day.number) day.in_years
    (omega (arith, day.day_is, day.length_is, day.bounds))
    (λ x same short. c.day_at_place-wanted.ensures x (same ∙ sym day.length_is) (omega (arith, short, day.length_is)))
    (λ m after before short is. none m after short is))
