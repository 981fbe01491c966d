use Rattle.std.proofs.Common.{◌≡◌, ℕ, ℤ, pos, arith, FitsSigned, w8, w16, w32, to_z, to_z-of_z, ◌<◌, ◌∙◌, ap, Result, Some, IfOk}
use Rattle.std.specs.Result.{result_ok}
use Rattle.std.proofs.lemmas.Int.{ints}
use Rattle.jiff_core.proofs.SignedLemmas.{signed_arith}
use Rattle.jiff.specs.Types.{Date as CalendarDate}
use Rattle.jiff.specs.Words.{epoch_day, IsYmd, Error}
use Rattle.itip_moment.specs.Spelling.{IsDayOf}
use Rattle.itip_moment.proofs.Calendar.{epoch_day-in_years}
use Rattle.itip_moment.proofs.OptionLemmas.{ok_holds}
use Rattle.itip_moment.proofs.read.day_of.Goals as goal

found : (y m d : ℕ) → y < 10_000 → m < 100 → d < 100 → (r : Result CalendarDate Error) (date plain : CalendarDate) (n : ℤ) →
    Some date ≡ result_ok r → IfOk r (IsYmd (to_z w16 y) (to_z w8 m) (to_z w8 d)) → plain ≡ date → n ≡ epoch_day plain → IsDayOf y m d n
found y m d y_in m_in d_in r date plain n some ok same number =
    let year : to_z w16 y ≡ pos y = omega (arith, ints) in
    let month : to_z w8 m ≡ pos m = omega (arith, ints) in
    let day : to_z w8 d ≡ pos d = omega (arith, ints) in
    record {
      date = date;
      parts = rw (← year, ← month, ← day) (ok_holds r (IsYmd (to_z w16 y) (to_z w8 m) (to_z w8 d)) date some ok);
      number_is = number ∙ ap epoch_day same;
    }

pub invariant_of-result : goal.invariant_of-result
invariant_of-result c =
    let fits : FitsSigned w32 c.to_unix_epoch_day.result = omega (arith, signed_arith) in
    let is = found _ _ _ c.requires.year_in c.requires.month_in c.requires.day_in
    c.new.result c.in_ok-date.date c.to_plain.result _ c.in_ok-date.ensures.value c.new.ensures.value c.to_plain.ensures
    c.to_unix_epoch_day.ensures.value in
    let within = epoch_day-in_years is.date c.args.year is.parts.0 in
    record { in_years = omega (arith, signed_arith, is.number_is) }

pub returns-clause-found : goal.returns-clause-found
returns-clause-found c =
    let fits : FitsSigned w32 c.to_unix_epoch_day.result = omega (arith, signed_arith) in
    found _ _ _ c.requires.year_in c.requires.month_in c.requires.day_in
    c.new.result c.in_ok-date.date c.to_plain.result _ c.in_ok-date.ensures.value c.new.ensures.value c.to_plain.ensures
    (to_z-of_z fits ∙ c.to_unix_epoch_day.ensures.value)
