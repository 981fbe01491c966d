-- The order of stamps and of moments, by lexicographic keys (our own rule).
use Rattle.std.specs.declared.cmp.Ordering.{Ordering}
use Rattle.std.specs.Ordering.{on, then_cmp, nat_cmp, int_cmp}
use Rattle.std.specs.Option.{option_cmp}
use Rattle.std.specs.Cmp.Lexicographic.{slice_cmp}
use Rattle.itip_moment.specs.declared.stamp.Stamp.{Stamp}
use Rattle.itip_moment.specs.declared.moment.Moment.{Moment}
use Rattle.itip_moment.specs.Moment.{moment_day, moment_second, moment_form, moment_zone, form_rank}

-- by the day, then by the second of the day
abbrev pub stamp_cmp : Stamp → Stamp → Ordering
stamp_cmp = then_cmp (on (λ s. s.day) int_cmp) (on (λ s. s.second) nat_cmp)

-- by the day; then by the second of the day, a date before every second; then by the form; then by the zone's bytes
abbrev pub moment_cmp : Moment → Moment → Ordering
moment_cmp =
    then_cmp (on moment_day int_cmp)
    (then_cmp (on moment_second (option_cmp nat_cmp))
    (then_cmp (on (λ m. form_rank (moment_form m)) nat_cmp) (on moment_zone (slice_cmp nat_cmp))))
