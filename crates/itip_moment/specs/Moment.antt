-- The parts of a moment: its form, its day, its second of the day, its zone (our own form).
use Rattle.std.specs.Prelude.{ℕ, ℤ, Option, Some, None, List, []}
use Rattle.itip_moment.specs.Zone.{Name}
use Rattle.itip_moment.specs.declared.stamp.Stamp.{Stamp}
use Rattle.itip_moment.specs.declared.moment.Form as form
use Rattle.itip_moment.specs.declared.moment.Form.{Form}
use Rattle.itip_moment.specs.declared.moment.Moment.{Moment}
use Rattle.itip_moment.specs.declared.moment.Moment.TheVariants.{Date, Floating, Utc, Zoned}

abbrev pub moment_form : Moment → Form
moment_form (Date day) = form.TheVariants.Date
moment_form (Floating stamp) = form.TheVariants.Floating
moment_form (Utc stamp) = form.TheVariants.Utc
moment_form (Zoned zone stamp) = form.TheVariants.Zoned

-- the place of a form in the order of forms
abbrev pub form_rank : Form → ℕ
form_rank form.TheVariants.Date = 0
form_rank form.TheVariants.Floating = 1
form_rank form.TheVariants.Utc = 2
form_rank form.TheVariants.Zoned = 3

-- the day's number from 1970-01-01
abbrev pub moment_day : Moment → ℤ
moment_day (Date day) = day.number
moment_day (Floating stamp) = stamp.day
moment_day (Utc stamp) = stamp.day
moment_day (Zoned zone stamp) = stamp.day

-- the second of the day, which a date doesn't have
abbrev pub moment_second : Moment → Option ℕ
moment_second (Date day) = None
moment_second (Floating stamp) = Some stamp.second
moment_second (Utc stamp) = Some stamp.second
moment_second (Zoned zone stamp) = Some stamp.second

-- the bytes of the zone's name, none if the moment is in no zone
abbrev pub moment_zone : Moment → List ℕ
moment_zone (Date day) = []
moment_zone (Floating stamp) = []
moment_zone (Utc stamp) = []
moment_zone (Zoned zone stamp) = zone.bytes

-- a local time in a zone, or floating if there is none
abbrev pub local_moment : Option Name → Stamp → Moment
local_moment None stamp = Floating stamp
local_moment (Some zone) stamp = Zoned zone stamp
