-- The days of the rows that are asked for (our own rule).
use Rattle.std.specs.Prelude.{◌≡◌, ℕ, ℤ, pos, ◌+ℤ◌, ◌-ℤ◌, Bool, nat_eq, if◌then◌else◌, List, codes, Option, Some, None, option_map}
use Rattle.std.specs.Cmp.Lexicographic.{pointwise}
use Rattle.itip_moment.specs.Spelling.{IsDateText}
use Rattle.itip_moment.specs.declared.day.Day.{Day}
use Rattle.itip_view.specs.declared.window.Window.{Window}

-- the numbers of days
abbrev pub numbered : Option Day → Option ℤ
numbered day = option_map (λ (d : Day). d.number) day

-- a word is a date of this day, or neither is given
abbrev pub IsGiven : Option (List ℕ) → Option ℤ → Type 0
IsGiven None None = Unit {0}
IsGiven None (Some day) = ⊥
IsGiven (Some word) None = ⊥
IsGiven (Some word) (Some day) = IsDateText word day

-- How many days before today a window begins if neither of its ends is named. The flag says that rows are asked for by their DUE.
abbrev pub days_back : Bool → ℕ
days_back is_due = if is_due then 3290 else 366

-- how many days a window has if one of its ends is named
abbrev pub days_long : Bool → ℕ
days_long is_due = if is_due then 3656 else 732

-- The first day of a window, whose first day and day after the last may each be named: the first day that is named, else reckoned
-- from the day after the last, else from today.
abbrev pub first_day : Bool → Option ℤ → Option ℤ → Option ℤ → Option ℤ
first_day is_due (Some from) to today = Some from
first_day is_due None (Some to) today = Some (to -ℤ pos (days_long is_due))
first_day is_due None None today = option_map (λ day. day -ℤ pos (days_back is_due)) today

-- the day after its last, in the same way
abbrev pub day_after : Bool → Option ℤ → Option ℤ → Option ℤ → Option ℤ
day_after is_due (Some to) from today = Some to
day_after is_due None (Some from) today = Some (from +ℤ pos (days_long is_due))
day_after is_due None None today = option_map (λ day. day +ℤ pos 366) today

-- The words for the first day and for the day after the last ask for this window, on this day.
pub record IsAskedWindow (from to : Option (List ℕ)) (today : Option ℤ) (is_due : Bool) (window : Window) : Type 0 where
  pub from_day : Option ℤ
  pub to_day : Option ℤ
  pub from_is : IsGiven from from_day
  pub to_is : IsGiven to to_day
  pub first : first_day is_due from_day to_day today ≡ Some window.from
  pub after : day_after is_due to_day from_day today ≡ Some window.to

-- the word for today
abbrev pub is_today : List ℕ → Bool
is_today word = pointwise nat_eq word (codes "today")
