-- The progress of a row: how far its attendees are (our own rule).
use Rattle.std.specs.Prelude.{ℕ, List, [], ◌∷◌, ◌/◌, length, sum, Option, Some, None, option_to_list}
use Rattle.std.specs.List.{flat_map}
use Rattle.itip_view.specs.declared.row.ShownAttendee.{ShownAttendee}

-- the percentages that are shown
abbrev pub percents : List ShownAttendee → List ℕ
percents shown = flat_map (λ (a : ShownAttendee). option_to_list a.percent) shown

-- the mean of some numbers, rounded down
abbrev pub mean : List ℕ → Option ℕ
mean [] = None
mean (n ∷ ns) = Some (sum (n ∷ ns) / length (n ∷ ns))

-- the mean of the percentages that are shown; absent if there are none
abbrev pub progress_of : List ShownAttendee → Option ℕ
progress_of shown = mean (percents shown)
