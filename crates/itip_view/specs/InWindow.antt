-- Whether a day is in a window, as a test (our own rule).
use Rattle.std.specs.Prelude.{ℤ, Bool, true, ◌&&◌, not, Option, Some, None, int_lt}
use Rattle.itip_view.specs.declared.window.Window.{Window}

abbrev pub is_in_window : Window → Option ℤ → Bool
is_in_window window None = true
is_in_window window (Some day) = not (int_lt day window.from) && int_lt day window.to
