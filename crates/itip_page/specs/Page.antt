-- The page of the rows of a window, on a day (our own form).
use Rattle.std.specs.Prelude.{ℕ, ◌==◌, ℤ, pos, neg_ℤ, ◌-ℤ◌, int_lt, List, ◌++◌, codes, length, if◌then◌else◌}
use Rattle.std.specs.Fmt.{decimal}
use Rattle.std.specs.List.{flat_map}
use Rattle.itip_view.specs.declared.row.Row.{Row}
use Rattle.itip_view.specs.declared.window.Window.{Window}
use Rattle.itip_page.specs.Dates.{day_text}
use Rattle.itip_page.specs.RowMarkup.{row_markup}
use Rattle.itip_page.specs.declared.frame.TheConstants.{OPENING, COLUMNS, CLOSING}
use Rattle.itip_page.specs.declared.style.TheConstants.{STYLE}

-- the day of a number, or the nearest one in the years 0000 to 9999
abbrev pub nearest : ℤ → ℤ
nearest day =
    if int_lt day (neg_ℤ (pos 719_528)) then neg_ℤ (pos 719_528) else (if int_lt (pos 2_932_896) day then pos 2_932_896 else day)

-- the first and the last day of a window
abbrev pub days_text : Window → List ℕ
days_text window = day_text (nearest window.from) ++ (codes " to " ++ day_text (nearest (window.to -ℤ pos 1)))

abbrev pub title_markup : Window → List ℕ
title_markup window =
    OPENING.now ++ (days_text window ++ (codes "</title>\n<style>\n" ++ (STYLE.now ++ codes "</style>\n</head>\n")))

abbrev pub heading_markup : Window → List ℕ
heading_markup window = codes "<body>\n<h1>To-dos <span>" ++ (days_text window ++ codes "</span></h1>\n")

abbrev pub count_text : ℕ → List ℕ
count_text number = if number == 1 then codes "1 row." else decimal number ++ codes " rows."

abbrev pub counted_markup : ℤ → ℕ → List ℕ
counted_markup today number = codes "<p>" ++ (count_text number ++ (codes " Today is " ++ (day_text today ++ codes ".</p>\n")))

-- what comes before this number of rows
abbrev pub head_markup : Window → ℤ → ℕ → List ℕ
head_markup window today number = title_markup window ++ (heading_markup window ++ (counted_markup today number ++ COLUMNS.now))

abbrev pub foot_markup : List ℕ
foot_markup = CLOSING.now

-- the whole page, which has nothing but the window, the day and the rows in it
abbrev pub page_markup : Window → ℤ → List Row → List ℕ
page_markup window today rows = head_markup window today (length rows) ++ (flat_map (row_markup today) rows ++ foot_markup)
