-- What a parser reads a row of the table as.
use Rattle.std.proofs.Common.{◌≡◌, ℕ, Bool, true, false, List, [], ◌∷◌, ◌++◌, refl, ap, sym, append_assoc}
use Rattle.std.specs.Prelude.{codes, ℤ, Option, Some, None}
use Rattle.std.specs.Fmt.{decimal}
use Rattle.std.specs.List.{flat_map}
use Rattle.itip_moment.specs.declared.moment.Moment.{Moment}
use Rattle.itip_moment.specs.declared.moment.Moment.TheVariants.{Date, Floating, Utc, Zoned}
use Rattle.itip_moment.specs.declared.stamp.Stamp.{Stamp}
use Rattle.itip_streams.specs.Visible.{visible}
use Rattle.itip_todo.specs.declared.status.Status.{Status}
use Rattle.itip_view.specs.Wanted.{is_overdue}
use Rattle.itip_view.specs.declared.row.Row.{Row}
use Rattle.itip_view.specs.declared.row.RowId.{RowId}
use Rattle.itip_view.specs.declared.row.RowId.TheVariants.{Single, At, Opaque}
use Rattle.itip_view.specs.declared.row.ShownAttendee.{ShownAttendee}
use Rattle.itip_page.specs.Dates.{day_text, local_markup, moment_markup}
use Rattle.itip_page.specs.Escaped.{escaped}
use Rattle.itip_page.specs.RowMarkup.{row_markup, opening_markup, dated_markup, done_markup, name_cell, name_of, when_cell, start_markup}
use Rattle.itip_page.specs.RowMarkup.{repeats_markup, due_cell, due_markup, late_markup, status_cell, status_words, progress_cell}
use Rattle.itip_page.specs.RowMarkup.{bar_markup, own_markup, who_cell, attendee_markup, answer_markup, bare_address}
use Rattle.itip_page.specs.PageTokens.{characters, shown, line_end, attribute, small, isolated, value_tokens, moment_tokens}
use Rattle.itip_page.specs.PageTokens.{name_tokens, cell, start_tokens, repeats_tokens, due_tokens, late_tokens, percent_tokens}
use Rattle.itip_page.specs.PageTokens.{bar_tokens, own_tokens, attendee_tokens, who_tokens, dated_tokens, done_tokens, row_class}
use Rattle.itip_page.specs.PageTokens.{row_tokens}
use Rattle.itip_page.specs.Tokens.{data_state, attribute_value, Token, start_tag, end_tag, character, Tag, run}
use Rattle.itip_page.proofs.Itself.{day_itself, local_itself, status_itself, decimal_itself, answer_itself}
use Rattle.itip_page.proofs.Pieces.{piece, both, regrouped}
use Rattle.itip_page.proofs.Reading.{Reads, then_reads, as_tokens, nothing, each_reads, in_data, in_value}
use Rattle.itip_page.proofs.Taken.{text_read, value_read, text_in_value}

-- ---- moments

utc_read : Reads data_state (codes " <small>UTC</small>") (small (characters (codes "UTC"))) data_state
unfolding run
utc_read = record { read = refl; known = refl }

zone_opens : Reads data_state (codes " <small><bdi>")
    (character 32 ∷ start_tag (codes "small") [] ∷ start_tag (codes "bdi") [] ∷ []) data_state
unfolding run
zone_opens = record { read = refl; known = refl }

zone_closes : Reads data_state (codes "</bdi></small>") (end_tag (codes "bdi") ∷ end_tag (codes "small") ∷ []) data_state
unfolding run
zone_closes = record { read = refl; known = refl }

zone_read : (zone : List ℕ) →
    Reads data_state (codes " <small><bdi>" ++ (escaped zone ++ codes "</bdi></small>")) (small (isolated zone)) data_state
zone_read zone =
    let reads =
    then_reads zone_opens (then_reads (text_read zone) zone_closes) in
    as_tokens (small (isolated zone))
    (regrouped
    (both (piece (character 32 ∷ start_tag (codes "small") [] ∷ start_tag (codes "bdi") [] ∷ []))
    (both (piece (shown zone)) (piece (end_tag (codes "bdi") ∷ end_tag (codes "small") ∷ []))))
    (both (piece (character 32 ∷ start_tag (codes "small") [] ∷ start_tag (codes "bdi") [] ∷ []))
    (both (both (piece (shown zone)) (piece (end_tag (codes "bdi") ∷ []))) (piece (end_tag (codes "small") ∷ []))))
    refl) reads

local_read : (stamp : Stamp) → Reads data_state (local_markup stamp) (characters (local_markup stamp)) data_state
local_read stamp = in_data (local_markup stamp) (local_itself stamp)

moment_read : (moment : Moment) → Reads data_state (moment_markup moment) (moment_tokens moment) data_state
moment_read (Date day) = in_data (day_text day.number) (day_itself day.number day.in_years)
moment_read (Floating stamp) = local_read stamp
moment_read (Utc stamp) = let reads = then_reads (local_read stamp) utc_read in reads
moment_read (Zoned zone stamp) = let reads = then_reads (local_read stamp) (zone_read zone.bytes) in reads

-- ---- the to-do

-- the tag of the first cell, up to its title
abbrev name_tag : Tag
name_tag = record { name = codes "th"; attributes = attribute (codes "scope") (codes "row") ∷ [] }

name_opens : Reads data_state (codes "<th scope=\"row\" title=\"") [] (attribute_value name_tag (codes "title") [])
unfolding run
name_opens = record { read = refl; known = refl }

-- the start tag of the first cell, and that of the name in it
abbrev name_starts : List ℕ → List Token
name_starts title =
    start_tag (codes "th") (attribute (codes "scope") (codes "row") ∷ attribute (codes "title") title ∷ []) ∷
    start_tag (codes "bdi") [] ∷ []

title_ends : (title : List ℕ) →
    Reads (attribute_value name_tag (codes "title") title) (codes "\"><bdi>") (name_starts title) data_state
unfolding run
title_ends title = record { read = refl; known = refl }

name_closes : Reads data_state (codes "</bdi></th>") (end_tag (codes "bdi") ∷ end_tag (codes "th") ∷ []) data_state
unfolding run
name_closes = record { read = refl; known = refl }

name_read : (row : Row) → Reads data_state (name_cell row) (name_tokens row) data_state
name_read row =
    let name = name_of row.summary row.uid in
    let reads =
    then_reads name_opens
    (then_reads (text_in_value name_tag (codes "title") [] row.uid)
    (then_reads (title_ends (visible row.uid)) (then_reads (value_read name) name_closes))) in
    as_tokens (name_tokens row)
    (regrouped
    (both (piece (name_starts (visible row.uid)))
    (both (piece (value_tokens name)) (piece (end_tag (codes "bdi") ∷ end_tag (codes "th") ∷ []))))
    (both (piece (name_starts (visible row.uid)))
    (both (both (piece (value_tokens name)) (piece (end_tag (codes "bdi") ∷ []))) (piece (end_tag (codes "th") ∷ []))))
    refl) reads

-- ---- cells

cell_opens : Reads data_state (codes "<td>") (start_tag (codes "td") [] ∷ []) data_state
unfolding run
cell_opens = record { read = refl; known = refl }

cell_closes : Reads data_state (codes "</td>") (end_tag (codes "td") ∷ []) data_state
unfolding run
cell_closes = record { read = refl; known = refl }

-- a cell with two pieces in it
cell_of_two : (one two : List ℕ) (first second : List Token) → Reads data_state one first data_state →
    Reads data_state two second data_state →
    Reads data_state (codes "<td>" ++ (one ++ (two ++ codes "</td>"))) (cell (first ++ second)) data_state
cell_of_two one two first second one_read two_read =
    let reads =
    then_reads cell_opens (then_reads one_read (then_reads two_read cell_closes)) in
    as_tokens (cell (first ++ second))
    (ap (λ (given : List Token). start_tag (codes "td") [] ∷ given) (sym (append_assoc first second (end_tag (codes "td") ∷ [])))) reads

start_read : (start : Option Moment) (id : RowId) → Reads data_state (start_markup start id) (start_tokens start id) data_state
start_read (Some start) id = moment_read start
start_read None Single = nothing data_state
start_read None (At moment) = moment_read moment
start_read None Opaque = nothing data_state

opaque_read : Reads data_state (repeats_markup Opaque) (repeats_tokens Opaque) data_state
unfolding run
opaque_read = record { read = refl; known = refl }

repeats_read : (id : RowId) → Reads data_state (repeats_markup id) (repeats_tokens id) data_state
repeats_read Single = nothing data_state
repeats_read (At moment) = nothing data_state
repeats_read Opaque = opaque_read

when_read : (row : Row) →
    Reads data_state (when_cell row) (cell (start_tokens row.start row.id ++ repeats_tokens row.id)) data_state
when_read row =
    cell_of_two (start_markup row.start row.id) (repeats_markup row.id) (start_tokens row.start row.id) (repeats_tokens row.id)
    (start_read row.start row.id) (repeats_read row.id)

due_read : (due : Option Moment) → Reads data_state (due_markup due) (due_tokens due) data_state
due_read None = nothing data_state
due_read (Some due) = moment_read due

late_read : (is_late : Bool) → Reads data_state (late_markup is_late) (late_tokens is_late) data_state
unfolding run
late_read false = nothing data_state
late_read true = record { read = refl; known = refl }

due_cell_read : (is_late : Bool) (due : Option Moment) →
    Reads data_state (due_cell is_late due) (cell (due_tokens due ++ late_tokens is_late)) data_state
due_cell_read is_late due =
    cell_of_two (due_markup due) (late_markup is_late) (due_tokens due) (late_tokens is_late) (due_read due) (late_read is_late)

status_read : (said : Option Status) → Reads data_state (status_cell said) (cell (characters (status_words said))) data_state
status_read said = let reads = then_reads cell_opens (then_reads (in_data (status_words said) (status_itself said)) cell_closes) in
    reads

-- ---- how far

decimal_read : (number : ℕ) → Reads data_state (decimal number) (characters (decimal number)) data_state
decimal_read number = in_data (decimal number) (decimal_itself number)

percent_read : (percent : ℕ) → Reads data_state (decimal percent ++ codes "%") (percent_tokens percent) data_state
percent_read percent = let reads = then_reads (decimal_read percent) (in_data (codes "%") refl) in
    reads

abbrev bar_tag : Tag
bar_tag = record { name = codes "i"; attributes = [] }

bar_opens : Reads data_state (codes "<span class=\"bar\"><i style=\"width:")
    (start_tag (codes "span") (attribute (codes "class") (codes "bar") ∷ []) ∷ [])
    (attribute_value bar_tag (codes "style") (codes "width:"))
unfolding run
bar_opens = record { read = refl; known = refl }

bar_closes : (width : List ℕ) → Reads (attribute_value bar_tag (codes "style") width) (codes "%\"></i></span> ")
    (start_tag (codes "i") (attribute (codes "style") (width ++ 37 ∷ []) ∷ []) ∷
    end_tag (codes "i") ∷ end_tag (codes "span") ∷ character 32 ∷ []) data_state
unfolding run
bar_closes width = record { read = refl; known = refl }

bar_read : (progress : Option ℕ) → Reads data_state (bar_markup progress) (bar_tokens progress) data_state
bar_read None = nothing data_state
bar_read (Some progress) =
    let reads = then_reads bar_opens
    (then_reads (in_value bar_tag (codes "style") (codes "width:") (decimal progress) (decimal_itself progress))
    (then_reads (bar_closes (codes "width:" ++ decimal progress)) (percent_read progress))) in
    reads

own_opens : Reads data_state (codes " <small>organizer: ")
    (character 32 ∷ start_tag (codes "small") [] ∷ characters (codes "organizer: ")) data_state
unfolding run
own_opens = record { read = refl; known = refl }

own_closes : Reads data_state (codes "%</small>") (character 37 ∷ end_tag (codes "small") ∷ []) data_state
unfolding run
own_closes = record { read = refl; known = refl }

own_read : (percent : Option ℕ) → Reads data_state (own_markup percent) (own_tokens percent) data_state
own_read None = nothing data_state
own_read (Some percent) =
    let reads =
    then_reads own_opens (then_reads (decimal_read percent) own_closes) in
    as_tokens (own_tokens (Some percent))
    (regrouped
    (both (piece (character 32 ∷ start_tag (codes "small") [] ∷ characters (codes "organizer: ")))
    (both (piece (characters (decimal percent))) (piece (character 37 ∷ end_tag (codes "small") ∷ []))))
    (both (piece (character 32 ∷ start_tag (codes "small") [] ∷ characters (codes "organizer: ")))
    (both (both (piece (characters (decimal percent))) (piece (character 37 ∷ []))) (piece (end_tag (codes "small") ∷ []))))
    refl) reads

progress_read : (row : Row) →
    Reads data_state (progress_cell row) (cell (bar_tokens row.progress ++ own_tokens row.percent)) data_state
progress_read row =
    cell_of_two (bar_markup row.progress) (own_markup row.percent) (bar_tokens row.progress) (own_tokens row.percent)
    (bar_read row.progress) (own_read row.percent)

-- ---- who

attendee_opens : Reads data_state (codes "<li><bdi>") (start_tag (codes "li") [] ∷ start_tag (codes "bdi") [] ∷ []) data_state
unfolding run
attendee_opens = record { read = refl; known = refl }

address_ends : Reads data_state (codes "</bdi> <span>") (end_tag (codes "bdi") ∷ character 32 ∷ start_tag (codes "span") [] ∷ [])
    data_state
unfolding run
address_ends = record { read = refl; known = refl }

attendee_closes : Reads data_state (codes "</span></li>") (end_tag (codes "span") ∷ end_tag (codes "li") ∷ []) data_state
unfolding run
attendee_closes = record { read = refl; known = refl }

attendee_read : (attendee : ShownAttendee) → Reads data_state (attendee_markup attendee) (attendee_tokens attendee) data_state
attendee_read attendee =
    let address = bare_address attendee.address in
    let answer = answer_markup attendee in
    let reads =
    then_reads attendee_opens
    (then_reads (text_read address)
    (then_reads address_ends (then_reads (in_data answer (answer_itself attendee)) attendee_closes))) in
    as_tokens (attendee_tokens attendee)
    (regrouped
    (both (piece (start_tag (codes "li") [] ∷ start_tag (codes "bdi") [] ∷ []))
    (both (piece (shown address))
    (both (piece (end_tag (codes "bdi") ∷ character 32 ∷ start_tag (codes "span") [] ∷ []))
    (both (piece (characters answer)) (piece (end_tag (codes "span") ∷ end_tag (codes "li") ∷ []))))))
    (both (piece (start_tag (codes "li") [] ∷ start_tag (codes "bdi") [] ∷ []))
    (both
    (both (both (piece (shown address)) (piece (end_tag (codes "bdi") ∷ [])))
    (both (piece (character 32 ∷ start_tag (codes "span") [] ∷ []))
    (both (piece (characters answer)) (piece (end_tag (codes "span") ∷ [])))))
    (piece (end_tag (codes "li") ∷ []))))
    refl) reads

who_opens : Reads data_state (codes "<td><ul>") (start_tag (codes "td") [] ∷ start_tag (codes "ul") [] ∷ []) data_state
unfolding run
who_opens = record { read = refl; known = refl }

who_closes : Reads data_state (codes "</ul></td>") (end_tag (codes "ul") ∷ end_tag (codes "td") ∷ []) data_state
unfolding run
who_closes = record { read = refl; known = refl }

nobody_read : Reads data_state (codes "<td></td>") (cell []) data_state
unfolding run
nobody_read = record { read = refl; known = refl }

who_read : (attendees : List ShownAttendee) → Reads data_state (who_cell attendees) (cell (who_tokens attendees)) data_state
who_read [] = nobody_read
who_read (attendee ∷ attendees) =
    let items = flat_map attendee_tokens (attendee ∷ attendees) in
    let reads =
    then_reads who_opens
    (then_reads (each_reads attendee_markup attendee_tokens data_state attendee_read (attendee ∷ attendees)) who_closes) in
    as_tokens (cell (who_tokens (attendee ∷ attendees)))
    (regrouped
    (both (piece (start_tag (codes "td") [] ∷ start_tag (codes "ul") [] ∷ []))
    (both (piece items) (piece (end_tag (codes "ul") ∷ end_tag (codes "td") ∷ []))))
    (both (piece (start_tag (codes "td") [] ∷ start_tag (codes "ul") [] ∷ []))
    (both (both (piece items) (piece (end_tag (codes "ul") ∷ []))) (piece (end_tag (codes "td") ∷ []))))
    refl) reads

-- ---- the row

opening_read : (is_late : Bool) → Reads data_state (opening_markup is_late) (start_tag (codes "tr") (row_class is_late) ∷ []) data_state
unfolding run
opening_read false = record { read = refl; known = refl }
opening_read true = record { read = refl; known = refl }

closing_read : Reads data_state (codes "</tr>\n") (end_tag (codes "tr") ∷ character 10 ∷ []) data_state
unfolding run
closing_read = record { read = refl; known = refl }

dated_read : (is_late : Bool) (row : Row) → Reads data_state (dated_markup is_late row) (dated_tokens is_late row) data_state
dated_read is_late row = let reads = then_reads (name_read row) (then_reads (when_read row) (due_cell_read is_late row.due)) in
    reads

done_read : (row : Row) → Reads data_state (done_markup row) (done_tokens row) data_state
done_read row = let reads = then_reads (status_read row.status) (then_reads (progress_read row) (who_read row.attendees)) in
    reads

-- the pieces of a row, as they are read and as the element has them
row_pieces : (start : Token) (dated done : List Token) →
    (start ∷ []) ++ (dated ++ (done ++ (end_tag (codes "tr") ∷ character 10 ∷ []))) ≡
    (start ∷ ((dated ++ done) ++ end_tag (codes "tr") ∷ [])) ++ line_end
row_pieces start dated done =
    regrouped
    (both (piece (start ∷ [])) (both (piece dated) (both (piece done) (piece (end_tag (codes "tr") ∷ character 10 ∷ [])))))
    (both (both (piece (start ∷ [])) (both (both (piece dated) (piece done)) (piece (end_tag (codes "tr") ∷ [])))) (piece line_end))
    refl

pub row_read : (today : ℤ) (row : Row) → Reads data_state (row_markup today row) (row_tokens today row) data_state
row_read today row =
    let is_late = is_overdue today row in
    let reads =
    then_reads (opening_read is_late)
    (then_reads (dated_read is_late row) (then_reads (done_read row) closing_read)) in
    as_tokens (row_tokens today row)
    (row_pieces (start_tag (codes "tr") (row_class is_late)) (dated_tokens is_late row) (done_tokens row)) reads
