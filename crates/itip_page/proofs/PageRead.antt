-- What a parser reads a page as.
use Rattle.std.proofs.Common.{◌≡◌, ℕ, true, List, [], ◌∷◌, ◌++◌, refl, ap, length}
use Rattle.std.specs.Prelude.{codes, ℤ, Some}
use Rattle.std.specs.List.{flat_map, list_all}
use Rattle.std.specs.Option.{option_and_then}
use Rattle.itip_moment.specs.Years.{IsDayNumber}
use Rattle.itip_moment.specs.declared.day.Day.{Day}
use Rattle.itip_view.specs.declared.row.Row.{Row}
use Rattle.itip_view.specs.declared.window.Window.{Window}
use Rattle.itip_page.specs.Dates.{day_text}
use Rattle.itip_page.specs.Page.{days_text, count_text, title_markup, heading_markup, counted_markup}
use Rattle.itip_page.specs.Page.{page_markup}
use Rattle.itip_page.specs.PageTokens.{characters, line_end, attribute, void, meta_tokens, column, column_names, style_sheet, style_text}
use Rattle.itip_page.specs.PageTokens.{document_tokens, page_tokens, row_tokens, is_of_page, fetches_nothing}
use Rattle.itip_page.specs.RowMarkup.{row_markup}
use Rattle.itip_page.specs.Tokens.{data_state, rcdata, rawtext, Token, doctype, end_tag, Reached, run, tokens}
use Rattle.itip_page.specs.Tokens.{ended_in}
use Rattle.itip_page.specs.declared.frame.TheConstants.{OPENING, COLUMNS, CLOSING}
use Rattle.itip_page.specs.declared.style.TheConstants.{STYLE}
use Rattle.itip_page.proofs.Itself.{is_itself, day_itself, days_itself, count_itself}
use Rattle.itip_page.proofs.Pieces.{Pieces, piece, both, joined, regrouped}
use Rattle.itip_page.proofs.Reading.{Reads, then_reads, as_tokens, each_reads, in_data, in_rcdata, in_rawtext}
use Rattle.itip_page.proofs.RowRead.{row_read}

-- ---- the constants, each as its tokens

-- up to the head, up to the title, and up to its days
abbrev before_head : List Token
before_head = doctype ∷ (line_end ++ (void (codes "html") (attribute (codes "lang") (codes "en") ∷ []) ++ line_end))

abbrev before_title : List Token
before_title = void (codes "head") [] ++ (line_end ++ meta_tokens)

abbrev before_days : List Token
before_days = void (codes "title") [] ++ characters (codes "To-dos ")

opening_read : Reads data_state OPENING.now (before_head ++ (before_title ++ before_days)) (rcdata (codes "title"))
unfolding run
opening_read = record { read = refl; known = refl }

abbrev after_days : List Token
after_days = end_tag (codes "title") ∷ []

abbrev before_style : List Token
before_style = line_end ++ (void (codes "style") [] ++ line_end)

title_closes : Reads (rcdata (codes "title")) (codes "</title>\n<style>\n") (after_days ++ before_style) (rawtext (codes "style"))
unfolding run
title_closes = record { read = refl; known = refl }

style_itself : list_all is_itself STYLE.now ≡ true
style_itself = refl

style_read : Reads (rawtext (codes "style")) STYLE.now style_text (rawtext (codes "style"))
unfolding style_text
style_read = in_rawtext (codes "style") STYLE.now style_itself

abbrev after_style : List Token
after_style = end_tag (codes "style") ∷ []

abbrev after_head : List Token
after_head = end_tag (codes "head") ∷ []

head_closes : Reads (rawtext (codes "style")) (codes "</style>\n</head>\n") (after_style ++ (line_end ++ (after_head ++ line_end)))
    data_state
unfolding run
head_closes = record { read = refl; known = refl }

-- the body up to the days in its heading
abbrev before_heading : List Token
before_heading =
    void (codes "body") [] ++ (line_end ++ (void (codes "h1") [] ++ (characters (codes "To-dos ") ++ void (codes "span") [])))

heading_opens : Reads data_state (codes "<body>\n<h1>To-dos <span>") before_heading data_state
unfolding run
heading_opens = record { read = refl; known = refl }

abbrev after_span : List Token
after_span = end_tag (codes "span") ∷ []

abbrev after_heading : List Token
after_heading = end_tag (codes "h1") ∷ []

heading_closes : Reads data_state (codes "</span></h1>\n") (after_span ++ (after_heading ++ line_end)) data_state
unfolding run
heading_closes = record { read = refl; known = refl }

abbrev before_count : List Token
before_count = void (codes "p") []

count_opens : Reads data_state (codes "<p>") before_count data_state
unfolding run
count_opens = record { read = refl; known = refl }

abbrev before_today : List Token
before_today = characters (codes " Today is ")

today_opens : Reads data_state (codes " Today is ") before_today data_state
unfolding run
today_opens = record { read = refl; known = refl }

abbrev after_today : List Token
after_today = characters (codes ".")

abbrev after_count : List Token
after_count = end_tag (codes "p") ∷ []

today_closes : Reads data_state (codes ".</p>\n") (after_today ++ (after_count ++ line_end)) data_state
unfolding run
today_closes = record { read = refl; known = refl }

-- the table up to its rows
abbrev before_rows : List Token
before_rows =
    void (codes "table") [] ++ (line_end ++ (void (codes "thead") [] ++ (line_end
    ++ (void (codes "tr") [] ++ (line_end ++ (flat_map column column_names ++ (end_tag (codes "tr") ∷ (line_end
    ++ (end_tag (codes "thead") ∷ (line_end ++ (void (codes "tbody") [] ++ line_end)))))))))))

columns_read : Reads data_state COLUMNS.now before_rows data_state
unfolding run
columns_read = record { read = refl; known = refl }

abbrev after_rows : List Token
after_rows = end_tag (codes "tbody") ∷ []

abbrev after_table : List Token
after_table = end_tag (codes "table") ∷ []

abbrev after_body : List Token
after_body = end_tag (codes "body") ∷ []

abbrev after_html : List Token
after_html = end_tag (codes "html") ∷ []

-- after the rows
abbrev closing_tokens : List Token
closing_tokens =
    after_rows ++ (line_end ++ (after_table ++ (line_end ++ (after_body ++ (line_end ++ (after_html ++ line_end))))))

closing_read : Reads data_state CLOSING.now closing_tokens data_state
unfolding run
closing_read = record { read = refl; known = refl }

-- ---- the page, as it is read and as its elements have it

module _ (days style count today rows : List Token) where
  abbrev title_pieces : Pieces
  title_pieces =
      both (both (piece before_head) (both (piece before_title) (piece before_days)))
      (both (piece days)
      (both (both (piece after_days) (piece before_style))
      (both (piece style) (both (piece after_style) (both (piece line_end) (both (piece after_head) (piece line_end)))))))

  abbrev heading_pieces : Pieces
  heading_pieces =
      both (piece before_heading) (both (piece days) (both (piece after_span) (both (piece after_heading) (piece line_end))))

  abbrev counted_pieces : Pieces
  counted_pieces =
      both (piece before_count)
      (both (piece count)
      (both (piece before_today)
      (both (piece today) (both (piece after_today) (both (piece after_count) (piece line_end))))))

  abbrev closing_pieces : Pieces
  closing_pieces =
      both (piece after_rows)
      (both (piece line_end)
      (both (piece after_table)
      (both (piece line_end)
      (both (piece after_body) (both (piece line_end) (both (piece after_html) (piece line_end)))))))

  -- as it is read
  abbrev read_pieces : Pieces
  read_pieces =
      both (both title_pieces (both heading_pieces (both counted_pieces (piece before_rows))))
      (both (piece rows) closing_pieces)

  abbrev head_pieces : Pieces
  head_pieces =
      both (piece before_title)
      (both
      (both (both (piece before_days) (both (piece days) (piece after_days)))
      (both (piece before_style) (both (both (piece style) (piece after_style)) (piece line_end))))
      (piece after_head))

  abbrev count_pieces : Pieces
  count_pieces =
      both (piece before_count)
      (both (both (piece count) (both (piece before_today) (both (piece today) (piece after_today)))) (piece after_count))

  abbrev table_pieces : Pieces
  table_pieces =
      both (piece before_rows) (both (both (both (piece rows) (piece after_rows)) (piece line_end)) (piece after_table))

  abbrev body_pieces : Pieces
  body_pieces =
      both (piece before_heading)
      (both
      (both (both (both (piece days) (piece after_span)) (piece after_heading))
      (both (piece line_end) (both count_pieces (both (piece line_end) (both table_pieces (piece line_end))))))
      (piece after_body))

  -- as its elements have it
  abbrev document_pieces : Pieces
  document_pieces =
      both (piece before_head)
      (both
      (both (both head_pieces (both (piece line_end) (both body_pieces (piece line_end)))) (piece after_html))
      (piece line_end))

  same_document : joined read_pieces ≡ document_tokens days style count today rows
  same_document = regrouped read_pieces document_pieces refl

-- ---- its parts

title_read : (window : Window) →
    Reads data_state (title_markup window)
    ((before_head ++ (before_title ++ before_days)) ++ (characters (days_text window)
    ++ ((after_days ++ before_style) ++ (style_text ++ (after_style ++ (line_end ++ (after_head ++ line_end)))))))
    data_state
title_read window =
    let reads =
    then_reads opening_read
    (then_reads (in_rcdata (codes "title") (days_text window) (days_itself window))
    (then_reads title_closes (then_reads style_read head_closes))) in
    reads

heading_read : (window : Window) →
    Reads data_state (heading_markup window)
    (before_heading ++ (characters (days_text window) ++ (after_span ++ (after_heading ++ line_end)))) data_state
heading_read window =
    let reads =
    then_reads heading_opens (then_reads (in_data (days_text window) (days_itself window)) heading_closes) in
    reads

counted_read : (today : ℤ) → IsDayNumber today → (number : ℕ) →
    Reads data_state (counted_markup today number)
    (before_count ++ (characters (count_text number) ++ (before_today ++ (characters (day_text today)
    ++ (after_today ++ (after_count ++ line_end))))))
    data_state
counted_read today within number =
    let reads =
    then_reads count_opens
    (then_reads (in_data (count_text number) (count_itself number))
    (then_reads today_opens (then_reads (in_data (day_text today) (day_itself today within)) today_closes))) in
    reads

page_read : (window : Window) (today : Day) (rows : List Row) →
    Reads data_state (page_markup window today.number rows) (page_tokens window today.number rows) data_state
page_read window today rows =
    let days = characters (days_text window) in
    let count = characters (count_text (length rows)) in
    let number = characters (day_text today.number) in
    let items = flat_map (row_tokens today.number) rows in
    let reads =
    then_reads
    (then_reads (title_read window)
    (then_reads (heading_read window) (then_reads (counted_read today.number today.in_years (length rows)) columns_read)))
    (then_reads (each_reads (row_markup today.number) (row_tokens today.number) data_state (row_read today.number) rows) closing_read) in
    as_tokens (page_tokens window today.number rows) (same_document days style_text count number items) reads

-- ---- as laws

pub page_tokens_are : (window : Window) (today : Day) (rows : List Row) →
    tokens (page_markup window today.number rows) ≡ Some (page_tokens window today.number rows)
page_tokens_are window today rows =
    ap (option_and_then (λ (last : Reached). ended_in last.state last.given)) (page_read window today rows).read

pub page_names_are : (window : Window) (today : Day) (rows : List Row) → list_all is_of_page (page_tokens window today.number rows) ≡ true
page_names_are window today rows = (page_read window today rows).known

pub style_is_quiet : fetches_nothing style_sheet ≡ true
style_is_quiet = refl
