-- The elements of a page, each in its place, and the texts in them, as tokens (our own form). Each text of a message is there as its
-- characters, or as the value of a `title`; the characters are those of the text with its control characters shown as bytes.
use Rattle.std.specs.Prelude.{ℕ, ℤ, Bool, true, false, not, ◌&&◌, ◌||◌, nat_eq, List, [], ◌∷◌, ◌++◌, codes, map, length, Option, Some, None}
use Rattle.std.specs.Char.{to_ascii_lowercase}
use Rattle.std.specs.Fmt.{decimal}
use Rattle.std.specs.List.{flat_map, list_all, starts_with}
use Rattle.itip_moment.specs.declared.moment.Moment.{Moment}
use Rattle.itip_moment.specs.declared.moment.Moment.TheVariants.{Date, Floating, Utc, Zoned}
use Rattle.itip_streams.specs.Visible.{visible}
use Rattle.itip_view.specs.Wanted.{is_overdue}
use Rattle.itip_view.specs.declared.row.Row.{Row}
use Rattle.itip_view.specs.declared.row.RowId.{RowId}
use Rattle.itip_view.specs.declared.row.RowId.TheVariants.{Single, At, Opaque}
use Rattle.itip_view.specs.declared.row.ShownAttendee.{ShownAttendee}
use Rattle.itip_view.specs.declared.window.Window.{Window}
use Rattle.itip_page.specs.Tokens.{Attribute, Token, doctype, start_tag, end_tag, character, is_among, element_names}
use Rattle.itip_page.specs.Dates.{day_text, local_markup}
use Rattle.itip_page.specs.Value.{Lines, lines_of}
use Rattle.itip_page.specs.RowMarkup.{name_of, status_words, bare_address, answer_markup}
use Rattle.itip_page.specs.Page.{days_text, count_text}
use Rattle.itip_page.specs.declared.style.TheConstants.{STYLE}

-- ---- texts and elements

abbrev pub characters : List ℕ → List Token
characters octets = map character octets

-- a text of a message
abbrev pub shown : List ℕ → List Token
shown text = characters (visible text)

abbrev pub line_end : List Token
line_end = characters (10 ∷ [])

abbrev pub attribute : List ℕ → List ℕ → Attribute
attribute name value = record { name = name; value = value }

-- a start tag, the content of the element, and its end tag
abbrev pub element : List ℕ → List Attribute → List Token → List Token
element name attributes content = start_tag name attributes ∷ (content ++ end_tag name ∷ [])

-- an element that has no end tag
abbrev pub void : List ℕ → List Attribute → List Token
void name attributes = start_tag name attributes ∷ []

abbrev pub small : List Token → List Token
small content = characters (codes " ") ++ element (codes "small") [] content

-- a text of a message, whose direction moves nothing next to it
abbrev pub isolated : List ℕ → List Token
isolated text = element (codes "bdi") [] (shown text)

-- ---- a value of type TEXT: its lines, with a line break between each two

abbrev pub lines_tokens : Lines → List Token
lines_tokens lines = shown lines.first ++ flat_map (λ line. start_tag (codes "br") [] ∷ shown line) lines.others

abbrev pub value_tokens : List ℕ → List Token
value_tokens value = lines_tokens (lines_of value)

-- ---- a row

abbrev pub moment_tokens : Moment → List Token
moment_tokens (Date day) = characters (day_text day.number)
moment_tokens (Floating stamp) = characters (local_markup stamp)
moment_tokens (Utc stamp) = characters (local_markup stamp) ++ small (characters (codes "UTC"))
moment_tokens (Zoned zone stamp) = characters (local_markup stamp) ++ small (isolated zone.bytes)

abbrev pub name_tokens : Row → List Token
name_tokens row =
    element (codes "th") (attribute (codes "scope") (codes "row") ∷ attribute (codes "title") (visible row.uid) ∷ [])
    (element (codes "bdi") [] (value_tokens (name_of row.summary row.uid)))

abbrev pub cell : List Token → List Token
cell content = element (codes "td") [] content

abbrev pub start_tokens : Option Moment → RowId → List Token
start_tokens (Some start) id = moment_tokens start
start_tokens None Single = []
start_tokens None (At moment) = moment_tokens moment
start_tokens None Opaque = []

abbrev pub repeats_tokens : RowId → List Token
repeats_tokens Single = []
repeats_tokens (At moment) = []
repeats_tokens Opaque = small (characters (codes "repeats, shown once"))

abbrev pub due_tokens : Option Moment → List Token
due_tokens None = []
due_tokens (Some due) = moment_tokens due

abbrev pub late_tokens : Bool → List Token
late_tokens false = []
late_tokens true = characters (codes " ") ++ element (codes "strong") [] (characters (codes "overdue"))

abbrev pub percent_tokens : ℕ → List Token
percent_tokens percent = characters (decimal percent) ++ characters (codes "%")

-- the bar is as wide as the number says
abbrev pub bar_tokens : Option ℕ → List Token
bar_tokens None = []
bar_tokens (Some progress) =
    element (codes "span") (attribute (codes "class") (codes "bar") ∷ [])
    (element (codes "i") (attribute (codes "style") (codes "width:" ++ (decimal progress ++ codes "%")) ∷ []) [])
    ++ (characters (codes " ") ++ percent_tokens progress)

abbrev pub own_tokens : Option ℕ → List Token
own_tokens None = []
own_tokens (Some percent) = small (characters (codes "organizer: ") ++ percent_tokens percent)

abbrev pub attendee_tokens : ShownAttendee → List Token
attendee_tokens attendee =
    element (codes "li") []
    (isolated (bare_address attendee.address)
    ++ (characters (codes " ") ++ element (codes "span") [] (characters (answer_markup attendee))))

abbrev pub who_tokens : List ShownAttendee → List Token
who_tokens [] = []
who_tokens (attendee ∷ attendees) = element (codes "ul") [] (flat_map attendee_tokens (attendee ∷ attendees))

-- what is to be done, and when
abbrev pub dated_tokens : Bool → Row → List Token
dated_tokens is_late row =
    name_tokens row
    ++ (cell (start_tokens row.start row.id ++ repeats_tokens row.id) ++ cell (due_tokens row.due ++ late_tokens is_late))

-- how far it is, and with whom
abbrev pub done_tokens : Row → List Token
done_tokens row =
    cell (characters (status_words row.status))
    ++ (cell (bar_tokens row.progress ++ own_tokens row.percent) ++ cell (who_tokens row.attendees))

abbrev pub row_class : Bool → List Attribute
row_class false = []
row_class true = attribute (codes "class") (codes "late") ∷ []

-- a row, on the day of this number
abbrev pub row_tokens : ℤ → Row → List Token
row_tokens today row =
    element (codes "tr") (row_class (is_overdue today row)) (dated_tokens (is_overdue today row) row ++ done_tokens row) ++ line_end

-- ---- the head

abbrev pub style_sheet : List ℕ
style_sheet = STYLE.now

-- The text is long, so proofs open it only where they have to.
unfoldable pub style_text : List Token
style_text = characters style_sheet

abbrev pub policy : List ℕ
policy = codes "default-src 'none'; style-src 'unsafe-inline'"

abbrev pub meta_tokens : List Token
meta_tokens =
    void (codes "meta") (attribute (codes "charset") (codes "utf-8") ∷ []) ++ (line_end
    ++ (void (codes "meta")
    (attribute (codes "name") (codes "viewport") ∷ attribute (codes "content") (codes "width=device-width, initial-scale=1") ∷ [])
    ++ (line_end
    ++ (void (codes "meta")
    (attribute (codes "http-equiv") (codes "Content-Security-Policy") ∷ attribute (codes "content") policy ∷ [])
    ++ line_end))))

-- the head, from the days of the window and the style
abbrev pub head_tokens : List Token → List Token → List Token
head_tokens days style =
    element (codes "head") [] (line_end ++ (meta_tokens
    ++ (element (codes "title") [] (characters (codes "To-dos ") ++ days)
    ++ (line_end ++ (element (codes "style") [] (line_end ++ style) ++ line_end)))))

-- ---- the body

abbrev pub column : List ℕ → List Token
column name = element (codes "th") (attribute (codes "scope") (codes "col") ∷ []) (characters name) ++ line_end

abbrev pub column_names : List (List ℕ)
column_names = codes "To-do" ∷ codes "When" ∷ codes "Due" ∷ codes "Status" ∷ codes "How far" ∷ codes "Who" ∷ []

abbrev pub table_tokens : List Token → List Token
table_tokens rows =
    element (codes "table") [] (line_end
    ++ (element (codes "thead") [] (line_end
    ++ (element (codes "tr") [] (line_end ++ flat_map column column_names) ++ line_end))
    ++ (line_end ++ (element (codes "tbody") [] (line_end ++ rows) ++ line_end))))

-- the body, from the days of the window, how many rows there are, today, and the rows
abbrev pub body_tokens : List Token → List Token → List Token → List Token → List Token
body_tokens days count today rows =
    element (codes "body") [] (line_end
    ++ (element (codes "h1") [] (characters (codes "To-dos ") ++ element (codes "span") [] days)
    ++ (line_end
    ++ (element (codes "p") [] (count ++ (characters (codes " Today is ") ++ (today ++ characters (codes "."))))
    ++ (line_end ++ (table_tokens rows ++ line_end))))))

-- ---- the page

abbrev pub document_tokens : List Token → List Token → List Token → List Token → List Token → List Token
document_tokens days style count today rows =
    doctype ∷ (line_end ++ (element (codes "html") (attribute (codes "lang") (codes "en") ∷ [])
    (line_end ++ (head_tokens days style ++ (line_end ++ (body_tokens days count today rows ++ line_end)))) ++ line_end))

-- the tokens of the page of a window, the day of this number, and the rows
abbrev pub page_tokens : Window → ℤ → List Row → List Token
page_tokens window today rows =
    document_tokens (characters (days_text window)) style_text (characters (count_text (length rows))) (characters (day_text today))
    (flat_map (row_tokens today) rows)

-- ---- what a page doesn't have

-- The attributes of a page: none is run, and with the values that a page has none fetches anything.
abbrev pub attribute_names : List (List ℕ)
attribute_names =
    codes "lang" ∷ codes "charset" ∷ codes "name" ∷ codes "content" ∷ codes "http-equiv" ∷ codes "scope" ∷ codes "title" ∷ codes "class"
    ∷ codes "style" ∷ []

-- its elements and attributes have these names
abbrev pub is_of_page : Token → Bool
is_of_page doctype = true
is_of_page (start_tag name attributes) =
    is_among element_names name && list_all (λ (it : Attribute). is_among attribute_names it.name) attributes
is_of_page (end_tag name) = is_among element_names name
is_of_page (character octet) = true

-- a text contains this word
abbrev pub has_word : List ℕ → List ℕ → Bool
has_word word [] = false
has_word word (octet ∷ text) = starts_with nat_eq (octet ∷ text) word || has_word word text

-- Words with which a style sheet fetches or runs something, in lower case, and the backslash, with which a word can be spelled another
-- way (CSS Syntax Level 3: `url` and escapes; CSS Values Level 4: `src`; CSS Cascading and Inheritance: `@import`; CSS Images: `image`
-- and `image-set`; `expression` of old browsers).
abbrev pub fetching_words : List (List ℕ)
fetching_words =
    codes "url" ∷ codes "src" ∷ codes "import" ∷ codes "image" ∷ codes "expression" ∷ (92 ∷ []) ∷ []

-- a style sheet has none of them, in any case
abbrev pub fetches_nothing : List ℕ → Bool
fetches_nothing sheet = list_all (λ (word : List ℕ). not (has_word word (map to_ascii_lowercase sheet))) fetching_words
