-- What an HTML parser's tokenizer makes of a document (HTML Standard 13.2.5), in the forms that a page has: elements of some names,
-- attributes in double quotes, four references, the text of a title and of a style. Nothing is said of any other form, and a document
-- that has one has no tokens here, though a parser makes something of it: a comment, a script, a value in other quotes or in none, a
-- name in upper case, a tag that closes itself, an attribute that appears twice.
-- Octets from 128 on belong to characters that mean nothing in any of these states, so everything is said in terms of octets.
use Rattle.std.specs.Prelude.{◌≡◌, ◌≢◌, ◌≤◌, ℕ, Bool, ◌&&◌, ◌||◌, ◌==◌, nat_eq, nat_le, List, [], ◌∷◌, ◌++◌, codes, map}
use Rattle.std.specs.Prelude.{Option, Some, None, option_map, if◌then◌else◌}
use Rattle.std.specs.Cmp.Lexicographic.{pointwise}
use Rattle.std.specs.List.{list_any}
use Rattle.std.specs.Option.{option_and_then}

-- ---- tokens (13.2.5)

pub record Attribute : Type 0 where
  pub name : List ℕ
  pub value : List ℕ

-- A parser emits a text character by character.
pub data Token : Type 0 where
  -- that of HTML
  doctype : Token
  start_tag : List ℕ → List Attribute → Token
  end_tag : List ℕ → Token
  character : ℕ → Token

-- A start tag before its end: its name, and the attributes that are complete.
pub record Tag : Type 0 where
  pub name : List ℕ
  pub attributes : List Attribute

-- ---- states

pub data State : Type 0 where
  -- 13.2.5.1
  data_state : State
  -- 13.2.5.2 and 13.2.5.3, in an element of this name
  rcdata : List ℕ → State
  rawtext : List ℕ → State
  -- 13.2.5.6, 13.2.5.7
  tag_open : State
  end_tag_open : State
  -- 13.2.5.8, of a start tag and of an end tag, with the name so far
  tag_name : List ℕ → State
  end_tag_name : List ℕ → State
  -- 13.2.5.9 and 13.2.5.12, in an element of this name; 13.2.5.10, 11, 13 and 14, with the name so far after it
  less_than_sign : List ℕ → State
  closing : List ℕ → List ℕ → State
  -- 13.2.5.32, 13.2.5.33 and 13.2.5.35, with the name so far
  before_attribute_name : Tag → State
  attribute_name : Tag → List ℕ → State
  before_attribute_value : Tag → List ℕ → State
  -- 13.2.5.36, the double-quoted one: the attribute's name, and its value so far; 13.2.5.39
  attribute_value : Tag → List ℕ → List ℕ → State
  after_attribute_value : Tag → State
  -- 13.2.5.42 and from 13.2.5.53 on: what follows `<!`
  declaration : List ℕ → State
  -- 13.2.5.72 and 13.2.5.73: the state to return to, and what follows the ampersand
  reference : State → List ℕ → State

-- A state, and the tokens that were emitted on the way to it.
pub record Reached : Type 0 where
  pub state : State
  pub given : List Token

abbrev pub ran : State → List Token → Reached
ran state given = record { state = state; given = given }

-- to this state
abbrev pub goes : State → Option Reached
goes state = Some (ran state [])

-- to this state, and a token is emitted
abbrev pub gives : State → Token → Option Reached
gives state token = Some (ran state (token ∷ []))

-- ---- names

abbrev pub is_among : List (List ℕ) → List ℕ → Bool
is_among names name = list_any (λ known. pointwise nat_eq known name) names

-- The elements that something is said of. None of them is a script, or fetches anything without an attribute or a style that says so.
abbrev pub element_names : List (List ℕ)
element_names =
    codes "html" ∷ codes "head" ∷ codes "meta" ∷ codes "title" ∷ codes "style" ∷ codes "body" ∷ codes "h1" ∷ codes "p" ∷ codes "table"
    ∷ codes "thead" ∷ codes "tbody" ∷ codes "tr" ∷ codes "th" ∷ codes "td" ∷ codes "ul" ∷ codes "li" ∷ codes "span" ∷ codes "bdi"
    ∷ codes "small" ∷ codes "strong" ∷ codes "i" ∷ codes "br" ∷ []

-- The state after the start tag of an element: the text of a title has references and no tags, and that of a style has neither
-- (13.2.6.4.4). After any other of these names a parser stays in the data state.
abbrev pub state_in : List ℕ → Option State
state_in name =
    if is_among (codes "title" ∷ []) name then Some (rcdata name)
    else (if is_among (codes "style" ∷ []) name then Some (rawtext name)
    else (if is_among element_names name then Some data_state else None))

abbrev pub gives_start : Tag → Option Reached
gives_start tag = option_map (λ (state : State). ran state (start_tag tag.name tag.attributes ∷ [])) (state_in tag.name)

abbrev pub gives_end : List ℕ → Option Reached
gives_end name = if is_among element_names name then gives data_state (end_tag name) else None

abbrev pub with_attribute : Tag → List ℕ → List ℕ → Tag
with_attribute tag name value =
    record { name = tag.name; attributes = tag.attributes ++ (record { name = name; value = value }) ∷ [] }

-- a tag has an attribute of this name
abbrev pub has_attribute : Tag → List ℕ → Bool
has_attribute tag name = is_among (map (λ (attribute : Attribute). attribute.name) tag.attributes) name

-- The character that a name stands for, if a semicolon ends it: those of the named character references (13.5) that something is
-- said of here.
abbrev pub named_character : List ℕ → Option ℕ
named_character name =
    if pointwise nat_eq name (codes "amp") then Some 38
    else (if pointwise nat_eq name (codes "lt") then Some 60
    else (if pointwise nat_eq name (codes "gt") then Some 62
    else (if pointwise nat_eq name (codes "quot") then Some 34 else None)))

-- ---- octets

abbrev pub is_letter : ℕ → Bool
is_letter octet = nat_le 97 octet && nat_le octet 122

-- a letter, a digit or a dash
abbrev pub is_of_name : ℕ → Bool
is_of_name octet = is_letter octet || (nat_le 48 octet && nat_le octet 57) || octet == 45

abbrev pub is_space : ℕ → Bool
is_space octet = octet == 32 || octet == 10

-- A null is dropped between tags (13.2.6.4.7) and replaced in a value (13.2.5.36), and a carriage return is a line feed to a parser
-- (13.2.3.5).
abbrev pub is_replaced : ℕ → Bool
is_replaced octet = octet == 0 || octet == 13

-- a character is emitted, or added to a value
abbrev pub takes : State → ℕ → Option Reached
takes data_state octet = gives data_state (character octet)
takes (rcdata name) octet = gives (rcdata name) (character octet)
takes (rawtext name) octet = gives (rawtext name) (character octet)
takes (attribute_value tag name value) octet = goes (attribute_value tag name (value ++ octet ∷ []))
takes _ octet = None

abbrev pub takes_itself : State → ℕ → Option Reached
takes_itself state octet = if is_replaced octet then None else takes state octet

-- ---- one octet

-- 34 is a quote, 38 an ampersand, 47 a slash, 59 a semicolon; 60, 61 and 62 are `<`, `=` and `>`; 33 is an exclamation mark
abbrev pub step : State → ℕ → Option Reached
step data_state octet =
    if octet == 38 then goes (reference data_state [])
    else (if octet == 60 then goes tag_open else takes_itself data_state octet)
step (rcdata name) octet =
    if octet == 38 then goes (reference (rcdata name) [])
    else (if octet == 60 then goes (less_than_sign name) else takes_itself (rcdata name) octet)
step (rawtext name) octet = if octet == 60 then goes (less_than_sign name) else takes_itself (rawtext name) octet
step tag_open octet =
    if octet == 47 then goes end_tag_open
    else (if octet == 33 then goes (declaration []) else (if is_letter octet then goes (tag_name (octet ∷ [])) else None))
step end_tag_open octet = if is_letter octet then goes (end_tag_name (octet ∷ [])) else None
step (tag_name name) octet =
    if octet == 62 then gives_start (record { name = name; attributes = [] })
    else (if is_space octet then goes (before_attribute_name (record { name = name; attributes = [] }))
    else (if is_of_name octet then goes (tag_name (name ++ octet ∷ [])) else None))
step (end_tag_name name) octet =
    if octet == 62 then gives_end name else (if is_of_name octet then goes (end_tag_name (name ++ octet ∷ [])) else None)
step (less_than_sign name) octet = if octet == 47 then goes (closing name []) else None
step (closing name closed) octet =
    if octet == 62 then (if pointwise nat_eq closed name then gives data_state (end_tag name) else None)
    else (if is_letter octet then goes (closing name (closed ++ octet ∷ [])) else None)
step (before_attribute_name tag) octet =
    if octet == 62 then gives_start tag
    else (if is_space octet then goes (before_attribute_name tag)
    else (if is_letter octet then goes (attribute_name tag (octet ∷ [])) else None))
step (attribute_name tag name) octet =
    if octet == 61 then (if has_attribute tag name then None else goes (before_attribute_value tag name))
    else (if is_of_name octet then goes (attribute_name tag (name ++ octet ∷ [])) else None)
step (before_attribute_value tag name) octet = if octet == 34 then goes (attribute_value tag name []) else None
step (attribute_value tag name value) octet =
    if octet == 34 then goes (after_attribute_value (with_attribute tag name value))
    else (if octet == 38 then goes (reference (attribute_value tag name value) [])
    else takes_itself (attribute_value tag name value) octet)
step (after_attribute_value tag) octet =
    if octet == 62 then gives_start tag else (if is_space octet then goes (before_attribute_name tag) else None)
step (declaration text) octet =
    if octet == 62 then (if pointwise nat_eq text (codes "DOCTYPE html") then gives data_state doctype else None)
    else goes (declaration (text ++ octet ∷ []))
step (reference state name) octet =
    if octet == 59 then option_and_then (takes state) (named_character name) else goes (reference state (name ++ octet ∷ []))

-- ---- a source

-- these tokens were emitted before
abbrev pub given_before : List Token → Reached → Reached
given_before given last = ran last.state (given ++ last.given)

-- from a state over a source; none if the source has another form
unfoldable pub run : State → List ℕ → Option Reached
run state [] = Some (ran state [])
run state (octet ∷ source) =
    option_and_then (λ (next : Reached). option_map (given_before next.given) (run next.state source)) (step state octet)

-- In this state a source is read as these tokens, and after it the state is that one.
abbrev pub IsReadAs : State → List ℕ → List Token → State → Type 0
IsReadAs before source given after = run before source ≡ Some (ran after given)

-- a document ends in the data state
abbrev pub ended_in : State → List Token → Option (List Token)
ended_in data_state given = Some given
ended_in _ given = None

-- the tokens of a document
abbrev pub tokens : List ℕ → Option (List Token)
tokens source = option_and_then (λ (last : Reached). ended_in last.state last.given) (run data_state source)

-- ---- escaped texts

-- An octet that doesn't open or close a tag, doesn't end an attribute value, and is no control character.
pub record IsHarmless (octet : ℕ) : Type 0 where
  pub opens_nothing : octet ≢ 60
  pub closes_nothing : octet ≢ 62
  pub ends_no_value : octet ≢ 34
  pub no_control : 32 ≤ octet
  pub no_delete : octet ≢ 127
