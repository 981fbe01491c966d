-- Messages of which only the beginning has arrived, and the few bytes that stand in for a long one (our own form).
use Rattle.std.specs.Prelude.{◌≡◌, ◌≤◌, ◌⊎◌, ℕ, Bool, true, false, List, [], ◌∷◌, ◌++◌, length, map, codes}
use Rattle.std.specs.Char.{to_ascii_uppercase}
use Rattle.itip_todo.specs.Participation.{same_text}
use Rattle.itip_message.specs.Scanned.{line_length, said, said_behind, messages_of}
use Rattle.itip_message.specs.Passing.{StaysPassing}
use Rattle.itip_message.specs.declared.begun.BegunMessage.{BegunMessage}
use Rattle.itip_message.specs.declared.begun.LineFront.{LineFront}

-- Bytes whose lines before the last were passed. The last isn't known to be complete, and it is empty only if there are no bytes at all.
pub record IsBegun (message : BegunMessage) : Type 0 where
  pub passes : StaysPassing message.octets.now message.line.now message.all_empty
  pub goes_on : line_length message.line.now ≡ length message.line.now
  pub some : message.line.now ≡ [] → message.octets.now ≡ []

-- The same texts except for the first, which in the first list has at least `least` bytes.
abbrev pub DifferInFirst : ℕ → List (List ℕ) → List (List ℕ) → Type 0
DifferInFirst least [] [] = Unit {0}
DifferInFirst least [] (other ∷ others) = ⊥
DifferInFirst least (text ∷ texts) [] = ⊥
DifferInFirst least (text ∷ texts) (other ∷ others) = (least ≤ length text) × (texts ≡ others)

-- Whatever follows, a few bytes are cut into the same messages as these bytes, except for the first; and the first message of these bytes
-- is at least as long as they are.
abbrev pub StandsIn : List ℕ → List ℕ → Type 0
StandsIn octets few = (more : List ℕ) → DifferInFirst (length octets) (messages_of (octets ++ more)) (messages_of (few ++ more))

-- the most bytes that stand in for a message
abbrev pub stand_in_limit : ℕ
stand_in_limit = 20

-- ---- what a line says

-- two texts that agree on whether they are END:VCALENDAR, regardless of case, and on whether they are empty
pub record SaysTheSame (text other : List ℕ) : Type 0 where
  pub ends : same_text (map to_ascii_uppercase text) (codes "END:VCALENDAR") ≡
      same_text (map to_ascii_uppercase other) (codes "END:VCALENDAR")
  pub empty : same_text (map to_ascii_uppercase text) [] ≡ same_text (map to_ascii_uppercase other) []

-- what stands in for anything that END:VCALENDAR doesn't begin with
abbrev pub something_else : List ℕ
something_else = codes "SOMETHING ELSE"

-- a prefix of END:VCALENDAR, or what stands in for anything else
abbrev pub IsSaid : List ℕ → Type 0
IsSaid text = (text ≡ something_else) ⊎ ((rest : List ℕ) × (codes "END:VCALENDAR" ≡ text ++ rest))

-- The bytes of a line before these were passed, and say as much as this text; the flag says that a break comes before these.
pub record PassesLine (line text : List ℕ) (behind : Bool) (rest : List ℕ) : Type 0 where
  pub before : List ℕ
  pub whole : line ≡ before ++ rest
  pub some : rest ≡ [] → line ≡ []
  pub said_is : IsSaid text
  pub says : (more : List ℕ) → SaysTheSame (said (line ++ more)) (text ++ said_behind behind (rest ++ more))
  pub break_is : behind ≡ true → (front : List ℕ) × (before ≡ front ++ 10 ∷ [])

-- ---- the bytes that stand in for a message

-- A fold that continues a line that says nothing yet, after a line that says X unless all are to be empty.
abbrev pub begun_line : Bool → List ℕ
begun_line true = 10 ∷ (32 ∷ [])
begun_line false = 88 ∷ (10 ∷ (10 ∷ (32 ∷ [])))

abbrev pub break_before : Bool → List ℕ
break_before true = 10 ∷ []
break_before false = []

abbrev pub few_octets : Bool → LineFront → List ℕ
few_octets all_empty front = ((begun_line all_empty ++ front.said.now) ++ break_before front.is_behind) ++ front.last ∷ []
