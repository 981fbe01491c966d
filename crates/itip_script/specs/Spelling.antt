-- What each command looks like on its line (our own format).
use Rattle.std.specs.Prelude.{◌≡◌, ◌<◌, ◌++◌, ℕ, List, ◌∷◌, length, Some, codes}
use Rattle.itip_report.specs.ReportNames.{name_text}
use Rattle.itip_script.specs.Orders.{Order, takes, lists, lists_for, posts, arrives, reports}
use Rattle.itip_script.specs.Orders.{resends, asks_next, counts, malformed, number_of}

-- a word, a space and a number
pub record SpellsNumber (line : List ℕ) (verb : List ℕ) (number : ℕ) : Type 0 where
  pub digits : List ℕ
  pub value : number_of digits ≡ Some number
  pub whole : line ≡ verb ++ 32 ∷ digits

-- a word, a number and whatever follows the space after it
pub record SpellsBehind (line : List ℕ) (verb : List ℕ) (number : ℕ) (behind : List ℕ) : Type 0 where
  pub digits : List ℕ
  pub value : number_of digits ≡ Some number
  pub whole : line ≡ verb ++ 32 ∷ (digits ++ 32 ∷ behind)

pub record SpellsNumbers (line : List ℕ) (verb : List ℕ) (first second : ℕ) : Type 0 where
  pub digits : List ℕ
  pub value : number_of digits ≡ Some second
  pub front : SpellsBehind line verb first digits

-- a word, a number and the rest of the line, which isn't empty
pub record SpellsRest (line : List ℕ) (verb : List ℕ) (number : ℕ) (rest : List ℕ) : Type 0 where
  pub some : 0 < length rest
  pub front : SpellsBehind line verb number rest

-- The line, with this message after it, is the command. No line spells a malformed one.
abbrev pub Spells : List ℕ → List ℕ → Order → Type 0
Spells line message (takes desk text) = SpellsNumber line (codes "!take") desk × (text ≡ message)
Spells line message (lists desk) = SpellsNumber line (codes "!list") desk
Spells line message (lists_for desk address) = SpellsRest line (codes "!mine") desk address
Spells line message (posts desk since) = SpellsNumbers line (codes "!post") desk since
Spells line message (arrives packet desk) = SpellsNumbers line (codes "!arrive") packet desk
Spells line message (reports desk named) = SpellsBehind line (codes "!report") desk (name_text named)
Spells line message (resends desk uid) = SpellsRest line (codes "!resend") desk uid
Spells line message (asks_next desk uid) = SpellsRest line (codes "!next") desk uid
Spells line message (counts desk) = SpellsNumber line (codes "!entries") desk
Spells line message malformed = ⊥
