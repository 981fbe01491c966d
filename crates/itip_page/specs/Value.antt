-- Values of type TEXT as a person reads them (RFC 5545 3.3.11), and as a page has them.
use Rattle.std.specs.Prelude.{◌≡◌, ℕ, ◌==◌, Bool, ◌&&◌, ◌||◌, List, [], ◌∷◌, ◌++◌, codes, if◌then◌else◌}
use Rattle.std.specs.List.{flat_map}
use Rattle.itip_page.specs.Escaped.{escaped}
use Rattle.itip_page.specs.declared.value.Shown.{Shown}
use Rattle.itip_page.specs.declared.value.Shown.TheVariants.{Octet, LineBreak}

-- The lines of a value, at least one.
pub record Lines : Type 0 where
  pub first : List ℕ
  pub others : List (List ℕ)

-- after a backslash `n` and `N` are a line break
abbrev pub is_break : ℕ → Bool
is_break octet = octet == 110 || octet == 78

-- and a backslash, a semicolon and a comma are themselves
abbrev pub is_escaped : ℕ → Bool
is_escaped octet = octet == 92 || octet == 59 || octet == 44

-- the first line begins with these octets, before what it had
abbrev pub behind : List ℕ → Lines → Lines
behind octets lines = record { first = octets ++ lines.first; others = lines.others }

-- an empty line before all others
abbrev pub broken : Lines → Lines
broken lines = record { first = []; others = lines.first ∷ lines.others }

-- A backslash before anything else is itself.
abbrev pub lines_of : List ℕ → Lines
lines_of [] = record { first = []; others = [] }
lines_of (octet ∷ []) = record { first = octet ∷ []; others = [] }
lines_of (octet ∷ (next ∷ rest)) =
    if octet == 92 && is_break next then broken (lines_of rest)
    else (if octet == 92 && is_escaped next then behind (next ∷ []) (lines_of rest) else behind (octet ∷ []) (lines_of (next ∷ rest)))

-- Each line escaped, with the tag of a line break between each two.
abbrev pub lines_markup : Lines → List ℕ
lines_markup lines = escaped lines.first ++ flat_map (λ line. codes "<br>" ++ escaped line) lines.others

abbrev pub value_markup : List ℕ → List ℕ
value_markup value = lines_markup (lines_of value)

-- what a value shows next, before these lines
abbrev pub shown_before : Shown → Lines → Lines
shown_before (Octet octet) lines = behind (octet ∷ []) lines
shown_before LineBreak lines = broken lines

-- a value shows this, and then what comes after it
abbrev pub IsNext : List ℕ → Shown → List ℕ → Type 0
IsNext value shown after = lines_of value ≡ shown_before shown (lines_of after)

-- An octet is appended to the line; or the line and its end are appended to the page, and another line is begun.
abbrev pub PutsNext : Shown → List ℕ → List ℕ → List ℕ → List ℕ → Type 0
PutsNext (Octet octet) page grown line longer = (grown ≡ page) × (longer ≡ line ++ octet ∷ [])
PutsNext LineBreak page grown line longer = (grown ≡ page ++ (escaped line ++ codes "<br>")) × (longer ≡ [])
