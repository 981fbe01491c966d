-- Texts of messages as a page has them (our own form).
use Rattle.std.specs.Prelude.{ℕ, ◌==◌, List, [], ◌∷◌, codes, if◌then◌else◌}
use Rattle.std.specs.List.{flat_map}
use Rattle.itip_streams.specs.Visible.{visible}

-- An octet, or the reference that stands for it.
abbrev pub octet_markup : ℕ → List ℕ
octet_markup octet =
    if octet == 38 then codes "&amp;"
    else (if octet == 60 then codes "&lt;"
    else (if octet == 62 then codes "&gt;"
    else (if octet == 34 then codes "&quot;" else octet ∷ [])))

-- The text with its control characters shown as bytes, and each octet of that as above.
abbrev pub escaped : List ℕ → List ℕ
escaped text = flat_map octet_markup (visible text)
