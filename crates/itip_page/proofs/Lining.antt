-- A value, line by line.
use Rattle.std.proofs.Common.{◌≡◌, ℕ, List, [], ◌∷◌, ◌++◌, ap, sym, ◌∙◌, append_assoc, append-nil}
use Rattle.std.specs.Prelude.{codes}
use Rattle.std.specs.List.{flat_map}
use Rattle.itip_page.specs.Escaped.{escaped}
use Rattle.itip_page.specs.Value.{Lines, behind, broken, lines_of, lines_markup, IsNext, PutsNext}
use Rattle.itip_page.specs.declared.value.Shown.{Shown}
use Rattle.itip_page.specs.declared.value.Shown.TheVariants.{Octet, LineBreak}

-- the lines after the first, each after the tag of a break
abbrev others_markup : List (List ℕ) → List ℕ
others_markup lines = flat_map (λ line. codes "<br>" ++ escaped line) lines

-- an octet at the end of the line, or before what is left
octet_moves : (line : List ℕ) (octet : ℕ) (lines : Lines) →
    lines_markup (behind (line ++ octet ∷ []) lines) ≡ lines_markup (behind line (behind (octet ∷ []) lines))
octet_moves line octet lines =
    ap (λ (first : List ℕ). escaped first ++ others_markup lines.others) (append_assoc line (octet ∷ []) lines.first)

-- a line and its end at the end of the page, or before what is left
break_moves : (page line : List ℕ) (lines : Lines) →
    (page ++ (escaped line ++ codes "<br>")) ++ lines_markup (behind [] lines) ≡ page ++ lines_markup (behind line (broken lines))
break_moves page line lines =
    append_assoc page (escaped line ++ codes "<br>") (escaped lines.first ++ others_markup lines.others) ∙
    ap (λ (t : List ℕ). page ++ t)
    (append_assoc (escaped line) (codes "<br>") (escaped lines.first ++ others_markup lines.others) ∙
    ap (λ (t : List ℕ). escaped line ++ t) (sym (append_assoc (codes "<br>") (escaped lines.first) (others_markup lines.others))) ∙
    ap (λ (t : List ℕ). escaped t ++ ((codes "<br>" ++ escaped lines.first) ++ others_markup lines.others)) (sym (append-nil line)))

-- What a value shows next is appended to the line or the page: these and what is left are the same markup.
pub line_moves : (shown : Shown) (page grown line longer value after : List ℕ) → PutsNext shown page grown line longer →
    IsNext value shown after →
    grown ++ lines_markup (behind longer (lines_of after)) ≡ page ++ lines_markup (behind line (lines_of value))
line_moves (Octet octet) page grown line longer value after puts next =
    ap (λ (t : List ℕ). t ++ lines_markup (behind longer (lines_of after))) puts.0 ∙
    ap (λ (t : List ℕ). page ++ lines_markup (behind t (lines_of after))) puts.1 ∙
    ap (λ (t : List ℕ). page ++ t) (octet_moves line octet (lines_of after)) ∙
    ap (λ (lines : Lines). page ++ lines_markup (behind line lines)) (sym next)
line_moves LineBreak page grown line longer value after puts next =
    ap (λ (t : List ℕ). t ++ lines_markup (behind longer (lines_of after))) puts.0 ∙
    ap (λ (t : List ℕ). (page ++ (escaped line ++ codes "<br>")) ++ lines_markup (behind t (lines_of after))) puts.1 ∙
    break_moves page line (lines_of after) ∙ ap (λ (lines : Lines). page ++ lines_markup (behind line lines)) (sym next)

-- nothing is left: the line is the last one
pub line_ends : (page line value : List ℕ) → value ≡ [] → page ++ escaped line ≡ page ++ lines_markup (behind line (lines_of value))
line_ends page line value none =
    ap (λ (t : List ℕ). page ++ t) (sym (append-nil (escaped line)) ∙ ap (λ (t : List ℕ). escaped t ++ []) (sym (append-nil line))) ∙
    ap (λ (t : List ℕ). page ++ lines_markup (behind line (lines_of t))) (sym none)
