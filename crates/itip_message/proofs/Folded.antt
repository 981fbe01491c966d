-- The lines of bytes that were written for lines, and what they say.
use Rattle.std.proofs.Common.{◌≡◌, ◌∙◌, ap, refl, ℕ, ◌+◌, Bool, true, false, cond, not, List, [], ◌∷◌, ◌++◌, map, arith, append_assoc}
use Rattle.std.specs.Prelude.{◌&&◌, ◌||◌, ◌==◌, codes}
use Rattle.std.specs.Char.{to_ascii_uppercase}
use Rattle.std.specs.List.{onto_first, list_all, AllByRecursion}
use Rattle.std.proofs.lemmas.Bool.{and_parts}
use Rattle.itip_lines.specs.Octets.{is_value_octet}
use Rattle.itip_lines.specs.Lawful.{line_text, params_text, IsName}
use Rattle.itip_lines.specs.Writing.{fits, folded}
use Rattle.itip_lines.proofs.OctetLemmas.{value_no_break}
use Rattle.itip_todo.specs.Lawful.{IsLawfulContent}
use Rattle.itip_todo.specs.Written.{Content, content_octets, contents_octets}
use Rattle.itip_todo.specs.Participation.{same_text}
use Rattle.itip_message.specs.Scanned.{begins_blank, lines_of, is_return, said_behind, said, ends_calendar}
use Rattle.itip_message.proofs.Plain.{clean_content, name_octet_no_blank, IsNotEnd, text_apart}

-- ---- lines

onto_line : (b : ℕ) (text rest : List ℕ) (lines : List (List ℕ)) → (b == 10) ≡ false → lines_of rest ≡ text ∷ lines →
    lines_of (b ∷ rest) ≡ (b ∷ text) ∷ lines
onto_line b text rest lines plain e =
    ap (λ (t : Bool). cond (t && not (begins_blank rest)) ((b ∷ []) ∷ lines_of rest) (onto_first b (lines_of rest))) plain ∙
    ap (λ (ls : List (List ℕ)). onto_first b ls) e

last_feed : (rest : List ℕ) → begins_blank rest ≡ false → lines_of (10 ∷ rest) ≡ (10 ∷ []) ∷ lines_of rest
last_feed rest plain = ap (λ (t : Bool). cond (not t) ((10 ∷ []) ∷ lines_of rest) (onto_first 10 (lines_of rest))) plain

-- a folded line is one line
pub folded_line : (used : ℕ) (text rest : List ℕ) → list_all is_value_octet text ≡ true → begins_blank rest ≡ false →
    lines_of (folded used text ++ rest) ≡ folded used text ∷ lines_of rest
folded_line used [] rest clean plain = onto_line 13 (10 ∷ []) (10 ∷ rest) (lines_of rest) refl (last_feed rest plain)
folded_line used (b ∷ bs) rest clean plain =
    let p = and_parts _ _ clean in
    let no_feed : (b == 10) ≡ false = (value_no_break b p.0).0 in
    elim (fits used b) as (λ v. lines_of (cond v (b ∷ folded (used + 1) bs) (13 ∷ (10 ∷ (32 ∷ (b ∷ folded 2 bs)))) ++ rest) ≡ cond v (b ∷
    folded (used + 1) bs) (13 ∷ (10 ∷ (32 ∷ (b ∷ folded 2 bs)))) ∷ lines_of rest) [
      | true ↦ onto_line b (folded (used + 1) bs) (folded (used + 1) bs ++ rest) (lines_of rest) no_feed
          (folded_line (used + 1) bs rest p.1 plain)
      | false ↦
          onto_line 13 (10 ∷ (32 ∷ (b ∷ folded 2 bs))) (10 ∷ (32 ∷ (b ∷ (folded 2 bs ++ rest)))) (lines_of rest) refl
          (ap (λ (ls : List (List ℕ)). onto_first 10 ls)
          (onto_line 32 (b ∷ folded 2 bs) (b ∷ (folded 2 bs ++ rest)) (lines_of rest) refl
          (onto_line b (folded 2 bs) (folded 2 bs ++ rest) (lines_of rest) no_feed (folded_line 2 bs rest p.1 plain))))
    ]

-- ---- what a line says

no_return : (b : ℕ) (bytes : List ℕ) → (b == 13) ≡ false → is_return b bytes ≡ false
no_return b [] plain = refl
no_return b (c ∷ bytes) plain = ap (λ (t : Bool). t && c == 10) plain

said_octet : (b : ℕ) (bytes : List ℕ) → is_value_octet b ≡ true → said_behind false (b ∷ bytes) ≡ b ∷ said_behind false bytes
said_octet b bytes value =
    let plain = value_no_break b value in
    ap (λ (t : Bool). cond t (said_behind true bytes)
    (cond (is_return b bytes || false) (said_behind false bytes) (b ∷ said_behind false bytes))) plain.0
    ∙ ap (λ (t : Bool). cond (t || false) (said_behind false bytes) (b ∷ said_behind false bytes)) (no_return b bytes plain.1)

pub folded_said : (used : ℕ) (text : List ℕ) → list_all is_value_octet text ≡ true → said (folded used text) ≡ text
folded_said used [] clean = refl
folded_said used (b ∷ bs) clean =
    let p = and_parts _ _ clean in
    elim (fits used b) as (λ v. said_behind false (cond v (b ∷ folded (used + 1) bs) (13 ∷ (10 ∷ (32 ∷ (b ∷ folded 2 bs))))) ≡ b ∷ bs) [
      | true ↦ said_octet b (folded (used + 1) bs) p.0 ∙ ap (λ (t : List ℕ). b ∷ t) (folded_said (used + 1) bs p.1)
      | false ↦ said_octet b (folded 2 bs) p.0 ∙ ap (λ (t : List ℕ). b ∷ t) (folded_said 2 bs p.1)
    ]

-- ---- written contents

named_begins : (name more rest : List ℕ) → IsName name → begins_blank (folded 0 (name ++ more) ++ rest) ≡ false
named_begins [] more rest named = absurd (omega (arith, named.some))
named_begins (n ∷ name) more rest named =
    elim (fits 0 n) as (λ v. begins_blank (cond v (n ∷ folded 1 (name ++ more)) (13 ∷ (10 ∷ (32 ∷ (n ∷ folded 2 (name ++ more))))) ++
    rest) ≡ false) [
      | true ↦ name_octet_no_blank n (and_parts _ _ named.upper).0
      | false ↦ refl
    ]

contents_begin : (cs : List Content) (rest : List ℕ) → AllByRecursion IsLawfulContent cs → begins_blank rest ≡ false →
    begins_blank (contents_octets cs ++ rest) ≡ false
contents_begin [] rest lawful plain = plain
contents_begin (c ∷ cs) rest lawful plain =
    ap begins_blank (append_assoc (content_octets c) (contents_octets cs) rest) ∙
    named_begins c.name (params_text c.params ++ 58 ∷ c.value) (contents_octets cs ++ rest) lawful.0.named

-- the lines of contents
pub contents_lines : (cs : List Content) (rest : List ℕ) → AllByRecursion IsLawfulContent cs → begins_blank rest ≡ false →
    lines_of (contents_octets cs ++ rest) ≡ map content_octets cs ++ lines_of rest
contents_lines [] rest lawful plain = refl
contents_lines (c ∷ cs) rest lawful plain =
    ap lines_of (append_assoc (content_octets c) (contents_octets cs) rest)
    ∙ folded_line 0 (line_text c.name c.params c.value) (contents_octets cs ++ rest) (clean_content c lawful.0) (contents_begin
    cs rest lawful.1 plain)
    ∙ ap (λ (ls : List (List ℕ)). content_octets c ∷ ls) (contents_lines cs rest lawful.1 plain)

-- those that are not named END end no calendar
pub contents_end_none : (cs : List Content) → AllByRecursion IsLawfulContent cs → AllByRecursion IsNotEnd cs →
    AllByRecursion (λ line. ends_calendar line ≡ false) (map content_octets cs)
contents_end_none [] lawful others = tt
contents_end_none (c ∷ cs) lawful others = (
  ap (λ (t : List ℕ). same_text (map to_ascii_uppercase t) (codes "END:VCALENDAR"))
      (folded_said 0 (line_text c.name c.params c.value) (clean_content c lawful.0)) ∙ text_apart c lawful.0 others.0,
  contents_end_none cs lawful.1 others.1,
)
