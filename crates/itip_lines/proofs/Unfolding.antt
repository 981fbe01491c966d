-- Unfolding what was folded.
use Rattle.std.proofs.Common.{◌≡◌, ◌≢◌, ◌∙◌, sym, ap, refl, ℕ, ◌+◌, ◌<◌, true, false, cond, List, [], ◌∷◌, ◌++◌, length, arith, subst, inl}
use Rattle.std.proofs.Common.{append_assoc}
use Rattle.std.specs.List.{list_all, onto_first}
use Rattle.std.proofs.lemmas.Bool.{and_parts}
use Rattle.std.proofs.lemmas.Bool.Decides.{nat_tests}
use Rattle.std.proofs.lemmas.List.{append-nil}
use Rattle.std.proofs.lemmas.List.Elements.{All-cons, All-nil}
use Rattle.itip_lines.specs.Octets.{is_value_octet, is_upper_name_octet}
use Rattle.itip_lines.specs.Lawful.{IsName, params_text}
use Rattle.itip_lines.specs.UnfoldedLines.{unfolded_onto, is_blank}
use Rattle.itip_lines.specs.Stretches.{LacksBlank, stretches_of, onto_stretches, lines_onto}
use Rattle.itip_lines.specs.Writing.{fits, folded, unfolded_text, written, all_written}
use Rattle.itip_lines.specs.declared.line.Line.{Line}
use Rattle.itip_lines.proofs.OctetLemmas.{value_no_break}
use Rattle.itip_lines.proofs.Stretches.{stretches_of_break, stretches_of_cons, stretches_of_some, lines_onto_fold, lines_onto_break}

-- an octet that is in no break goes on the line
onto_octet : (line : List ℕ) (b : ℕ) (cs : List (List ℕ)) → 0 < length cs →
    onto_stretches line (onto_first b cs) ≡ onto_stretches (line ++ b ∷ []) cs
onto_octet line b [] h = absurd (omega arith)
onto_octet line b (c ∷ cs) h = ap (λ l. unfolded_onto l cs) (sym (append_assoc line (b ∷ []) c))

lines_onto_octet : (line : List ℕ) (b : ℕ) (text : List ℕ) → is_value_octet b ≡ true →
    lines_onto line (b ∷ text) ≡ lines_onto (line ++ b ∷ []) text
unfolding lines_onto
lines_onto_octet line b text h =
    let k = value_no_break b h in
    ap (onto_stretches line) (stretches_of_cons b text k.0 k.1) ∙ onto_octet line b (stretches_of text) (stretches_of_some text)

-- CRLF ends a stretch
crlf_stretch : (rest : List ℕ) → stretches_of (13 ∷ (10 ∷ rest)) ≡ [] ∷ stretches_of rest
crlf_stretch rest = stretches_of_break (13 ∷ (10 ∷ rest)) (13 ∷ []) [] rest
    (All-cons (λ x. x ≢ 10) 13 [] (λ e. absurd (omega arith)) (All-nil (λ x. x ≢ 10))) refl (inl refl)

-- an octet of a folded line, and the octets after it
one_more : (line : List ℕ) (b n : ℕ) (bs rest : List ℕ) → is_value_octet b ≡ true →
    lines_onto (line ++ b ∷ []) (folded n bs ++ rest) ≡ (line ++ b ∷ [] ++ bs) ∷ lines_onto [] rest →
    lines_onto line (b ∷ (folded n bs ++ rest)) ≡ (line ++ (b ∷ bs)) ∷ lines_onto [] rest
one_more line b n bs rest h more =
    lines_onto_octet line b (folded n bs ++ rest) h ∙ more ∙ ap (λ l. l ∷ lines_onto [] rest) (append_assoc line (b ∷ []) bs)

-- a fold takes its blank with it
past_fold : (line text : List ℕ) → lines_onto line (13 ∷ (10 ∷ (32 ∷ text))) ≡ lines_onto line text
past_fold line text =
    lines_onto_fold line (13 ∷ (10 ∷ (32 ∷ text))) [] (32 ∷ text) text (crlf_stretch (32 ∷ text)) (32, refl, refl)
    ∙ ap (λ l. lines_onto l text) (append-nil line)

-- a folded line, unfolded
pub unfolds : (line : List ℕ) (used : ℕ) (bs rest : List ℕ) → list_all is_value_octet bs ≡ true → LacksBlank rest →
    lines_onto line (folded used bs ++ rest) ≡ (line ++ bs) ∷ lines_onto [] rest
unfolds line used [] rest h lacks = lines_onto_break line (13 ∷ (10 ∷ rest)) [] rest (crlf_stretch rest) lacks
unfolds line used (b ∷ bs) rest h lacks =
    let p = and_parts _ _ h in
    elim (fits used b) as (λ v. lines_onto line (cond v (b ∷ folded (used + 1) bs) (13 ∷ (10 ∷ (32 ∷ (b ∷ folded 2 bs)))) ++ rest) ≡
    (line ++ (b ∷ bs)) ∷ lines_onto [] rest) [
      | true ↦ one_more line b (used + 1) bs rest p.0 (unfolds (line ++ b ∷ []) (used + 1) bs rest p.1 lacks)
      | false ↦ past_fold line (b ∷ (folded 2 bs ++ rest)) ∙ one_more line b 2 bs rest p.0 (unfolds (line ++ b ∷ []) 2 bs rest p.1 lacks)
    ]

name_octet_fits : (b : ℕ) → is_upper_name_octet b ≡ true → fits 0 b ≡ true
name_octet_fits b h = grind (arith, nat_tests)

name_octet_no_blank : (b : ℕ) → is_upper_name_octet b ≡ true → is_blank b ≡ false
name_octet_no_blank b h = grind (arith, nat_tests)

named_lacks_blank : (name more rest : List ℕ) → IsName name → LacksBlank (folded 0 (name ++ more) ++ rest)
named_lacks_blank [] more rest named = absurd (omega (arith, named.some))
named_lacks_blank (n ∷ name) more rest named = λ b t e.
    let k = (and_parts _ _ named.upper).0 in
    let stands : n ∷ (folded 1 (name ++ more) ++ rest) ≡ b ∷ t =
    sym (ap (λ x. cond x (n ∷ folded 1 (name ++ more)) (13 ∷ (10 ∷ (32 ∷ (n ∷ folded 2 (name ++ more))))) ++ rest)
    (name_octet_fits n k)) ∙ e in
    subst (λ (x : ℕ). is_blank x ≡ false) (first_is n b (folded 1 (name ++ more) ++ rest) t stands) (name_octet_no_blank n k)
  where
    first_is : (x y : ℕ) (xs ys : List ℕ) → x ∷ xs ≡ y ∷ ys → x ≡ y
    first_is x y xs ys e = cc

pub written_lacks_blank : (lines : List Line) → LacksBlank (all_written lines)
unfolding written unfolded_text
written_lacks_blank [] = λ b t e. absurd cc
written_lacks_blank (l ∷ ls) = named_lacks_blank l.name (params_text l.params ++ 58 ∷ l.value) (all_written ls) l.lawful.named
