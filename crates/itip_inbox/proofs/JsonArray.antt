-- The array of a list, as it is read.
use Rattle.std.proofs.Common.{◌≡◌, ◌≤◌, ℕ, Bool, true, false, List, [], ◌∷◌, ◌++◌, map, refl, sym, ap, subst, inr, ◌∙◌}
use Rattle.std.proofs.Common.{Some, arith, append_assoc}
use Rattle.std.specs.Prelude.{codes, fold, option_and_then}
use Rattle.std.specs.List.{flat_map}
use Rattle.std.proofs.lemmas.List.{map-append}
use Rattle.json.specs.Json.{document, if_last, max_depth, value}
use Rattle.json.specs.Print.{print_from, separator, token_text, ends, ArePrintable}
use Rattle.json.specs.Spaced.{AreGaps, print_spaced}
use Rattle.json.specs.Token.{Token, begin_object, end_object, begin_array, end_array}
use Rattle.json.specs.Lex.{tokens}
use Rattle.json.specs.Tree.{json_tokens, items_tokens, members_tokens, items_depth, ItemsHaveNumbers}
use Rattle.json.proofs.Printed.Tokens.{ends_push, tokens-print, tokens-print_spaced}
use Rattle.json.proofs.Printed.Trees.{document-print, ArePrintable-json_tokens}
use Rattle.itip_view.specs.declared.row.Row.{Row}
use Rattle.itip_inbox.specs.Json.{array_text, items_of, json_text, members_of, object_behind, object_text, row_members, row_object}
use Rattle.itip_inbox.specs.Json.{rows_array}
use Rattle.itip_inbox.specs.JsonTokens.{named_tokens}
use Rattle.itip_inbox.proofs.JsonText.{members_are, row_ok, row_shallow}

-- ---- tokens with gaps before them

abbrev Spaced : Type 0
Spaced = List ℕ × Token

abbrev no_gaps : List Token → List Spaced
no_gaps [] = []
no_gaps (t ∷ ts) = ([], t) ∷ no_gaps ts

no_gaps_print : (c : Bool) (ts : List Token) → print_spaced c (no_gaps ts) ≡ print_from c ts
unfolding print_spaced print_from
no_gaps_print c [] = refl
no_gaps_print c (t ∷ ts) = ap (λ (text : List ℕ). separator c t ++ (token_text t ++ text)) (no_gaps_print (ends t) ts)

-- whether the last of them ends a value
abbrev ended : Bool → List Spaced → Bool
ended c ps = fold (λ _ (p : Spaced). ends p.1) c ps

spaced_append : (c : Bool) (ps qs : List Spaced) → print_spaced c (ps ++ qs) ≡ print_spaced c ps ++ print_spaced (ended c ps) qs
unfolding print_spaced
spaced_append c [] qs = refl
spaced_append c (p ∷ ps) qs = rw (spaced_append (ends p.1) ps qs) (simp append_assoc)

no_gaps_ended : (c : Bool) (ts : List Token) → ended c (no_gaps ts) ≡ fold (λ _ (t : Token). ends t) c ts
no_gaps_ended c [] = refl
no_gaps_ended c (t ∷ ts) = no_gaps_ended (ends t) ts

no_gaps_tokens : (ts : List Token) → map (λ (p : Spaced). p.1) (no_gaps ts) ≡ ts
no_gaps_tokens [] = refl
no_gaps_tokens (t ∷ ts) = ap (λ (more : List Token). t ∷ more) (no_gaps_tokens ts)

no_gaps_are : (ts : List Token) → AreGaps (no_gaps ts)
no_gaps_are [] = tt
no_gaps_are (t ∷ ts) = (tt, no_gaps_are ts)

gaps_append : (ps qs : List Spaced) → AreGaps ps → AreGaps qs → AreGaps (ps ++ qs)
gaps_append [] qs first second = second
gaps_append (p ∷ ps) qs first second = (first.0, gaps_append ps qs first.1 second)

-- ---- rows

-- the tokens of the object of a row, after its first
abbrev inner : Row → List Token
inner row = members_tokens (members_of (row_members row))

abbrev row_spaced : Row → List Spaced
row_spaced row = (codes "\n", begin_object) ∷ no_gaps (inner row)

row_ended : (c : Bool) (row : Row) → ended c (row_spaced row) ≡ true
row_ended c row =
    no_gaps_ended false (inner row) ∙
    ap (λ (ts : List Token). fold (λ _ (t : Token). ends t) false ts) (members_are (row_members row)) ∙
    ends_push false (named_tokens (row_members row)) end_object

row_print : (c : Bool) (row : Row) → print_spaced c (row_spaced row) ≡ separator c begin_object ++ (codes "\n" ++ object_text row)
unfolding print_spaced print_from
row_print c row =
    ap (λ (text : List ℕ). separator c begin_object ++ (codes "\n" ++ (123 ∷ text))) (no_gaps_print false (inner row))

rows_print : (rows : List Row) (qs : List Spaced) →
    print_spaced true (flat_map row_spaced rows ++ qs) ≡ flat_map object_behind rows ++ print_spaced true qs
rows_print [] qs = refl
rows_print (row ∷ rows) qs =
    ap (print_spaced true) (append_assoc (row_spaced row) (flat_map row_spaced rows) qs) ∙
    spaced_append true (row_spaced row) (flat_map row_spaced rows ++ qs) ∙
    ap (λ (c : Bool). print_spaced true (row_spaced row) ++ print_spaced c (flat_map row_spaced rows ++ qs)) (row_ended true row) ∙
    ap (λ (text : List ℕ). text ++ print_spaced true (flat_map row_spaced rows ++ qs)) (row_print true row) ∙
    ap (λ (text : List ℕ). object_behind row ++ text) (rows_print rows qs) ∙
    sym (append_assoc (object_behind row) (flat_map object_behind rows) (print_spaced true qs))

-- ---- the array

abbrev gap_behind : List Row → List ℕ
gap_behind [] = []
gap_behind (row ∷ rows) = codes "\n"

abbrev array_spaced : List Row → List Spaced
array_spaced rows = ([], begin_array) ∷ (flat_map row_spaced rows ++ (gap_behind rows, end_array) ∷ [])

array_print : (rows : List Row) → print_spaced false (array_spaced rows) ≡ array_text rows
unfolding print_spaced
array_print [] = refl
array_print (row ∷ rows) =
    let end : List Spaced = (codes "\n", end_array) ∷ [] in
    ap (λ (text : List ℕ). 91 ∷ text)
    (ap (print_spaced false) (append_assoc (row_spaced row) (flat_map row_spaced rows) end) ∙
    spaced_append false (row_spaced row) (flat_map row_spaced rows ++ end) ∙
    ap (λ (c : Bool). print_spaced false (row_spaced row) ++ print_spaced c (flat_map row_spaced rows ++ end)) (row_ended false row) ∙
    ap (λ (text : List ℕ). text ++ print_spaced true (flat_map row_spaced rows ++ end)) (row_print false row) ∙
    ap (λ (text : List ℕ). (codes "\n" ++ object_text row) ++ text) (rows_print rows end))

row_tokens : (row : Row) → map (λ (p : Spaced). p.1) (row_spaced row) ≡ json_tokens (row_object row)
row_tokens row = ap (λ (ts : List Token). begin_object ∷ ts) (no_gaps_tokens (inner row))

rows_tokens : (rows : List Row) (gap : List ℕ) →
    map (λ (p : Spaced). p.1) (flat_map row_spaced rows ++ (gap, end_array) ∷ []) ≡ items_tokens (items_of (map row_object rows))
rows_tokens [] gap = refl
rows_tokens (row ∷ rows) gap =
    ap (map (λ (p : Spaced). p.1)) (append_assoc (row_spaced row) (flat_map row_spaced rows) ((gap, end_array) ∷ [])) ∙
    map-append (λ (p : Spaced). p.1) (row_spaced row) (flat_map row_spaced rows ++ (gap, end_array) ∷ []) ∙
    ap (λ (ts : List Token). ts ++ map (λ (p : Spaced). p.1) (flat_map row_spaced rows ++ (gap, end_array) ∷ [])) (row_tokens row) ∙
    ap (λ (ts : List Token). json_tokens (row_object row) ++ ts) (rows_tokens rows gap)

rows_gaps : (rows : List Row) → AreGaps (flat_map row_spaced rows)
rows_gaps [] = tt
rows_gaps (row ∷ rows) = gaps_append (row_spaced row) (flat_map row_spaced rows) ((inr refl, tt), no_gaps_are (inner row)) (rows_gaps rows)

last_gap : (rows : List Row) → AreGaps ((gap_behind rows, end_array) ∷ [])
last_gap [] = (tt, tt)
last_gap (row ∷ rows) = ((inr refl, tt), tt)

rows_ok : (rows : List Row) → ItemsHaveNumbers (items_of (map row_object rows))
rows_ok [] = tt
rows_ok (row ∷ rows) = (row_ok row, rows_ok rows)

rows_shallow : (rows : List Row) → items_depth (items_of (map row_object rows)) ≤ 3
rows_shallow [] = omega arith
rows_shallow (row ∷ rows) = omega (arith, row_shallow row, rows_shallow rows)

module _ (rows : List Row) where
  array_tokens : tokens (array_text rows) ≡ json_tokens (rows_array rows)
  array_tokens =
      let same : map (λ (p : Spaced). p.1) (array_spaced rows) ≡ json_tokens (rows_array rows) =
      ap (λ (ts : List Token). begin_array ∷ ts) (rows_tokens rows (gap_behind rows)) in
      ap tokens (sym (array_print rows)) ∙
      tokens-print_spaced (array_spaced rows)
      (tt, gaps_append (flat_map row_spaced rows) ((gap_behind rows, end_array) ∷ []) (rows_gaps rows) (last_gap rows))
      (subst ArePrintable (sym same) (ArePrintable-json_tokens (rows_array rows) (rows_ok rows))) ∙ same

  pub array_read : document (array_text rows) ≡ Some (rows_array rows)
  array_read =
      ap (λ (ts : List Token). option_and_then (λ p. if_last p.0 p.1) (value max_depth ts))
      (array_tokens ∙ sym (tokens-print (json_tokens (rows_array rows)) (ArePrintable-json_tokens (rows_array rows) (rows_ok rows)))) ∙
      document-print (rows_array rows) (rows_ok rows) (omega (arith, rows_shallow rows))

-- the text of a list is that of its array, and a line break
pub array_line : (rows : List Row) → json_text rows ≡ array_text rows ++ codes "\n"
array_line [] = refl
array_line (row ∷ rows) =
    ap (λ (t : List ℕ). codes "[\n" ++ (object_text row ++ t)) (sym
    (append_assoc (flat_map object_behind rows) (codes "\n]") (codes "\n"))) ∙
    ap (λ (t : List ℕ). codes "[\n" ++ t) (sym (append_assoc (object_text row) (flat_map object_behind rows ++ codes "\n]") (codes "\n")))
