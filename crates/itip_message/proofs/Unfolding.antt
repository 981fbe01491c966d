-- The unfolded lines of a text, byte by byte and piece by piece.
use Rattle.std.proofs.Common.{◌≡◌, ◌≢◌, ◌∙◌, sym, ap, refl, ℕ, ◌<◌, true, false, cond, List, [], ◌∷◌, ◌++◌, map, length, arith, subst, inl}
use Rattle.std.proofs.Common.{inr, append_assoc, append-nil}
use Rattle.std.specs.Prelude.{◌==◌}
use Rattle.std.specs.List.{slice_split, onto_first, AllByRecursion}
use Rattle.std.proofs.lemmas.Bool.Decides.{eqb_tells}
use Rattle.std.proofs.lemmas.List.Elements.{All-append, All-cons, All-nil}
use Rattle.std.proofs.lemmas.List.Splits.{slice_split-cons_no}
use Rattle.itip_lines.specs.UnfoldedLines.{Break, Piece, IsPiece, IsCutting, HasNoLf, break_bytes, joined}
use Rattle.itip_lines.specs.UnfoldedLines.{stretches, unfolded, unfolded_onto}
use Rattle.itip_lines.specs.UnfoldedLines.{is_blank}
use Rattle.itip_lines.specs.UnfoldedLines.Break.{lf, crlf}
use Rattle.itip_lines.specs.Stretches.{LacksBlank, without_crs, stretches_of, onto_stretches, lines_onto}
use Rattle.itip_lines.proofs.Stretches.{stretches_of_last, stretches_of_break, stretches_of_cons, stretches_of_some, lines_onto_fold}
use Rattle.itip_lines.proofs.Stretches.{lines_onto_break}
use Rattle.itip_lines.proofs.Cuttings.{stretches_of_cut}
use Rattle.itip_message.specs.Scanned.{is_return}

no_lf_nil : HasNoLf []
no_lf_nil = All-nil (λ x. x ≢ 10)

no_lf_cr : HasNoLf (13 ∷ [])
no_lf_cr = All-cons (λ x. x ≢ 10) 13 [] (λ e. absurd (omega arith)) no_lf_nil

nil_cr : (f : List ℕ) → [] ≡ f ++ 13 ∷ [] → ⊥
nil_cr [] e = cc
nil_cr (x ∷ f) e = cc

-- ---- the first bytes

feed_first : (t : List ℕ) → stretches_of (10 ∷ t) ≡ [] ∷ stretches_of t
feed_first t = stretches_of_break (10 ∷ t) [] [] t no_lf_nil refl (inr (refl, nil_cr))

return_first : (t : List ℕ) → stretches_of (13 ∷ (10 ∷ t)) ≡ [] ∷ stretches_of t
return_first t = stretches_of_break (13 ∷ (10 ∷ t)) (13 ∷ []) [] t no_lf_cr refl (inl refl)

-- a line break ends the line
pub feed_ends : (line t : List ℕ) → LacksBlank t → lines_onto line (10 ∷ t) ≡ line ∷ lines_onto [] t
feed_ends line t lacks = lines_onto_break line (10 ∷ t) [] t (feed_first t) lacks ∙ ap (λ l. l ∷ lines_onto [] t) (append-nil line)

-- unless a blank follows it
pub feed_folds : (line : List ℕ) (b : ℕ) (t : List ℕ) → is_blank b ≡ true → lines_onto line (10 ∷ (b ∷ t)) ≡ lines_onto line t
feed_folds line b t blank = lines_onto_fold line (10 ∷ (b ∷ t)) [] (b ∷ t) t (feed_first (b ∷ t)) (b, refl, blank) ∙
    ap (λ l. lines_onto l t) (append-nil line)

-- the CR of a break says nothing
pub return_past : (line t : List ℕ) → lines_onto line (13 ∷ (10 ∷ t)) ≡ lines_onto line (10 ∷ t)
unfolding lines_onto
return_past line t = ap (onto_stretches line) (return_first t ∙ sym (feed_first t))

-- a CR that is in no break
lone_return : (c : ℕ) (t : List ℕ) → (c == 10) ≡ false → stretches_of (13 ∷ (c ∷ t)) ≡ onto_first 13 (stretches_of (c ∷ t))
unfolding stretches_of
lone_return c t h =
    ap without_crs (slice_split-cons_no (λ x. x == 10) 13 (c ∷ t) refl ∙ ap (onto_first 13) (slice_split-cons_no (λ x. x == 10) c t h))
    ∙ same (slice_split (λ x. x == 10) t)
    ∙ ap (λ ss. onto_first 13 (without_crs ss)) (sym (slice_split-cons_no (λ x. x == 10) c t h))
  where
    same : (ss : List (List ℕ)) → without_crs (onto_first 13 (onto_first c ss)) ≡ onto_first 13 (without_crs (onto_first c ss))
    same [] = refl
    same (s ∷ []) = refl
    same (s ∷ (d ∷ ds)) = refl

first_return : (t : List ℕ) → is_return 13 t ≡ false → stretches_of (13 ∷ t) ≡ onto_first 13 (stretches_of t)
first_return [] h = stretches_of_last (13 ∷ []) no_lf_cr ∙ ap (onto_first 13) (sym (stretches_of_last [] no_lf_nil))
first_return (c ∷ t) h = lone_return c t h

first_octet : (b : ℕ) (t : List ℕ) → (b == 10) ≡ false → is_return b t ≡ false → stretches_of (b ∷ t) ≡ onto_first b (stretches_of t)
first_octet b t feed ret =
    elim (eqb_tells b 13) [
      | inl k ↦ subst (λ (x : ℕ). stretches_of (x ∷ t) ≡ onto_first x (stretches_of t)) (sym k.1)
          (first_return t (subst (λ (x : ℕ). is_return x t ≡ false) k.1 ret))
      | inr k ↦ stretches_of_cons b t feed k.0
    ]

onto_octet : (line : List ℕ) (b : ℕ) (cs : List (List ℕ)) → 0 < length cs →
    onto_stretches line (onto_first b cs) ≡ onto_stretches (line ++ b ∷ []) cs
onto_octet line b [] h = absurd (omega arith)
onto_octet line b (c ∷ cs) h = ap (λ l. unfolded_onto l cs) (sym (append_assoc line (b ∷ []) c))

-- any other byte continues the line
pub octet_goes_on : (line : List ℕ) (b : ℕ) (t : List ℕ) → (b == 10) ≡ false → is_return b t ≡ false →
    lines_onto line (b ∷ t) ≡ lines_onto (line ++ b ∷ []) t
unfolding lines_onto
octet_goes_on line b t feed ret = ap (onto_stretches line) (first_octet b t feed ret) ∙
    onto_octet line b (stretches_of t) (stretches_of_some t)

pub no_octets : (line : List ℕ) → lines_onto line [] ≡ line ∷ []
unfolding lines_onto
no_octets line = ap (onto_stretches line) (stretches_of_last [] no_lf_nil) ∙ ap (λ l. l ∷ []) (append-nil line)

-- ---- physical lines

-- a text is unfolded lines, at least one
onto_some : (line : List ℕ) (cs : List (List ℕ)) → unfolded_onto line cs ≡ [] → ⊥
onto_some line [] e = cc
onto_some line ([] ∷ cs) e = cc
onto_some line ((b ∷ c) ∷ cs) e =
    elim (is_blank b) as (λ v. cond v (unfolded_onto (line ++ c) cs) (line ∷ unfolded_onto (b ∷ c) cs) ≡ [] → ⊥)
    [ true ↦ λ h. onto_some (line ++ c) cs h | false ↦ λ h. cc ] e

pub lines_some : (t : List ℕ) → lines_onto [] t ≡ [] → ⊥
unfolding lines_onto
lines_some t = some (stretches_of t) (stretches_of_some t)
  where
    some : (cs : List (List ℕ)) → 0 < length cs → onto_stretches [] cs ≡ [] → ⊥
    some [] h e = absurd (omega arith)
    some (c ∷ cs) h e = onto_some c cs e

-- the unfolded lines of a cutting
pub lines_of_cutting : (text : List ℕ) (ps : List Piece) (last : List ℕ) → IsCutting text ps last →
    unfolded (stretches ps last) ≡ lines_onto [] text
unfolding lines_onto
lines_of_cutting text ps last cut = start (stretches ps last) ∙ ap (onto_stretches []) (sym (stretches_of_cut text ps last cut))
  where
    start : (cs : List (List ℕ)) → unfolded cs ≡ onto_stretches [] cs
    start [] = refl
    start (c ∷ cs) = refl

piece_first : (text : List ℕ) (end : Break) (t : List ℕ) → IsPiece (record { text = text; end = end }) →
    stretches_of (text ++ (break_bytes end ++ t)) ≡ text ∷ stretches_of t
piece_first text lf t is = stretches_of_break _ text text t is.no_lf refl (inr (refl, is.bare refl))
piece_first text crlf t is =
    stretches_of_break _ (text ++ 13 ∷ []) text t (All-append (λ x. x ≢ 10) text (13 ∷ []) is.no_lf no_lf_cr)
    (sym (append_assoc text (13 ∷ []) (10 ∷ t))) (inl refl)

texts : List Piece → List (List ℕ)
texts ps = map (λ p. p.text) ps

-- the stretches of physical lines and of a text after them
pieces_first : (ps : List Piece) (t : List ℕ) → AllByRecursion IsPiece ps → stretches_of (joined ps [] ++ t) ≡ texts ps ++ stretches_of t
unfolding texts
pieces_first [] t each = refl
pieces_first (p ∷ ps) t each =
    ap stretches_of (append_assoc p.text (break_bytes p.end ++ joined ps []) t ∙
    ap (λ x. p.text ++ x) (append_assoc (break_bytes p.end) (joined ps []) t))
    ∙ piece_first p.text p.end (joined ps [] ++ t) each.0 ∙ ap (λ cs. p.text ∷ cs) (pieces_first ps t each.1)

-- a text without a blank at its front begins a line
begins_line : (t : List ℕ) → LacksBlank t → (line : List ℕ) → unfolded_onto line (stretches_of t) ≡ line ∷ lines_onto [] t
unfolding lines_onto
begins_line t lacks line =
    ap (λ l. unfolded_onto l (stretches_of t)) (sym (append-nil line)) ∙ ap (onto_stretches line) (sym (feed_first t)) ∙
    feed_ends line t lacks

onto_behind : (t : List ℕ) → LacksBlank t → (line : List ℕ) (cs : List (List ℕ)) →
    unfolded_onto line (cs ++ stretches_of t) ≡ unfolded_onto line cs ++ lines_onto [] t
onto_behind t lacks line [] = begins_line t lacks line
onto_behind t lacks line ([] ∷ cs) = ap (λ ls. line ∷ ls) (onto_behind t lacks [] cs)
onto_behind t lacks line ((b ∷ c) ∷ cs) =
    elim (is_blank b) as (λ v. cond v (unfolded_onto (line ++ c) (cs ++ stretches_of t)) (line ∷
    unfolded_onto (b ∷ c) (cs ++ stretches_of t)) ≡ cond v (unfolded_onto (line ++ c) cs) (line ∷ unfolded_onto (b ∷ c) cs) ++
    lines_onto [] t) [
      | true ↦ onto_behind t lacks (line ++ c) cs
      | false ↦ ap (λ ls. line ∷ ls) (onto_behind t lacks (b ∷ c) cs)
    ]

-- the unfolded lines of physical lines, and then those of the text after them
pub lines_then : (ps : List Piece) (t : List ℕ) → AllByRecursion IsPiece ps → 0 < length ps → LacksBlank t →
    lines_onto [] (joined ps [] ++ t) ≡ unfolded (map (λ p. p.text) ps) ++ lines_onto [] t
unfolding lines_onto texts
lines_then [] t each some lacks = absurd (omega arith)
lines_then (p ∷ ps) t each some lacks = ap (onto_stretches []) (pieces_first (p ∷ ps) t each) ∙ onto_behind t lacks p.text (texts ps)

onto_blank : (line : List ℕ) (cs : List (List ℕ)) → unfolded_onto line (cs ++ (32 ∷ []) ∷ []) ≡ unfolded_onto line cs
onto_blank line [] = ap (λ l. l ∷ []) (append-nil line)
onto_blank line ([] ∷ cs) = ap (λ ls. line ∷ ls) (onto_blank [] cs)
onto_blank line ((b ∷ c) ∷ cs) =
    elim (is_blank b) as (λ v. cond v (unfolded_onto (line ++ c) (cs ++ (32 ∷ []) ∷ [])) (line ∷
    unfolded_onto (b ∷ c) (cs ++ (32 ∷ []) ∷ [])) ≡ cond v (unfolded_onto (line ++ c) cs) (line ∷ unfolded_onto (b ∷ c) cs)) [
      | true ↦ onto_blank (line ++ c) cs
      | false ↦ ap (λ ls. line ∷ ls) (onto_blank (b ∷ c) cs)
    ]

-- a blank after physical lines is folded away, so there is no further line
pub lines_blank : (ps : List Piece) → AllByRecursion IsPiece ps → 0 < length ps →
    lines_onto [] (joined ps [] ++ 32 ∷ []) ≡ unfolded (map (λ p. p.text) ps)
unfolding lines_onto texts
lines_blank [] each some = absurd (omega arith)
lines_blank (p ∷ ps) each some =
    ap (onto_stretches []) (pieces_first (p ∷ ps) (32 ∷ []) each ∙
    ap (λ cs. texts (p ∷ ps) ++ cs) (stretches_of_last (32 ∷ []) (All-cons (λ x. x ≢ 10) 32 [] (λ e. absurd (omega arith)) no_lf_nil)))
    ∙ onto_blank p.text (texts ps)
