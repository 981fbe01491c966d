-- The stretches of a text, one after another.
use Rattle.std.proofs.Common.{◌≡◌, ◌∙◌, sym, ap, refl, ℕ, ◌+◌, ◌<◌, Bool, true, false, cond, List, [], ◌∷◌, ◌++◌, length, arith, subst, inl}
use Rattle.std.proofs.Common.{inr}
use Rattle.std.specs.Prelude.{◌==◌, ◌||◌}
use Rattle.std.specs.List.{slice_split, All, onto_first}
use Rattle.std.proofs.lemmas.Bool.{ne_eqb}
use Rattle.std.proofs.lemmas.Bool.Decides.{eqb_tells}
use Rattle.std.proofs.lemmas.List.Splits.{slice_split_at, slice_split_none, slice_split-cons_no}
use Rattle.itip_lines.specs.UnfoldedLines.{HasNoLf, text_at, texts_of, numbered_onto, is_blank}
use Rattle.itip_lines.specs.Stretches.{StripsCr, BeginsWithBlank, LacksBlank, without_cr, without_crs, stretches_of, lines_onto}
use Rattle.itip_lines.specs.Stretches.{numbered_stretches, texts_onto}
use Rattle.itip_lines.proofs.Numbers.{texts_plain}

none_split : (x : List ℕ) → HasNoLf x → All (λ b. (b == 10) ≡ false) x
none_split x h = λ k d l. ne_eqb _ 10 (h k d l)

-- a text without LF is one stretch
pub stretches_of_last : (x : List ℕ) → HasNoLf x → stretches_of x ≡ x ∷ []
unfolding stretches_of
stretches_of_last x h = rw (slice_split_none (λ b. b == 10) x (none_split x h))

without_crs_more : (x : List ℕ) (cs : List (List ℕ)) → 0 < length cs → without_crs (x ∷ cs) ≡ without_cr x ∷ without_crs cs
without_crs_more x [] h = absurd (omega arith)
without_crs_more x (c ∷ cs) h = refl

slice_split_some : (t : List ℕ) → 0 < length (slice_split (λ b. b == 10) t)
slice_split_some [] = omega arith
slice_split_some (b ∷ bs) =
    elim (b == 10) as (λ v. 0 < length (cond v ([] ∷ slice_split (λ b. b == 10) bs) (onto_first b (slice_split (λ b. b == 10) bs))))
    [ true ↦ omega arith | false ↦ onto (slice_split (λ b. b == 10) bs) ]
  where
    onto : (cs : List (List ℕ)) → 0 < length (onto_first b cs)
    onto [] = omega arith
    onto (c ∷ cs) = omega arith

-- the first LF ends the first stretch
stretches_of_lf : (x rest : List ℕ) → HasNoLf x → stretches_of (x ++ 10 ∷ rest) ≡ without_cr x ∷ stretches_of rest
unfolding stretches_of
stretches_of_lf x rest h =
    ap without_crs (slice_split_at (λ b. b == 10) x 10 rest (none_split x h) refl)
    ∙ without_crs_more x (slice_split (λ b. b == 10) rest) (slice_split_some rest)

without_cr_end : (x : List ℕ) → without_cr (x ++ 13 ∷ []) ≡ x
without_cr_end [] = refl
without_cr_end (b ∷ []) = refl
without_cr_end (b ∷ (c ∷ bs)) = ap (λ ys. b ∷ ys) (without_cr_end (c ∷ bs))

without_cr_same : (x : List ℕ) → ((front : List ℕ) → x ≡ front ++ 13 ∷ [] → ⊥) → without_cr x ≡ x
without_cr_same [] h = refl
without_cr_same (b ∷ []) h = rw (ne_eqb b 13 (λ e. h [] (ap (λ v. v ∷ []) e)))
without_cr_same (b ∷ (c ∷ bs)) h = ap (λ ys. b ∷ ys) (without_cr_same (c ∷ bs) (λ front e. h (b ∷ front) (ap (λ ys. b ∷ ys) e)))

without_cr_strips : (x front : List ℕ) → StripsCr x front → without_cr x ≡ front
without_cr_strips x front (inl e) = ap without_cr e ∙ without_cr_end front
without_cr_strips x front (inr h) = without_cr_same x h.1 ∙ h.0

-- the first break ends the first stretch
pub stretches_of_break : (text x front rest : List ℕ) → HasNoLf x → text ≡ x ++ 10 ∷ rest → StripsCr x front → stretches_of text ≡ front ∷
    stretches_of rest
stretches_of_break text x front rest h e s =
    ap stretches_of e ∙ stretches_of_lf x rest h ∙ ap (λ y. y ∷ stretches_of rest) (without_cr_strips x front s)

without_crs_onto : (b : ℕ) (cs : List (List ℕ)) → (b == 13) ≡ false → without_crs (onto_first b cs) ≡ onto_first b (without_crs cs)
without_crs_onto b [] h = refl
without_crs_onto b (c ∷ []) h = refl
without_crs_onto b ([] ∷ (d ∷ ds)) h = rw h refl
without_crs_onto b ((x ∷ xs) ∷ (d ∷ ds)) h = refl

-- an octet that is in no break begins the first stretch
pub stretches_of_cons : (b : ℕ) (more : List ℕ) → (b == 10) ≡ false → (b == 13) ≡ false →
    stretches_of (b ∷ more) ≡ onto_first b (stretches_of more)
unfolding stretches_of
stretches_of_cons b more h k =
    ap without_crs (slice_split-cons_no (λ x. x == 10) b more h) ∙ without_crs_onto b (slice_split (λ x. x == 10) more) k

-- the first octet of the first stretch is the text's
first_stretch : (text : List ℕ) (b : ℕ) (c : List ℕ) (cs : List (List ℕ)) → stretches_of text ≡ (b ∷ c) ∷ cs → (more : List ℕ) ×
    (text ≡ b ∷ more)
unfolding stretches_of
first_stretch [] b c cs e = absurd cc
first_stretch (x ∷ xs) b c cs e =
    elim (x == 10) as (λ v. without_crs (cond v ([] ∷ slice_split (λ y. y == 10) xs) (onto_first x (slice_split (λ y. y == 10) xs))) ≡ (b ∷
    c) ∷ cs → (more : List ℕ) × (x ∷ xs ≡ b ∷ more)) [
      | true ↦ λ h. absurd (break_first (slice_split (λ y. y == 10) xs) h)
      | false ↦ λ h. (xs, ap (λ y. y ∷ xs) (octet_first (slice_split (λ y. y == 10) xs) h))
    ] e
  where
    break_first : (ds : List (List ℕ)) → without_crs ([] ∷ ds) ≡ (b ∷ c) ∷ cs → ⊥
    break_first [] h = cc
    break_first (d ∷ ds) h = cc

    octet_first : (ds : List (List ℕ)) → without_crs (onto_first x ds) ≡ (b ∷ c) ∷ cs → x ≡ b
    octet_first [] h = cc
    octet_first (d ∷ []) h = cc
    octet_first ([] ∷ (d ∷ ds)) h =
        elim (x == 13) as (λ v. cond v [] (x ∷ []) ∷ without_crs (d ∷ ds) ≡ (b ∷ c) ∷ cs → x ≡ b)
        [ true ↦ λ k. absurd cc | false ↦ λ k. cc ] h
    octet_first ((y ∷ ys) ∷ (d ∷ ds)) h = cc

onto_blank : (at : ℕ) (line : List ℕ) (b next : ℕ) (cs : List (List ℕ)) → 0 < length cs → is_blank b ≡ true →
    numbered_onto at line next (onto_first b cs) ≡ numbered_stretches at line next cs
onto_blank at line b next [] l h = absurd (omega arith)
onto_blank at line b next (c ∷ cs) l h = rw h refl

pub stretches_of_some : (text : List ℕ) → 0 < length (stretches_of text)
unfolding stretches_of
stretches_of_some text = some (slice_split (λ b. b == 10) text) (slice_split_some text)
  where
    some : (cs : List (List ℕ)) → 0 < length cs → 0 < length (without_crs cs)
    some [] h = h
    some (c ∷ []) h = omega arith
    some (c ∷ (d ∷ ds)) h = omega arith

blank_octet : (b : ℕ) → is_blank b ≡ true → ((b == 10) ≡ false) × ((b == 13) ≡ false)
blank_octet b h = elim (eqb_tells b 32) [
  | inl e ↦ (rw e.1 refl, rw e.1 refl)
  | inr n ↦ elim (eqb_tells b 9) [
    | inl e ↦ (rw e.1 refl, rw e.1 refl)
    | inr m ↦ absurd (let k : (false || false) ≡ true =
        subst (λ (v : Bool). (v || false) ≡ true) n.0 (subst (λ (v : Bool). ((b == 32) || v) ≡ true) m.0 h) in cc)
  ]
]

-- a fold: the stretch continues the line, and so does what follows the blank
pub texts_onto_fold : (at : ℕ) (line : List ℕ) (here : ℕ) (text s behind more : List ℕ) → stretches_of text ≡ s ∷ stretches_of behind →
    BeginsWithBlank behind more → texts_onto at line here text ≡ texts_onto at (line ++ s) (here + 1) more
unfolding texts_onto
texts_onto_fold at line here text s behind more e (b, is, blank) =
    let o = blank_octet b blank in
    ap (numbered_stretches at line here) (e ∙ ap (λ t. s ∷ stretches_of t) is)
    ∙ ap (numbered_onto at (line ++ s) (here + 1)) (stretches_of_cons b more o.0 o.1)
    ∙ onto_blank at (line ++ s) b (here + 1) (stretches_of more) (stretches_of_some more) blank

pub lines_onto_fold : (line text s behind more : List ℕ) → stretches_of text ≡ s ∷ stretches_of behind → BeginsWithBlank behind more →
    lines_onto line text ≡ lines_onto (line ++ s) more
lines_onto_fold line text s behind more e blank = sym (texts_plain 0 line 0 text) ∙
    ap texts_of (texts_onto_fold 0 line 0 text s behind more e blank) ∙ texts_plain 0 (line ++ s) (0 + 1) more

-- a break: the line ends with the stretch, and the next one begins after the break
pub texts_onto_break : (at : ℕ) (line : List ℕ) (here : ℕ) (text s behind : List ℕ) → stretches_of text ≡ s ∷ stretches_of behind →
    LacksBlank behind → texts_onto at line here text ≡ text_at at (line ++ s) ∷ texts_onto (here + 1) [] (here + 1) behind
unfolding texts_onto
texts_onto_break at line here text s behind e lacks =
    ap (numbered_stretches at line here) e ∙ ends (line ++ s) (here + 1) (stretches_of behind) (λ b c cs is. let f =
    first_stretch behind b c cs is in lacks b f.0 f.1)
  where
    ends : (l : List ℕ) (next : ℕ) (ds : List (List ℕ)) →
        ((b : ℕ) (c : List ℕ) (cs : List (List ℕ)) → ds ≡ (b ∷ c) ∷ cs → is_blank b ≡ false) → numbered_onto at l next ds ≡ text_at at l ∷
        numbered_stretches next [] next ds
    ends l next [] h = refl
    ends l next ([] ∷ ds) h = refl
    ends l next ((b ∷ c) ∷ ds) h = rw (h b c ds refl) refl

pub lines_onto_break : (line text s behind : List ℕ) → stretches_of text ≡ s ∷ stretches_of behind → LacksBlank behind →
    lines_onto line text ≡ (line ++ s) ∷ lines_onto [] behind
lines_onto_break line text s behind e lacks =
    sym (texts_plain 0 line 0 text) ∙ ap texts_of (texts_onto_break 0 line 0 text s behind e lacks)
    ∙ ap (λ ls. (line ++ s) ∷ ls) (texts_plain (0 + 1) [] (0 + 1) behind)

-- the end of the text
pub texts_onto_last : (at : ℕ) (line : List ℕ) (here : ℕ) (text s : List ℕ) → stretches_of text ≡ s ∷ [] →
    texts_onto at line here text ≡ text_at at (line ++ s) ∷ []
unfolding texts_onto
texts_onto_last at line here text s e = ap (numbered_stretches at line here) e
