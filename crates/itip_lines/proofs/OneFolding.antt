-- The pieces of a text are the only ones: each is as long as it can be.
use Rattle.std.proofs.Common.{◌≡◌, ◌∙◌, sym, ap, refl, ℕ, ◌+◌, ◌<◌, true, List, [], ◌∷◌, ◌++◌, length, arith, subst, inl, inr, ◌⊎◌}
use Rattle.std.proofs.Common.{append_assoc, length-append}
use Rattle.std.specs.Str.{IsUtf8}
use Rattle.std.proofs.lemmas.Bool.{and_parts}
use Rattle.std.proofs.lemmas.List.{append-nil, take_at, drop_at}
use Rattle.std.proofs.lemmas.Str.{IsUtf8-append, IsUtf8-drop, IsCharBoundary-from_take}
use lib.Utf8.{encode, encodes, scalars}
use Rattle.itip_lines.specs.FoldedPieces.{IsFoldedPiece, IsFull, AreFoldedPieces}
use Rattle.itip_lines.proofs.Utf8Parts.{utf8_behind}

-- what follows a text in UTF-8
utf8_after : (a b : List ℕ) → IsUtf8 (a ++ b) → IsUtf8 a → IsUtf8 b
utf8_after a b u v =
    subst IsUtf8 (drop_at a b (length a) refl)
    (IsUtf8-drop (a ++ b) (length a) u (IsCharBoundary-from_take (a ++ b) (length a) u (omega (arith, length-append a b))
    (subst IsUtf8 (sym (take_at a b (length a) refl)) v)))

rest_utf8 : (text : List ℕ) (ps : List (List ℕ)) → AreFoldedPieces (32 ∷ []) text ps → IsUtf8 text
rest_utf8 text [] h = absurd h
rest_utf8 text (p ∷ []) h = utf8_behind 32 text (subst IsUtf8 h.0 h.1.utf8) (omega arith)
rest_utf8 text (p ∷ (q ∷ qs)) h =
    subst IsUtf8 (sym h.2) (IsUtf8-append h.0 h.1 (utf8_behind 32 h.0 (subst IsUtf8 h.3 h.4.utf8) (omega arith))
    (rest_utf8 h.1 (q ∷ qs) h.6))

-- no more characters fit after a full piece
over_full : (piece rest g behind : List ℕ) → IsFull piece rest → rest ≡ g ++ behind → IsUtf8 g → 0 < length g → 75 < length piece + length g
over_full piece rest g behind full e u some = begun u.0 u.1.0 u.1.1
  where
    begun : (ds : List ℕ) → scalars ds ≡ true → encodes ds ≡ g → 75 < length piece + length g
    begun [] k same = absurd (omega (arith, some, ap length same))
    begun (c ∷ ds) k same =
        let first : rest ≡ encode c ++ (encodes ds ++ behind) = e ∙ ap (λ t. t ++ behind) (sym same) ∙
        append_assoc (encode c) (encodes ds) behind in
        omega (arith, full.over c (encodes ds ++ behind) (and_parts _ _ k).0 first, ap length same, length-append (encode c) (encodes ds))

-- of two prefixes of one text one begins with the other
fronts : (a r b s : List ℕ) → a ++ r ≡ b ++ s → ((g : List ℕ) × (b ≡ a ++ g) × (r ≡ g ++ s)) ⊎ ((g : List ℕ) × (a ≡ b ++ g) × (s ≡ g ++ r))
fronts [] r b s e = inl (b, refl, e)
fronts (x ∷ a) r [] s e = inr (x ∷ a, refl, sym e)
fronts (x ∷ a) r (y ∷ b) s e = more (first_is x y (a ++ r) (b ++ s) e) (fronts a r b s (others_are x y (a ++ r) (b ++ s) e))
  where
    first_is : (x y : ℕ) (xs ys : List ℕ) → x ∷ xs ≡ y ∷ ys → x ≡ y
    first_is x y xs ys e = cc

    others_are : (x y : ℕ) (xs ys : List ℕ) → x ∷ xs ≡ y ∷ ys → xs ≡ ys
    others_are x y xs ys e = cc

    more : x ≡ y → ((g : List ℕ) × (b ≡ a ++ g) × (r ≡ g ++ s)) ⊎ ((g : List ℕ) × (a ≡ b ++ g) × (s ≡ g ++ r)) →
        ((g : List ℕ) × (y ∷ b ≡ x ∷ a ++ g) × (r ≡ g ++ s)) ⊎ ((g : List ℕ) × (x ∷ a ≡ y ∷ b ++ g) × (s ≡ g ++ r))
    more h (inl k) = inl (k.0, ap (λ z. z ∷ b) (sym h) ∙ ap (λ zs. x ∷ zs) k.1, k.2)
    more h (inr k) = inr (k.0, ap (λ z. z ∷ a) h ∙ ap (λ zs. y ∷ zs) k.1, k.2)

-- a full piece is no prefix of another piece
no_longer : (lead a r b s g : List ℕ) → IsFoldedPiece (lead ++ a) → IsFull (lead ++ a) r → IsFoldedPiece (lead ++ b) → b ≡ a ++ g →
    r ≡ g ++ s → g ≡ []
no_longer lead a r b s [] first full second e f = refl
no_longer lead a r b s (x ∷ g) first full second e f =
    let whole : lead ++ b ≡ lead ++ a ++ (x ∷ g) = ap (λ t. lead ++ t) e ∙ sym (append_assoc lead a (x ∷ g)) in
    let u = utf8_after (lead ++ a) (x ∷ g) (subst IsUtf8 whole second.utf8) first.utf8 in
    absurd (omega (
      arith,
      over_full (lead ++ a) r (x ∷ g) s full f u (omega arith),
      second.short,
      ap length whole,
      length-append (lead ++ a) (x ∷ g),
    ))

same_front : (lead a r b s : List ℕ) → a ++ r ≡ b ++ s → IsFoldedPiece (lead ++ a) → IsFull (lead ++ a) r → IsFoldedPiece (lead ++ b) →
    IsFull (lead ++ b) s → (a ≡ b) × (r ≡ s)
same_front lead a r b s e first full second other =
    elim (fronts a r b s e) [
      | inl k ↦
          let none = no_longer lead a r b s k.0 first full second k.1 k.2 in
          (sym (k.1 ∙ ap (λ g. a ++ g) none ∙ append-nil a), k.2 ∙ ap (λ g. g ++ s) none)
      | inr k ↦
          let none = no_longer lead b s a r k.0 second other first k.1 k.2 in
          (k.1 ∙ ap (λ g. b ++ g) none ∙ append-nil b, sym (k.2 ∙ ap (λ g. g ++ r) none))
    ]

-- the last piece of one folding is not cut in another
last_is_whole : (lead text p q r : List ℕ) (rs : List (List ℕ)) → AreFoldedPieces lead text (p ∷ []) →
    AreFoldedPieces lead text (q ∷ (r ∷ rs)) → ⊥
last_is_whole lead text p q r rs h k =
    let over = over_full q k.1 k.1 [] k.5 (sym (append-nil k.1)) (rest_utf8 k.1 (r ∷ rs) k.6) k.5.some in
    absurd (omega (
      arith,
      over,
      h.1.short,
      ap length h.0,
      length-append lead text,
      ap length k.2,
      length-append k.0 k.1,
      ap length k.3,
      length-append lead k.0,
    ))

pub one_folding : (lead text : List ℕ) (ps qs : List (List ℕ)) → AreFoldedPieces lead text ps → AreFoldedPieces lead text qs → ps ≡ qs
one_folding lead text [] qs h k = absurd h
one_folding lead text (p ∷ ps) [] h k = absurd k
one_folding lead text (p ∷ []) (q ∷ []) h k = ap (λ x. x ∷ []) (h.0 ∙ sym k.0)
one_folding lead text (p ∷ []) (q ∷ (r ∷ rs)) h k = absurd (last_is_whole lead text p q r rs h k)
one_folding lead text (p ∷ (r ∷ rs)) (q ∷ []) h k = absurd (last_is_whole lead text q p r rs k h)
one_folding lead text (p ∷ (o ∷ os)) (q ∷ (r ∷ rs)) h k =
    let same = same_front lead h.0 h.1 k.0 k.1 (sym h.2 ∙ k.2) (subst IsFoldedPiece h.3 h.4) (subst (λ (x : List ℕ). IsFull x h.1) h.3 h.5)
    (subst IsFoldedPiece k.3 k.4) (subst (λ (x : List ℕ). IsFull x k.1) k.3 k.5) in
    let more = one_folding (32 ∷ []) h.1 (o ∷ os) (r ∷ rs) h.6
    (subst (λ (t : List ℕ). AreFoldedPieces (32 ∷ []) t (r ∷ rs)) (sym same.1) k.6) in
    ap (λ x. x ∷ (o ∷ os)) (h.3 ∙ ap (λ t. lead ++ t) same.0 ∙ sym k.3) ∙ ap (λ xs. q ∷ xs) more
