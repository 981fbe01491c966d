-- The order of lists that are given in pieces.
use Rattle.std.proofs.Common.{◌≡◌, ◌∙◌, sym, ap, refl, ℕ, ◌<◌, List, []}
use Rattle.std.proofs.Common.{◌∷◌, ◌++◌, length, take, drop, take-append-drop, append_assoc, arith}
use Rattle.std.specs.Cmp.Lexicographic.{slice_cmp}
use Rattle.std.specs.Ordering.{nat_cmp, ordering_then, ordering_reverse}
use Rattle.std.specs.declared.cmp.Ordering.{Ordering}
use Rattle.std.specs.declared.cmp.Ordering.TheVariants.{Less, Equal, Greater}
use Rattle.std.proofs.lemmas.Cmp.{nat_list_cmp_total}

then_assoc : (o p q : Ordering) → ordering_then (ordering_then o p) q ≡ ordering_then o (ordering_then p q)
then_assoc Less p q = refl
then_assoc Equal p q = refl
then_assoc Greater p q = refl

-- pieces of one length, and what follows them
pub both_pieces : (ps qs xs ys : List ℕ) → length ps ≡ length xs →
    slice_cmp nat_cmp (ps ++ qs) (xs ++ ys) ≡ ordering_then (slice_cmp nat_cmp ps xs) (slice_cmp nat_cmp qs ys)
both_pieces [] qs [] ys e = refl
both_pieces [] qs (x ∷ xs) ys e = absurd (omega (arith, e))
both_pieces (a ∷ ps) qs [] ys e = absurd (omega (arith, e))
both_pieces (a ∷ ps) qs (x ∷ xs) ys e =
    ap (λ (o : Ordering). ordering_then (nat_cmp a x) o) (both_pieces ps qs xs ys (omega (arith, e))) ∙
    sym (then_assoc (nat_cmp a x) (slice_cmp nat_cmp ps xs) (slice_cmp nat_cmp qs ys))

-- what follows a piece that is longer decides nothing
pub longer_piece : (ps xs ys : List ℕ) → length ps < length xs → slice_cmp nat_cmp ps (xs ++ ys) ≡ slice_cmp nat_cmp ps xs
longer_piece [] [] ys h = absurd (omega (arith, h))
longer_piece [] (x ∷ xs) ys h = refl
longer_piece (a ∷ ps) [] ys h = absurd (omega (arith, h))
longer_piece (a ∷ ps) (x ∷ xs) ys h = ap (λ (o : Ordering). ordering_then (nat_cmp a x) o) (longer_piece ps xs ys (omega (arith, h)))

-- a list is what a cut of it gives
pub pieces_of : (n : ℕ) (xs same more : List ℕ) → same ≡ take n xs → more ≡ drop n xs → xs ≡ same ++ more
pieces_of n xs same more front back =
    sym (ap (λ (list : List ℕ). list ++ more) front ∙ ap (λ (list : List ℕ). take n xs ++ list) back ∙ take-append-drop n xs)

-- the first piece of the first is as long as a front of the second's
pub second_longer : (ps qs same more ys : List ℕ) → length same ≡ length ps →
    slice_cmp nat_cmp (ps ++ qs) ((same ++ more) ++ ys) ≡ ordering_then (slice_cmp nat_cmp ps same) (slice_cmp nat_cmp qs (more ++ ys))
second_longer ps qs same more ys e =
    ap (λ (list : List ℕ). slice_cmp nat_cmp (ps ++ qs) list) (append_assoc same more ys) ∙ both_pieces ps qs same (more ++ ys) (sym e)

-- the first piece of the second is as long as a front of the first's
pub first_longer : (same more qs xs ys : List ℕ) → length same ≡ length xs → slice_cmp nat_cmp ((same ++ more) ++ qs) (xs ++ ys)
    ≡ ordering_then (slice_cmp nat_cmp same xs) (ordering_reverse (slice_cmp nat_cmp ys (more ++ qs)))
first_longer same more qs xs ys e =
    ap (λ (list : List ℕ). slice_cmp nat_cmp list (xs ++ ys)) (append_assoc same more qs) ∙ both_pieces same (more ++ qs) xs ys e ∙
    ap (λ (o : Ordering). ordering_then (slice_cmp nat_cmp same xs) o) (nat_list_cmp_total.antisymm (more ++ qs) ys)
