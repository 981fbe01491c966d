-- Groups of batches, and the batches that they have.
use Rattle.std.proofs.Common.{◌≡◌, ℕ, ◌+◌, List, [], ◌∷◌, ◌++◌, length, drop, refl, ap, sym, ◌∙◌, subst, arith, append_assoc, append-nil}
use Rattle.std.proofs.Common.{length-append}
use Rattle.std.proofs.lemmas.List.{drop_all}
use mathlib.Core.List.{IsPrefix}
use Rattle.itip_running.specs.History.{Items, Group, batches_of}

pub batches_more : (gs hs : List Group) → batches_of (gs ++ hs) ≡ batches_of gs ++ batches_of hs
batches_more [] hs = refl
batches_more (g ∷ gs) hs = ap (λ (l : List Items). g ++ l) (batches_more gs hs) ∙ sym (append_assoc g (batches_of gs) (batches_of hs))

pub batches_push : (gs : List Group) (g : Group) → batches_of (gs ++ g ∷ []) ≡ batches_of gs ++ g
batches_push gs g = batches_more gs (g ∷ []) ∙ ap (λ (l : List Items). batches_of gs ++ l) (append-nil g)

-- if some groups begin others, so do their batches
pub prefix_batches : (xs ys : List Group) → IsPrefix xs ys → IsPrefix (batches_of xs) (batches_of ys)
prefix_batches xs ys p = (batches_of p.0, sym (batches_more xs p.0) ∙ ap batches_of p.1)

-- groups that begin others still do when these go on
pub begins_more : (gs all : List Group) (g : Group) → all ≡ gs ++ drop (length gs) all →
    all ++ g ∷ [] ≡ gs ++ drop (length gs) (all ++ g ∷ [])
begins_more [] all g begins = refl
begins_more (x ∷ gs) [] g begins = absurd (cc begins)
begins_more (x ∷ gs) (y ∷ all) g begins =
    let rest : all ≡ gs ++ drop (length gs) all = cc begins in
    let first : y ≡ x = cc begins in
    cc (first, begins_more gs all g rest)

pub begins_all : (gs all : List Group) → gs ≡ all → all ≡ gs ++ drop (length gs) all
begins_all gs all same =
    subst (λ (l : List Group). all ≡ l ++ drop (length l) all) (sym same)
    (sym (ap (λ (l : List Group). all ++ l) (drop_all (length all) all (omega arith)) ∙ append-nil all))

-- if one more batch is fresh, one more is pending
pub whole_more : (all fresh shown pending : List Items) (b : Items) → all ++ fresh ≡ shown ++ pending →
    all ++ (fresh ++ b ∷ []) ≡ shown ++ (pending ++ b ∷ [])
whole_more all fresh shown pending b whole =
    sym (append_assoc all fresh (b ∷ [])) ∙ (ap (λ (l : List Items). l ++ b ∷ []) whole ∙ append_assoc shown pending (b ∷ []))

-- what is fresh becomes a group
pub whole_called : (gs : List Group) (fresh : Group) (none : List Items) (all : List Items) → none ≡ [] → batches_of gs ++ fresh ≡ all →
    batches_of (gs ++ fresh ∷ []) ++ none ≡ all
whole_called gs fresh none all is_none whole =
    ap (λ (l : List Items). batches_of (gs ++ fresh ∷ []) ++ l) is_none
    ∙ (append-nil (batches_of (gs ++ fresh ∷ [])) ∙ (batches_push gs fresh ∙ whole))

pub whole_shown : (gs all : List Group) (fresh pending : List Items) → gs ≡ all → fresh ≡ [] → pending ≡ [] →
    batches_of all ++ fresh ≡ batches_of gs ++ pending
whole_shown gs all fresh pending same no_fresh no_pending =
    ap (λ (l : List Group). batches_of l ++ fresh) (sym same) ∙ ap (λ (l : List Items). batches_of gs ++ l) (no_fresh ∙ sym no_pending)

pub none_fresh_left : (all fresh rest : List Items) → fresh ≡ [] → all ++ fresh ≡ rest → all ≡ rest
none_fresh_left all fresh rest none whole = sym (append-nil all) ∙ (ap (λ (l : List Items). all ++ l) (sym none) ∙ whole)

-- the numbers of batches on both sides
pub total_is : (all fresh shown pending : List Items) (total : ℕ) → all ++ fresh ≡ shown ++ pending →
    total ≡ length shown + length pending → total ≡ length all + length fresh
total_is all fresh shown pending total whole is =
    let lengths : length all + length fresh ≡ length shown + length pending =
    sym (length-append all fresh) ∙ (ap length whole ∙ length-append shown pending) in
    omega (arith, lengths, is)
