-- Whether a desk is that of some steps is decidable, so a desk that merely is one (∥ ∥₁) is one.
use Rattle.std.proofs.Common.{◌≡◌, ℕ, ◌+◌, ◌<◌, List, [], ◌∷◌, ◌++◌, ◌↔◌, ◌⊎◌, inl, inr, refl, sym, subst, ◌∙◌, arith, true, false, nat_lt}
use Rattle.std.specs.List.{Contains}
use Rattle.std.specs.Coded.{coded_ℕ}
use Rattle.std.proofs.lemmas.Bool.Decides.{nat_tests}
use Rattle.std.proofs.lemmas.List.Elements.{Contains-append_left}
use Rattle.std.proofs.Math.Logic.{∥∥₁_elim}
use base.Stored.{Coded-set}
use Rattle.itip_items.specs.KeyParts.{uid_of}
use Rattle.itip_items.specs.declared.item.Item.{Item}
use Rattle.itip_items.proofs.Keys.{told_bytes}
use Rattle.itip_state.specs.Kept.{AreKept, IsKept, KeepSame, Moves}
use Rattle.itip_state.proofs.Members.{by_bool, none_in, cons_cases}
use Rattle.itip_desk.specs.Desk.{Shown, IsDeskOf, CarriesAfter}
use Rattle.itip_desk.specs.HeardSteps.{heard}
use Rattle.itip_desk.specs.Ticks.{TickStep, Ticks, MovedAfter}
use Rattle.itip_desk.proofs.Deltas.{carries}
use Rattle.itip_desk.proofs.Steps.{tick_once}
use Rattle.itip_desk.proofs.Told.{told_in, told_kept}

told_same : (x y : List Item) (i : Item) → (IsKept x i ↔ IsKept y i) ⊎ (¬ (IsKept x i ↔ IsKept y i))
told_same x y i = elim (told_kept x i) [
  | inl a ↦ elim (told_kept y i) [ inl b ↦ inl (λ k. b, λ k. a) | inr not ↦ inr (λ same. not (same.0 a)) ]
  | inr none ↦ elim (told_kept y i) [ inl b ↦ inr (λ same. none (same.1 b)) | inr not ↦ inl (λ k. absurd (none k), λ k. absurd (not k)) ]
]

-- two sets don't keep the same items of a UID, or they keep the same ones among these
differ_in : (uid : List ℕ) (x y among : List Item) → (¬ KeepSame uid x y) ⊎
    ((i : Item) → Contains among i → uid_of i.key ≡ uid → IsKept x i ↔ IsKept y i)
differ_in uid x y [] = inr (λ i h about. absurd (none_in i h))
differ_in uid x y (j ∷ js) = elim (differ_in uid x y js) [
  | inl differ ↦ inl differ
  | inr rest ↦ elim (told_same x y j) [
    | inl same ↦ inr (λ i h. elim (cons_cases j js i h)
        [ inl e ↦ λ about. subst (λ (k : Item). IsKept x k ↔ IsKept y k) e same | inr there ↦ rest i there ])
    | inr not ↦ elim (told_bytes (uid_of j.key) uid) [
      | inl about ↦ inl (λ same. not (same j about))
      | inr other ↦ inr (λ i h. elim (cons_cases j js i h)
          [ inl e ↦ λ about. absurd (other (subst (λ (k : Item). uid_of k.key ≡ uid) (sym e) about)) | inr there ↦ rest i there ])
    ]
  ]
]

-- what was not heard is not kept
unheard : (before step : List Item) (i : Item) → (¬ Contains (before ++ step) i) → IsKept before i ↔ IsKept (before ++ step) i
unheard before step i none = (λ k. absurd (none (Contains-append_left before step i k.best.is_heard)), λ k. absurd (none k.best.is_heard))

told_moves : (before step : List Item) (uid : List ℕ) → Moves before step uid ⊎ KeepSame uid before (before ++ step)
told_moves before step uid = elim (differ_in uid before (before ++ step) (before ++ step)) [
  | inl moves ↦ inl moves
  | inr all ↦ inr (λ i about. elim (told_in (before ++ step) i) [ inl h ↦ all i h about | inr none ↦ unheard before step i none ])
]

some_moves : (before step among : List Item) → ((uid : List ℕ) × Moves before step uid) ⊎
    ((i : Item) → Contains among i → KeepSame (uid_of i.key) before (before ++ step))
some_moves before step [] = inr (λ i h. absurd (none_in i h))
some_moves before step (j ∷ js) = elim (told_moves before step (uid_of j.key)) [
  | inl moves ↦ inl (uid_of j.key, moves)
  | inr same ↦ elim (some_moves before step js) [
    | inl some ↦ inl some
    | inr all ↦ inr (λ i h. elim (cons_cases j js i h)
        [ inl e ↦ subst (λ (k : Item). KeepSame (uid_of k.key) before (before ++ step)) e same | inr there ↦ all i there ])
  ]
]

-- each step leaves a tick
next_of : (before step : List Item) (tick : ℕ) → (next : ℕ) × TickStep before step tick next
next_of before step tick = elim (some_moves before step (before ++ step)) [
  | inl moves ↦ (tick + 1, inl (moves, refl))
  | inr all ↦ (
    tick,
    inr (
      λ uid i about. elim (told_in (before ++ step) i)
          [ inl h ↦ all i h i refl | inr none ↦ unheard before step i none ],
      refl,
    ),
  )
]

ticks_of : (before : List Item) (tick : ℕ) (steps : List (List Item)) → (last : ℕ) × Ticks before tick steps last
ticks_of before tick [] = (tick, refl)
ticks_of before tick (step ∷ steps) = let next = next_of before step tick in let rest = ticks_of (before ++ step) next.0 steps in
    (rest.0, (next.0, next.1, rest.1))

ticks_once : (before : List Item) (tick : ℕ) (steps : List (List Item)) (m n : ℕ) → Ticks before tick steps m → Ticks before tick steps n →
    m ≡ n
ticks_once before tick [] m n a b = a ∙ sym b
ticks_once before tick (step ∷ steps) m n (a, one, rest) (b, two, others) =
    ticks_once (before ++ step) a steps m n rest
    (subst (λ (t : ℕ). Ticks (before ++ step) t steps n) (tick_once before step tick b a two one) others)

above : (since next : ℕ) → nat_lt since next ≡ true → since < next
above since next e = grind (arith, nat_tests)

not_above : (since m next : ℕ) → m ≡ next → nat_lt since next ≡ false → since < m → ⊥
not_above since m next e f l = grind (arith, nat_tests)

told_moved : (before : List Item) (tick : ℕ) (steps : List (List Item)) (since : ℕ) (uid : List ℕ) →
    MovedAfter before tick steps since uid ⊎ (¬ MovedAfter before tick steps since uid)
told_moved before tick [] since uid = inr (λ moved. moved)
told_moved before tick (step ∷ steps) since uid = elim (told_moved (before ++ step) next.0 steps since uid) [
  | inl later ↦ inl (next.0, next.1, inr later)
  | inr never ↦ elim (told_moves before step uid) [
    | inl moves ↦ by_bool (nat_lt since next.0) (MovedAfter before tick (step ∷ steps) since uid ⊎
        (¬ MovedAfter before tick (step ∷ steps) since uid))
        (λ k. inl (next.0, next.1, inl (moves, above since next.0 k)))
        (λ k. inr (neither never (λ m one here. not_above since m next.0 (tick_once before step tick m next.0 one next.1) k here.1)))
    | inr same ↦ inr (neither never (λ m one here. here.0 same))
  ]
]
  where
    next : (n : ℕ) × TickStep before step tick n
    next = next_of before step tick

    neither : (¬ MovedAfter (before ++ step) next.0 steps since uid) →
        ((m : ℕ) → TickStep before step tick m → Moves before step uid × (since < m) → ⊥) →
        MovedAfter before tick (step ∷ steps) since uid → ⊥
    neither never here (m, one, inl now) = here m one now
    neither never here (m, one, inr later) =
        never (subst (λ (t : ℕ). MovedAfter (before ++ step) t steps since uid) (tick_once before step tick m next.0 one next.1) later)

pub desk_of : (steps : List (List Item)) (start : ℕ) (desk : Shown) → ∥ IsDeskOf steps start desk ∥₁ → IsDeskOf steps start desk
desk_of steps start desk is = record { kept = kept; tick = tick; changed = λ since uid. (moved since uid, carried since uid) }
  where
    none : (IsDeskOf steps start desk → ⊥) → ⊥
    none not = ∥∥₁_elim is (λ (x y : ⊥). absurd x) not

    kept : AreKept desk.kept (heard steps)
    kept i = (
      λ h. elim (told_kept (heard steps) i) [ inl k ↦ k | inr not ↦ absurd (none (λ d. not ((d.kept i).0 h))) ],
      λ k. elim (told_in desk.kept i) [ inl h ↦ h | inr not ↦ absurd (none (λ d. not ((d.kept i).1 k))) ],
    )

    tick : Ticks [] start steps desk.tick
    tick =
        let at = ticks_of [] start steps in
        subst (λ (t : ℕ). Ticks [] start steps t)
        (∥∥₁_elim is (Coded-set coded_ℕ at.0 desk.tick) (λ d. ticks_once [] start steps at.0 desk.tick at.1 d.tick)) at.1

    moved : (since : ℕ) (uid : List ℕ) → CarriesAfter desk.changed since uid → MovedAfter [] start steps since uid
    moved since uid c = elim (told_moved [] start steps since uid)
        [ inl m ↦ m | inr not ↦ absurd (none (λ d. not ((d.changed since uid).0 c))) ]

    carried : (since : ℕ) (uid : List ℕ) → MovedAfter [] start steps since uid → CarriesAfter desk.changed since uid
    carried since uid m =
        elim (carries desk.changed since uid) [ inl c ↦ c | inr not ↦ absurd (none (λ d. not ((d.changed since uid).1 m))) ]
