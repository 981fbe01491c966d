-- Items that a newer series item makes dead, and the set by which they are found.
use Rattle.std.proofs.Common.{◌≡◌, ◌≤◌, ◌<◌, ◌⊎◌, ℕ, List, [], ◌∷◌, ◌++◌, refl, sym, ◌∙◌, ap, subst, inl, inr, Bool, true, false, Option}
use Rattle.std.proofs.Common.{Some, None, arith, append-nil}
use Rattle.std.specs.Prelude.{cond, ◌&&◌, ◌||◌, nat_lt}
use Rattle.std.specs.List.{Contains, AllByRecursion, list_any}
use Rattle.std.specs.List.Sorted.{IsStrictlySortedBy}
use Rattle.std.specs.Map.{keys_of}
use Rattle.std.specs.Ordering.{nat_cmp, ordering_then, is_eq, is_gt, MatchOrdering}
use Rattle.std.specs.Cmp.{IsTotalOrder}
use Rattle.std.specs.declared.cmp.Ordering.{Ordering}
use Rattle.std.specs.declared.cmp.Ordering.TheVariants.{Less, Equal, Greater}
use Rattle.std.specs.BTreeMap.{is_at}
use Rattle.std.specs.BTreeSet.{Updates}
use Rattle.std.proofs.lemmas.Cmp.{ranked, then_total, on_total, nat_cmp_total}
use Rattle.std.proofs.lemmas.Bool.Decides.{nat_tests}
use Rattle.std.proofs.lemmas.List.Elements.{Contains-append_cases, Contains-append_left, Contains-append_right}
use Rattle.std.proofs.lemmas.Map.Keys.{sorted_head, sorted_tail}
use Rattle.std.proofs.lemmas.Map.Lookups.{CmpEqualImpliesEq, exact_unsigned, exact_pairs}
use Rattle.itip_join.specs.declared.lift.Lift.{Lift}
use Rattle.itip_join.specs.declared.lift.Lift.TheVariants.{Nothing, Known}
use Rattle.itip_join.specs.KeyByKey.{value_at, all_alive, IsMapBelowUnder}
use Rattle.itip_join.specs.Killed.{found_alive}
use Rattle.itip_join.specs.Lifted.{IsLiftedBelow, IsLiftedBelow-refl, IsLiftedBelow-comparable}
use Rattle.itip_join.specs.Optional.{IsBelowUnder, alive_part}
use Rattle.itip_join.proofs.Under.{below_kept, all_alive-from_values}
use Rattle.itip_items.specs.declared.item.Item.{Item}
use Rattle.itip_items.specs.declared.key.Key.{Key}
use Rattle.itip_state.specs.Slots.{slot_cmp, slot_total, slot_exact}
use Rattle.itip_state.specs.Held.{Best, UidState, is_killed, can_die, series_alone, IsReduced}
use Rattle.itip_state.specs.DyingLaws.{IsNoLater, kills_below, less_from}
use Rattle.itip_state.specs.Joined.{IsJoined}
use Rattle.itip_state.specs.Due.{DueSet, due_cmp, has, IsDue, AreDue, sequence_of, IsLeft, AreAlive, is_under, item_under, items_under}
use Rattle.itip_state.specs.Due.{AddsUnder}
use Rattle.itip_state.proofs.Members.{by_bool, none_in, cons_cases, cons_first, cons_later}
use Rattle.itip_state.proofs.Lookups.{one_key, itself, at_head, from_tail}
use Rattle.itip_state.proofs.Joining.{no_later_itself, no_later_one, no_later_same, uid_state_below_itself}

some_one : {X : Type 0} (x y : X) → Some x ≡ Some y → x ≡ y
some_one x y e = cc

none_some : {X : Type 0} (x : X) → None ≡ Some x → ⊥
none_some x e = cc

-- ---- the order of the set
pub due_total : IsTotalOrder due_cmp
due_total = then_total (on_total (λ (p : ℕ × Key). p.0) nat_cmp_total) (on_total (λ (p : ℕ × Key). p.1) slot_total)

pub due_exact : CmpEqualImpliesEq due_cmp
due_exact = exact_pairs nat_cmp slot_cmp exact_unsigned slot_exact

-- what does not come after another has no greater sequence
pub pair_low : (a b : ℕ × Key) → is_gt (due_cmp a b) ≡ false → a.0 ≤ b.0
pair_low a b up = by (nat_cmp a.0 b.0) refl
  where
    at : (o : Ordering) → nat_cmp a.0 b.0 ≡ o → MatchOrdering o (a.0 < b.0) (a.0 ≡ b.0) (b.0 < a.0)
    at o e = ranked a.0 b.0 o (sym e)

    by : (o : Ordering) → nat_cmp a.0 b.0 ≡ o → a.0 ≤ b.0
    by Less e = let x : a.0 < b.0 = at Less e in omega arith
    by Equal e = let x : a.0 ≡ b.0 = at Equal e in omega arith
    by Greater e = let x : true ≡ false = sym (ap (λ o. is_gt (ordering_then o (slot_cmp a.1 b.1))) e) ∙ up in absurd (cc)

-- ---- the set changes
same_either_way : (b : Bool) → cond b true true ≡ true
same_either_way true = refl
same_either_way false = refl

pub put_keeps : (s n : DueSet) (k : ℕ × Key) → Updates due_cmp s n k true → (e : ℕ × Key) → has s e ≡ true → has n e ≡ true
put_keeps s n k updates e h = updates.0 e ∙ ap (λ b. cond (is_eq (due_cmp k e)) true b) h ∙ same_either_way (is_eq (due_cmp k e))

pub put_there : (s n : DueSet) (k : ℕ × Key) → Updates due_cmp s n k true → has n k ≡ true
put_there s n k updates = updates.0 k ∙ ap (λ b. cond b true (has s k)) (itself due_total due_exact k)

pub popped_other : (s n : DueSet) (k : ℕ × Key) → Updates due_cmp s n k false → (e : ℕ × Key) → has s e ≡ true → (e ≡ k) ⊎
    (has n e ≡ true)
popped_other s n k updates e h = by_bool (is_eq (due_cmp k e)) ((e ≡ k) ⊎ (has n e ≡ true))
    (λ same. inl (sym (one_key due_total due_exact k e same)))
    (λ apart. inr (updates.0 e ∙ ap (λ b. cond b false (has s e)) apart ∙ h))

-- a list has what a test finds in it
pub in_keys : (ks : List (ℕ × Key)) (e : ℕ × Key) → list_any (is_at (due_cmp e)) ks ≡ true → Contains ks e
in_keys [] e h = let x : false ≡ true = h in absurd (cc)
in_keys (k ∷ ks) e h = by_bool (is_eq (due_cmp e k)) (Contains (k ∷ ks) e)
    (λ same. subst (Contains (k ∷ ks)) (sym (one_key due_total due_exact e k same)) (cons_first k ks))
    (λ apart. cons_later k ks e (in_keys ks e (sym (ap (λ b. b || list_any (is_at (due_cmp e)) ks) apart) ∙ h)))

pub due_keeps : (s n : DueSet) (key : Key) (best : Best) → ((e : ℕ × Key) → has s e ≡ true → has n e ≡ true) → IsDue s key best →
    IsDue n key best
due_keeps s n key best keeps d = record { sequence = d.sequence; not_above = d.not_above; there = keeps (d.sequence, key) d.there }

-- the slot that was taken out of the set is the only one whose item need not be in it
pub due_popped : (s n : DueSet) (p : ℕ × Key) (es : List (Key × Best)) →
    ((e : ℕ × Key) → has s e ≡ true → (e ≡ p) ⊎ (has n e ≡ true)) → AreDue s es →
    (key : Key) (best : Best) → value_at slot_cmp es key ≡ Some best → can_die key ≡ true → (key ≡ p.1) ⊎ IsDue n key best
due_popped s n p es popped due key best at can =
    let d = due key best at can in
    elim (popped (d.sequence, key) d.there) [
      | inl same ↦ inl (ap (λ (q : ℕ × Key). q.1) same)
      | inr there ↦ inr (record { sequence = d.sequence; not_above = d.not_above; there = there })
    ]

-- ---- all entries are added
-- those that are not passed yet may be missing
abbrev pub AreDueOrLeft : DueSet → List (Key × Best) → List (Key × Best) → Type 0
AreDueOrLeft due es rest = (key : Key) (best : Best) → value_at slot_cmp es key ≡ Some best → can_die key ≡ true →
    IsDue due key best ⊎ (value_at slot_cmp rest key ≡ Some best)

pub all_left : (due : DueSet) (es rest : List (Key × Best)) → rest ≡ es → AreDueOrLeft due es rest
all_left due es rest is key best at can = inr (ap (λ (xs : List (Key × Best)). value_at slot_cmp xs key) is ∙ at)

pub one_put : (due next : DueSet) (es before rest : List (Key × Best)) (key : Key) (best : Best) → before ≡ (key, best) ∷ rest →
    (can_die key ≡ true → has next (best.value.eff, key) ≡ true) → ((e : ℕ × Key) → has due e ≡ true → has next e ≡ true) →
    AreDueOrLeft due es before → AreDueOrLeft next es rest
one_put due next es before rest key best cut put keeps or q b at can = elim (or q b at can) [
  | inl is ↦ inl (due_keeps due next q b keeps is)
  | inr left ↦ by_bool (is_eq (slot_cmp q key)) (IsDue next q b ⊎ (value_at slot_cmp rest q ≡ Some b))
      (λ same.
      let q_is : q ≡ key = one_key slot_total slot_exact q key same in
      let b_is : best ≡ b = some_one best b (sym (ap (λ t. cond t (Some best) (value_at slot_cmp rest q)) same) ∙ here q b left) in
      inl (record {
        sequence = best.value.eff;
        not_above = let e : best.value.eff ≡ b.value.eff = ap (λ (x : Best). x.value.eff) b_is in omega (arith, e);
        there = ap (λ (k : Key). has next (best.value.eff, k)) q_is ∙ put (ap can_die (sym q_is) ∙ can);
      }))
      (λ apart. inr (sym (ap (λ t. cond t (Some best) (value_at slot_cmp rest q)) apart) ∙ here q b left))
]
  where
    here : (q : Key) (b : Best) → value_at slot_cmp before q ≡ Some b →
        cond (is_eq (slot_cmp q key)) (Some best) (value_at slot_cmp rest q) ≡ Some b
    here q b left = sym (ap (λ (xs : List (Key × Best)). value_at slot_cmp xs q) cut) ∙ left

pub all_put : (due : DueSet) (es rest : List (Key × Best)) → rest ≡ [] → AreDueOrLeft due es rest → AreDue due es
all_put due es rest none or key best at can = elim (or key best at can) [
  | inl is ↦ is
  | inr left ↦ absurd (none_some best (sym (ap (λ (xs : List (Key × Best)). value_at slot_cmp xs key) none) ∙ left))
]

-- ---- what is at a key stays, or is dead and goes
pub left_more : (s : Lift Best) (q : Key) (a b c : Option Best) → IsLeft s q a b → IsLeft s q b c → IsLeft s q a c
left_more s q a b c (inl same) r = subst (λ (o : Option Best). IsLeft s q o c) same r
left_more s q a b c (inr gone) (inl same) = inr (same ∙ gone.0, gone.1)
left_more s q a b c (inr gone) (inr again) = inr (again.0, gone.1)

pub left_alive : (s : Lift Best) (q : Key) (old new : Option Best) → IsLeft s q old new →
    ((b : Best) → new ≡ Some b → is_killed s q b ≡ false) → new ≡ alive_part (is_killed s q) old
left_alive s q old new (inr gone) alive = gone.0 ∙ sym gone.1
left_alive s q None new (inl same) alive = same
left_alive s q (Some b) new (inl same) alive = same ∙ sym (ap (λ t. cond t None (Some b)) (alive b same))

pub left_twice : (s : Lift Best) (q : Key) (old mid : Option Best) → IsLeft s q old mid →
    alive_part (is_killed s q) mid ≡ alive_part (is_killed s q) old
left_twice s q old mid (inl same) = ap (alive_part (is_killed s q)) same
left_twice s q old mid (inr gone) = ap (alive_part (is_killed s q)) gone.0 ∙ sym gone.1

-- once no sequence of the set is below that of the series item, nothing is dead
pub none_dead : (s : Lift Best) (due : DueSet) (es : List (Key × Best)) → AreDue due es →
    ((pair : ℕ × Key) → has due pair ≡ true → sequence_of s ≤ pair.0) → AreAlive s es
none_dead Nothing due es are high key best at = refl
none_dead (Known s) due es are high key best at = by_bool (can_die key) (is_killed (Known s) key best ≡ false)
    (λ can.
    let d = are key best at can in
    let low : s.value.eff ≤ d.sequence = high (d.sequence, key) d.there in
    let above : d.sequence ≤ best.value.eff = d.not_above in
    ap (λ b. b && nat_lt best.value.eff s.value.eff) can ∙ not_less best.value.eff s.value.eff (omega (arith, low, above)))
    (λ not. ap (λ b. b && nat_lt best.value.eff s.value.eff) not)
  where
    not_less : (a b : ℕ) → b ≤ a → nat_lt a b ≡ false
    not_less a b h = grind (arith, nat_tests)

-- ---- one slot
module _ (s : Lift Best) (old : List (Key × Best)) (slot : Key) where
  -- it holds nothing
  pub settled_empty : (due : DueSet) → value_at slot_cmp old slot ≡ None →
      ((key : Key) (best : Best) → value_at slot_cmp old key ≡ Some best → can_die key ≡ true → (key ≡ slot) ⊎ IsDue due key best) →
      AreDue due old
  settled_empty due none or key best at can = elim (or key best at can) [
    | inl same ↦ absurd (none_some best (sym none ∙ ap (value_at slot_cmp old) (sym same) ∙ at))
    | inr is ↦ is
  ]

  -- its item is alive
  pub settled_alive : (due next : DueSet) (b : Best) → value_at slot_cmp old slot ≡ Some b →
      ((key : Key) (best : Best) → value_at slot_cmp old key ≡ Some best → can_die key ≡ true → (key ≡ slot) ⊎ IsDue due key best) →
      has next (b.value.eff, slot) ≡ true → ((e : ℕ × Key) → has due e ≡ true → has next e ≡ true) → AreDue next old
  settled_alive due next b there or put keeps key best at can = elim (or key best at can) [
    | inl same ↦
        let one : b ≡ best = some_one b best (sym there ∙ ap (value_at slot_cmp old) (sym same) ∙ at) in
        record {
          sequence = b.value.eff;
          not_above = let e : b.value.eff ≡ best.value.eff = ap (λ (x : Best). x.value.eff) one in omega (arith, e);
          there = ap (λ (k : Key). has next (b.value.eff, k)) same ∙ put;
        }
    | inr is ↦ due_keeps due next key best keeps is
  ]

  -- its item is dead, and goes
  module _ (new : List (Key × Best)) (out : (q : Key) →
      value_at slot_cmp new q ≡ cond (is_eq (slot_cmp slot q)) None (value_at slot_cmp old q)) where
    pub settled_out : (due : DueSet) →
        ((key : Key) (best : Best) → value_at slot_cmp old key ≡ Some best → can_die key ≡ true → (key ≡ slot) ⊎ IsDue due key best) →
        AreDue due new
    settled_out due or key best at can = by_bool (is_eq (slot_cmp slot key)) (IsDue due key best)
        (λ same. absurd (none_some best (sym (out key ∙ ap (λ b. cond b None (value_at slot_cmp old key)) same) ∙ at)))
        (λ apart.
        let before : value_at slot_cmp old key ≡ Some best = sym (out key ∙ ap (λ b. cond b None (value_at slot_cmp old key)) apart) ∙ at in
        elim (or key best before can) [
          | inl same ↦ absurd (differ (sym (itself slot_total slot_exact slot) ∙ ap (λ (k : Key). is_eq (slot_cmp slot k))
              (sym same) ∙ apart))
          | inr is ↦ is
        ])
      where
        differ : true ≡ false → ⊥
        differ e = cc

    pub left_out : (b : Best) → value_at slot_cmp old slot ≡ Some b → is_killed s slot b ≡ true → (q : Key) →
        IsLeft s q (value_at slot_cmp old q) (value_at slot_cmp new q)
    left_out b there dead q = by_bool (is_eq (slot_cmp slot q)) (IsLeft s q (value_at slot_cmp old q) (value_at slot_cmp new q))
        (λ same.
        let key : slot ≡ q = one_key slot_total slot_exact slot q same in
        inr (
          out q ∙ ap (λ b. cond b None (value_at slot_cmp old q)) same,
          subst (λ (k : Key). alive_part (is_killed s k) (value_at slot_cmp old k) ≡ None) key
              (ap (alive_part (is_killed s slot)) there ∙ ap (λ t. cond t None (Some b)) dead),
        ))
        (λ apart. inl (out q ∙ ap (λ b. cond b None (value_at slot_cmp old q)) apart))

-- ---- all are looked at
one_dropped : (s : Lift Best) (q : Key) (old new : Option Best) → ((b : Best) → new ≡ Some b → is_killed s q b ≡ false) →
    IsBelowUnder (is_killed s q) IsNoLater old new → IsBelowUnder (is_killed s q) IsNoLater new old →
    new ≡ alive_part (is_killed s q) old
one_dropped s q None None alive keeps adds = refl
one_dropped s q None (Some y) alive keeps adds = absurd (both adds (alive y refl))
  where
    both : is_killed s q y ≡ true → is_killed s q y ≡ false → ⊥
    both d a = let x : true ≡ false = sym d ∙ a in cc
one_dropped s q (Some x) None alive keeps adds = sym (ap (λ t. cond t None (Some x)) keeps)
one_dropped s q (Some x) (Some y) alive keeps adds = at keeps adds
  where
    both : is_killed s q y ≡ true → ⊥
    both d = let x : true ≡ false = sym d ∙ alive y refl in cc

    at : (is_killed s q x ≡ true) ⊎ IsNoLater x y → (is_killed s q y ≡ true) ⊎ IsNoLater y x → Some y ≡ alive_part (is_killed s q) (Some x)
    at k (inl d) = absurd (both d)
    at (inl d) (inr l) = absurd (both (kills_below s q y.value x.value d l))
    at (inr r) (inr l) =
        let same : x ≡ y = no_later_same x y r l in
        let lives : is_killed s q x ≡ false = ap (is_killed s q) same ∙ alive y refl in
        ap Some (sym same) ∙ sym (ap (λ t. cond t None (Some x)) lives)

pub each_dropped : (s : Lift Best) (old new : List (Key × Best)) → all_alive (is_killed s) new ≡ true →
    IsMapBelowUnder (is_killed s) slot_cmp IsNoLater old new → IsMapBelowUnder (is_killed s) slot_cmp IsNoLater new old → (q : Key) →
    value_at slot_cmp new q ≡ alive_part (is_killed s q) (value_at slot_cmp old q)
each_dropped s old new alive keeps adds q = one_dropped s q (value_at slot_cmp old q) (value_at slot_cmp new q)
    (λ b e. found_alive slot_exact (is_killed s) new alive q b e) (keeps q) (adds q)

-- ---- a series item of a UID of which something is held
alive_some : (dead : Best → Bool) (o : Option Best) (b : Best) → alive_part dead o ≡ Some b → (o ≡ Some b) × (dead b ≡ false)
alive_some dead None b e = absurd (none_some b e)
alive_some dead (Some c) b e =
    elim (dead c) as (λ t. dead c ≡ t → cond t None (Some c) ≡ Some b → (Some c ≡ Some b) × (dead b ≡ false)) [
      | true ↦ λ d f. absurd (none_some b f)
      | false ↦ λ d f. (f, ap dead (sym (some_one c b f)) ∙ d)
    ] refl e

-- it is no later than the one held
pub raised_not : (a : UidState) (newer : Best) → IsReduced a → IsLiftedBelow IsNoLater (Known newer) a.series →
    IsJoined a (series_alone newer) a
raised_not a newer whole below = record {
  above_first = uid_state_below_itself a;
  above_second = (below, λ q. tt);
  of_two = record { series = inl refl; entries = λ q v e. inl e };
  whole = whole;
}

-- it is later, and kills what is below it
module _ (a : UidState) (newer : Best) (above : IsLiftedBelow IsNoLater (Known newer) a.series → ⊥) (new : List (Key × Best))
    (sorted : IsStrictlySortedBy slot_cmp (keys_of new))
    (out : (q : Key) → value_at slot_cmp new q ≡ alive_part (is_killed (Known newer) q) (value_at slot_cmp a.entries q)) where
  pub raised_alive : all_alive (is_killed (Known newer)) new ≡ true
  raised_alive = all_alive-from_values slot_total (is_killed (Known newer)) new sorted
      (λ q x e. (alive_some (is_killed (Known newer) q) (value_at slot_cmp a.entries q) x (sym (out q) ∙ e)).1)

  up : IsLiftedBelow IsNoLater a.series (Known newer)
  up = elim (IsLiftedBelow-comparable IsNoLater no_later_one a.series (Known newer)) [ inl l ↦ l | inr r ↦ absurd (above r) ]

  pub raised_is : IsJoined a (series_alone newer) (record { series = Known newer; entries = new })
  raised_is = record {
    above_first = (
      up,
      λ q. subst (λ (o : Option Best). IsBelowUnder (is_killed (Known newer) q) IsNoLater (value_at slot_cmp a.entries q) o) (sym (out q))
          (below_kept IsNoLater (is_killed (Known newer) q) no_later_itself (value_at slot_cmp a.entries q)),
    );
    above_second = (IsLiftedBelow-refl IsNoLater no_later_itself (Known newer), λ q. tt);
    of_two = record {
      series = inr refl;
      entries = λ q v e. inl (alive_some (is_killed (Known newer) q) (value_at slot_cmp a.entries q) v (sym (out q) ∙ e)).0;
    };
    whole = record { sorted = sorted; alive = raised_alive };
  }

-- ---- items that are shared
not_less : (a b : ℕ) → b ≤ a → nat_lt a b ≡ false
not_less a b h = grind (arith, nat_tests)

pub past_by : (sequence : ℕ) (key : Key) (best : Best) (items : List Item) → (can_die key ≡ false) ⊎ (sequence ≤ best.value.eff) →
    items ≡ items ++ item_under sequence key best
past_by sequence key best items why = sym (append-nil items) ∙ ap (λ b. items ++ cond b (best.value ∷ []) []) (sym (not_under why))
  where
    not_under : (can_die key ≡ false) ⊎ (sequence ≤ best.value.eff) → is_under sequence key best ≡ false
    not_under (inl not) = ap (λ b. b && nat_lt best.value.eff sequence) not
    not_under (inr high) = ap (λ b. can_die key && b) (not_less best.value.eff sequence high) ∙ and_false (can_die key)
      where
        and_false : (b : Bool) → (b && false) ≡ false
        and_false true = refl
        and_false false = refl

under_one : (sequence : ℕ) (key : Key) (best : Best) → is_under sequence key best ≡ true →
    Contains (item_under sequence key best) best.value
under_one sequence key best is =
    subst (λ b. Contains (cond b (best.value ∷ []) []) best.value) (sym is) (cons_first best.value [])

under_is : (sequence : ℕ) (key : Key) (best : Best) (i : Item) → Contains (item_under sequence key best) i → best.value ≡ i
under_is sequence key best i h =
    elim (is_under sequence key best) as (λ b. Contains (cond b (best.value ∷ []) []) i → best.value ≡ i) [
      | true ↦ λ g. elim (cons_cases best.value [] i g) [ inl same ↦ same | inr none ↦ absurd (none_in i none) ]
      | false ↦ λ g. absurd (none_in i g)
    ] h

under_all : (sequence : ℕ) (es : List (Key × Best)) (key : Key) (best : Best) → value_at slot_cmp es key ≡ Some best →
    is_under sequence key best ≡ true → Contains (items_under sequence es) best.value
under_all sequence [] key best at is = absurd (none_some best at)
under_all sequence (e ∷ es) key best at is =
    elim (is_eq (slot_cmp key e.0)) as (λ t. is_eq (slot_cmp key e.0) ≡ t → cond t (Some e.1) (value_at slot_cmp es key) ≡ Some best →
    Contains (item_under sequence e.0 e.1 ++ items_under sequence es) best.value) [
      | true ↦ λ same f.
          let key_is : key ≡ e.0 = one_key slot_total slot_exact key e.0 same in
          let value_is : best ≡ e.1 = sym (some_one e.1 best f) in
          Contains-append_left (item_under sequence e.0 e.1) (items_under sequence es) best.value
          (subst (λ (k : Key). Contains (item_under sequence k e.1) best.value) key_is
          (subst (λ (b : Best). Contains (item_under sequence key b) best.value) value_is (under_one sequence key best is)))
      | false ↦ λ apart f. Contains-append_right (item_under sequence e.0 e.1) (items_under sequence es) best.value
          (under_all sequence es key best f is)
    ] refl at

under_among : (sequence : ℕ) (es : List (Key × Best)) → IsStrictlySortedBy slot_cmp (keys_of es) → (i : Item) →
    Contains (items_under sequence es) i → (key : Key) × (best : Best) × (value_at slot_cmp es key ≡ Some best) × (best.value ≡ i)
under_among sequence [] s i h = absurd (none_in i h)
under_among sequence (e ∷ es) s i h =
    elim (Contains-append_cases (item_under sequence e.0 e.1) (items_under sequence es) i h) [
      | inl first ↦ (e.0, e.1, at_head slot_total slot_exact e es, under_is sequence e.0 e.1 i first)
      | inr rest ↦
          let r = under_among sequence es (sorted_tail slot_cmp e.0 (keys_of es) s) i rest in
          (r.0, r.1, from_tail slot_total slot_exact e es r.0 r.1 s r.2, r.3)
    ]

pub adds_each : (sequence : ℕ) (es : List (Key × Best)) (old new : List Item) → IsStrictlySortedBy slot_cmp (keys_of es) →
    new ≡ old ++ items_under sequence es → AddsUnder sequence es old new
adds_each sequence es old new s is = record {
  keeps = λ i h. subst (λ (xs : List Item). Contains xs i) (sym is) (Contains-append_left old (items_under sequence es) i h);
  among = λ i h. elim (Contains-append_cases old (items_under sequence es) i (subst (λ (xs : List Item). Contains xs i) is h)) [
    | inl before ↦ inl before
    | inr more ↦ inr (under_among sequence es s i more)
  ];
  all = λ key best at under. subst (λ (xs : List Item). Contains xs best.value) (sym is)
      (Contains-append_right old (items_under sequence es) best.value (under_all sequence es key best at under));
}

-- going through the set: what is not shared yet is in the rest of it
pub record AddsSoFar (sequence : ℕ) (es : List (Key × Best)) (old new : List Item) (rest : List (ℕ × Key)) : Type 0 where
  pub keeps : (item : Item) → Contains old item → Contains new item
  pub among : (item : Item) → Contains new item → Contains old item ⊎ ((key : Key) × (best : Best) ×
      (value_at slot_cmp es key ≡ Some best) × (best.value ≡ item))
  pub coming : (key : Key) (best : Best) → value_at slot_cmp es key ≡ Some best → is_under sequence key best ≡ true →
      Contains new best.value ⊎ ((s : ℕ) × (s ≤ best.value.eff) × Contains rest (s, key))
  pub sorted : IsStrictlySortedBy due_cmp rest

pub adds_start : (sequence : ℕ) (es : List (Key × Best)) (due : DueSet) (old : List Item) → AreDue due es →
    IsStrictlySortedBy due_cmp due.keys → AddsSoFar sequence es old old due.keys
adds_start sequence es due old are sorted = record {
  keeps = λ i h. h;
  among = λ i h. inl h;
  coming = λ key best at under.
      let d = are key best at (first_part (can_die key) (nat_lt best.value.eff sequence) under) in
      inr (d.sequence, d.not_above, in_keys due.keys (d.sequence, key) d.there);
  sorted = sorted;
}
  where
    first_part : (a b : Bool) → (a && b) ≡ true → a ≡ true
    first_part true b e = refl
    first_part false b e = e

module _ (sequence : ℕ) (es : List (Key × Best)) (old now : List Item) (p : ℕ × Key) (rest all : List (ℕ × Key)) (next : all ≡ p ∷ rest)
    (so : AddsSoFar sequence es old now all) where
  tail_sorted : IsStrictlySortedBy due_cmp rest
  tail_sorted = sorted_tail due_cmp p rest (subst (IsStrictlySortedBy due_cmp) next so.sorted)

  pair_key : (key : Key) (s : ℕ) → p ≡ (s, key) → p.1 ≡ key
  pair_key key s e = ap (λ (q : ℕ × Key). q.1) e

  -- nothing is at the key
  pub adds_none : value_at slot_cmp es p.1 ≡ None → AddsSoFar sequence es old now rest
  adds_none none = record {
    keeps = so.keeps;
    among = so.among;
    coming = λ key best at under. elim (so.coming key best at under) [
      | inl done ↦ inl done
      | inr w ↦ elim (cons_cases p rest (w.0, key) (subst (λ (xs : List (ℕ × Key)). Contains xs (w.0, key)) next w.2)) [
        | inl here ↦ absurd (none_some best (sym none ∙ ap (value_at slot_cmp es) (pair_key key w.0 here) ∙ at))
        | inr later ↦ inr (w.0, w.1, later)
      ]
    ];
    sorted = tail_sorted;
  }

  -- the item there is shared if it is under the sequence
  pub adds_one : (b : Best) → value_at slot_cmp es p.1 ≡ Some b → (new : List Item) → new ≡ now ++ item_under sequence p.1 b →
      AddsSoFar sequence es old new rest
  adds_one b at_pair new is = record {
    keeps = λ i h. kept i (so.keeps i h);
    among = λ i h. elim (Contains-append_cases now (item_under sequence p.1 b) i (subst (λ (xs : List Item). Contains xs i) is h)) [
      | inl before ↦ so.among i before
      | inr more ↦ inr (p.1, b, at_pair, under_is sequence p.1 b i more)
    ];
    coming = λ key best at under. elim (so.coming key best at under) [
      | inl done ↦ inl (kept best.value done)
      | inr w ↦ elim (cons_cases p rest (w.0, key) (subst (λ (xs : List (ℕ × Key)). Contains xs (w.0, key)) next w.2)) [
        | inl here ↦
            let key_is : p.1 ≡ key = pair_key key w.0 here in
            let value_is : b ≡ best = some_one b best (sym at_pair ∙ ap (value_at slot_cmp es) key_is ∙ at) in
            inl (subst (λ (xs : List Item). Contains xs best.value) (sym is)
            (Contains-append_right now (item_under sequence p.1 b) best.value
            (subst (λ (k : Key). Contains (item_under sequence k b) best.value) (sym key_is)
            (subst (λ (x : Best). Contains (item_under sequence key x) best.value) (sym value_is) (under_one sequence key best under)))))
        | inr later ↦ inr (w.0, w.1, later)
      ]
    ];
    sorted = tail_sorted;
  }
    where
      kept : (i : Item) → Contains now i → Contains new i
      kept i h = subst (λ (xs : List Item). Contains xs i) (sym is) (Contains-append_left now (item_under sequence p.1 b) i h)

  later_high : (q : ℕ × Key) → Contains all q → p.0 ≤ q.0
  later_high q h = elim (cons_cases p rest q (subst (λ (xs : List (ℕ × Key)). Contains xs q) next h)) [
    | inl same ↦ let e : p.0 ≡ q.0 = ap (λ (x : ℕ × Key). x.0) same in omega (arith, e)
    | inr later ↦ pair_low p q (ap is_gt (less_in rest q (sorted_head due_cmp p rest (subst (IsStrictlySortedBy due_cmp) next so.sorted))
        later))
  ]
    where
      less_in : (xs : List (ℕ × Key)) (q : ℕ × Key) → AllByRecursion (λ y. due_cmp p y ≡ Less) xs → Contains xs q → due_cmp p q ≡ Less
      less_in [] q a h = absurd (none_in q h)
      less_in (x ∷ xs) q a h = elim (cons_cases x xs q h) [
        | inl same ↦ subst (λ (y : ℕ × Key). due_cmp p y ≡ Less) same a.0
        | inr later ↦ less_in xs q a.1 later
      ]

  -- no sequence in the rest is below
  pub adds_all_below : sequence ≤ p.0 → AddsUnder sequence es old now
  adds_all_below high = record {
    keeps = so.keeps;
    among = so.among;
    all = λ key best at under. elim (so.coming key best at under) [
      | inl done ↦ done
      | inr w ↦
          let up : p.0 ≤ w.0 = later_high (w.0, key) w.2 in
          let less : best.value.eff < sequence = less_from best.value.eff sequence
          (second_part (can_die key) (nat_lt best.value.eff sequence) under) in
          let below : w.0 ≤ best.value.eff = w.1 in
          absurd (omega (arith, high, up, less, below))
    ];
  }
    where
      second_part : (a b : Bool) → (a && b) ≡ true → b ≡ true
      second_part true b e = e
      second_part false b e = let x : false ≡ true = e in absurd (cc)

-- nothing is left of the set
pub adds_end : (sequence : ℕ) (es : List (Key × Best)) (old now : List Item) (rest : List (ℕ × Key)) → rest ≡ [] →
    AddsSoFar sequence es old now rest → AddsUnder sequence es old now
adds_end sequence es old now rest none so = record {
  keeps = so.keeps;
  among = so.among;
  all = λ key best at under. elim (so.coming key best at under) [
    | inl done ↦ done
    | inr w ↦ absurd (none_in (w.0, key) (subst (λ (xs : List (ℕ × Key)). Contains xs (w.0, key)) none w.2))
  ];
}
