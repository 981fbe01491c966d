-- Changes of a map are noted one by one, and can be undone.
use Rattle.std.proofs.Common.{◌≡◌, sym, ◌∙◌, ap, subst, refl, Bool, true, false, ◌||◌, List, [], ◌∷◌, ◌++◌, Some, None, inl, inr, arith}
use Rattle.std.proofs.Common.{Result, Ok, Err}
use Rattle.std.specs.Prelude.{cond, Option, is_some, ◌⊎◌, length, slice_get, IfSome, OnErr}
use Rattle.std.proofs.lemmas.Option.{same_Some}
use Rattle.std.specs.Map.{keys_of}
use Rattle.std.specs.List.Sorted.{IsStrictlySortedBy}
use Rattle.std.specs.Ordering.{is_eq}
use Rattle.std.specs.Cmp.{IsTotalOrder, Equal-is}
use Rattle.std.specs.declared.cmp.Ordering.{Ordering}
use Rattle.std.specs.declared.cmp.Ordering.TheVariants.{Equal}
use Rattle.itip_join.specs.Bounds.{IsJoinOf}
use Rattle.itip_join.specs.Optional.{IsBelowAt, alive_part}
use Rattle.itip_join.specs.KeyByKey.{value_at}
use Rattle.itip_join.specs.Changes.{before, has_key, is_listed, restored, TakesBack, IsNoted, is_same, is_new, is_raised}
use Rattle.itip_join.proofs.Walk.{IsWalk, walk_next, walk_found, walk_coming, walk_step, walk_start}
use Rattle.itip_join.proofs.Puts.{is_listed_push, has_key_push, before_push, flipped, itself, join_with_nothing}

or_left : (a b : Bool) → a ≡ false → b ≡ false → (a || b) ≡ false
or_left true b e f = absurd (cc)
or_left false b e f = f

or_right : (a b : Bool) → b ≡ true → (a || b) ≡ true
or_right true b e = refl
or_right false b e = e

or_first : (a b : Bool) → (a || b) ≡ true → b ≡ false → a ≡ true
or_first true b e f = refl
or_first false b e f = absurd (cc)

or_none : (a b : Bool) → b ≡ false → (a || b) ≡ a
or_none true b e = refl
or_none false b e = e

no_choice : {V : Type 0} (o : Option V) (b : Bool) → o ≡ None → cond b None o ≡ None
no_choice o true e = refl
no_choice o false e = e

by_bool : (b : Bool) (G : Type 0) → (b ≡ true → G) → (b ≡ false → G) → G
by_bool b G at_true at_false = elim b as (λ x. b ≡ x → G) [ true ↦ at_true | false ↦ at_false ] refl

module _ {K V : Type 0} {cmp : K → K → Ordering} where
  -- nothing changes at the other keys
  pub others_same : {k : K} {now now' : K → Option V} {added added' : List K} {raised raised' : List (K × V)} →
      IsNoted cmp k now now' added raised added' raised'
      → (q : K) → is_eq (cmp k q) ≡ false → now' q ≡ now q
  others_same (is_same same a r) q e = same q
  others_same (is_new none others a r) q e = others q e
  others_same (is_raised v some there others a r) q e = others q e

  pub nothing_noted : (mine : K → Option V) → TakesBack cmp mine mine [] []
  nothing_noted mine = record {
    added_are_new = λ q h. absurd (cc);
    raised_were_there = λ q h. absurd (cc);
    raised_are_there = λ q h. absurd (cc);
    as_it_was = λ q. refl;
  }

  -- a key of a value that grew is not among the new ones
  pub raised_is_not_new : (mine now : K → Option V) (added : List K) (raised : List (K × V)) → TakesBack cmp mine now added raised
      → (q : K) → has_key cmp q raised ≡ true → is_listed cmp q added ≡ false
  raised_is_not_new mine now added raised t q h = by_bool (is_listed cmp q added) (is_listed cmp q added ≡ false)
      (λ e. let x : true ≡ false = sym (t.raised_were_there q h) ∙ ap is_some (t.added_are_new q e) in absurd (cc))
      (λ e. e)

key_is : {K : Type 0} {cmp : K → K → Ordering} → ((x y : K) → cmp x y ≡ Equal → x ≡ y) → (k q : K) → is_eq (cmp k q) ≡ true → k ≡ q
key_is {cmp = cmp} exact k q e = exact k q ((Equal-is (cmp k q)).0 e)

module _ {K V : Type 0} {cmp : K → K → Ordering} (exact : (x y : K) → cmp x y ≡ Equal → x ≡ y) where
  module _ (mine now now' : K → Option V) (k : K) (added : List K) (raised : List (K × V)) (t : TakesBack cmp mine now added raised)
      (at : now k ≡ mine k) where
    new_one : now k ≡ None → ((q : K) → is_eq (cmp k q) ≡ false → now' q ≡ now q) → TakesBack cmp mine now' (added ++ k ∷ []) raised
    new_one none others = record {
      added_are_new = λ q h. by_bool (is_eq (cmp k q)) (mine q ≡ None)
          (λ e. absent q e)
          (λ e. t.added_are_new q (or_first (is_listed cmp q added) (is_eq (cmp k q)) (sym (is_listed_push cmp q added k) ∙ h) e));
      raised_were_there = t.raised_were_there;
      raised_are_there = λ q h. by_bool (is_eq (cmp k q)) (is_some (now' q) ≡ true)
          (λ e. let x : true ≡ false = sym (t.raised_were_there q h) ∙ ap is_some (absent q e) in absurd (cc))
          (λ e. ap is_some (others q e) ∙ t.raised_are_there q h);
      as_it_was = λ q. by_bool (is_eq (cmp k q)) (restored cmp q (now' q) (added ++ k ∷ []) raised ≡ mine q)
          (λ e. ap (λ (b : Bool). before cmp q (cond b None (now' q)) raised) (is_listed_push cmp q added k ∙
          or_right (is_listed cmp q added) (is_eq (cmp k q)) e)
          ∙ ap (λ (o : Option V). before cmp q o raised) (sym (no_choice (now q) (is_listed cmp q added) (gone q e))) ∙ t.as_it_was q)
          (λ e. ap (λ (b : Bool). before cmp q (cond b None (now' q)) raised) (is_listed_push cmp q added k ∙
          or_none (is_listed cmp q added) (is_eq (cmp k q)) e)
          ∙ ap (λ (o : Option V). restored cmp q o added raised) (others q e) ∙ t.as_it_was q);
    }
      where
        absent : (q : K) → is_eq (cmp k q) ≡ true → mine q ≡ None
        absent q e = subst (λ (x : K). mine x ≡ None) (key_is exact k q e) (sym at ∙ none)

        gone : (q : K) → is_eq (cmp k q) ≡ true → now q ≡ None
        gone q e = subst (λ (x : K). now x ≡ None) (key_is exact k q e) none

    raised_one : (v : V) → now k ≡ Some v → is_some (now' k) ≡ true → ((q : K) → is_eq (cmp k q) ≡ false → now' q ≡ now q)
        → TakesBack cmp mine now' added (raised ++ (k, v) ∷ [])
    raised_one v some there others = record {
      added_are_new = t.added_are_new;
      raised_were_there = λ q h. by_bool (is_eq (cmp k q)) (is_some (mine q) ≡ true)
          (λ e. ap is_some (stood q e))
          (λ e. t.raised_were_there q (earlier q h e));
      raised_are_there = λ q h. by_bool (is_eq (cmp k q)) (is_some (now' q) ≡ true)
          (λ e. subst (λ (x : K). is_some (now' x) ≡ true) (key_is exact k q e) there)
          (λ e. ap is_some (others q e) ∙ t.raised_are_there q (earlier q h e));
      as_it_was = λ q. before_push cmp q (cond (is_listed cmp q added) None (now' q)) raised (k, v)
          ∙ by_bool (is_eq (cmp k q)) (before cmp q (cond (is_eq (cmp k q)) (Some v) (cond (is_listed cmp q added) None (now' q))) raised ≡
          mine q)
          (λ e. ap (λ (b : Bool). before cmp q (cond b (Some v) (cond (is_listed cmp q added) None (now' q))) raised) e
          ∙ ap (λ (o : Option V). before cmp q o raised) (sym (ap (λ (b : Bool). cond b None (now q)) (not_new q e) ∙ is_now q e)) ∙
          t.as_it_was q)
          (λ e. ap (λ (b : Bool). before cmp q (cond b (Some v) (cond (is_listed cmp q added) None (now' q))) raised) e
          ∙ ap (λ (o : Option V). restored cmp q o added raised) (others q e) ∙ t.as_it_was q);
    }
      where
        is_now : (q : K) → is_eq (cmp k q) ≡ true → now q ≡ Some v
        is_now q e = subst (λ (x : K). now x ≡ Some v) (key_is exact k q e) some

        stood : (q : K) → is_eq (cmp k q) ≡ true → mine q ≡ Some v
        stood q e = subst (λ (x : K). mine x ≡ Some v) (key_is exact k q e) (sym at ∙ some)

        not_new : (q : K) → is_eq (cmp k q) ≡ true → is_listed cmp q added ≡ false
        not_new q e = by_bool (is_listed cmp q added) (is_listed cmp q added ≡ false)
            (λ l. let x : true ≡ false = sym (ap is_some (stood q e)) ∙ ap is_some (t.added_are_new q l) in absurd (cc))
            (λ l. l)

        earlier : (q : K) → has_key cmp q (raised ++ (k, v) ∷ []) ≡ true → is_eq (cmp k q) ≡ false → has_key cmp q raised ≡ true
        earlier q h e = or_first (has_key cmp q raised) (is_eq (cmp k q)) (sym (has_key_push cmp q raised (k, v)) ∙ h) e

    -- what is noted for one key can be undone too
    pub noted_one : (added' : List K) (raised' : List (K × V)) → IsNoted cmp k now now' added raised added' raised' →
        TakesBack cmp mine now' added' raised'
    noted_one added' raised' (is_same same a r) = rw (a, r) (record {
      added_are_new = t.added_are_new;
      raised_were_there = t.raised_were_there;
      raised_are_there = λ q h. ap is_some (same q) ∙ t.raised_are_there q h;
      as_it_was = λ q. ap (λ (o : Option V). restored cmp q o added raised) (same q) ∙ t.as_it_was q;
    })
    noted_one added' raised' (is_new none others a r) = rw (a, r) (new_one none others)
    noted_one added' raised' (is_raised v some there others a r) = rw (a, r) (raised_one v some there others)

-- a value grew in its place
module _ {K V : Type 0} {cmp : K → K → Ordering} (total : IsTotalOrder cmp) (exact : (x y : K) → cmp x y ≡ Equal → x ≡ y) where
  pub grown_noted : (k : K) (now now' : K → Option V) (v v' : V) → now k ≡ Some v →
      ((q : K) → now' q ≡ cond (is_eq (cmp k q)) (Some v') (now q))
      → (added : List K) (raised : List (K × V)) (added' : List K) (raised' : List (K × V))
      → (added' ≡ added) × (((v' ≡ v) × (raised' ≡ raised)) ⊎ (raised' ≡ raised ++ (k, v) ∷ [])) →
      IsNoted cmp k now now' added raised added' raised'
  grown_noted k now now' v v' some put added raised added' raised' (a, inl (same, r)) = is_same
      (λ q. by_bool (is_eq (cmp k q)) (now' q ≡ now q)
      (λ e. put q ∙ ap (λ (b : Bool). cond b (Some v') (now q)) e ∙ ap Some same ∙ sym some ∙ ap now (key_is exact k q e))
      (λ e. put q ∙ ap (λ (b : Bool). cond b (Some v') (now q)) e))
      a r
  grown_noted k now now' v v' some put added raised added' raised' (a, inr r) = is_raised v some
      (ap is_some (put k ∙ ap (λ (b : Bool). cond b (Some v') (now k)) (itself total k)))
      (λ q e. put q ∙ ap (λ (b : Bool). cond b (Some v') (now q)) e)
      a r

-- ---- pairs are put back from the last to the first
module _ {K V : Type 0} {cmp : K → K → Ordering} (total : IsTotalOrder cmp) (k : K) (v : V) (raised left : List (K × V))
    (is : raised ≡ left ++ (k, v) ∷ []) (now now' : K → Option V) where
  pub last_there : ((q : K) → has_key cmp q raised ≡ true → is_some (now q) ≡ true) → is_some (now k) ≡ true
  last_there there = there k (ap (has_key cmp k) is ∙ has_key_push cmp k left (k, v) ∙
      or_right (has_key cmp k left) (is_eq (cmp k k)) (itself total k))

  module _ (put : (q : K) → now' q ≡ cond (is_eq (cmp k q)) (Some v) (now q)) where
    pub others_there : ((q : K) → has_key cmp q raised ≡ true → is_some (now q) ≡ true) → (q : K) → has_key cmp q left ≡ true →
        is_some (now' q) ≡ true
    others_there there q h = ap is_some (put q) ∙ by_bool (is_eq (cmp k q)) (is_some (cond (is_eq (cmp k q)) (Some v) (now q)) ≡ true)
        (λ e. ap (λ (b : Bool). is_some (cond b (Some v) (now q))) e)
        (λ e. ap (λ (b : Bool). is_some (cond b (Some v) (now q))) e ∙
        there q (ap (has_key cmp q) is ∙ has_key_push cmp q left (k, v) ∙ ap (λ (b : Bool). b || is_eq (cmp k q)) h))

    pub one_back : (q : K) → before cmp q (now' q) left ≡ before cmp q (now q) raised
    one_back q = ap (λ (o : Option V). before cmp q o left) (put q) ∙
        sym (ap (before cmp q (now q)) is ∙ before_push cmp q (now q) left (k, v))

-- ---- the walk of a merge
module _ {K V : Type 0} {cmp : K → K → Ordering} (total : IsTotalOrder cmp) (exact : (x y : K) → cmp x y ≡ Equal → x ≡ y)
    (le : V → V → Type 0) (dead : K → V → Bool) (mine theirs : K → Option V) where
  -- at the keys that it has passed, the map has the join, and at those to come what it had
  abbrev pub IsMergeWalk : (K → Option V) → List (K × V) → Type 0
  IsMergeWalk now rest =
      IsWalk cmp theirs (λ q. IsJoinOf (IsBelowAt le) (mine q) (alive_part (dead q) (theirs q)) (now q)) (λ q. now q ≡ mine q) rest

  pub merge_start : ((x : V) → le x x) → (es : List (K × V)) → IsStrictlySortedBy cmp (keys_of es) →
      ((q : K) → value_at cmp es q ≡ theirs q) → IsMergeWalk mine es
  merge_start r es s is = walk_start total exact es s is
      (λ q none. subst (λ (x : Option V). IsJoinOf (IsBelowAt le) (mine q) (alive_part (dead q) x) (mine q)) (sym none)
      (join_with_nothing le r (mine q)))
      (λ q. refl)

  module _ {k : K} {w : V} {s rest : List (K × V)} (next : s ≡ (k, w) ∷ rest) (now : K → Option V) (walk : IsMergeWalk now s) where
    here : IsMergeWalk now ((k, w) ∷ rest)
    here = walk_next total exact next walk

    -- the key that comes has what it had
    pub merge_coming : now k ≡ mine k
    merge_coming = walk_coming total exact here

    pub merge_step : (now' : K → Option V) → IsJoinOf (IsBelowAt le) (now k) (alive_part (dead k) (Some w)) (now' k)
        → ((q : K) → is_eq (cmp k q) ≡ false → now' q ≡ now q) → IsMergeWalk now' rest
    merge_step now' joined others = walk_step total exact here _ _
        (subst (λ (x : Option V). IsJoinOf (IsBelowAt le) x (alive_part (dead k) (theirs k)) (now' k)) merge_coming
        (subst (λ (x : Option V). IsJoinOf (IsBelowAt le) (now k) (alive_part (dead k) x) (now' k)) (sym (walk_found total exact here))
        joined))
        (λ q e p. subst (λ (x : Option V). IsJoinOf (IsBelowAt le) (mine q) (alive_part (dead q) (theirs q)) x)
        (sym (others q (flipped total q k e))) p)
        (λ q e r. others q (flipped total q k e) ∙ r)

-- ---- a map of one entry
one_of_one : {X : Type 0} (es : List X) (x : X) → length es ≡ 1 → slice_get es 0 ≡ Some x → es ≡ x ∷ []
one_of_one [] x len first = absurd (omega arith)
one_of_one (e ∷ []) x len first = ap (λ y. y ∷ []) (same_Some e x first)
one_of_one (e ∷ f ∷ es) x len first = absurd (omega arith)

pub single_is : {P X : Type 0} (r : Option P) (f : P → X) (es : List X) → length es ≡ 1 → IfSome r (λ p. slice_get es 0 ≡ Some (f p)) →
    IfSome r (λ p. es ≡ f p ∷ [])
single_is None f es len first = tt
single_is (Some p) f es len first = one_of_one es (f p) len first

pub err_then : {T E : Type 0} (r : Result T E) {P Q : Type 0} → (P → Q) → OnErr r P → OnErr r Q
err_then (Ok value) f p = tt
err_then (Err error) f p = f p
