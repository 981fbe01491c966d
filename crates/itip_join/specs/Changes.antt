-- How a map is changed entry by entry, and how the changes are undone (our own form).
use Rattle.std.specs.Prelude.{◌≡◌, ◌⊎◌, Bool, true, false, cond, ◌||◌, List, [], ◌∷◌, ◌++◌, map, Option, Some, None, is_some}
use Rattle.std.specs.Ordering.{is_eq}
use Rattle.std.specs.declared.cmp.Ordering.{Ordering}
use Rattle.itip_join.specs.declared.merge.Undo.{Undo}

module _ {K : Type 0} (cmp : K → K → Ordering) (q : K) where
  -- what is at the key q, where o is now, once the pairs are put back, the last first
  abbrev pub before : {V : Type 0} → Option V → List (K × V) → Option V
  before o [] = o
  before o (p ∷ ps) = cond (is_eq (cmp p.0 q)) (Some p.1) (before o ps)

  -- whether a pair has the key q
  abbrev pub has_key : {V : Type 0} → List (K × V) → Bool
  has_key [] = false
  has_key (p ∷ ps) = is_eq (cmp p.0 q) || has_key ps

  -- whether q is among the keys
  abbrev pub is_listed : List K → Bool
  is_listed [] = false
  is_listed (k ∷ ks) = is_eq (cmp k q) || is_listed ks

  -- what is at the key q, where o is now, once the added keys are removed and the pairs are put back
  abbrev pub restored : {V : Type 0} → Option V → List K → List (K × V) → Option V
  restored o added raised = before (cond (is_listed added) None o) raised

-- a value in place of what is somewhere, if anything is
abbrev pub replaced : {V : Type 0} → Option V → V → Option V
replaced None value = None
replaced (Some old) value = Some value

-- A map that had `mine` has `now`. The added keys are new; at each key of the pairs there was a value, and there is one now; once the
-- changes are undone the map is as it was.
pub record TakesBack {K V : Type 0} (cmp : K → K → Ordering) (mine now : K → Option V) (added : List K) (raised : List (K × V)) : Type 0
  where
    pub added_are_new : (q : K) → is_listed cmp q added ≡ true → mine q ≡ None
    pub raised_were_there : (q : K) → has_key cmp q raised ≡ true → is_some (mine q) ≡ true
    pub raised_are_there : (q : K) → has_key cmp q raised ≡ true → is_some (now q) ≡ true
    pub as_it_was : (q : K) → restored cmp q (now q) added raised ≡ mine q

-- One key k was looked at: nothing changed, or a value may have been added, or one may have grown; and this was noted.
pub data IsNoted {K V : Type 0} (cmp : K → K → Ordering) (k : K) (now now' : K → Option V) (added : List K) (raised : List (K × V))
    (added' : List K) (raised' : List (K × V)) : Type 0 where
  is_same : ((q : K) → now' q ≡ now q) → added' ≡ added → raised' ≡ raised → IsNoted cmp k now now' added raised added' raised'
  is_new : now k ≡ None → ((q : K) → is_eq (cmp k q) ≡ false → now' q ≡ now q) → added' ≡ added ++ k ∷ [] → raised' ≡ raised
      → IsNoted cmp k now now' added raised added' raised'
  is_raised : (v : V) → now k ≡ Some v → is_some (now' k) ≡ true → ((q : K) → is_eq (cmp k q) ≡ false → now' q ≡ now q) → added' ≡ added →
      raised' ≡ raised ++ (k, v) ∷ []
      → IsNoted cmp k now now' added raised added' raised'

-- the keys and the pairs that an `Undo` holds
abbrev pub keys_in : {K V : Type 0} → Undo K V → List K
keys_in u = map (λ t. t.now) u.added.items

abbrev pub pairs_in : {K V : Type 0} → Undo K V → List (K × V)
pairs_in u = map (λ p. (p.0.now, p.1)) u.raised.items

abbrev pub IsNotedIn : {K V : Type 0} → (K → K → Ordering) → K → (K → Option V) → (K → Option V) → Undo K V → Undo K V → Type 0
IsNotedIn cmp k now now' u u' = IsNoted cmp k now now' (keys_in u) (pairs_in u) (keys_in u') (pairs_in u')

-- a value may have grown, and if so it was noted
abbrev pub IsRaisedIn : {K V : Type 0} → K → V → V → Undo K V → Undo K V → Type 0
IsRaisedIn k v v' u u' = (keys_in u' ≡ keys_in u) × (((v' ≡ v) × (pairs_in u' ≡ pairs_in u)) ⊎ (pairs_in u' ≡ pairs_in u ++ (k, v) ∷ []))

-- what is noted can be undone in a map that has `now`
abbrev pub CanTakeBack : {K V : Type 0} → (K → K → Ordering) → (K → Option V) → Undo K V → Type 0
CanTakeBack {K} cmp now u = (q : K) → has_key cmp q (pairs_in u) ≡ true → (is_listed cmp q (keys_in u) ≡ false) × (is_some (now q) ≡ true)
