-- What the tests of keys and of death say.
use Rattle.std.proofs.Common.{◌≡◌, List, ◌<◌, ◌≤◌, refl, ◌∙◌, ap, subst, Bool, true, false, ◌&&◌, arith, Option, Some, None, nat_lt}
use Rattle.std.specs.Prelude.{option_map, is_some}
use Rattle.std.specs.List.{Contains}
use Rattle.std.specs.Ordering.{is_eq, nat_cmp}
use Rattle.std.specs.Cmp.{tied_itself, Equal-is}
use Rattle.std.specs.Cmp.Lexicographic.{slice_cmp}
use Rattle.std.proofs.lemmas.Cmp.{nat_list_cmp_total}
use Rattle.std.proofs.lemmas.Map.Lookups.{exact_bytes}
use Rattle.itip_items.specs.KeyParts.{uid_of}
use Rattle.itip_items.specs.declared.item.Item.{Item}
use Rattle.itip_items.specs.declared.key.Key.{Key}
use Rattle.itip_items.specs.declared.key.Key.TheVariants.{Series, Instance, Range, Answer, Refresh}
use Rattle.itip_join.specs.declared.lift.Lift.TheVariants.{Known}
use Rattle.itip_state.specs.Kept.{IsBest, IsDead, CanDie}
use Rattle.itip_state.specs.Held.{is_series, can_die, is_below, kills, best, IsPlaceOf}
use Rattle.itip_state.specs.DyingLaws.{less_from, from_less}
use Rattle.itip_state.proofs.Best.{best_above}
use Rattle.itip_state.proofs.Keeping.{eff_up}

pub series_key : (key : Key) → is_series key ≡ true → key ≡ Series (uid_of key)
series_key (Series uid) e = refl
series_key (Instance uid id) e = let x : false ≡ true = e in absurd (cc)
series_key (Range uid id) e = let x : false ≡ true = e in absurd (cc)
series_key (Answer uid id attendee) e = let x : false ≡ true = e in absurd (cc)
series_key (Refresh uid id attendee) e = let x : false ≡ true = e in absurd (cc)

-- an item that has a place among the others is not a series item
module _ {A : Type 0} (place : A → Key) (key : Key) where
  pub no_place : (o : Option A) → IsPlaceOf (option_map place o) key → is_some o ≡ false → is_series key ≡ true
  no_place None p e = p
  no_place (Some x) p e = let f : true ≡ false = e in absurd (cc)

  pub has_place : (o : Option A) → IsPlaceOf (option_map place o) key → is_some o ≡ true → is_series key ≡ false
  has_place None p e = let f : false ≡ true = e in absurd (cc)
  has_place (Some x) p e = p.1

pub dies : (key : Key) → can_die key ≡ true → CanDie key
dies (Series uid) e = let x : false ≡ true = e in absurd (cc)
dies (Instance uid id) e = tt
dies (Range uid id) e = tt
dies (Answer uid None attendee) e = tt
dies (Answer uid (Some id) attendee) e = let x : false ≡ true = e in absurd (cc)
dies (Refresh uid id attendee) e = let x : false ≡ true = e in absurd (cc)

pub can : (key : Key) → CanDie key → can_die key ≡ true
can (Series uid) h = absurd h
can (Instance uid id) h = refl
can (Range uid id) h = refl
can (Answer uid None attendee) h = refl
can (Answer uid (Some id) attendee) h = absurd h
can (Refresh uid id attendee) h = absurd h

pub both : (a b : Bool) → (a && b) ≡ true → (a ≡ true) × (b ≡ true)
both true b e = (refl, e)
both false b e = let x : false ≡ true = e in absurd (cc)

pub and_true : (a b : Bool) → a ≡ true → b ≡ true → (a && b) ≡ true
and_true a b p q = ap (λ x. x && b) p ∙ q

-- a series item of a set with an item's UID and a greater sequence makes the item dead, if its key can die
pub dead_under : (all : List Item) (s x : Item) → Contains all s → s.key ≡ Series (uid_of x.key) → can_die x.key ≡ true → x.eff < s.eff →
    IsDead all x
dead_under all s x h key can_x low =
    let found = best_above all s h in
    let is_best : IsBest all (Series (uid_of x.key)) found.0 = subst (λ (k : Key). IsBest all k found.0) key found.1 in
    let up : s.eff ≤ (found.0).eff = eff_up s found.0 (is_best.none_later s h key) in
    record { can_die = dies x.key can_x; series = found.0; best = is_best; below = omega arith }

-- a series item of a set that an item is below makes it dead
pub dead_below : (all : List Item) (s x : Item) → Contains all s → is_series s.key ≡ true → is_below s x ≡ true → IsDead all x
dead_below all s x h e b =
    let first = both (can_die x.key) _ b in
    let second = both (is_eq (slice_cmp nat_cmp (uid_of s.key) (uid_of x.key))) _ first.1 in
    let uid : uid_of s.key ≡ uid_of x.key =
    exact_bytes (uid_of s.key) (uid_of x.key) ((Equal-is (slice_cmp nat_cmp (uid_of s.key) (uid_of x.key))).0 second.0) in
    dead_under all s x h (series_key s.key e ∙ ap Series uid) first.0 (less_from x.eff s.eff second.1)

-- and the best series item above a dead item shows that it is dead
pub below_dead : (all : List Item) (x : Item) (dead : IsDead all x) → is_below dead.series x ≡ true
below_dead all x dead =
    let uid : uid_of dead.series.key ≡ uid_of x.key = ap uid_of dead.best.about in
    and_true (can_die x.key) _ (can x.key dead.can_die)
    (and_true (is_eq (slice_cmp nat_cmp (uid_of dead.series.key) (uid_of x.key))) _
    (ap is_eq (ap (λ u. slice_cmp nat_cmp u (uid_of x.key)) uid ∙ tied_itself nat_list_cmp_total (uid_of x.key)))
    (from_less x.eff dead.series.eff dead.below))

-- what a held series item kills
pub killed : (s : Item) (key : Key) (x : Item) → kills (Known (best s)) key x ≡ true → (can_die key ≡ true) × (x.eff < s.eff)
killed s key x e = let parts = both (can_die key) (nat_lt x.eff s.eff) e in (parts.0, less_from x.eff s.eff parts.1)

pub kill : (s : Item) (key : Key) (x : Item) → can_die key ≡ true → x.eff < s.eff → kills (Known (best s)) key x ≡ true
kill s key x c l = and_true (can_die key) (nat_lt x.eff s.eff) c (from_less x.eff s.eff l)
