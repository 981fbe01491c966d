-- What is read of a map by UID.
use Rattle.std.proofs.Common.{◌≡◌, ◌<◌, ℕ, List, [], ◌∷◌, ◌+◌, ◌++◌, refl, ap, subst, length, arith, suc, Option, Some, None}
use Rattle.std.proofs.Math.ListN.{length-append}
use Rattle.std.specs.List.{Contains}
use Rattle.std.specs.Map.{keys_of}
use Rattle.itip_join.specs.declared.lift.Lift.{Lift}
use Rattle.itip_join.specs.declared.lift.Lift.TheVariants.{Nothing, Known}
use Rattle.itip_items.specs.declared.item.Item.{Item}
use Rattle.itip_state.specs.Kept.{ArePart, AscendKeys}
use Rattle.itip_state.specs.Held.{Best, UidState, series_items, entry_items, uid_state_items, items_of, at, IsSound, AreHeld}
use Rattle.itip_items.specs.KeyParts.{uid_of}
use Rattle.itip_items.specs.declared.key.Key.{Key}
use Rattle.itip_state.proofs.Members.{cons_first}
use Rattle.itip_state.proofs.Ordered.{uid_state_ascends}
use Rattle.itip_state.proofs.Maps.{items_at, IsSoundAt, sound_at, part_at}

pub entries_long : (es : List (Key × Best)) → length (entry_items es) ≡ length es
entries_long [] = refl
entries_long (e ∷ es) = ap suc (entries_long es)

pub keys_long : (es : List (List ℕ × UidState)) → length (keys_of es) ≡ length es
keys_long [] = refl
keys_long (e ∷ es) = ap suc (keys_long es)

some_item : (xs : List Item) → 0 < length xs → (x : Item) × Contains xs x
some_item [] some = absurd (omega (arith, some))
some_item (x ∷ xs) some = (x, cons_first x xs)

-- ---- one UID
module _ (es : List (List ℕ × UidState)) (p : AreHeld es) (uid : List ℕ) where
  pub held_no_part : at es uid ≡ None → ArePart uid [] (items_of es)
  held_no_part e = subst (λ (o : Option UidState). ArePart uid (items_at o) (items_of es)) e (part_at es p uid)

  module _ (sh : UidState) (e : at es uid ≡ Some sh) where
    pub held_part : ArePart uid (uid_state_items sh) (items_of es)
    held_part = subst (λ (o : Option UidState). ArePart uid (items_at o) (items_of es)) e (part_at es p uid)

    pub held_sound : IsSound uid sh
    held_sound = (subst (IsSoundAt uid) e (sound_at es p.sound uid)).0

    pub held_ascends : AscendKeys (uid_state_items sh)
    held_ascends = uid_state_ascends uid sh held_sound

    -- something is kept of a UID that is held
    pub held_some : (x : Item) × Contains (items_of es) x × (uid_of x.key ≡ uid)
    held_some =
        let one = some_item (uid_state_items sh) (subst (IsSoundAt uid) e (sound_at es p.sound uid)).1 in
        let there = (held_part one.0).0 one.1 in
        (one.0, there.0, there.1)

-- ---- how many
known_long : (s : Lift Best) (b : Best) → s ≡ Known b → length (series_items s) ≡ 1
known_long s b e = ap (λ (t : Lift Best). length (series_items t)) e

none_long : (s : Lift Best) → ((b : Best) → s ≡ Known b → ⊥) → length (series_items s) ≡ 0
none_long Nothing n = refl
none_long (Known b) n = absurd (n b refl)

pub uid_state_long : (sh : UidState) (rest : List Item) →
    length (uid_state_items sh ++ rest) ≡ length (series_items sh.series) + length sh.entries + length rest
uid_state_long sh rest =
    omega (
      arith,
      length-append {A = Item},
      entries_long sh.entries,
      length-append (uid_state_items sh) rest,
      length-append (series_items sh.series) (entry_items sh.entries),
    )

pub one_more : (sh : UidState) (b : Best) (rest : List Item) → sh.series ≡ Known b →
    length (uid_state_items sh ++ rest) ≡ 1 + length sh.entries + length rest
one_more sh b rest e = let x = uid_state_long sh rest in let y = known_long sh.series b e in omega arith

pub none_more : (sh : UidState) (rest : List Item) → ((b : Best) → sh.series ≡ Known b → ⊥) →
    length (uid_state_items sh ++ rest) ≡ length sh.entries + length rest
none_more sh rest n = let x = uid_state_long sh rest in let y = none_long sh.series n in omega arith
