-- To-dos with the same key, and to-dos no two of which have the same.
use Rattle.std.proofs.Common.{◌≡◌, ◌∙◌, sym, ap, refl, ℕ, ◌+◌, ◌==◌, Bool, true, false, List, [], ◌∷◌, ◌++◌, take, drop, subst}
use Rattle.std.proofs.Common.{arith, zero, suc, get_or, Option, Some, None, take-append-drop}
use Rattle.std.specs.Prelude.{IsTrue, ◌&&◌, ◌||◌}
use Rattle.std.specs.Cmp.Lexicographic.{nat_list_eq_equiv}
use Rattle.std.specs.Option.{is_some, option_eq}
use Rattle.std.specs.Ordering.{eq_by_cmp}
use Rattle.std.specs.List.{Any, list_any}
use Rattle.std.proofs.lemmas.Bool.{and_parts}
use Rattle.std.proofs.lemmas.List.{drop_more, get_or_default}
use Rattle.std.proofs.lemmas.List.Elements.{Contains-append_right}
use Rattle.std.proofs.lemmas.List.Kept.{AllPairs-cons}
use Rattle.itip_moment.specs.Order.{moment_cmp}
use Rattle.itip_moment.specs.declared.moment.Moment.{Moment}
use Rattle.itip_moment.proofs.Same.{moment_eq-iff}
use Rattle.itip_todo.specs.Participation.{same_text}
use Rattle.itip_todo.specs.Parts.{Parts}
use Rattle.itip_todo.specs.PartsOf.{parts_of}
use Rattle.itip_todo.specs.declared.todo.Todo.{Todo}
use Rattle.itip_items.specs.Items.{instance_key, task_draft}
use Rattle.itip_items.specs.KeyParts.{uid_of, rank_of, instance_of}
use Rattle.itip_items.specs.declared.key.Key.{Key}
use Rattle.itip_items.specs.declared.key.Key.TheVariants as key
use Rattle.itip_items.specs.declared.kind.Kind.{Kind}
use Rattle.itip_items.specs.declared.kind.Kind.TheVariants as kind
use Rattle.itip_state.proofs.OfKey.{head_pair, tail_pairs}
use Rattle.itip_todo.proofs.Names.{text_is}
use Rattle.itip_writing.specs.Requesting.{key_of, is_twin, has_twins, AreApart, HasTwins}
use mathlib.Core.Bool.{beq}

-- ---- the key of a to-do

abbrev pub key_at : Bool → List ℕ → Option Moment → Key
key_at range uid None = key.Series uid
key_at range uid (Some id) = instance_key range uid id

pub draft_key : (k : Kind) (eff : ℕ) (rid : Option Moment) (parts : Parts) →
    (task_draft k eff rid parts).key ≡ key_at parts.range parts.uid rid
draft_key k eff None parts = refl
draft_key k eff (Some id) parts = refl

pub key_whole : (todo : Todo) → key_of todo ≡ key_at todo.range todo.uid todo.rid
key_whole todo = draft_key kind.Request todo.seq todo.rid (parts_of todo)

pub same_key : (a b : Todo) → a.uid ≡ b.uid → a.rid ≡ b.rid → a.range ≡ b.range → key_of a ≡ key_of b
same_key a b uid rid range = key_whole a ∙ (λ i. key_at (range i) (uid i) (rid i)) ∙ sym (key_whole b)

pub uid_at : (range : Bool) (uid : List ℕ) (rid : Option Moment) → uid_of (key_at range uid rid) ≡ uid
uid_at range uid None = refl
uid_at true uid (Some id) = refl
uid_at false uid (Some id) = refl

rid_at : (range : Bool) (uid : List ℕ) (rid : Option Moment) → instance_of (key_at range uid rid) ≡ rid
rid_at range uid None = refl
rid_at true uid (Some id) = refl
rid_at false uid (Some id) = refl

range_at : (range : Bool) (uid : List ℕ) (rid : Option Moment) → (IsTrue range → IsTrue (is_some rid)) →
    (rank_of (key_at range uid rid) == 2) ≡ range
range_at true uid None only = let no : false ≡ true = only refl in cc
range_at false uid None only = refl
range_at true uid (Some id) only = refl
range_at false uid (Some id) only = refl

pub uid_same : (a b : Todo) → key_of a ≡ key_of b → a.uid ≡ b.uid
uid_same a b same =
    sym (uid_at a.range a.uid a.rid) ∙ ap uid_of (sym (key_whole a) ∙ same ∙ key_whole b) ∙ uid_at b.range b.uid b.rid

pub rid_same : (a b : Todo) → key_of a ≡ key_of b → a.rid ≡ b.rid
rid_same a b same =
    sym (rid_at a.range a.uid a.rid) ∙ ap instance_of (sym (key_whole a) ∙ same ∙ key_whole b) ∙ rid_at b.range b.uid b.rid

-- only RECURRENCE-ID has a range
pub range_same : (a b : Todo) → key_of a ≡ key_of b → a.range ≡ b.range
range_same a b same =
    sym (range_at a.range a.uid a.rid a.lawful.range)
    ∙ ap (λ (k : Key). rank_of k == 2) (sym (key_whole a) ∙ same ∙ key_whole b)
    ∙ range_at b.range b.uid b.rid b.lawful.range

-- ---- a list of to-dos

abbrev pub HasOther : Todo → List Todo → Type 0
HasOther todo others = Any (λ (other : Todo). key_of todo ≡ key_of other) others

pub twins_here : (todo : Todo) (others : List Todo) → HasOther todo others → HasTwins (todo ∷ others)
twins_here todo others (k, other, within, at, same) =
    let split : drop k others ≡ other ∷ drop (k + 1) others =
    drop_more others k other within ∙ ap (λ (t : Todo). t ∷ drop (k + 1) others) at in
    record {
      front = [];
      first = todo;
      middle = take k others;
      second = other;
      back = drop (k + 1) others;
      whole = ap (λ (ts : List Todo). todo ∷ ts) (sym (take-append-drop k others) ∙ ap (λ (ts : List Todo). take k others ++ ts) split);
      same = same;
    }

pub twins_later : (todo : Todo) (others : List Todo) → HasTwins others → HasTwins (todo ∷ others)
twins_later todo others twins = record {
  front = todo ∷ twins.front;
  first = twins.first;
  middle = twins.middle;
  second = twins.second;
  back = twins.back;
  whole = ap (λ (ts : List Todo). todo ∷ ts) twins.whole;
  same = twins.same;
}

pub none_apart : AreApart []
none_apart i j d below within = absurd (omega arith)

pub apart_more : (todo : Todo) (others : List Todo) → ¬ HasOther todo others → AreApart others → AreApart (todo ∷ others)
apart_more todo others none apart =
    AllPairs-cons (λ (a b : Todo). key_of a ≡ key_of b → ⊥) todo others
    (λ k d within same. none (k, get_or others k d, within, get_or_default others k (get_or others k d) d within, same)) apart

-- ---- the test

rid_is : (a b : Option Moment) → option_eq (eq_by_cmp moment_cmp) a b ≡ true → a ≡ b
rid_is None None e = refl
rid_is None (Some n) e = absurd cc
rid_is (Some m) None e = absurd cc
rid_is (Some m) (Some n) e = ap Some ((moment_eq-iff m n (eq_by_cmp moment_cmp m n) refl).0 e)

rid_itself : (a : Option Moment) → option_eq (eq_by_cmp moment_cmp) a a ≡ true
rid_itself None = refl
rid_itself (Some m) = (moment_eq-iff m m (eq_by_cmp moment_cmp m m) refl).1 refl

range_is : (a b : Bool) → beq a b ≡ true → a ≡ b
range_is true true e = refl
range_is true false e = absurd cc
range_is false true e = absurd cc
range_is false false e = refl

range_itself : (a : Bool) → beq a a ≡ true
range_itself true = refl
range_itself false = refl

twin_same : (a b : Todo) → is_twin a b ≡ true → key_of a ≡ key_of b
twin_same a b e =
    let rid : Bool = option_eq (eq_by_cmp moment_cmp) a.rid b.rid in
    let parts = and_parts (same_text a.uid b.uid && rid) (beq a.range b.range) e in
    let front = and_parts (same_text a.uid b.uid) rid parts.0 in
    same_key a b (text_is a.uid b.uid front.0) (rid_is a.rid b.rid front.1) (range_is a.range b.range parts.1)

twin_itself : (a b : Todo) → key_of a ≡ key_of b → is_twin a b ≡ true
twin_itself a b same =
    let uid : same_text a.uid b.uid ≡ true =
    subst (λ (u : List ℕ). same_text a.uid u ≡ true) (uid_same a b same) (nat_list_eq_equiv.refl a.uid) in
    let rid : option_eq (eq_by_cmp moment_cmp) a.rid b.rid ≡ true =
    subst (λ (r : Option Moment). option_eq (eq_by_cmp moment_cmp) a.rid r ≡ true) (rid_same a b same) (rid_itself a.rid) in
    let range : beq a.range b.range ≡ true =
    subst (λ (r : Bool). beq a.range r ≡ true) (range_same a b same) (range_itself a.range) in
    λ i. (uid i && rid i) && range i

pub or_none : (a b : Bool) → (a || b) ≡ false → (a ≡ false) × (b ≡ false)
or_none true b e = absurd cc
or_none false b e = (refl, e)

other_later : (todo other : Todo) (others : List Todo) → HasOther todo others → HasOther todo (other ∷ others)
other_later todo other others (k, x, within, at, same) = (suc k, x, omega arith, at, same)

other_there : (todo : Todo) (others : List Todo) → list_any (is_twin todo) others ≡ true → HasOther todo others
other_there todo [] e = absurd cc
other_there todo (other ∷ others) e =
    elim (is_twin todo other) as
    (λ b. is_twin todo other ≡ b → (b || list_any (is_twin todo) others) ≡ true → HasOther todo (other ∷ others)) [
      | true ↦ λ is _. (0, other, omega arith, refl, twin_same todo other is)
      | false ↦ λ _ rest. other_later todo other others (other_there todo others rest)
    ] refl e

no_other : (todo : Todo) (others : List Todo) → list_any (is_twin todo) others ≡ false → ¬ HasOther todo others
no_other todo [] e (k, x, within, at, same) = absurd (omega arith)
no_other todo (other ∷ others) e (zero, x, within, at, same) =
    let not : is_twin todo other ≡ false = (or_none (is_twin todo other) (list_any (is_twin todo) others) e).0 in
    let two : true ≡ false = sym (twin_itself todo other (same ∙ ap key_of (sym at))) ∙ not in
    cc
no_other todo (other ∷ others) e (suc k, x, within, at, same) =
    no_other todo others (or_none (is_twin todo other) (list_any (is_twin todo) others) e).1 (k, x, omega arith, at, same)

pub twins_there : (all : List Todo) → has_twins all ≡ true → HasTwins all
twins_there [] e = absurd cc
twins_there (todo ∷ others) e =
    elim (list_any (is_twin todo) others) as
    (λ b. list_any (is_twin todo) others ≡ b → (b || has_twins others) ≡ true → HasTwins (todo ∷ others)) [
      | true ↦ λ here _. twins_here todo others (other_there todo others here)
      | false ↦ λ _ rest. twins_later todo others (twins_there others rest)
    ] refl e

pub none_there : (all : List Todo) → has_twins all ≡ false → AreApart all
none_there [] e = none_apart
none_there (todo ∷ others) e =
    let parts = or_none (list_any (is_twin todo) others) (has_twins others) e in
    apart_more todo others (no_other todo others parts.0) (none_there others parts.1)

-- to-dos two of which have the same key are not apart
pub twins_apart : (all : List Todo) → HasTwins all → AreApart all → ⊥
twins_apart all twins apart =
    past twins.front (subst AreApart twins.whole apart)
  where
    first_apart : (todo other : Todo) (middle back : List Todo) → key_of todo ≡ key_of other →
        AreApart (todo ∷ (middle ++ other ∷ back)) → ⊥
    first_apart todo other middle back same apart =
        head_pair (λ (a b : Todo). key_of a ≡ key_of b → ⊥) todo (middle ++ other ∷ back) apart other
        (Contains-append_right middle (other ∷ back) other (0, omega arith, refl)) same

    past : (front : List Todo) → AreApart (front ++ twins.first ∷ (twins.middle ++ twins.second ∷ twins.back)) → ⊥
    past [] apart = first_apart twins.first twins.second twins.middle twins.back twins.same apart
    past (todo ∷ front) apart =
        past front (tail_pairs (λ (a b : Todo). key_of a ≡ key_of b → ⊥) todo
        (front ++ twins.first ∷ (twins.middle ++ twins.second ∷ twins.back)) apart)
