-- The moments of a text are inserted into a set one after the other.
use Rattle.std.proofs.Common.{◌≡◌, ℕ, Bool, true, false, cond, ◌||◌, List, [], ◌∷◌, ◌++◌, refl, sym, ap, subst, ◌∙◌, append_assoc}
use Rattle.std.proofs.Math.Bool.{or_assoc, or-false}
use Rattle.std.proofs.lemmas.List.Folds.{list_any-append}
use Rattle.std.specs.BTreeSet.{BTreeSet, contains}
use Rattle.std.specs.Ordering.{eq_by_cmp}
use Rattle.itip_lines.specs.declared.line.Param.{Param}
use Rattle.itip_moment.specs.Order.{moment_cmp}
use Rattle.itip_moment.specs.declared.moment.Moment.{Moment}
use Rattle.itip_todo.specs.Drafts.{HasNoComma, PutsMoments, is_listed}
use Rattle.itip_todo.specs.Values.{IsMomentText, AreMoments}
use Rattle.itip_todo.proofs.Commas.{behind_comma, no_comma_one, with_first}

pub cond_or : (b c : Bool) → cond b true c ≡ (c || b)
cond_or true true = refl
cond_or true false = refl
cond_or false true = refl
cond_or false false = refl

-- the moments of the front of a text are in the set, and the rest is to come
pub record HasPut (params : List Param) (text rest : List ℕ) (old set : BTreeSet Moment) : Type 0 where
  pub seen : List Moment
  pub joined : (ms : List Moment) → AreMoments params rest ms → AreMoments params text (seen ++ ms)
  pub left : (ms : List Moment) → AreMoments params text ms → (later : List Moment) × AreMoments params rest later
  pub each : (m : Moment) → contains moment_cmp set m ≡ (contains moment_cmp old m || is_listed seen m)

pub put_none : (params : List Param) (text : List ℕ) (old : BTreeSet Moment) → HasPut params text text old old
put_none params text old = record {
  seen = [];
  joined = λ ms h. h;
  left = λ ms h. (ms, h);
  each = λ m. sym (or-false (contains moment_cmp old m));
}

one_listed : (seen : List Moment) (one m : Moment) → is_listed (seen ++ one ∷ []) m ≡ (is_listed seen m || eq_by_cmp moment_cmp one m)
one_listed seen one m = list_any-append (λ x. eq_by_cmp moment_cmp x m) seen (one ∷ []) ∙
    ap (λ b. is_listed seen m || b) (or-false (eq_by_cmp moment_cmp one m))

each_more : (seen : List Moment) (one : Moment) (old set new : BTreeSet Moment) →
    ((m : Moment) → contains moment_cmp set m ≡ (contains moment_cmp old m || is_listed seen m))
    → ((m : Moment) → contains moment_cmp new m ≡ (contains moment_cmp set m || eq_by_cmp moment_cmp one m)) → (m : Moment) →
    contains moment_cmp new m ≡ (contains moment_cmp old m || is_listed (seen ++ one ∷ []) m)
each_more seen one old set new h k m =
    k m ∙ ap (λ b. b || eq_by_cmp moment_cmp one m) (h m) ∙
    or_assoc (contains moment_cmp old m) (is_listed seen m) (eq_by_cmp moment_cmp one m) ∙
    ap (λ b. contains moment_cmp old m || b) (sym (one_listed seen one m))

pub put_more : (params : List Param) (text rest front after : List ℕ) (one : Moment) (old set new : BTreeSet Moment) →
    HasPut params text rest old set → rest ≡ front ++ 44 ∷ after → HasNoComma front → IsMomentText params front one
    → ((m : Moment) → contains moment_cmp new m ≡ (contains moment_cmp set m || eq_by_cmp moment_cmp one m)) →
    HasPut params text after old new
put_more params text rest front after one old set new h e none is k = record {
  seen = h.seen ++ one ∷ [];
  joined = λ ms later. subst (λ (all : List Moment). AreMoments params text all) (sym (append_assoc h.seen (one ∷ []) ms))
      (h.joined (one ∷ ms) (with_first params rest front after one ms e is later));
  left = λ ms all.
      let later = h.left ms all in
      let cut = behind_comma params rest front after later.0 e none later.1 in
      (cut.1, cut.4);
  each = each_more h.seen one old set new h.each k;
}

pub put_last : (params : List Param) (text rest : List ℕ) (one : Moment) (old set new : BTreeSet Moment) →
    HasPut params text rest old set → IsMomentText params rest one
    → ((m : Moment) → contains moment_cmp new m ≡ (contains moment_cmp set m || eq_by_cmp moment_cmp one m)) →
    PutsMoments params text old new
put_last params text rest one old set new h is k = record {
  listed = h.seen ++ one ∷ [];
  are = h.joined (one ∷ []) is;
  each = each_more h.seen one old set new h.each k;
}

-- a stretch that is no moment
pub bad_front : (params : List Param) (text rest front after : List ℕ) (old set : BTreeSet Moment) → HasPut params text rest old set →
    rest ≡ front ++ 44 ∷ after → HasNoComma front → ((m : Moment) → IsMomentText params front m → ⊥)
    → (ms : List Moment) → AreMoments params text ms → ⊥
bad_front params text rest front after old set h e none bad ms all =
    let later = h.left ms all in
    let cut = behind_comma params rest front after later.0 e none later.1 in
    bad cut.0 cut.3

pub bad_last : (params : List Param) (text rest : List ℕ) (old set : BTreeSet Moment) → HasPut params text rest old set → HasNoComma rest →
    ((m : Moment) → IsMomentText params rest m → ⊥) → (ms : List Moment) → AreMoments params text ms → ⊥
bad_last params text rest old set h none bad ms all =
    let later = h.left ms all in
    let one = no_comma_one params rest later.0 none later.1 in
    bad one.0 one.2
