-- The moments of a set are those that the lines list.
use Rattle.std.proofs.Common.{◌≡◌, ℕ, zero, suc, ◌<◌, Bool, true, false, ◌||◌, List, [], ◌∷◌, length, refl, sym, ap, ◌∙◌, arith, get_or}
use Rattle.std.proofs.lemmas.Cmp.{tied_itself}
use Rattle.std.proofs.lemmas.Map.Views.{tells_apart}
use Rattle.std.specs.BTreeMap.{is_at}
use Rattle.std.specs.BTreeSet.{BTreeSet, contains}
use Rattle.std.specs.List.{list_any, Contains}
use Rattle.std.specs.Ordering.{eq_by_cmp, is_eq}
use Rattle.std.specs.Prelude.{◌↔◌}
use Rattle.itip_moment.specs.Order.{moment_cmp}
use Rattle.itip_moment.specs.OrderLaws.{moment_total}
use Rattle.itip_moment.specs.declared.moment.Moment.{Moment}
use Rattle.itip_moment.proofs.Same.{moment_equal}
use Rattle.itip_todo.specs.Drafts.{is_listed}

-- a test that finds one value alone tells whether it is there

any_from : {A : Type 0} (test : A → Bool) (xs : List A) (m : A) → test m ≡ true → (k : ℕ) → k < length xs → get_or xs k m ≡ m →
    list_any test xs ≡ true
any_from test [] m passes k less e = absurd (omega arith)
any_from test (x ∷ xs) m passes zero less e = ap (λ b. b || list_any test xs) (ap test e ∙ passes)
any_from test (x ∷ xs) m passes (suc k) less e = ap (λ b. test x || b) (any_from test xs m passes k (omega arith) e) ∙ or_true (test x)
  where
    or_true : (b : Bool) → (b || true) ≡ true
    or_true true = refl
    or_true false = refl

place_from : {A : Type 0} (test : A → Bool) (xs : List A) (m : A) → ((x : A) → test x ≡ true → x ≡ m) → list_any test xs ≡ true →
    Contains xs m
place_from test [] m only e = absurd cc
place_from test (x ∷ xs) m only e =
    elim (test x) as (λ b. test x ≡ b → (b || list_any test xs) ≡ true → Contains (x ∷ xs) m) [
      | true ↦ λ yes _. (0, omega arith, only x yes)
      | false ↦ λ _ later. let rec = place_from test xs m only later in (suc rec.0, omega (arith, rec.1), rec.2)
    ] refl e

pub contains_any : {A : Type 0} (test : A → Bool) (xs : List A) (m : A) → test m ≡ true → ((x : A) → test x ≡ true → x ≡ m) →
    Contains xs m ↔ (list_any test xs ≡ true)
contains_any test xs m passes only = (λ h. any_from test xs m passes h.0 h.1 h.2, λ e. place_from test xs m only e)

pub itself : (m : Moment) → eq_by_cmp moment_cmp m m ≡ true
itself m = ap is_eq (tied_itself moment_total m)

only_listed : (m x : Moment) → eq_by_cmp moment_cmp x m ≡ true → x ≡ m
only_listed m x e = tells_apart moment_equal x m e

pub only_at : (m x : Moment) → is_at (moment_cmp m) x ≡ true → x ≡ m
only_at m x e = sym (tells_apart moment_equal m x e)

pub same_members : (set : BTreeSet Moment) (listed : List Moment) → ((m : Moment) → contains moment_cmp set m ≡ is_listed listed m) →
    (m : Moment) → Contains set.keys m ↔ Contains listed m
same_members set listed h m =
    let here = contains_any (is_at (moment_cmp m)) set.keys m (itself m) (only_at m) in
    let there = contains_any (λ x. eq_by_cmp moment_cmp x m) listed m (itself m) (only_listed m) in
    (λ k. there.1 (sym (h m) ∙ here.0 k), λ k. here.1 (h m ∙ there.0 k))
