-- The test of a day says whether it is in the window.
use Rattle.std.proofs.Common.{◌≡◌, Bool, true, false, not, refl, sym, subst, Option, Some, None, ℤ, ◌≤ℤ◌, ◌<ℤ◌}
use Rattle.std.specs.Prelude.{int_lt}
use Rattle.std.proofs.Math.Dec.{T}
use lib.Signed.{lt_z_yes, lt_z_no, <ℤ-≤ℤ_trans, <ℤ_irrefl}
use Rattle.itip_state.proofs.Tests.{both}
use Rattle.itip_view.specs.InWindow.{is_in_window}
use Rattle.itip_view.specs.Window.{IsInWindow}
use Rattle.itip_view.specs.declared.window.Window.{Window}

not_is : (b : Bool) → not b ≡ true → b ≡ false
not_is true e = cc
not_is false e = refl

pub truth : (b : Bool) → b ≡ true → T b
truth b e = subst T (sym e) tt

untruth : (b : Bool) → b ≡ false → T (not b)
untruth b e = subst (λ x. T (not x)) (sym e) tt

pub int_lt-true : (a b : ℤ) → a <ℤ b → int_lt a b ≡ true
int_lt-true a b h = elim (int_lt a b) as (λ r. int_lt a b ≡ r → int_lt a b ≡ true) [
  | true ↦ λ e. e
  | false ↦ λ e. let not : b ≤ℤ a = lt_z_no (untruth (int_lt a b) e) in absurd (<ℤ_irrefl (<ℤ-≤ℤ_trans h not))
] refl

int_lt-false : (a b : ℤ) → b ≤ℤ a → int_lt a b ≡ false
int_lt-false a b h = elim (int_lt a b) as (λ r. int_lt a b ≡ r → int_lt a b ≡ false) [
  | true ↦ λ e. let less : a <ℤ b = lt_z_yes (truth (int_lt a b) e) in absurd (<ℤ_irrefl (<ℤ-≤ℤ_trans less h))
  | false ↦ λ e. e
] refl

pub in_window_is : (w : Window) (day : Option ℤ) → is_in_window w day ≡ true → IsInWindow w.from w.to day
in_window_is w None e = tt
in_window_is w (Some day) e =
    let parts = both (not (int_lt day w.from)) (int_lt day w.to) e in
    (lt_z_no (untruth (int_lt day w.from) (not_is (int_lt day w.from) parts.0)), lt_z_yes (truth (int_lt day w.to) parts.1))

pub in_window_from : (w : Window) (day : Option ℤ) → IsInWindow w.from w.to day → is_in_window w day ≡ true
in_window_from w None h = refl
in_window_from w (Some day) (low, high) = rw (int_lt-false day w.from low, int_lt-true day w.to high) refl
