-- The window that two dates spell.
use Rattle.std.proofs.Common.{◌≡◌, ℕ, List, Option, Some, None, Result, Ok, Err, sym, subst}
use Rattle.std.specs.Prelude.{ℤ, ◌↔◌, IsOk, IfOk, IfSome, IfNone}
use Rattle.std.specs.Result.{result_ok}
use Rattle.itip_moment.specs.Spelling.{IsDateText}
use Rattle.itip_moment.proofs.ValueLaws.{date_text-one}
use Rattle.itip_view.specs.Window.{IsWindow}
use Rattle.itip_view.specs.declared.window.Window.{Window}
use Rattle.itip_view.specs.declared.error.BadWindow.{BadWindow}
use Rattle.itip_words.specs.Words.{IsWindowOf}

pub none_is : {T P : Type 0} (r : Option T) → P → IfNone r P
none_is (Some x) p = tt
none_is None p = p

pub window_found : (from to : List ℕ) (a b : ℤ) (r : Result Window BadWindow) (o : Option Window) → o ≡ result_ok r →
    IfOk r (λ w. (w.from ≡ a) × (w.to ≡ b)) → IsDateText from a → IsDateText to b → IfSome o (IsWindowOf from to)
window_found from to a b (Ok w) o e is first last =
    subst (λ (p : Option Window). IfSome p (IsWindowOf from to)) (sym e) (record {
      first = subst (λ (n : ℤ). IsDateText from n) (sym is.0) first;
      last = subst (λ (n : ℤ). IsDateText to n) (sym is.1) last;
    })
window_found from to a b (Err x) o e is first last = subst (λ (p : Option Window). IfSome p (IsWindowOf from to)) (sym e) tt

pub window_none : (from to : List ℕ) (a b : ℤ) (r : Result Window BadWindow) (o : Option Window) → o ≡ result_ok r →
    (IsOk r ↔ IsWindow a b) → IsDateText from a → IsDateText to b → IfNone o ((w : Window) → IsWindowOf from to w → ⊥)
window_none from to a b (Ok w) o e lawful first last =
    subst (λ (p : Option Window). IfNone p ((w : Window) → IsWindowOf from to w → ⊥)) (sym e) tt
window_none from to a b (Err x) o e lawful first last =
    subst (λ (p : Option Window). IfNone p ((w : Window) → IsWindowOf from to w → ⊥)) (sym e)
    (λ w is.
    let start : w.from ≡ a = date_text-one from w.from a is.first first in
    let end : w.to ≡ b = date_text-one to w.to b is.last last in
    let same : IsWindow a b = subst (λ (n : ℤ). IsWindow n b) start (subst (λ (n : ℤ). IsWindow w.from n) end w.lawful) in
    let bad = lawful.1 same in
    absurd cc)
