-- The window that words ask for.
use Rattle.std.proofs.Common.{◌≡◌, List, ℕ, Bool, Option, Some, None, Result, Ok, Err, ap, refl, sym, subst, ◌∙◌}
use Rattle.std.specs.Prelude.{ℤ, ◌↔◌, IsOk, IfOk, IfSome, IfNone, unwrap_or}
use Rattle.std.specs.Result.{result_ok}
use Rattle.itip_moment.specs.Spelling.{IsDateText}
use Rattle.itip_moment.proofs.ValueLaws.{date_text-one}
use Rattle.itip_view.specs.Window.{IsWindow}
use Rattle.itip_view.specs.declared.window.Window.{Window}
use Rattle.itip_view.specs.declared.error.BadWindow.{BadWindow}
use Rattle.itip_words.specs.Days.{IsGiven, IsAskedWindow, first_day, day_after}

pub not_given : (word : List ℕ) → ((day : ℤ) → IsDateText word day → ⊥) → (day : Option ℤ) → IsGiven (Some word) day → ⊥
not_given word never None given = given
not_given word never (Some day) given = never day given

given_one : (word : Option (List ℕ)) (a b : Option ℤ) → IsGiven word a → IsGiven word b → a ≡ b
given_one None None None p q = refl
given_one None (Some a) b p q = absurd p
given_one None None (Some b) p q = absurd q
given_one (Some word) None b p q = absurd p
given_one (Some word) (Some a) None p q = absurd q
given_one (Some word) (Some a) (Some b) p q = ap (λ (d : ℤ). Some d) (date_text-one word a b p q)

-- both ends of the window follow from the words
pub asked_one : (from to : Option (List ℕ)) (today : Option ℤ) (is_due : Bool) (a b : Option ℤ) (w : Window) → IsGiven from a →
    IsGiven to b → IsAskedWindow from to today is_due w →
    (first_day is_due a b today ≡ Some w.from) × (day_after is_due b a today ≡ Some w.to)
asked_one from to today is_due a b w from_is to_is is =
    let e : is.from_day ≡ a = given_one from is.from_day a is.from_is from_is in
    let f : is.to_day ≡ b = given_one to is.to_day b is.to_is to_is in (
      subst (λ (p : Option ℤ). first_day is_due p b today ≡ Some w.from) e
          (subst (λ (q : Option ℤ). first_day is_due is.from_day q today ≡ Some w.from) f is.first),
      subst (λ (p : Option ℤ). day_after is_due b p today ≡ Some w.to) e
          (subst (λ (q : Option ℤ). day_after is_due q is.from_day today ≡ Some w.to) f is.after),
    )

pub asked_found : (from to : Option (List ℕ)) (today : Option ℤ) (is_due : Bool) (a b : Option ℤ) (x y : ℤ)
    (r : Result Window BadWindow) (o : Option Window) → o ≡ result_ok r → IfOk r (λ w. (w.from ≡ x) × (w.to ≡ y)) → IsGiven from a →
    IsGiven to b → first_day is_due a b today ≡ Some x → day_after is_due b a today ≡ Some y →
    IfSome o (IsAskedWindow from to today is_due)
asked_found from to today is_due a b x y (Ok w) o e is from_is to_is first after =
    subst (λ (p : Option Window). IfSome p (IsAskedWindow from to today is_due)) (sym e) (record {
      from_day = a;
      to_day = b;
      from_is = from_is;
      to_is = to_is;
      first = first ∙ ap (λ (n : ℤ). Some n) (sym is.0);
      after = after ∙ ap (λ (n : ℤ). Some n) (sym is.1);
    })
asked_found from to today is_due a b x y (Err bad) o e is from_is to_is first after =
    subst (λ (p : Option Window). IfSome p (IsAskedWindow from to today is_due)) (sym e) tt

some_one : (x y : ℤ) → Some x ≡ Some y → x ≡ y
some_one x y e = ap (λ (o : Option ℤ). unwrap_or o x) e

pub asked_none : (from to : Option (List ℕ)) (today : Option ℤ) (is_due : Bool) (a b : Option ℤ) (x y : ℤ)
    (r : Result Window BadWindow) (o : Option Window) → o ≡ result_ok r → (IsOk r ↔ IsWindow x y) → IsGiven from a → IsGiven to b →
    first_day is_due a b today ≡ Some x → day_after is_due b a today ≡ Some y →
    IfNone o ((w : Window) → IsAskedWindow from to today is_due w → ⊥)
asked_none from to today is_due a b x y (Ok w) o e lawful from_is to_is first after =
    subst (λ (p : Option Window). IfNone p ((w : Window) → IsAskedWindow from to today is_due w → ⊥)) (sym e) tt
asked_none from to today is_due a b x y (Err bad) o e lawful from_is to_is first after =
    subst (λ (p : Option Window). IfNone p ((w : Window) → IsAskedWindow from to today is_due w → ⊥)) (sym e)
    (λ w is.
    let one = asked_one from to today is_due a b w from_is to_is is in
    let start : x ≡ w.from = some_one x w.from (sym first ∙ one.0) in
    let end : y ≡ w.to = some_one y w.to (sym after ∙ one.1) in
    let same : IsWindow x y = subst (λ (n : ℤ). IsWindow n y) (sym start) (subst (λ (n : ℤ). IsWindow w.from n) (sym end) w.lawful) in
    let bad = lawful.1 same in
    absurd cc)
