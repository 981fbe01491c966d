-- Digits are text, and what comes before a weekday's two letters.
use Rattle.std.proofs.Common.{◌≡◌, ℕ, ◌+◌, ◌-◌, ◌<◌, ◌≤◌, refl, sym, ap, subst, ◌∙◌, arith, List, [], ◌∷◌, ◌++◌, length, get_or, take, drop}
use Rattle.std.proofs.Common.{Result, Ok, Err, None, inl, inr, length-append}
use Rattle.std.specs.Result.{MatchResult, result_ok}
use Rattle.std.specs.Str.{IsUtf8, str_to_ascii_uppercase}
use Rattle.std.specs.Str.Parse.{AllDigits}
use Rattle.std.specs.Char.{to_ascii_uppercase}
use Rattle.std.proofs.lemmas.Bool.{cases_lt}
use Rattle.std.proofs.lemmas.List.{get_or_past, get_or-append_right, get_or-drop, length-drop, take-append-drop, take_at, length-map}
use Rattle.std.proofs.lemmas.Str.{IsUtf8-from_ascii}
use Rattle.std.proofs.lemmas.Str.Parse.{digit_at}
use Rattle.jiff_core.specs.declared.civil.weekday.Weekday.{Weekday}
use Rattle.jiff_core.specs.declared.civil.weekday.Weekday.TheVariants.{Monday, Tuesday, Wednesday, Thursday, Friday, Saturday, Sunday}
use Rattle.itip_recur.specs.RuleText.{weekday_word, IsWeekdayText, IsPlaceText, IsNthText}
use Rattle.itip_recur.specs.declared.rule.Place.{Place}

pub IsUtf8-digits : (ds : List ℕ) → AllDigits 10 ds → IsUtf8 ds
IsUtf8-digits ds h = IsUtf8-from_ascii ds ascii
  where
    ascii : (i : ℕ) → get_or ds i 0 < 128
    ascii i = elim (cases_lt i (length ds)) [
      | inl lt ↦ omega (arith, digit_at ds i h lt)
      | inr ge ↦ omega (arith, get_or_past ds i 0 ge)
    ]

two_letters : (w : Weekday) → length (weekday_word w) ≡ 2
two_letters Monday = refl
two_letters Tuesday = refl
two_letters Wednesday = refl
two_letters Thursday = refl
two_letters Friday = refl
two_letters Saturday = refl
two_letters Sunday = refl

-- a list of two
pair : (back : List ℕ) → length back ≡ 2 → back ≡ get_or back 0 0 ∷ get_or back 1 0 ∷ []
pair [] e = absurd (omega arith)
pair (a ∷ []) e = absurd (omega arith)
pair (a ∷ b ∷ []) e = refl
pair (a ∷ b ∷ c ∷ more) e = absurd (omega arith)

-- if a text ends in a weekday, its two letters and what comes before them
pub record IsEnding (text front : List ℕ) (w : Weekday) : Type 0 where
  pub front_is : take (length text - 2) text ≡ front
  pub letters : to_ascii_uppercase (get_or text (length text - 2) 0) ∷ to_ascii_uppercase (get_or text (length text - 1) 0) ∷
      [] ≡ weekday_word w

pub IsEnding-whole : (text front back : List ℕ) (w : Weekday) → text ≡ front ++ back → IsWeekdayText back w → IsEnding text front w
IsEnding-whole text front back w whole is =
    let two : length back ≡ 2 = sym (length-map back to_ascii_uppercase) ∙ ap length is ∙ two_letters w in
    let long : length text ≡ length front + 2 = omega (arith, ap length whole, length-append front back) in
    let at_front : length front ≡ length text - 2 = omega arith in
    let first : get_or text (length text - 2) 0 ≡ get_or back 0 0 = ap (λ t. get_or t (length text - 2) 0) whole ∙
    get_or-append_right front back (length text - 2) (length text - 2) 0 at_front (omega arith) ∙
    ap (λ k. get_or back k 0) (let e : (length text - 2) - (length text - 2) ≡ 0 = omega arith in e) in
    let second : get_or text (length text - 1) 0 ≡ get_or back 1 0 = ap (λ t. get_or t (length text - 1) 0) whole ∙
    get_or-append_right front back (length text - 2) (length text - 1) 0 at_front (omega arith) ∙
    ap (λ k. get_or back k 0) (let e : (length text - 1) - (length text - 2) ≡ 1 = omega arith in e) in
    record {
      front_is = ap (take (length text - 2)) whole ∙ take_at front back (length text - 2) at_front;
      letters = ap (λ a. to_ascii_uppercase a ∷ to_ascii_uppercase (get_or text (length text - 1) 0) ∷ []) first ∙
          ap (λ b. to_ascii_uppercase (get_or back 0 0) ∷ to_ascii_uppercase b ∷ []) second ∙
          sym (ap str_to_ascii_uppercase (pair back two)) ∙ is;
    }

pub weekday_two : (text : List ℕ) (w : Weekday) → IsWeekdayText text w → length text ≡ 2
weekday_two text w is = sym (length-map text to_ascii_uppercase) ∙ ap length is ∙ two_letters w

-- a place and a weekday, read where they lie in the text
pub record AreNthParts (text : List ℕ) (place : Place) (w : Weekday) : Type 0 where
  pub place_is : IsPlaceText 5 (take (length text - 2) text) place
  pub letters : to_ascii_uppercase (get_or text (length text - 2) 0) ∷ to_ascii_uppercase (get_or text (length text - 1) 0) ∷
      [] ≡ weekday_word w

pub AreNthParts-of : (text : List ℕ) (place : Place) (w : Weekday) → IsNthText text place w → AreNthParts text place w
AreNthParts-of text place w n =
    let ending = IsEnding-whole text n.front n.back w n.whole n.weekday_is in
    record { place_is = subst (λ (t : List ℕ). IsPlaceText 5 t place) (sym ending.front_is) n.place_is; letters = ending.letters }

pub IsNthText-of : (text : List ℕ) (place : Place) (w : Weekday) → 2 ≤ length text → AreNthParts text place w → IsNthText text place w
IsNthText-of text place w long parts =
    let k = length text - 2 in
    let rest : length (drop k text) ≡ 2 = length-drop k text ∙ (let e : length text - (length text - 2) ≡ 2 = omega arith in e) in
    let first : get_or (drop k text) 0 0 ≡ get_or text (length text - 2) 0 = get_or-drop k text 0 0 ∙
    ap (λ i. get_or text i 0) (let e : k + 0 ≡ length text - 2 = omega arith in e) in
    let second : get_or (drop k text) 1 0 ≡ get_or text (length text - 1) 0 = get_or-drop k text 1 0 ∙
    ap (λ i. get_or text i 0) (let e : k + 1 ≡ length text - 1 = omega arith in e) in
    record {
      front = take k text;
      back = drop k text;
      whole = sym (take-append-drop k text);
      place_is = parts.place_is;
      weekday_is = ap str_to_ascii_uppercase (pair (drop k text) rest) ∙
          ap (λ a. to_ascii_uppercase a ∷ to_ascii_uppercase (get_or (drop k text) 1 0) ∷ []) first ∙
          ap (λ b. to_ascii_uppercase (get_or text (length text - 2) 0) ∷ to_ascii_uppercase b ∷ []) second ∙ parts.letters;
    }

-- what was refused is not such a text
pub refused : {T E : Type 0} (r : Result T E) (P : T → Type 0) (Q : Type 0) (V : E → Type 0) → None ≡ result_ok r →
    MatchResult r P (λ e. (Q → ⊥) × V e) → Q → ⊥
refused (Ok x) P Q V none h q = cc
refused (Err e) P Q V none h q = h.0 q
