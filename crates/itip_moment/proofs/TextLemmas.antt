-- Where the parts of a spelt text lie, and that a text spells one value.
use Rattle.std.proofs.Common.{◌≡◌, ℕ, ◌-◌, ℤ, List, [], ◌∷◌, ◌++◌, take, drop, length, sym, ap, subst, ◌∙◌, arith, length-append}
use Rattle.std.proofs.lemmas.List.{take_rest, take-append-le, take_all}
use Rattle.itip_moment.specs.Spelling.{IsDateText, IsClockText, IsLocalText, IsUtcText}

-- a date takes the first eight characters
pub local-date : (text : List ℕ) (day : ℤ) (second : ℕ) → (is : IsLocalText text day second) → take 8 text ≡ is.date
local-date text day second is =
    let spelt = is.date_is.spelt in
    ap (take 8) (is.parts ∙ ap (λ d. d ++ 84 ∷ is.clock) spelt) ∙ sym spelt

pub local-clock : (text : List ℕ) (day : ℤ) (second : ℕ) → (is : IsLocalText text day second) → drop 9 text ≡ is.clock
local-clock text day second is = ap (drop 9) (is.parts ∙ ap (λ d. d ++ 84 ∷ is.clock) is.date_is.spelt)

pub IsLocalText-date : (text : List ℕ) (day : ℤ) (second : ℕ) → IsLocalText text day second → IsDateText (take 8 text) day
IsLocalText-date text day second is = subst (λ (t : List ℕ). IsDateText t day) (sym (local-date text day second is)) is.date_is

pub IsLocalText-clock : (text : List ℕ) (day : ℤ) (second : ℕ) → IsLocalText text day second →
    IsClockText (take (length text - 9) (drop 9 text)) second
IsLocalText-clock text day second is =
    subst (λ (t : List ℕ). IsClockText t second) (sym (take_rest text 9 ∙ local-clock text day second is)) is.clock_is

pub utc-local : (text : List ℕ) (day : ℤ) (second : ℕ) → (is : IsUtcText text day second) → take (length text - 1) text ≡ is.local
utc-local text day second is =
    let long : length text - 1 ≡ length is.local = omega (arith, ap length is.marked, length-append is.local (90 ∷ [])) in
    ap (λ n. take n text) long ∙ ap (take (length is.local)) is.marked ∙
    take-append-le (length is.local) is.local (90 ∷ []) (omega arith) ∙ take_all (length is.local) is.local (omega arith)

pub IsUtcText-local : (text : List ℕ) (day : ℤ) (second : ℕ) → IsUtcText text day second →
    IsLocalText (take (length text - 1) text) day second
IsUtcText-local text day second is = subst (λ (t : List ℕ). IsLocalText t day second) (sym (utc-local text day second is)) is.local_is
