-- Decimal digits name one number, and so the texts of dates and times name one date and time.
use Rattle.std.proofs.Common.{◌≡◌, ℕ, ◌+◌, ◌*◌, ◌/◌, ◌%◌, ◌<◌, List, [], ◌∷◌, get_or, length, refl, sym, subst, ◌∙◌, arith, ℤ}
use Rattle.itip_moment.specs.Digits.{two_digits, date_digits, clock_digits}
use Rattle.itip_moment.specs.Spelling.{IsDayOf, IsDateText}

eight : (xs : List ℕ) → length xs ≡ 8 → xs ≡ get_or xs 0 0 ∷ get_or xs 1 0 ∷ get_or xs 2 0 ∷ get_or xs 3 0 ∷ get_or xs 4 0 ∷
    get_or xs 5 0 ∷ get_or xs 6 0 ∷ get_or xs 7 0 ∷ []
eight (a ∷ b ∷ c ∷ d ∷ e ∷ f ∷ g ∷ h ∷ []) len = refl
eight [] len = absurd (omega arith)
eight (a ∷ []) len = absurd (omega arith)
eight (a ∷ b ∷ []) len = absurd (omega arith)
eight (a ∷ b ∷ c ∷ []) len = absurd (omega arith)
eight (a ∷ b ∷ c ∷ d ∷ []) len = absurd (omega arith)
eight (a ∷ b ∷ c ∷ d ∷ e ∷ []) len = absurd (omega arith)
eight (a ∷ b ∷ c ∷ d ∷ e ∷ f ∷ []) len = absurd (omega arith)
eight (a ∷ b ∷ c ∷ d ∷ e ∷ f ∷ g ∷ []) len = absurd (omega arith)
eight (a ∷ b ∷ c ∷ d ∷ e ∷ f ∷ g ∷ h ∷ i ∷ xs) len = absurd (omega arith)

-- a text of eight characters that are four numbers of two digits
pub record AreDateDigits (text : List ℕ) (century year month day : ℕ) : Type 0 where
  pub eight_long : length text ≡ 8
  pub century_is : get_or text 0 0 ∷ get_or text 1 0 ∷ [] ≡ two_digits century
  pub year_is : get_or text 2 0 ∷ get_or text 3 0 ∷ [] ≡ two_digits year
  pub month_is : get_or text 4 0 ∷ get_or text 5 0 ∷ [] ≡ two_digits month
  pub day_is : get_or text 6 0 ∷ get_or text 7 0 ∷ [] ≡ two_digits day
  pub year_in : year < 100

date_digits-spelt : (text : List ℕ) (c y m d : ℕ) → AreDateDigits text c y m d → text ≡ date_digits (c * 100 + y) m d
date_digits-spelt text c y m d h =
    let in_hundred = h.year_in in
    let high : (c * 100 + y) / 100 ≡ c = omega arith in
    let low : (c * 100 + y) % 100 ≡ y = omega arith in
    rw (high, low) (let all = eight text h.eight_long in cc)

pub date_text-found : (text : List ℕ) (c y m d : ℕ) → AreDateDigits text c y m d → (number : ℤ) → IsDayOf (c * 100 + y) m d number →
    IsDateText text number
date_text-found text c y m d h number is =
    record { year = c * 100 + y; month = m; day_of_month = d; spelt = date_digits-spelt text c y m d h; day_is = is }

-- the digits of a date give back its year, month and day
pub date_digits-one : (y m d y' m' d' : ℕ) → date_digits y m d ≡ date_digits y' m' d' → (y ≡ y') × (m ≡ m') × (d ≡ d')
date_digits-one y m d y' m' d' e =
    let y1 : 48 + y / 100 / 10 ≡ 48 + y' / 100 / 10 = cc in
    let y2 : 48 + y / 100 % 10 ≡ 48 + y' / 100 % 10 = cc in
    let y3 : 48 + y % 100 / 10 ≡ 48 + y' % 100 / 10 = cc in
    let y4 : 48 + y % 100 % 10 ≡ 48 + y' % 100 % 10 = cc in
    let m1 : 48 + m / 10 ≡ 48 + m' / 10 = cc in
    let m2 : 48 + m % 10 ≡ 48 + m' % 10 = cc in
    let d1 : 48 + d / 10 ≡ 48 + d' / 10 = cc in
    let d2 : 48 + d % 10 ≡ 48 + d' % 10 = cc in
    (omega arith, omega arith, omega arith)

pub clock_digits-one : (h m s h' m' s' : ℕ) → clock_digits h m s ≡ clock_digits h' m' s' → (h ≡ h') × (m ≡ m') × (s ≡ s')
clock_digits-one h m s h' m' s' e =
    let h1 : 48 + h / 10 ≡ 48 + h' / 10 = cc in
    let h2 : 48 + h % 10 ≡ 48 + h' % 10 = cc in
    let m1 : 48 + m / 10 ≡ 48 + m' / 10 = cc in
    let m2 : 48 + m % 10 ≡ 48 + m' % 10 = cc in
    let s1 : 48 + s / 10 ≡ 48 + s' / 10 = cc in
    let s2 : 48 + s % 10 ≡ 48 + s' % 10 = cc in
    (omega arith, omega arith, omega arith)

pub date_text-only : (text : List ℕ) (c y m d : ℕ) → AreDateDigits text c y m d → (number : ℤ) → IsDateText text number →
    IsDayOf (c * 100 + y) m d number
date_text-only text c y m d h number is =
    let same = date_digits-one _ _ _ _ _ _ (sym is.spelt ∙ date_digits-spelt text c y m d h) in
    subst (λ (n : ℕ). IsDayOf n m d number) same.0
    (subst (λ (n : ℕ). IsDayOf is.year n d number) same.1 (subst (λ (n : ℕ). IsDayOf is.year is.month n number) same.2 is.day_is))
