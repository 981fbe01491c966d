-- Moments with commas between them: a moment has no comma, and so a text is cut at its commas in one way.
use Rattle.std.proofs.Common.{◌≡◌, ◌≢◌, ℕ, zero, suc, ◌+◌, ◌<◌, List, [], ◌∷◌, ◌++◌, length, get_or, refl, sym, subst, ◌∙◌, arith, Some}
use Rattle.std.proofs.Common.{Option}
use Rattle.std.specs.List.{AllByRecursion}
use Rattle.std.specs.Prelude.{codes, ℤ}
use Rattle.itip_lines.specs.declared.line.Param.{Param}
use Rattle.itip_moment.specs.Digits.{date_digits, clock_digits}
use Rattle.itip_moment.specs.Spelling.{IsDateText, IsLocalText, IsUtcText, MomentText}
use Rattle.itip_moment.specs.declared.moment.Moment.{Moment}
use Rattle.itip_moment.specs.declared.moment.Moment.TheVariants.{Date, Floating, Utc, Zoned}
use Rattle.itip_todo.specs.Drafts.{HasNoComma}
use Rattle.itip_todo.specs.Participation.{param_value}
use Rattle.itip_todo.specs.Values.{IsMomentText, AreMoments}

-- every octet is a digit or after the digits
abbrev pub IsHigh : List ℕ → Type 0
IsHigh text = AllByRecursion (λ c. 47 < c) text

high_append : (xs ys : List ℕ) → IsHigh xs → IsHigh ys → IsHigh (xs ++ ys)
high_append [] ys h k = k
high_append (x ∷ xs) ys h k = (h.0, high_append xs ys h.1 k)

digit : (n : ℕ) → 47 < 48 + n
digit n = omega arith

date_high : (year month day : ℕ) → IsHigh (date_digits year month day)
date_high year month day = (digit _, (digit _, (digit _, (digit _, (digit _, (digit _, (digit _, (digit _, tt))))))))

clock_high : (hour minute second : ℕ) → IsHigh (clock_digits hour minute second)
clock_high hour minute second = (digit _, (digit _, (digit _, (digit _, (digit _, (digit _, tt))))))

date_text_high : (text : List ℕ) (day : ℤ) → IsDateText text day → IsHigh text
date_text_high text day h = subst (λ (t : List ℕ). IsHigh t) (sym h.spelt) (date_high h.year h.month h.day_of_month)

local_text_high : (text : List ℕ) (day : ℤ) (second : ℕ) → IsLocalText text day second → IsHigh text
local_text_high text day second h =
    subst (λ (t : List ℕ). IsHigh t) (sym h.parts)
    (high_append h.date (84 ∷ h.clock) (date_text_high h.date day h.date_is) (
      omega arith,
      subst (λ (t : List ℕ). IsHigh t) (sym h.clock_is.spelt) (clock_high h.clock_is.hour h.clock_is.minute h.clock_is.second_of_minute),
    ))

utc_text_high : (text : List ℕ) (day : ℤ) (second : ℕ) → IsUtcText text day second → IsHigh text
utc_text_high text day second h =
    subst (λ (t : List ℕ). IsHigh t) (sym h.marked)
    (high_append h.local (90 ∷ []) (local_text_high h.local day second h.local_is) (omega arith, tt))

pub moment_high : (text : List ℕ) (tzid : Option (List ℕ)) (m : Moment) → MomentText text tzid m → IsHigh text
moment_high text tzid (Date day) h = date_text_high text day.number h
moment_high text tzid (Floating at) h = local_text_high text at.day at.second h.0
moment_high text tzid (Utc at) h = utc_text_high text at.day at.second h
moment_high text tzid (Zoned zone at) h = local_text_high text at.day at.second h.0

pub not_high : (front rest : List ℕ) → IsHigh (front ++ 44 ∷ rest) → ⊥
not_high [] rest h = let low : 47 < 44 = h.0 in omega arith
not_high (c ∷ front) rest h = not_high front rest h.1

pub no_comma_at : (text : List ℕ) → IsHigh text → (i : ℕ) → i < length text → get_or text i 0 ≢ 44
no_comma_at [] h i less = absurd (omega arith)
no_comma_at (c ∷ text) h zero less = let high : 47 < c = h.0 in λ e. omega arith
no_comma_at (c ∷ text) h (suc i) less = no_comma_at text h.1 i (omega arith)

pub spelled_high : (params : List Param) (text : List ℕ) (m : Moment) → IsMomentText params text m → IsHigh text
spelled_high params text m h = moment_high text (Some (param_value (codes "TZID") params)) m h

tail_no_comma : (c : ℕ) (text : List ℕ) → HasNoComma (c ∷ text) → HasNoComma text
tail_no_comma c text h = λ i less. h (suc i) (omega arith)

-- a text is cut at its first comma in one way
pub one_cut : (front other rest more : List ℕ) → HasNoComma front → HasNoComma other → front ++ 44 ∷ rest ≡ other ++ 44 ∷ more →
    (front ≡ other) × (rest ≡ more)
one_cut [] [] rest more h k e = (refl, cc)
one_cut [] (c ∷ other) rest more h k e = let same : c ≡ 44 = cc in absurd (k 0 (omega arith) same)
one_cut (c ∷ front) [] rest more h k e = let same : c ≡ 44 = cc in absurd (h 0 (omega arith) same)
one_cut (c ∷ front) (d ∷ other) rest more h k e =
    let head : c ≡ d = cc in
    let back : front ++ 44 ∷ rest ≡ other ++ 44 ∷ more = cc in
    let rec = one_cut front other rest more (tail_no_comma c front h) (tail_no_comma d other k) back in
    (λ i. head i ∷ rec.0 i, rec.1)

no_comma_apart : (text front rest : List ℕ) → HasNoComma text → text ≡ front ++ 44 ∷ rest → ⊥
no_comma_apart [] [] rest h e = absurd cc
no_comma_apart [] (c ∷ front) rest h e = absurd cc
no_comma_apart (x ∷ text) [] rest h e = let same : x ≡ 44 = cc in h 0 (omega arith) same
no_comma_apart (x ∷ text) (c ∷ front) rest h e = let back : text ≡ front ++ 44 ∷ rest = cc in
    no_comma_apart text front rest (tail_no_comma x text h) back

-- after the first comma the other moments are listed
pub behind_comma : (params : List Param) (text front rest : List ℕ) (ms : List Moment) → text ≡ front ++ 44 ∷ rest → HasNoComma front →
    AreMoments params text ms
    → (first : Moment) × (later : List Moment) × (ms ≡ first ∷ later) × IsMomentText params front first × AreMoments params rest later
behind_comma params text front rest [] e h k = absurd k
behind_comma params text front rest (m ∷ []) e h k =
    absurd (not_high front rest (subst (λ (t : List ℕ). IsHigh t) e (spelled_high params text m k)))
behind_comma params text front rest (m ∷ (n ∷ ns)) e h k =
    let same = one_cut k.0 front k.1 rest (no_comma_at k.0 (spelled_high params k.0 m k.3)) h (sym k.2 ∙ e) in (
      m,
      n ∷ ns,
      refl,
      subst (λ (t : List ℕ). IsMomentText params t m) same.0 k.3,
      subst (λ (t : List ℕ). AreMoments params t (n ∷ ns)) same.1 k.4,
    )

-- without a comma there is one moment
pub no_comma_one : (params : List Param) (text : List ℕ) (ms : List Moment) → HasNoComma text → AreMoments params text ms → (m : Moment) ×
    (ms ≡ m ∷ []) × IsMomentText params text m
no_comma_one params text [] h k = absurd k
no_comma_one params text (m ∷ []) h k = (m, refl, k)
no_comma_one params text (m ∷ (n ∷ ns)) h k = absurd (no_comma_apart text k.0 k.1 h k.2)

-- a moment, a comma and the others
pub with_first : (params : List Param) (text front rest : List ℕ) (m : Moment) (ms : List Moment) → text ≡ front ++ 44 ∷ rest →
    IsMomentText params front m → AreMoments params rest ms → AreMoments params text (m ∷ ms)
with_first params text front rest m [] e is h = absurd h
with_first params text front rest m (n ∷ ns) e is h = (front, rest, e, is, h)
