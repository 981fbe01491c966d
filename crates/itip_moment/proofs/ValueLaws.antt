-- What is written is read back, a text spells one value, and a sum is one moment.
use Rattle.std.proofs.Common.{◌≡◌, ℕ, ◌/◌, ◌%◌, ◌<◌, ℤ, pos, List, [], ◌∷◌, ◌++◌, length, refl, sym, ap, ap₂, subst, ◌∙◌, arith}
use Rattle.std.proofs.Common.{length-append, Option, Some, None, unwrap_or, IfSome, IfNone}
use Rattle.jiff_core.proofs.SignedLemmas.{signed_arith}
use Rattle.itip_moment.specs.declared.day.Day.{Day}
use Rattle.itip_moment.specs.declared.stamp.Stamp.{Stamp}
use Rattle.itip_moment.specs.declared.moment.Moment.{Moment}
use Rattle.itip_moment.specs.declared.moment.Moment.TheVariants.{Date, Floating, Utc, Zoned}
use Rattle.itip_moment.specs.Years.{IsDayNumber}
use Rattle.itip_moment.specs.Spelling.{IsDayOf, IsDateText, IsClockText, IsLocalText, IsUtcText, IsStampText, MomentText}
use Rattle.itip_moment.specs.Written.{date_of, date_text, clock_text, local_text, stamp_text, moment_text, moment_tzid}
use Rattle.itip_moment.specs.Moment.{moment_day, moment_second, moment_form, form_rank}
use Rattle.itip_moment.specs.Shift.{seconds_at, IsShifted}
use Rattle.itip_moment.specs.Zone.{Name, same_name}
use Rattle.jiff_core.proofs.DateLemmas.{epoch_day_same}
use Rattle.itip_moment.proofs.Calendar.{calendar_date}
use Rattle.itip_moment.proofs.DigitLemmas.{date_digits-one, clock_digits-one}
use Rattle.itip_moment.proofs.OptionLemmas.{Some-one}
use Rattle.itip_moment.proofs.Same.{same_day, same_stamp, same_moment}
use Rattle.itip_moment.proofs.TextLemmas.{local-date, local-clock, utc-local}

-- what is written is spelt so

pub date_text-IsDateText : (day : ℤ) → IsDayNumber day → IsDateText (date_text day) day
date_text-IsDateText day h =
    let one = calendar_date day h in
    record {
      year = (date_of day).year;
      month = (date_of day).month;
      day_of_month = (date_of day).day;
      spelt = refl;
      day_is = record { date = one.0; parts = (one.1.year, ap pos one.1.month, ap pos one.1.day_of_month); number_is = sym one.1.number };
    }

pub clock_text-IsClockText : (second : ℕ) → second < 86_400 → IsClockText (clock_text second) second
clock_text-IsClockText second h =
    record {
      hour = second / 3600;
      minute = second / 60 % 60;
      second_of_minute = second % 60;
      hour_in = omega arith;
      minute_in = omega arith;
      second_in = omega arith;
      spelt = refl;
      number = omega arith;
    }

pub local_text-IsLocalText : (s : Stamp) → IsLocalText (local_text s.day s.second) s.day s.second
local_text-IsLocalText s =
    record {
      date = date_text s.day;
      clock = clock_text s.second;
      parts = refl;
      date_is = date_text-IsDateText s.day s.in_years;
      clock_is = clock_text-IsClockText s.second s.in_day;
    }

pub stamp_text-IsStampText : (s : Stamp) → IsStampText (stamp_text s) s
stamp_text-IsStampText s =
    record { local = local_text s.day s.second; marked = refl; local_is = local_text-IsLocalText s }

pub moment_text-MomentText : (m : Moment) → MomentText (moment_text m) (moment_tzid m) m
moment_text-MomentText (Date day) = date_text-IsDateText day.number day.in_years
moment_text-MomentText (Floating stamp) = (local_text-IsLocalText stamp, refl)
moment_text-MomentText (Utc stamp) = stamp_text-IsStampText stamp
moment_text-MomentText (Zoned zone stamp) = (local_text-IsLocalText stamp, refl)

-- a text spells one value

day_one : (y m d : ℕ) (a b : ℤ) → IsDayOf y m d a → IsDayOf y m d b → a ≡ b
day_one y m d a b p q =
    let month : p.date.month ≡ q.date.month = omega (arith, signed_arith, p.parts, q.parts) in
    let day : p.date.day ≡ q.date.day = omega (arith, signed_arith, p.parts, q.parts) in
    p.number_is ∙ epoch_day_same p.date q.date (p.parts.0 ∙ sym q.parts.0) month day ∙ sym q.number_is

pub date_text-one : (text : List ℕ) (a b : ℤ) → IsDateText text a → IsDateText text b → a ≡ b
date_text-one text a b p q =
    let same = date_digits-one _ _ _ _ _ _ (sym p.spelt ∙ q.spelt) in
    day_one q.year q.month q.day_of_month a b (subst (λ (n : ℕ). IsDayOf n q.month q.day_of_month a) same.0
    (subst (λ (n : ℕ). IsDayOf p.year n q.day_of_month a) same.1 (subst (λ (n : ℕ). IsDayOf p.year p.month n a) same.2 p.day_is)))
    q.day_is

pub clock_text-one : (text : List ℕ) (a b : ℕ) → IsClockText text a → IsClockText text b → a ≡ b
clock_text-one text a b p q =
    let same = clock_digits-one _ _ _ _ _ _ (sym p.spelt ∙ q.spelt) in
    let hour : p.hour ≡ q.hour = same.0 in
    let minute : p.minute ≡ q.minute = same.1 in
    let second : p.second_of_minute ≡ q.second_of_minute = same.2 in
    omega (arith, p.number, q.number)

pub local_text-one : (text : List ℕ) (a b : ℤ) (s t : ℕ) → IsLocalText text a s → IsLocalText text b t → (a ≡ b) × (s ≡ t)
local_text-one text a b s t p q =
    let date = sym (local-date text a s p) ∙ local-date text b t q in
    let clock = sym (local-clock text a s p) ∙ local-clock text b t q in (
      date_text-one q.date a b (subst (λ (x : List ℕ). IsDateText x a) date p.date_is) q.date_is,
      clock_text-one q.clock s t (subst (λ (x : List ℕ). IsClockText x s) clock p.clock_is) q.clock_is,
    )

pub utc_text-one : (text : List ℕ) (a b : ℤ) (s t : ℕ) → IsUtcText text a s → IsUtcText text b t → (a ≡ b) × (s ≡ t)
utc_text-one text a b s t p q =
    let local = sym (utc-local text a s p) ∙ utc-local text b t q in
    local_text-one q.local a b s t (subst (λ (x : List ℕ). IsLocalText x a s) local p.local_is) q.local_is

pub stamp_text-one : (text : List ℕ) (s t : Stamp) → IsStampText text s → IsStampText text t → s ≡ t
stamp_text-one text s t p q = let same = utc_text-one text s.day t.day s.second t.second p q in same_stamp s t same.0 same.1

date_text-length : (text : List ℕ) (a : ℤ) → IsDateText text a → length text ≡ 8
date_text-length text a p = ap length p.spelt

local_text-length : (text : List ℕ) (a : ℤ) (s : ℕ) → IsLocalText text a s → length text ≡ 15
local_text-length text a s p =
    let date = date_text-length p.date a p.date_is in
    let clock : length p.clock ≡ 6 = ap length p.clock_is.spelt in
    let whole : length text ≡ length (p.date ++ 84 ∷ p.clock) = ap length p.parts in
    omega (arith, length-append p.date (84 ∷ p.clock))

utc_text-length : (text : List ℕ) (a : ℤ) (s : ℕ) → IsUtcText text a s → length text ≡ 16
utc_text-length text a s p =
    let local = local_text-length p.local a s p.local_is in
    let whole : length text ≡ length (p.local ++ 90 ∷ []) = ap length p.marked in
    omega (arith, length-append p.local (90 ∷ []))

no_zone : (tzid : Option (List ℕ)) (zone : Name) → unwrap_or tzid [] ≡ [] → tzid ≡ Some zone.bytes → ⊥
no_zone tzid zone none some = zone.not_empty (sym (ap (λ t. unwrap_or t []) some) ∙ none)

same_zone : (tzid : Option (List ℕ)) (x y : Name) → tzid ≡ Some x.bytes → tzid ≡ Some y.bytes → x ≡ y
same_zone tzid x y p q = same_name x y (Some-one (sym p ∙ q))

pub moment_text-one : (text : List ℕ) (tzid : Option (List ℕ)) (m n : Moment) → MomentText text tzid m → MomentText text tzid n → m ≡ n
moment_text-one text tzid (Date a) (Date b) p q = ap Date (same_day a b (date_text-one text a.number b.number p q))
moment_text-one text tzid (Date a) (Floating b) p q =
    absurd (omega (arith, date_text-length text a.number p, local_text-length text b.day b.second q.0))
moment_text-one text tzid (Date a) (Utc b) p q =
    absurd (omega (arith, date_text-length text a.number p, utc_text-length text b.day b.second q))
moment_text-one text tzid (Date a) (Zoned y b) p q =
    absurd (omega (arith, date_text-length text a.number p, local_text-length text b.day b.second q.0))
moment_text-one text tzid (Floating a) (Date b) p q =
    absurd (omega (arith, local_text-length text a.day a.second p.0, date_text-length text b.number q))
moment_text-one text tzid (Floating a) (Floating b) p q =
    ap Floating (let same = local_text-one text a.day b.day a.second b.second p.0 q.0 in same_stamp a b same.0 same.1)
moment_text-one text tzid (Floating a) (Utc b) p q =
    absurd (omega (arith, local_text-length text a.day a.second p.0, utc_text-length text b.day b.second q))
moment_text-one text tzid (Floating a) (Zoned y b) p q = absurd (no_zone tzid y p.1 q.1)
moment_text-one text tzid (Utc a) (Date b) p q =
    absurd (omega (arith, utc_text-length text a.day a.second p, date_text-length text b.number q))
moment_text-one text tzid (Utc a) (Floating b) p q =
    absurd (omega (arith, utc_text-length text a.day a.second p, local_text-length text b.day b.second q.0))
moment_text-one text tzid (Utc a) (Utc b) p q = ap Utc (stamp_text-one text a b p q)
moment_text-one text tzid (Utc a) (Zoned y b) p q =
    absurd (omega (arith, utc_text-length text a.day a.second p, local_text-length text b.day b.second q.0))
moment_text-one text tzid (Zoned x a) (Date b) p q =
    absurd (omega (arith, local_text-length text a.day a.second p.0, date_text-length text b.number q))
moment_text-one text tzid (Zoned x a) (Floating b) p q = absurd (no_zone tzid x q.1 p.1)
moment_text-one text tzid (Zoned x a) (Utc b) p q =
    absurd (omega (arith, local_text-length text a.day a.second p.0, utc_text-length text b.day b.second q))
moment_text-one text tzid (Zoned x a) (Zoned y b) p q =
    ap₂ Zoned (same_zone tzid x y p.1 q.1) (let same = local_text-one text a.day b.day a.second b.second p.0 q.0 in
    same_stamp a b same.0 same.1)

-- a sum is one moment

seconds_at-one : (a b : ℤ) (s t : ℕ) → s < 86_400 → t < 86_400 → seconds_at a s ≡ seconds_at b t → (a ≡ b) × (s ≡ t)
seconds_at-one a b s t p q e = (omega (arith, signed_arith), omega (arith, signed_arith))

second_below : (m : Moment) → unwrap_or (moment_second m) 0 < 86_400
second_below (Date day) = omega arith
second_below (Floating stamp) = stamp.in_day
second_below (Utc stamp) = stamp.in_day
second_below (Zoned zone stamp) = stamp.in_day

second_of_form : (m n : Moment) → moment_form m ≡ moment_form n → unwrap_or (moment_second m) 0 ≡ unwrap_or (moment_second n) 0 →
    moment_second m ≡ moment_second n
second_of_form (Date a) (Date b) f e = refl
second_of_form (Date a) (Floating b) f e = absurd cc
second_of_form (Date a) (Utc b) f e = absurd cc
second_of_form (Date a) (Zoned y b) f e = absurd cc
second_of_form (Floating a) (Date b) f e = absurd cc
second_of_form (Utc a) (Date b) f e = absurd cc
second_of_form (Zoned x a) (Date b) f e = absurd cc
second_of_form (Floating a) (Floating b) f e = ap Some e
second_of_form (Floating a) (Utc b) f e = ap Some e
second_of_form (Floating a) (Zoned y b) f e = ap Some e
second_of_form (Utc a) (Floating b) f e = ap Some e
second_of_form (Utc a) (Utc b) f e = ap Some e
second_of_form (Utc a) (Zoned y b) f e = ap Some e
second_of_form (Zoned x a) (Floating b) f e = ap Some e
second_of_form (Zoned x a) (Utc b) f e = ap Some e
second_of_form (Zoned x a) (Zoned y b) f e = ap Some e

pub shifted-one : (old : Moment) (days seconds : ℤ) (a b : Moment) → IsShifted old days seconds a → IsShifted old days seconds b → a ≡ b
shifted-one old days seconds a b p q =
    let same = seconds_at-one (moment_day a) (moment_day b) _ _ (second_below a) (second_below b) (p.sum ∙ sym q.sum) in
    let form = p.form ∙ sym q.form in
    same_moment a b same.0 (second_of_form a b form same.1) (ap form_rank form) (p.zone ∙ sym q.zone)

-- what a reader found is what was spelt

pub date_found : (r : Option Day) (text : List ℕ) (day : Day) → IfSome r (λ d. IsDateText text d.number) →
    IfNone r ((d : ℤ) → IsDateText text d → ⊥) → IsDateText text day.number → r ≡ Some day
date_found (Some d) text day some none is = ap Some (same_day d day (date_text-one text d.number day.number some is))
date_found None text day some none is = absurd (none day.number is)

pub stamp_found : (r : Option Stamp) (text : List ℕ) (stamp : Stamp) → IfSome r (IsStampText text) →
    IfNone r ((s : Stamp) → IsStampText text s → ⊥) → IsStampText text stamp → r ≡ Some stamp
stamp_found (Some s) text stamp some none is = ap Some (stamp_text-one text s stamp some is)
stamp_found None text stamp some none is = absurd (none stamp is)

pub moment_found : (r : Option Moment) (text : List ℕ) (tzid : Option (List ℕ)) (moment : Moment) → IfSome r (MomentText text tzid) →
    IfNone r ((m : Moment) → MomentText text tzid m → ⊥) → MomentText text tzid moment → r ≡ Some moment
moment_found (Some m) text tzid moment some none is = ap Some (moment_text-one text tzid m moment some is)
moment_found None text tzid moment some none is = absurd (none moment is)
