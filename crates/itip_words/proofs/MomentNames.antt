-- Texts that name a moment in a zone.
use Rattle.std.proofs.Common.{◌≡◌, ◌≢◌, ℕ, List, [], ◌∷◌, ◌++◌, length, length-append, take, drop}
use Rattle.std.proofs.Common.{Option, Some, None, Result, Ok, Err, refl, sym, ap, subst, ◌∙◌, arith, codes, unwrap_or}
use Rattle.std.specs.Prelude.{ℤ, IfOk, IfSome, IfNone}
use Rattle.std.proofs.lemmas.List.{append_cancel_left}
use Rattle.std.proofs.Math.Seq.{take-append_seam, drop-append_seam}
use Rattle.itip_moment.specs.Digits.{date_digits}
use Rattle.itip_moment.specs.Spelling.{IsLocalText, MomentText}
use Rattle.itip_moment.specs.declared.moment.Moment.{Moment}
use Rattle.itip_moment.specs.declared.moment.Moment.TheVariants.{Date, Floating, Utc, Zoned}
use Rattle.itip_moment.proofs.ValueLaws.{moment_text-one}
use Rattle.itip_words.specs.AskedValues.{zoned_text, IsMomentName, IsZonedName, IsTimeIn, if_zoned}

-- a local time has fifteen bytes
pub local_length : (text : List ℕ) (day : ℤ) (second : ℕ) → IsLocalText text day second → length text ≡ 15
local_length text day second is =
    ap length (is.parts ∙ ap (λ (d : List ℕ). d ++ 84 ∷ is.clock) is.date_is.spelt ∙
    ap (λ (c : List ℕ). date_digits is.date_is.year is.date_is.month is.date_is.day_of_month ++ 84 ∷ c) is.clock_is.spelt)

-- a `:` with fifteen bytes after it begins sixteen bytes before the end of a text, and nowhere else
pub same_parts : (zone time z t : List ℕ) → zone ++ 58 ∷ time ≡ z ++ 58 ∷ t → length time ≡ 15 → length t ≡ 15 → (zone ≡ z) × (time ≡ t)
same_parts zone time z t e long size =
    let sizes : length zone ≡ length z = omega (arith, ap length e, length-append zone (58 ∷ time), length-append z (58 ∷ t)) in
    let front : zone ≡ z = sym (take-append_seam zone (58 ∷ time)) ∙ ap (take (length zone)) e ∙
    ap (λ n. take n (z ++ 58 ∷ t)) sizes ∙ take-append_seam z (58 ∷ t) in
    let back : 58 ∷ time ≡ 58 ∷ t = sym (drop-append_seam zone (58 ∷ time)) ∙ ap (drop (length zone)) e ∙
    ap (λ n. drop n (z ++ 58 ∷ t)) sizes ∙ drop-append_seam z (58 ∷ t) in (front, ap (drop 1) back)

-- a text whose last sixteen bytes don't begin with `:` has no such parts
pub no_time : (text rest zone end : List ℕ) → text ≡ codes "TZID=" ++ rest → rest ≡ zone ++ end → length end ≡ 16 →
    ((r : List ℕ) → end ≢ 58 ∷ r) → (z t : List ℕ) → length t ≡ 15 → text ≢ zoned_text z t
no_time text rest zone end front parts size never z t short e =
    let same : zone ++ end ≡ z ++ 58 ∷ t = sym parts ∙ append_cancel_left (codes "TZID=") _ _ (sym front ∙ e) in
    let sizes : length zone ≡ length z = omega (arith, ap length same, length-append zone end, length-append z (58 ∷ t)) in
    never t (sym (drop-append_seam zone end) ∙ ap (drop (length zone)) same ∙ ap (λ n. drop n (z ++ 58 ∷ t)) sizes ∙
    drop-append_seam z (58 ∷ t))

-- a text without such parts names no moment in a zone
pub none_zoned : (text : List ℕ) → ((zone time : List ℕ) → length time ≡ 15 → text ≢ zoned_text zone time) → (m : Moment) →
    IsZonedName text m → ⊥
none_zoned text never (Date day) named = named
none_zoned text never (Floating stamp) named = named
none_zoned text never (Utc stamp) named = named
none_zoned text never (Zoned zone stamp) named =
    never zone.bytes named.time (local_length named.time stamp.day stamp.second named.time_is) named.spelt

-- a text with these parts names what they name
pub zoned_in : (text zone time : List ℕ) → text ≡ zoned_text zone time → (m : Moment) → IsTimeIn zone time m → IsZonedName text m
zoned_in text zone time e (Date day) named = named
zoned_in text zone time e (Floating stamp) named = named
zoned_in text zone time e (Utc stamp) named = named
zoned_in text zone time e (Zoned name stamp) named =
    record { time = time; spelt = e ∙ ap (λ (z : List ℕ). zoned_text z time) (sym named.0); time_is = named.1 }

-- and nothing else
pub in_zoned : (text zone time : List ℕ) → text ≡ zoned_text zone time → length time ≡ 15 → (m : Moment) → IsZonedName text m →
    IsTimeIn zone time m
in_zoned text zone time e long (Date day) named = named
in_zoned text zone time e long (Floating stamp) named = named
in_zoned text zone time e long (Utc stamp) named = named
in_zoned text zone time e long (Zoned name stamp) named =
    let parts = same_parts name.bytes named.time zone time (append_cancel_left (codes "TZID=") _ _ (sym named.spelt ∙ e))
    (local_length named.time stamp.day stamp.second named.time_is) long in (
      parts.0,
      subst (λ (t : List ℕ). IsLocalText t stamp.day stamp.second) parts.1 named.time_is,
    )

-- a local time in a zone is what its text spells with the zone
pub in_text : (zone time : List ℕ) (m : Moment) → IsTimeIn zone time m → MomentText time (Some zone) m
in_text zone time (Date day) named = absurd named
in_text zone time (Floating stamp) named = absurd named
in_text zone time (Utc stamp) named = absurd named
in_text zone time (Zoned name stamp) named = (named.1, ap (λ (z : List ℕ). Some z) (sym named.0))

-- if what the text spells with the zone is a moment in a zone, it is in this one; if not, the text spells no time in it
pub timed : (zone time : List ℕ) (m : Moment) → MomentText time (Some zone) m → IfSome (if_zoned m) (IsTimeIn zone time)
timed zone time (Date day) is = tt
timed zone time (Floating stamp) is = tt
timed zone time (Utc stamp) is = tt
timed zone time (Zoned name stamp) is = (sym (ap (λ (z : Option (List ℕ)). unwrap_or z []) is.1), is.0)

not_in : (zone time : List ℕ) (m : Moment) → MomentText time (Some zone) m → (IsTimeIn zone time m → ⊥) → (o : Moment) →
    IsTimeIn zone time o → ⊥
not_in zone time m is never o named =
    let same : m ≡ o = moment_text-one time (Some zone) m o is (in_text zone time o named) in
    never (subst (λ (n : Moment). IsTimeIn zone time n) (sym same) named)

pub untimed : (zone time : List ℕ) (m : Moment) → MomentText time (Some zone) m →
    IfNone (if_zoned m) ((o : Moment) → IsTimeIn zone time o → ⊥)
untimed zone time (Date day) is = not_in zone time (Date day) is (λ bad. bad)
untimed zone time (Floating stamp) is = not_in zone time (Floating stamp) is (λ bad. bad)
untimed zone time (Utc stamp) is = not_in zone time (Utc stamp) is (λ bad. bad)
untimed zone time (Zoned name stamp) is = tt

-- what is read without a zone is named by its text, and what is named and isn't read is in a zone
pub named_unzoned : (text : List ℕ) (m : Moment) → MomentText text None m → IsMomentName text m
named_unzoned text (Date day) is = is
named_unzoned text (Floating stamp) is = is.0
named_unzoned text (Utc stamp) is = is
named_unzoned text (Zoned zone stamp) is = let bad : None ≡ Some zone.bytes = is.1 in absurd cc

pub zoned_named : (text : List ℕ) (m : Moment) → IsZonedName text m → IsMomentName text m
zoned_named text (Date day) named = absurd named
zoned_named text (Floating stamp) named = absurd named
zoned_named text (Utc stamp) named = absurd named
zoned_named text (Zoned zone stamp) named = named

pub named_zoned : (text : List ℕ) → ((m : Moment) → MomentText text None m → ⊥) → (m : Moment) → IsMomentName text m →
    IsZonedName text m
named_zoned text never (Date day) named = never (Date day) named
named_zoned text never (Floating stamp) named = never (Floating stamp) (named, refl)
named_zoned text never (Utc stamp) named = never (Utc stamp) named
named_zoned text never (Zoned zone stamp) named = named

-- if nothing is found of what is sought, nothing is found of less
pub none_more : {E : Type 0} (P Q : Moment → Type 0) (r : Result (Option Moment) E) → ((m : Moment) → Q m → P m) →
    IfOk r (λ found. IfNone found ((m : Moment) → P m → ⊥)) → IfOk r (λ found. IfNone found ((m : Moment) → Q m → ⊥))
none_more P Q (Ok None) less none = λ m q. none m (less m q)
none_more P Q (Ok (Some x)) less none = tt
none_more P Q (Err e) less none = tt
