-- A text is one rule, and a to-do repeats as one series.
use Rattle.std.proofs.Common.{◌≡◌, ◌≤◌, ◌+◌, ◌-◌, ◌*◌, ℕ, nat_eq, cond, List, [], ◌∷◌, length, take, get_or, refl, sym, ◌∙◌, ap, subst, inl}
use Rattle.std.proofs.Common.{inr, arith, Option, Some, None}
use Rattle.std.specs.Prelude.{codes, map}
use Rattle.std.specs.List.{AllZip}
use Rattle.std.specs.Char.{to_ascii_lowercase}
use Rattle.std.specs.Str.Parse.{IsNumeral}
use mathlib.Core.HLevel.{is_prop→PathP}
use denote.Struct.Props.{props}
use Rattle.std.specs.List.Sorted.{IsStrictlySortedBy}
use Rattle.std.proofs.lemmas.Map.Keys.{IsStrictlySortedBy-prop}
use Rattle.itip_moment.specs.Order.{moment_cmp}
use Rattle.jiff_core.specs.declared.civil.weekday.Weekday.{Weekday}
use Rattle.jiff_core.specs.declared.civil.weekday.Weekday.TheVariants.{Monday, Tuesday, Wednesday, Thursday, Friday, Saturday, Sunday}
use Rattle.itip_moment.specs.declared.moment.Moment.{Moment}
use Rattle.itip_todo.specs.declared.todo.Todo.{Todo}
use Rattle.itip_recur.specs.RuleText.{IsWord, IsGiven, IsAbsent, IsWeekdayText, weekday_word, IsNumberText, IsPlaceText, IsNthText}
use Rattle.itip_recur.specs.RuleText.{IsMonthWeekdayText, IsWeekPart, AreMonthParts, AreYearParts, IsFrequencyOf, IsInterval, IsWeekStart}
use Rattle.itip_recur.specs.RuleText.{RuleText, rule_parts, value_of, elements}
use Rattle.itip_recur.specs.ToDoShape.{IsRuleOf, IsSeriesOf}
use Rattle.itip_recur.specs.declared.rule.Rule.{Rule}
use Rattle.itip_recur.specs.declared.rule.Frequency.{Frequency}
use Rattle.itip_recur.specs.declared.rule.Frequency.TheVariants.{Daily, Weekly, Monthly, Yearly}
use Rattle.itip_recur.specs.declared.rule.WeekDays.{WeekDays}
use Rattle.itip_recur.specs.declared.rule.WeekDays.TheVariants as week
use Rattle.itip_recur.specs.declared.rule.MonthDays.{MonthDays}
use Rattle.itip_recur.specs.declared.rule.MonthDays.TheVariants as month
use Rattle.itip_recur.specs.declared.rule.YearDays.{YearDays}
use Rattle.itip_recur.specs.declared.rule.YearDays.TheVariants as year
use Rattle.itip_recur.specs.declared.rule.Place.{Place}
use Rattle.itip_recur.specs.declared.rule.Place.TheVariants.{FromFirst, FromLast}
use Rattle.itip_recur.specs.declared.rule.MonthWeekday.{MonthWeekday}
use Rattle.itip_recur.specs.declared.rule.MonthWeekday.TheVariants.{Every, Nth}
use Rattle.itip_recur.specs.declared.series.Series.{Series}
use Rattle.itip_recur.proofs.Numbers.{AreNthParts-of, weekday_two}
use Rattle.itip_recur.proofs.RuleEnds.{rule_end_one}

-- the weekday of two letters, by their numbers
of_number : ℕ → Weekday
of_number n =
    cond (nat_eq n 19791) Monday (cond (nat_eq n 21589) Tuesday (cond (nat_eq n 22341) Wednesday (cond (nat_eq n 21576) Thursday
    (cond (nat_eq n 18002) Friday (cond (nat_eq n 21313) Saturday Sunday)))))

of_word : List ℕ → Weekday
unfolding of_number
of_word word = of_number (get_or word 0 0 * 256 + get_or word 1 0)

word_back : (w : Weekday) → of_word (weekday_word w) ≡ w
unfolding of_word of_number
word_back Monday = refl
word_back Tuesday = refl
word_back Wednesday = refl
word_back Thursday = refl
word_back Friday = refl
word_back Saturday = refl
word_back Sunday = refl

same_word : (v w : Weekday) → weekday_word v ≡ weekday_word w → v ≡ w
same_word v w e = sym (word_back v) ∙ ap of_word e ∙ word_back w

weekday_one : (text : List ℕ) (v w : Weekday) → IsWeekdayText text v → IsWeekdayText text w → v ≡ w
weekday_one text v w p q = same_word v w (sym p ∙ q)

-- ---- lists of elements, and parts
zip_one : {A B : Type 0} (R : A → B → Type 0) → ((x : A) (a b : B) → R x a → R x b → a ≡ b) → (xs : List A) (us bs : List B) →
    AllZip R xs us → AllZip R xs bs → us ≡ bs
zip_one R one [] [] [] p q = refl
zip_one R one [] [] (b ∷ bs) p q = absurd q
zip_one R one [] (a ∷ us) bs p q = absurd p
zip_one R one (x ∷ xs) [] bs p q = absurd p
zip_one R one (x ∷ xs) (a ∷ us) [] p q = absurd q
zip_one R one (x ∷ xs) (a ∷ us) (b ∷ bs) p q = λ i. one x a b p.0 q.0 i ∷ zip_one R one xs us bs p.1 q.1 i

given_one : {B : Type 0} (R : List ℕ → B → Type 0) → ((v : List ℕ) (a b : B) → R v a → R v b → a ≡ b) →
    (part : Option (List ℕ)) (a b : B) → IsGiven (λ v. R v a) part → IsGiven (λ v. R v b) part → a ≡ b
given_one R one None a b p q = absurd p
given_one R one (Some v) a b p q = one v a b p q

given_absent : (P : List ℕ → Type 0) (part : Option (List ℕ)) → IsGiven P part → IsAbsent part → ⊥
given_absent P None p q = p
given_absent P (Some v) p q = cc

-- ---- numbers and places
number_one : (limit : ℕ) (text : List ℕ) (m n : ℕ) → IsNumberText limit text m → IsNumberText limit text n → m ≡ n
number_one limit text m n p q = p.value ∙ sym q.value

no_plus : (limit : ℕ) (text rest : List ℕ) (n : ℕ) → text ≡ 43 ∷ rest → IsNumberText limit text n → ⊥
no_plus limit text rest n e p = let digits : IsNumeral 10 (43 ∷ rest) = subst (IsNumeral 10) e p.digits in omega (arith, digits.1.0)

no_minus : (limit : ℕ) (text rest : List ℕ) (n : ℕ) → text ≡ 45 ∷ rest → IsNumberText limit text n → ⊥
no_minus limit text rest n e p = let digits : IsNumeral 10 (45 ∷ rest) = subst (IsNumeral 10) e p.digits in omega (arith, digits.1.0)

same_tail : (a b : ℕ) (xs ys : List ℕ) → a ∷ xs ≡ b ∷ ys → xs ≡ ys
same_tail a b xs ys e = cc

other_sign : (xs ys : List ℕ) → 43 ∷ xs ≡ 45 ∷ ys → ⊥
other_sign xs ys e = let x : 43 ≡ 45 = ap (λ zs. get_or zs 0 0) e in omega (arith, x)

behind_sign : (limit : ℕ) (text : List ℕ) (sign : ℕ) (xs ys : List ℕ) (m n : ℕ) → text ≡ sign ∷ xs → text ≡ sign ∷ ys →
    IsNumberText limit xs m → IsNumberText limit ys n → m ≡ n
behind_sign limit text sign xs ys m n e f p q =
    number_one limit ys m n (subst (λ zs. IsNumberText limit zs m) (same_tail sign sign xs ys (sym e ∙ f)) p) q

place_one : (limit : ℕ) (text : List ℕ) (a b : Place) → IsPlaceText limit text a → IsPlaceText limit text b → a ≡ b
place_one limit text (FromFirst m) (FromFirst n) (inl p) (inl q) = ap FromFirst (number_one limit text m n p q)
place_one limit text (FromFirst m) (FromFirst n) (inl p) (inr (rest, e, q)) = absurd (no_plus limit text rest m e p)
place_one limit text (FromFirst m) (FromFirst n) (inr (rest, e, p)) (inl q) = absurd (no_plus limit text rest n e q)
place_one limit text (FromFirst m) (FromFirst n) (inr (xs, e, p)) (inr (ys, f, q)) =
    ap FromFirst (behind_sign limit text 43 xs ys m n e f p q)
place_one limit text (FromFirst m) (FromLast n) (inl p) (rest, e, q) = absurd (no_minus limit text rest m e p)
place_one limit text (FromFirst m) (FromLast n) (inr (xs, e, p)) (ys, f, q) = absurd (other_sign xs ys (sym e ∙ f))
place_one limit text (FromLast m) (FromFirst n) (rest, e, p) (inl q) = absurd (no_minus limit text rest n e q)
place_one limit text (FromLast m) (FromFirst n) (ys, f, p) (inr (xs, e, q)) = absurd (other_sign xs ys (sym e ∙ f))
place_one limit text (FromLast m) (FromLast n) (xs, e, p) (ys, f, q) = ap FromLast (behind_sign limit text 45 xs ys m n e f p q)

no_place : (limit : ℕ) (place : Place) → IsPlaceText limit [] place → ⊥
no_place limit (FromFirst n) (inl p) = omega (arith, p.digits.0)
no_place limit (FromFirst n) (inr (rest, e, p)) = cc
no_place limit (FromLast n) (rest, e, p) = cc

-- a weekday alone has no place before it
alone : (text : List ℕ) (v w : Weekday) (place : Place) → IsWeekdayText text v → IsNthText text place w → ⊥
alone text v w place p q =
    let parts = AreNthParts-of text place w q in
    no_place 5 place (subst (λ (n : ℕ). IsPlaceText 5 (take (n - 2) text) place) (weekday_two text v p) parts.place_is)

month_weekday_one : (text : List ℕ) (a b : MonthWeekday) → IsMonthWeekdayText text a → IsMonthWeekdayText text b → a ≡ b
month_weekday_one text (Every v) (Every w) p q = ap Every (weekday_one text v w p q)
month_weekday_one text (Every v) (Nth place w) p q = absurd (alone text v w place p q)
month_weekday_one text (Nth place v) (Every w) p q = absurd (alone text w v place q p)
month_weekday_one text (Nth place v) (Nth other w) p q =
    let parts = AreNthParts-of text place v p in
    let others = AreNthParts-of text other w q in
    let places : place ≡ other = place_one 5 (take (length text - 2) text) place other parts.place_is others.place_is in
    let weekdays : v ≡ w = same_word v w (sym parts.letters ∙ others.letters) in
    λ i. Nth (places i) (weekdays i)

-- ---- the days that a rule selects
weekdays_one : (value : List ℕ) (a b : List Weekday) → AllZip IsWeekdayText (elements value) a → AllZip IsWeekdayText (elements value) b →
    a ≡ b
weekdays_one value = zip_one IsWeekdayText weekday_one (elements value)

places_one : (value : List ℕ) (a b : List Place) → AllZip (IsPlaceText 31) (elements value) a →
    AllZip (IsPlaceText 31) (elements value) b → a ≡ b
places_one value = zip_one (IsPlaceText 31) (place_one 31) (elements value)

months_one : (value : List ℕ) (a b : List ℕ) → AllZip (IsNumberText 12) (elements value) a → AllZip (IsNumberText 12) (elements value) b →
    a ≡ b
months_one value = zip_one (IsNumberText 12) (number_one 12) (elements value)

month_weekdays_one : (value : List ℕ) (a b : List MonthWeekday) → AllZip IsMonthWeekdayText (elements value) a →
    AllZip IsMonthWeekdayText (elements value) b → a ≡ b
month_weekdays_one value = zip_one IsMonthWeekdayText month_weekday_one (elements value)

week_one : (part : Option (List ℕ)) (a b : WeekDays) → IsWeekPart part a → IsWeekPart part b → a ≡ b
week_one part week.OfStart week.OfStart p q = refl
week_one part week.OfStart (week.Listed bs) p q = absurd (given_absent _ part q p)
week_one part (week.Listed us) week.OfStart p q = absurd (given_absent _ part p q)
week_one part (week.Listed us) (week.Listed bs) p q =
    ap week.Listed (given_one (λ v ds. AllZip IsWeekdayText (elements v) ds) weekdays_one part us bs p q)

month_one : (days weekdays : Option (List ℕ)) (a b : MonthDays) → AreMonthParts days weekdays a → AreMonthParts days weekdays b → a ≡ b
month_one days weekdays month.OfStart month.OfStart p q = refl
month_one days weekdays month.OfStart (month.Listed bs) p q = absurd (given_absent _ days q.0 p.0)
month_one days weekdays month.OfStart (month.Weekdays bs) p q = absurd (given_absent _ weekdays q.1 p.1)
month_one days weekdays (month.Listed us) month.OfStart p q = absurd (given_absent _ days p.0 q.0)
month_one days weekdays (month.Listed us) (month.Listed bs) p q =
    ap month.Listed (given_one (λ v ds. AllZip (IsPlaceText 31) (elements v) ds) places_one days us bs p.0 q.0)
month_one days weekdays (month.Listed us) (month.Weekdays bs) p q = absurd (given_absent _ days p.0 q.0)
month_one days weekdays (month.Weekdays us) month.OfStart p q = absurd (given_absent _ weekdays p.1 q.1)
month_one days weekdays (month.Weekdays us) (month.Listed bs) p q = absurd (given_absent _ days q.0 p.0)
month_one days weekdays (month.Weekdays us) (month.Weekdays bs) p q =
    ap month.Weekdays (given_one (λ v ds. AllZip IsMonthWeekdayText (elements v) ds) month_weekdays_one weekdays us bs p.1 q.1)

year_one : (months days : Option (List ℕ)) (a b : YearDays) → AreYearParts months days a → AreYearParts months days b → a ≡ b
year_one months days year.OfStart year.OfStart p q = refl
year_one months days year.OfStart (year.Listed bs cs) p q = absurd (given_absent _ months q.0 p.0)
year_one months days (year.Listed us bs) year.OfStart p q = absurd (given_absent _ months p.0 q.0)
year_one months days (year.Listed us bs) (year.Listed cs ds) p q =
    let same : us ≡ cs = given_one (λ v ds. AllZip (IsNumberText 12) (elements v) ds) months_one months us cs p.0 q.0 in
    let also : bs ≡ ds = given_one (λ v ds. AllZip (IsPlaceText 31) (elements v) ds) places_one days bs ds p.1 q.1 in
    λ i. year.Listed (same i) (also i)

-- ---- the rule
two_words : (a b : List ℕ) (part : Option (List ℕ)) → IsGiven (IsWord a) part → IsGiven (IsWord b) part →
    map to_ascii_lowercase a ≡ map to_ascii_lowercase b
two_words a b None p q = absurd p
two_words a b (Some v) p q = sym p ∙ q

first_letter : (a b : List ℕ) (part : Option (List ℕ)) → IsGiven (IsWord a) part → IsGiven (IsWord b) part →
    get_or (map to_ascii_lowercase a) 0 0 ≡ get_or (map to_ascii_lowercase b) 0 0
first_letter a b part p q = ap (λ xs. get_or xs 0 0) (two_words a b part p q)

module _ (parts : List (List ℕ)) where
  abbrev freq : Option (List ℕ)
  freq = value_of (codes "FREQ") parts

  daily_weekly : IsGiven (IsWord (codes "DAILY")) freq → IsGiven (IsWord (codes "WEEKLY")) freq → ⊥
  daily_weekly p q = let e : 100 ≡ 119 = first_letter (codes "DAILY") (codes "WEEKLY") freq p q in omega (arith, e)

  daily_monthly : IsGiven (IsWord (codes "DAILY")) freq → IsGiven (IsWord (codes "MONTHLY")) freq → ⊥
  daily_monthly p q = let e : 100 ≡ 109 = first_letter (codes "DAILY") (codes "MONTHLY") freq p q in omega (arith, e)

  daily_yearly : IsGiven (IsWord (codes "DAILY")) freq → IsGiven (IsWord (codes "YEARLY")) freq → ⊥
  daily_yearly p q = let e : 100 ≡ 121 = first_letter (codes "DAILY") (codes "YEARLY") freq p q in omega (arith, e)

  weekly_monthly : IsGiven (IsWord (codes "WEEKLY")) freq → IsGiven (IsWord (codes "MONTHLY")) freq → ⊥
  weekly_monthly p q = let e : 119 ≡ 109 = first_letter (codes "WEEKLY") (codes "MONTHLY") freq p q in omega (arith, e)

  weekly_yearly : IsGiven (IsWord (codes "WEEKLY")) freq → IsGiven (IsWord (codes "YEARLY")) freq → ⊥
  weekly_yearly p q = let e : 119 ≡ 121 = first_letter (codes "WEEKLY") (codes "YEARLY") freq p q in omega (arith, e)

  monthly_yearly : IsGiven (IsWord (codes "MONTHLY")) freq → IsGiven (IsWord (codes "YEARLY")) freq → ⊥
  monthly_yearly p q = let e : 109 ≡ 121 = first_letter (codes "MONTHLY") (codes "YEARLY") freq p q in omega (arith, e)

  frequency_one : (a b : Frequency) → IsFrequencyOf parts a → IsFrequencyOf parts b → a ≡ b
  frequency_one Daily Daily p q = refl
  frequency_one Daily (Weekly b) p q = absurd (daily_weekly p.0 q.0)
  frequency_one Daily (Monthly b) p q = absurd (daily_monthly p.0 q.0)
  frequency_one Daily (Yearly b) p q = absurd (daily_yearly p.0 q.0)
  frequency_one (Weekly a) Daily p q = absurd (daily_weekly q.0 p.0)
  frequency_one (Weekly a) (Weekly b) p q = ap Weekly (week_one (value_of (codes "BYDAY") parts) a b p.1 q.1)
  frequency_one (Weekly a) (Monthly b) p q = absurd (weekly_monthly p.0 q.0)
  frequency_one (Weekly a) (Yearly b) p q = absurd (weekly_yearly p.0 q.0)
  frequency_one (Monthly a) Daily p q = absurd (daily_monthly q.0 p.0)
  frequency_one (Monthly a) (Weekly b) p q = absurd (weekly_monthly q.0 p.0)
  frequency_one (Monthly a) (Monthly b) p q =
      ap Monthly (month_one (value_of (codes "BYMONTHDAY") parts) (value_of (codes "BYDAY") parts) a b p.1 q.1)
  frequency_one (Monthly a) (Yearly b) p q = absurd (monthly_yearly p.0 q.0)
  frequency_one (Yearly a) Daily p q = absurd (daily_yearly q.0 p.0)
  frequency_one (Yearly a) (Weekly b) p q = absurd (weekly_yearly q.0 p.0)
  frequency_one (Yearly a) (Monthly b) p q = absurd (monthly_yearly q.0 p.0)
  frequency_one (Yearly a) (Yearly b) p q =
      ap Yearly (year_one (value_of (codes "BYMONTH") parts) (value_of (codes "BYMONTHDAY") parts) a b p.1 q.1)

interval_one : (part : Option (List ℕ)) (m n : ℕ) → IsInterval part m → IsInterval part n → m ≡ n
interval_one None m n p q = p ∙ sym q
interval_one (Some v) m n p q = number_one 10_000 v m n p q

week_start_one : (part : Option (List ℕ)) (v w : Weekday) → IsWeekStart part v → IsWeekStart part w → v ≡ w
week_start_one None v w p q = p ∙ sym q
week_start_one (Some value) v w p q = weekday_one value v w p q

rule_one : (text : List ℕ) (r s : Rule) → RuleText text r → RuleText text s → r ≡ s
rule_one text r s p q =
    let frequency : r.frequency ≡ s.frequency = frequency_one (rule_parts text) r.frequency s.frequency p.frequency q.frequency in
    let interval : r.interval ≡ s.interval =
    interval_one (value_of (codes "INTERVAL") (rule_parts text)) r.interval s.interval p.interval q.interval in
    let end : r.end ≡ s.end = rule_end_one text r s p q in
    let week_start : r.week_start ≡ s.week_start =
    week_start_one (value_of (codes "WKST") (rule_parts text)) r.week_start s.week_start p.week_start q.week_start in
    λ i. record {
      frequency = frequency i;
      interval = interval i;
      end = end i;
      week_start = week_start i;
      at_least_one = is_prop→PathP (λ j. 1 ≤ interval j) (λ j. hlevel props) r.at_least_one s.at_least_one i;
    }

-- ---- the series
no_text : (texts : List (List ℕ)) (text : List ℕ) → texts ≡ [] → texts ≡ text ∷ [] → ⊥
no_text texts text e f = cc

first_text : (texts : List (List ℕ)) (text other : List ℕ) → texts ≡ text ∷ [] → texts ≡ other ∷ [] → text ≡ other
first_text texts text other e f = cc

rule_of_one : (texts : List (List ℕ)) (start begin : Moment) (r s : Option Rule) → IsRuleOf texts start r → IsRuleOf texts begin s → r ≡ s
rule_of_one texts start begin None None p q = refl
rule_of_one texts start begin None (Some s) p (text, e, is, fits) = absurd (no_text texts text p e)
rule_of_one texts start begin (Some r) None (text, e, is, fits) q = absurd (no_text texts text q e)
rule_of_one texts start begin (Some r) (Some s) (text, e, is, fits) (other, f, us, also) =
    ap Some (rule_one other r s (subst (λ (t : List ℕ). RuleText t r) (first_text texts text other e f) is) us)

some_one : (m n : Moment) → Some m ≡ Some n → m ≡ n
some_one m n e = cc

pub series_one : (todo : Todo) (s t : Series) → IsSeriesOf todo s → IsSeriesOf todo t → s ≡ t
series_one todo s t p q =
    let start : s.start ≡ t.start = some_one s.start t.start (sym p.start ∙ q.start) in
    let rule : s.rule ≡ t.rule = rule_of_one todo.rule s.start t.start s.rule t.rule p.rule q.rule in
    let rdates : s.rdates ≡ t.rdates = p.rdates ∙ sym q.rdates in
    let exdates : s.exdates ≡ t.exdates = p.exdates ∙ sym q.exdates in
    λ i. record {
      start = start i;
      rule = rule i;
      rdates = rdates i;
      exdates = exdates i;
      exdates_ascend = is_prop→PathP (λ j. IsStrictlySortedBy moment_cmp (exdates j)) (λ j. IsStrictlySortedBy-prop moment_cmp (exdates j))
          s.exdates_ascend t.exdates_ascend i;
    }
