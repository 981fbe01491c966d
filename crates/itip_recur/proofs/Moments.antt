-- Moments with one time of day: their order is that of their days, and COUNT may count days for them.
use Rattle.std.proofs.Common.{◌≡◌, ◌≢◌, ℕ, ◌⊎◌, ◌↔◌, inl, inr, refl, sym, subst, ap, ◌∙◌, arith, ℤ, ◌<ℤ◌, ◌≤ℤ◌, map}
use Rattle.std.proofs.lemmas.List.{length-map}
use Rattle.std.specs.List.{Contains}
use Rattle.std.specs.declared.cmp.Ordering.{Ordering}
use Rattle.std.specs.declared.cmp.Ordering.TheVariants.{Less, Equal, Greater}
use Rattle.std.specs.Ordering.{MatchOrdering, int_cmp}
use Rattle.std.proofs.lemmas.Cmp.{int_ranked, tied_itself}
use Rattle.std.proofs.lemmas.Int.{by_lt_z}
use Rattle.jiff_core.proofs.SignedLemmas.{signed_arith}
use Rattle.itip_moment.specs.Years.{IsDayNumber}
use Rattle.itip_moment.specs.declared.day.Day.{Day}
use Rattle.itip_moment.specs.declared.stamp.Stamp.{Stamp}
use Rattle.itip_moment.specs.declared.moment.Moment.{Moment}
use Rattle.itip_moment.specs.declared.moment.Moment.TheVariants.{Date, Floating, Utc, Zoned}
use Rattle.itip_moment.specs.Moment.{moment_day, form_rank}
use Rattle.itip_moment.specs.Order.{moment_cmp}
use Rattle.itip_moment.specs.OrderLaws.{moment_total}
use Rattle.itip_moment.proofs.Same.{same_day, same_moment}
use Rattle.itip_recur.specs.declared.rule.Rule.{Rule}
use Rattle.itip_recur.specs.declared.rule.End.{End}
use Rattle.itip_recur.specs.declared.rule.End.TheVariants.{Count}
use Rattle.itip_recur.specs.SelectedDays.{IsLaterDay}
use Rattle.itip_recur.specs.Members.{HasTimeOf, IsRepeat, IsCandidate, IsWithinEnd, AreFewer}
use Rattle.itip_recur.specs.Walk.{AreFewerDays, IsEarlier, IsEndOfCount, IsUpTo}
use Rattle.itip_recur.proofs.MappedLists.{Contains-map}

-- the day of a moment

pub moment_day-in_years : (m : Moment) → IsDayNumber (moment_day m)
moment_day-in_years (Date day) = day.in_years
moment_day-in_years (Floating at) = at.in_years
moment_day-in_years (Utc at) = at.in_years
moment_day-in_years (Zoned zone at) = at.in_years

pub day_of : Moment → Day
day_of m = record { number = moment_day m; in_years = moment_day-in_years m }

day_of-is : (m : Moment) (d : Day) → moment_day m ≡ d.number → day_of m ≡ d
unfolding day_of
day_of-is m d e = same_day (record { number = moment_day m; in_years = moment_day-in_years m }) d e

-- the stamp on another day
on_stamp : Stamp → Day → Stamp
on_stamp at day = record { day = day.number; second = at.second; in_years = day.in_years; in_day = at.in_day }

-- the moment on another day, with the same time of day
pub on_day : Moment → Day → Moment
on_day (Date d) day = Date day
on_day (Floating at) day = Floating (on_stamp at day)
on_day (Utc at) day = Utc (on_stamp at day)
on_day (Zoned zone at) day = Zoned zone (on_stamp at day)

pub on_day-day : (m : Moment) (d : Day) → moment_day (on_day m d) ≡ d.number
unfolding on_day on_stamp
on_day-day (Date e) d = refl
on_day-day (Floating at) d = refl
on_day-day (Utc at) d = refl
on_day-day (Zoned zone at) d = refl

pub on_day-time : (m : Moment) (d : Day) → HasTimeOf m (on_day m d)
unfolding on_day on_stamp
on_day-time (Date e) d = record { form = refl; second = refl; zone = refl }
on_day-time (Floating at) d = record { form = refl; second = refl; zone = refl }
on_day-time (Utc at) d = record { form = refl; second = refl; zone = refl }
on_day-time (Zoned zone at) d = record { form = refl; second = refl; zone = refl }

-- one day, one moment

pub HasTimeOf-itself : (m : Moment) → HasTimeOf m m
HasTimeOf-itself m = record { form = refl; second = refl; zone = refl }

pub one_moment : (start m n : Moment) → HasTimeOf start m → HasTimeOf start n → moment_day m ≡ moment_day n → m ≡ n
one_moment start m n p q e = same_moment m n e (p.second ∙ sym q.second) (ap form_rank (p.form ∙ sym q.form)) (p.zone ∙ sym q.zone)

-- the order

pub int_cmp-Less : (a b : ℤ) → a <ℤ b → int_cmp a b ≡ Less
int_cmp-Less a b lt = by_ranks (int_cmp a b) refl (int_ranked a b (int_cmp a b) refl)
  where
    by_ranks : (r : Ordering) → r ≡ int_cmp a b → MatchOrdering r (a <ℤ b) (a ≡ b) (b <ℤ a) → r ≡ Less
    by_ranks Less e h = refl
    by_ranks Equal e h = absurd (omega (arith, signed_arith))
    by_ranks Greater e h = absurd (omega (arith, signed_arith))

pub int_cmp-Greater : (a b : ℤ) → b <ℤ a → int_cmp a b ≡ Greater
int_cmp-Greater a b lt = by_ranks (int_cmp a b) refl (int_ranked a b (int_cmp a b) refl)
  where
    by_ranks : (r : Ordering) → r ≡ int_cmp a b → MatchOrdering r (a <ℤ b) (a ≡ b) (b <ℤ a) → r ≡ Greater
    by_ranks Less e h = absurd (omega (arith, signed_arith))
    by_ranks Equal e h = absurd (omega (arith, signed_arith))
    by_ranks Greater e h = refl

pub moment_cmp-Less : (m n : Moment) → moment_day m <ℤ moment_day n → moment_cmp m n ≡ Less
moment_cmp-Less m n lt = let days = int_cmp-Less (moment_day m) (moment_day n) lt in rw days refl

pub moment_cmp-Greater : (m n : Moment) → moment_day n <ℤ moment_day m → moment_cmp m n ≡ Greater
moment_cmp-Greater m n lt = let days = int_cmp-Greater (moment_day m) (moment_day n) lt in rw days refl

-- of two moments with one time of day the earlier has the earlier day
pub earlier_day : (start m n : Moment) → HasTimeOf start m → HasTimeOf start n → moment_cmp m n ≡ Less → moment_day m <ℤ moment_day n
earlier_day start m n p q less =
    by_lt_z (moment_day m) (moment_day n) (λ lt. lt)
    (λ ge. by_lt_z (moment_day n) (moment_day m)
    (λ gt. let greater = moment_cmp-Greater m n gt in absurd cc)
    (λ le. let same : moment_day m ≡ moment_day n = omega (arith, signed_arith) in
    let tied : moment_cmp m n ≡ Equal = ap (λ x. moment_cmp x n) (one_moment start m n p q same) ∙ tied_itself moment_total n in
    absurd cc))

candidate_time : (rule : Rule) (start m : Moment) → IsCandidate rule start m → HasTimeOf start m
candidate_time rule start m (inl same) = subst (HasTimeOf start) (sym same) (HasTimeOf-itself start)
candidate_time rule start m (inr repeat) = repeat.same_time

-- COUNT by days

-- a candidate before m
abbrev pub IsBefore : Rule → Moment → Moment → Moment → Type 0
IsBefore rule start m e = IsCandidate rule start e × (moment_cmp e m ≡ Less)

pub AreFewer-from_days : (rule : Rule) (start m : Moment) (n : ℕ) → HasTimeOf start m →
    AreFewerDays (IsEarlier rule (moment_day start) (moment_day m)) n → AreFewer (IsBefore rule start m) n
unfolding day_of
AreFewer-from_days rule start m n time days =
    record {
      all = map (on_day start) days.all;
      each = λ e h.
          let e_time = candidate_time rule start e h.0 in
          let lt = earlier_day start e m e_time time h.1 in
          let there = days.each (day_of e) (by_candidate e h.0, lt) in
          subst (Contains (map (on_day start) days.all))
          (one_moment start (on_day start (day_of e)) e (on_day-time start (day_of e)) e_time (on_day-day start (day_of e)))
          (Contains-map (on_day start) days.all (day_of e) there);
      few = omega (arith, length-map days.all (on_day start), days.few);
    }
  where
    by_candidate : (e : Moment) → IsCandidate rule start e → (moment_day e ≡ moment_day start) ⊎
        IsLaterDay rule (moment_day start) (moment_day e)
    by_candidate e (inl same) = inl (ap moment_day same)
    by_candidate e (inr repeat) = inr repeat.day

pub AreFewerDays-from_moments : (rule : Rule) (start m : Moment) (n : ℕ) → AreFewer (IsBefore rule start m) n →
    AreFewerDays (IsEarlier rule (moment_day start) (moment_day m)) n
AreFewerDays-from_moments rule start m n fewer =
    record {
      all = map day_of fewer.all;
      each = λ d h.
          let at = on_day start d in
          let day = on_day-day start d in
          let there = fewer.each at (candidate d h.0, moment_cmp-Less at m (subst (λ (z : ℤ). z <ℤ moment_day m) (sym day) h.1)) in
          subst (Contains (map day_of fewer.all)) (day_of-is at d day) (Contains-map day_of fewer.all at there);
      few = omega (arith, length-map fewer.all day_of, fewer.few);
    }
  where
    candidate : (d : Day) → (d.number ≡ moment_day start) ⊎ IsLaterDay rule (moment_day start) d.number →
        IsCandidate rule start (on_day start d)
    candidate d (inl same) =
        inl (one_moment start (on_day start d) start (on_day-time start d) (HasTimeOf-itself start) (on_day-day start d ∙ same))
    candidate d (inr later) =
        inr (record { same_time = on_day-time start d; day = subst (IsLaterDay rule (moment_day start)) (sym (on_day-day start d)) later })

-- of the repeats before `end`, those before `last` are within COUNT
pub within_count : (rule : Rule) (start m : Moment) (n : ℕ) (end last : ℤ) → IsEndOfCount rule (moment_day start) n end last →
    IsRepeat rule start m → moment_day m <ℤ end → AreFewer (IsBefore rule start m) n ↔ ((moment_day m <ℤ last) × Unit {0})
within_count rule start m n end last ends repeat before = (
  λ fewer. (
    by_lt_z (moment_day m) last (λ lt. lt) (λ ge. absurd
        (ends.outside (moment_day m) repeat.day before ge (AreFewerDays-from_moments rule start m n fewer))),
    tt,
  ),
  λ h. AreFewer-from_days rule start m n repeat.same_time (ends.inside (moment_day m) repeat.day before h.0),
)

pub within_end-Count : (rule : Rule) (start : Moment) (n : ℕ) (end last : ℤ) → rule.end ≡ Count n →
    IsEndOfCount rule (moment_day start) n end last → (m : Moment) → IsRepeat rule start m → moment_day m <ℤ end →
    IsWithinEnd rule.end (IsCandidate rule start) m ↔ ((moment_day m <ℤ last) × IsUpTo rule.end m)
within_end-Count rule start n end last is ends m repeat before =
    subst (λ (e : End). IsWithinEnd e (IsCandidate rule start) m ↔ ((moment_day m <ℤ last) × IsUpTo e m)) (sym is)
    (within_count rule start m n end last ends repeat before)

-- a moment that isn't after another has no later day
pub day_up_to : (m last : Moment) → moment_cmp m last ≢ Greater → moment_day m ≤ℤ moment_day last
day_up_to m last h = by_lt_z (moment_day last) (moment_day m) (λ lt. absurd (h (moment_cmp-Greater m last lt))) (λ le. le)
