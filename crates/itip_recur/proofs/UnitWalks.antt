-- A walk over the units of a rule: a day that a unit selects is in the pattern, and no other is.
use Rattle.std.proofs.Common.{◌≡◌, ◌⊎◌, inl, inr, ℕ, ◌+◌, ◌%◌, ◌^◌, ◌<◌, sym, subst, ap, ◌∙◌, arith, ℤ, pos, ◌+ℤ◌, ◌-ℤ◌, ◌<ℤ◌, ◌≤ℤ◌}
use Rattle.std.proofs.Common.{unsigned_abs, Option, None, Some}
use Rattle.std.specs.Option.{MatchOption}
use Rattle.std.proofs.lemmas.Int.{by_lt_z}
use Rattle.std.proofs.lemmas.Bool.{cases_lt}
use Rattle.std.proofs.Math.Nat.{add-mod_right}
use Rattle.jiff_core.proofs.SignedLemmas.{signed_arith}
use Rattle.itip_moment.specs.Years.{IsDayNumber}
use Rattle.itip_recur.specs.declared.rule.Rule.{Rule}
use Rattle.itip_recur.specs.Calendar.{IsDayOrEnd}
use Rattle.itip_recur.specs.SelectedDays.{unit_number, IsSelected}
use Rattle.itip_recur.specs.Walk.{IsNoDay, IsNextDay, IsUnitFrom, IsFirstDay, IsInUnit}
use Rattle.itip_recur.specs.Waits.{IsNone, IsFirst, IsWait}
use Rattle.itip_recur.proofs.Dates.{pos-unsigned_abs}
use Rattle.itip_recur.proofs.Walks.{IsNoDay-skipped}
use Rattle.itip_recur.proofs.Units.{unit_number-near}
use Rattle.itip_recur.proofs.Congruent.{between}

-- what is left before the stop gets less
pub closer : (stop a b : ℤ) → a <ℤ b → b ≤ℤ stop → unsigned_abs (stop -ℤ b) < unsigned_abs (stop -ℤ a)
closer stop a b lt le =
    omega (
      arith,
      signed_arith,
      pos-unsigned_abs (stop -ℤ b) (omega (arith, signed_arith)),
      pos-unsigned_abs (stop -ℤ a) (omega (arith, signed_arith)),
    )

module _ (P : ℤ → Type 0) where
  pub nothing : (a : ℤ) → IsNone P a a
  nothing a = λ x low high p. omega (arith, signed_arith)

  pub then : (a b c : ℤ) → IsNone P a b → IsNone P b c → IsNone P a c
  then a b c first second = λ x low high p. by_lt_z x b (λ lt. first x low lt p) (λ ge. second x ge high p)

  pub up_to : (a b stop : ℤ) → IsNone P a b → stop ≤ℤ b → IsNone P a stop
  up_to a b stop none le = λ x low high p. none x low (omega (arith, signed_arith)) p

  -- one day more
  pub more : (a b : ℤ) → IsNone P a b → (P b → ⊥) → IsNone P a (b +ℤ pos 1)
  more a b none here =
      λ x low high p. by_lt_z x b (λ lt. none x low lt p) (λ ge. let same : x ≡ b = omega (arith, signed_arith) in here (subst P same p))

  pub found_at : (a stop day wait : ℤ) → a ≤ℤ day → day <ℤ stop → IsNone P a day → IsWait P day wait → wait ≡ pos 0 → IsFirst P a stop day
  found_at a stop day wait low high none waits at_once =
      record { not_before = low; before_stop = high; is = waits.here at_once; first = none }

module _ (rule : Rule) (start day : ℤ) (unit : ℕ) (first next stop : ℤ) (from : IsUnitFrom rule start day unit first)
    (ends : IsFirstDay rule (unit + 1) next) (within : stop ≤ℤ next) (stop_in : IsDayOrEnd stop) where
  pub in_unit : IsInUnit rule unit first stop
  in_unit = λ x low high.
      let bounds = from.bounds in
      let x_in : IsDayNumber x = (omega (arith, signed_arith, bounds.0), omega (arith, signed_arith, stop_in.1)) in
      let at_least = from.low x x_in low in
      let below = (ends x x_in).0 (omega (arith, signed_arith)) in
      omega (arith, at_least, below)

  pub passes : IsNone (IsSelected rule.frequency start) first stop → IsNoDay rule start day stop
  passes none = λ x low high p. by_lt_z x first (λ lt. from.skipped x low lt p) (λ ge. none x ge high p.selected)

  pub finds : (end found : ℤ) → stop ≤ℤ end → IsFirst (IsSelected rule.frequency start) first stop found →
      IsNextDay rule start day end found
  finds end found high is =
      let not_before = from.not_before in
      let after = is.not_before in
      let under = is.before_stop in
      record {
        not_before = omega (arith, signed_arith);
        before_end = omega (arith, signed_arith);
        in_pattern = record {
          congruent = ap (λ n. n % rule.interval) (in_unit found is.not_before is.before_stop) ∙ from.congruent;
          selected = is.is;
        };
        first = λ x low high p. by_lt_z x first (λ lt. from.skipped x low lt p) (λ ge. is.first x ge high p.selected);
      }

-- no day of the pattern is left where the next unit begins at the end or later
pub none_left : (rule : Rule) (start day : ℤ) (unit : ℕ) (first end : ℤ) → IsUnitFrom rule start day unit first → end ≤ℤ first →
    IsNoDay rule start day end
none_left rule start day unit first end from le = λ x low high p. from.skipped x low (omega (arith, signed_arith)) p

-- a unit that begins before the end of days begins on a day, which has its number
pub IsUnitFrom-day : (rule : Rule) (start day : ℤ) (unit : ℕ) (first end : ℤ) → IsUnitFrom rule start day unit first → first <ℤ end →
    IsDayOrEnd end → IsDayNumber first
IsUnitFrom-day rule start day unit first end from lt end_in = let bounds = from.bounds in
    (omega (arith, signed_arith, bounds.0), omega (arith, signed_arith, lt, end_in.1))

pub IsUnitFrom-number : (rule : Rule) (start day : ℤ) (unit : ℕ) (first : ℤ) → IsUnitFrom rule start day unit first → IsDayNumber first →
    unit_number rule.frequency rule.week_start first ≡ unit
IsUnitFrom-number rule start day unit first from first_in = let low = from.low first first_in (omega (arith, signed_arith)) in let high =
    from.high first_in in omega arith

-- a unit goes on after its first day
pub starts_before : (rule : Rule) (start day : ℤ) (unit : ℕ) (first next end stop : ℤ) → IsUnitFrom rule start day unit first →
    IsFirstDay rule (unit + 1) next → first <ℤ end → IsDayOrEnd end → (stop ≡ next) ⊎ (stop ≡ end) → first <ℤ stop
starts_before rule start day unit first next end stop from ends high end_in one =
    let first_in = IsUnitFrom-day rule start day unit first end from high end_in in
    let inside = (ends first first_in).1 (omega (arith, from.high first_in)) in
    elim one [
      | inl e ↦ omega (arith, signed_arith, e, inside)
      | inr e ↦ omega (arith, signed_arith, e, high)
    ]

-- the earlier of two days is a day where both are
pub stop_in_years : (next end stop : ℤ) → IsDayOrEnd next → IsDayOrEnd end → (stop ≡ next) ⊎ (stop ≡ end) → IsDayOrEnd stop
stop_in_years next end stop next_in end_in (inl e) = subst IsDayOrEnd (sym e) next_in
stop_in_years next end stop next_in end_in (inr e) = subst IsDayOrEnd (sym e) end_in

-- the walk goes on from a later day
pub goes_on : (rule : Rule) (start day next : ℤ) (unit : ℕ) (first : ℤ) → day ≤ℤ next → IsNoDay rule start day next →
    IsUnitFrom rule start next unit first → IsUnitFrom rule start day unit first
goes_on rule start day next unit first le none from =
    let low = from.not_before in
    record {
      bounds = from.bounds;
      not_before = omega (arith, signed_arith);
      skipped = IsNoDay-skipped rule start day next first none from.skipped;
      low = from.low;
      high = from.high;
      small = from.small;
      congruent = from.congruent;
    }

-- the units after one of the rule's own, up to the next, are not its own
pub unit_behind : (rule : Rule) (start here : ℤ) (unit : ℕ) (next first : ℤ) → IsDayNumber here →
    unit_number rule.frequency rule.week_start here ≡ unit →
    unit % rule.interval ≡ unit_number rule.frequency rule.week_start start % rule.interval → rule.interval < 2 ^ 16 → unit < 2 ^ 22 →
    IsDayOrEnd next → IsFirstDay rule (unit + 1) next → IsDayOrEnd first → IsFirstDay rule (unit + rule.interval) first →
    IsUnitFrom rule start next (unit + rule.interval) first
unit_behind rule start here unit next first here_in number own short small next_in ends first_in begins =
    let positive : 0 < rule.interval = omega (arith, rule.at_least_one) in
    let of = unit_number rule.frequency rule.week_start in
    let later : here <ℤ next = (ends here here_in).1 (omega (arith, number)) in
    let not_before : next ≤ℤ first = by_lt_z first next
    (λ lt.
    let day_in : IsDayNumber first = (omega (arith, signed_arith, first_in.0), omega (arith, signed_arith, next_in.1)) in
    let below = (ends first day_in).0 lt in
    absurd (let same = (begins first day_in).1 (omega (arith, below)) in omega (arith, signed_arith, same)))
    (λ le. le) in
    record {
      bounds = first_in;
      not_before = not_before;
      skipped = λ x low high p.
          let x_in : IsDayNumber x = (omega (arith, signed_arith, next_in.0), omega (arith, signed_arith, first_in.1)) in
          let below = (begins x x_in).0 high in
          elim (cases_lt unit (of x)) [
            | inl above ↦ between unit (of x) rule.interval positive above below (p.congruent ∙ sym own)
            | inr at ↦ let before = (ends x x_in).1 (omega (arith, at)) in omega (arith, signed_arith, before)
          ];
      low = λ x x_in low. elim (cases_lt (of x) (unit + rule.interval)) [
        | inl lt ↦ absurd (let before = (begins x x_in).1 lt in omega (arith, signed_arith))
        | inr le ↦ le
      ];
      high = λ day_in.
          let before_in : IsDayNumber (first -ℤ pos 1) =
          (omega (arith, signed_arith, later, not_before, here_in), omega (arith, signed_arith, day_in)) in
          let below = (begins (first -ℤ pos 1) before_in).0 (omega (arith, signed_arith)) in
          let near = unit_number-near rule.frequency rule.week_start (first -ℤ pos 1) first before_in day_in
          (omega (arith, signed_arith)) in
          omega (arith, below, near);
      small = omega (arith, small, short);
      congruent = add-mod_right unit rule.interval ∙ own;
    }

-- where each unit is the rule's own, a day that is selected is in the pattern
each_congruent : (rule : Rule) (a b : ℕ) → rule.interval ≡ 1 → a % rule.interval ≡ b % rule.interval
each_congruent rule a b one = rw one (omega arith)

pub each_unit : (rule : Rule) (start from end : ℤ) (r : Option ℤ) → rule.interval ≡ 1 →
    MatchOption r (IsNone (IsSelected rule.frequency start) from end) (IsFirst (IsSelected rule.frequency start) from end) →
    MatchOption r (IsNoDay rule start from end) (IsNextDay rule start from end)
each_unit rule start from end None one none = λ x low high p. none x low high p.selected
each_unit rule start from end (Some day) one is =
    let of = unit_number rule.frequency rule.week_start in
    record {
      not_before = is.not_before;
      before_end = is.before_stop;
      in_pattern = record { congruent = each_congruent rule (of day) (of start) one; selected = is.is };
      first = λ x low high p. is.first x low high p.selected;
    }
