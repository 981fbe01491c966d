-- Steps of a listing in a row: day after day, and moment after moment.
use Rattle.std.proofs.Common.{◌≡◌, ◌↔◌, ◌⊎◌, inl, inr, ℕ, ◌+◌, ◌<◌, ◌≤◌, sym, subst, ap, ◌∙◌, arith, ℤ, pos, ◌+ℤ◌, ◌<ℤ◌, ◌≤ℤ◌, List, []}
use Rattle.std.proofs.Common.{◌∷◌, ◌++◌, take, length, get_or}
use Rattle.std.specs.List.{Contains}
use Rattle.std.specs.List.Sorted.{IsStrictlySortedBy}
use Rattle.std.proofs.lemmas.List.{take_more, take_all}
use Rattle.jiff_core.proofs.SignedLemmas.{signed_arith}
use Rattle.itip_moment.specs.Order.{moment_cmp}
use Rattle.itip_moment.specs.declared.moment.Moment.{Moment}
use Rattle.itip_moment.specs.Moment.{moment_day}
use Rattle.itip_recur.specs.declared.rule.Rule.{Rule}
use Rattle.itip_recur.specs.declared.series.Series.{Series}
use Rattle.itip_recur.specs.Walk.{IsNoDay, IsNextDay}
use Rattle.itip_recur.specs.Adding.{Adds, Exceeds, Gains, AreBefore, IsStart, IsThis, IsBetween, IsOnDay, IsOneOf}
use Rattle.itip_recur.proofs.Adds.{Adds-none, Adds-like, Adds-both, Exceeds-like, Exceeds-after, Gains-like, Gains-both}
use Rattle.itip_recur.proofs.Steps.{between_more, none_between, between_all, between_all_before, one_more}

-- on the days before this one
abbrev pub IsSoFar : Series → Rule → ℤ → ℤ → ℤ → Moment → Type 0
IsSoFar series rule from end day m = IsBetween series rule from end m × (moment_day m <ℤ day)

module _ (limit : ℕ) (series : Series) (rule : Rule) (from end : ℤ) where
  pub walk_none : (old : List Moment) → Adds limit (IsSoFar series rule from end from) old old
  walk_none old = Adds-none limit (IsSoFar series rule from end from) old (none_between series rule from end)

  module _ (day : ℤ) where
    pub walk_more : (next : ℤ) (old mid new : List Moment) → moment_day series.start <ℤ from → from ≤ℤ day →
        IsNextDay rule (moment_day series.start) day end next → Adds limit (IsSoFar series rule from end day) old mid →
        Adds limit (IsOnDay series rule next) mid new → Adds limit (IsSoFar series rule from end (next +ℤ pos 1)) old new
    walk_more next old mid new later low found so_far step =
        Adds-like limit (λ m. IsSoFar series rule from end day m ⊎ IsOnDay series rule next m)
        (IsSoFar series rule from end (next +ℤ pos 1)) old new (between_more series rule from day end next later low found)
        (Adds-both limit (IsSoFar series rule from end day) (IsOnDay series rule next) old mid new so_far step)

    pub walk_over : (next : ℤ) (old mid new : List Moment) → moment_day series.start <ℤ from → from ≤ℤ day →
        IsNextDay rule (moment_day series.start) day end next → Adds limit (IsSoFar series rule from end day) old mid →
        Exceeds limit (IsOnDay series rule next) mid new → Exceeds limit (IsBetween series rule from end) old new
    walk_over next old mid new later low found so_far step =
        Exceeds-like limit (λ m. IsSoFar series rule from end day m ⊎ IsOnDay series rule next m) (IsBetween series rule from end) old new
        (λ m h. ((between_more series rule from day end next later low found m).0 h).0)
        (Exceeds-after limit (IsSoFar series rule from end day) (IsOnDay series rule next) old mid new so_far step)

    pub walk_end : (old new : List Moment) → end ≤ℤ day → Adds limit (IsSoFar series rule from end day) old new →
        Adds limit (IsBetween series rule from end) old new
    walk_end old new le so_far =
        Adds-like limit (IsSoFar series rule from end day) (IsBetween series rule from end) old new
        (between_all_before series rule from day end le) so_far

    pub walk_no_day : (old new : List Moment) → IsNoDay rule (moment_day series.start) day end →
        Adds limit (IsSoFar series rule from end day) old new → Adds limit (IsBetween series rule from end) old new
    walk_no_day old new none so_far =
        Adds-like limit (IsSoFar series rule from end day) (IsBetween series rule from end) old new
        (between_all series rule from day end none) so_far

-- one of the first moments of a list
abbrev pub IsOneOfFirst : ℕ → List Moment → Series → ℤ → ℤ → Moment → Type 0
IsOneOfFirst i moments series from to m = IsOneOf (take i moments) series from to m

module _ (moments : List Moment) (series : Series) (from to : ℤ) (i : ℕ) (old mid new : List Moment) (moment : Moment) where
  pub list_more : i < length moments → moment ≡ get_or moments i moment → Gains (IsOneOfFirst i moments series from to) old mid →
      Gains (IsThis series from to moment) mid new → Gains (IsOneOfFirst (i + 1) moments series from to) old new
  list_more lt is so_far step =
      Gains-like (λ m. IsOneOfFirst i moments series from to m ⊎ IsThis series from to moment m)
      (IsOneOfFirst (i + 1) moments series from to) old new
      (one_more series from to (take i moments) (take (i + 1) moments) moment (take_more moments i moment lt ∙
      ap (λ x. take i moments ++ x ∷ []) (sym is)))
      (Gains-both (IsOneOfFirst i moments series from to) (IsThis series from to moment) old mid new so_far step)

pub list_end : (moments : List Moment) (series : Series) (from to : ℤ) (i : ℕ) (old new : List Moment) → length moments ≤ i →
    Gains (IsOneOfFirst i moments series from to) old new → Gains (IsOneOf moments series from to) old new
list_end moments series from to i old new le so_far =
    subst (λ (ms : List Moment). Gains (IsOneOf ms series from to) old new) (take_all i moments le) so_far

-- what was found so far lies before the day to come
pub before_next : (limit : ℕ) (series : Series) (rule : Rule) (from end day next : ℤ) (old new : List Moment) → from ≤ℤ day → day ≤ℤ next →
    AreBefore from old → Adds limit (IsSoFar series rule from end day) old new → AreBefore next new
before_next limit series rule from end day next old new le later before adds m h =
    elim ((adds.exactly m).0 h) [
      | inl there ↦ let lt = before m there in omega (arith, signed_arith)
      | inr is ↦ let lt = is.1 in omega (arith, signed_arith)
    ]

pub after_start : (limit : ℕ) (series : Series) (from to : ℤ) (old new : List Moment) → old ≡ [] →
    Adds limit (IsStart series from to) old new → AreBefore (moment_day series.start +ℤ pos 1) new
after_start limit series from to old new empty adds m h =
    elim ((adds.exactly m).0 h) [
      | inl there ↦ absurd (let none : Contains [] m = subst (λ (ms : List Moment). Contains ms m) empty there in let low = none.1 in
          omega arith)
      | inr start ↦ let same : moment_day m ≡ moment_day series.start = ap moment_day start.is in omega (arith, signed_arith)
    ]

pub before_later : (a b : ℤ) (moments : List Moment) → a ≤ℤ b → AreBefore a moments → AreBefore b moments
before_later a b moments le before m h = let lt = before m h in omega (arith, signed_arith)

-- what is put in order
pub grown : (limit : ℕ) (P : Moment → Type 0) (old mid new : List Moment) → Gains P old mid →
    ((m : Moment) → Contains new m ↔ Contains mid m) → length new ≤ limit → Adds limit P old new
grown limit P old mid new gains same small =
    record { exactly = λ m. (λ h. (gains m).0 ((same m).0 h), λ h. (same m).1 ((gains m).1 h)); small = λ h. small }

pub outgrown : (limit : ℕ) (P : Moment → Type 0) (old mid new : List Moment) → Gains P old mid →
    ((m : Moment) → Contains new m ↔ Contains mid m) → IsStrictlySortedBy moment_cmp new → limit < length new → Exceeds limit P old new
outgrown limit P old mid new gains same ascending many =
    record { ascending = ascending; each = λ m h. (gains m).0 ((same m).0 h); many = many }
