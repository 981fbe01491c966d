-- What each step of a listing adds, said of its series.
use Rattle.std.proofs.Common.{◌≡◌, ◌↔◌, ◌⊎◌, inl, inr, ℕ, ◌<◌, refl, sym, subst, ap, ◌∙◌, arith, ℤ, pos, ◌+ℤ◌, ◌<ℤ◌, ◌≤ℤ◌, List, [], ◌∷◌}
use Rattle.std.proofs.Common.{◌++◌, Option, Some, None}
use Rattle.std.specs.List.{Contains}
use Rattle.std.specs.declared.cmp.Ordering.TheVariants.{Less, Equal}
use Rattle.std.proofs.lemmas.Cmp.{tied_itself}
use Rattle.std.proofs.lemmas.Int.{by_lt_z}
use Rattle.std.proofs.lemmas.List.Elements.{Contains-append_left, Contains-push, Contains-push_cases}
use Rattle.jiff_core.proofs.SignedLemmas.{signed_arith}
use Rattle.itip_moment.specs.Years.{IsDayNumber}
use Rattle.itip_moment.specs.declared.moment.Moment.{Moment}
use Rattle.itip_moment.specs.Moment.{moment_day}
use Rattle.itip_moment.specs.Order.{moment_cmp}
use Rattle.itip_moment.specs.OrderLaws.{moment_total}
use Rattle.itip_recur.specs.declared.rule.Rule.{Rule}
use Rattle.itip_recur.specs.declared.rule.End.{End}
use Rattle.itip_recur.specs.declared.rule.End.TheVariants.{Count}
use Rattle.itip_recur.specs.declared.series.Series.{Series}
use Rattle.itip_recur.specs.Members.{HasTimeOf, IsRepeat, IsCandidate, IsWithinEnd, IsMember, IsRuleMember}
use Rattle.itip_recur.specs.Occurrences.{OccursIn}
use Rattle.itip_recur.specs.SelectedDays.{InPattern}
use Rattle.itip_recur.specs.Walk.{IsNoDay, IsNextDay, IsUpTo}
use Rattle.itip_recur.specs.Adding.{IsKept, IsThis, IsStart, IsRepeatOf, IsBetween, IsOnDay, IsOneOf, IsMemberIn}
use Rattle.itip_recur.proofs.Moments.{one_moment, moment_cmp-Greater, moment_day-in_years}

-- one moment

pub kept_is_this : (series : Series) (from to : ℤ) (moment : Moment) → IsKept series from to moment → (m : Moment) → (m ≡ moment) ↔
    IsThis series from to moment m
kept_is_this series from to moment kept m = (λ is. record { is = is; kept = subst (IsKept series from to) (sym is) kept }, λ this. this.is)

pub none_kept : (series : Series) (from to : ℤ) (moment : Moment) → (IsKept series from to moment → ⊥) → (m : Moment) →
    IsThis series from to moment m → ⊥
none_kept series from to moment not m this = not (subst (IsKept series from to) this.is this.kept)

pub is_on_day : (series : Series) (rule : Rule) (day : ℤ) (moment : Moment) → HasTimeOf series.start moment → moment_day moment ≡ day →
    IsUpTo rule.end moment → (Contains series.exdates moment → ⊥) → (m : Moment) → (m ≡ moment) ↔ IsOnDay series rule day m
is_on_day series rule day moment time day_is up_to stays m = (
  λ is. record {
    time = subst (HasTimeOf series.start) (sym is) time;
    day_is = ap moment_day is ∙ day_is;
    up_to = subst (IsUpTo rule.end) (sym is) up_to;
    stays = subst (λ (x : Moment). Contains series.exdates x → ⊥) (sym is) stays;
  },
  λ on. one_moment series.start m moment on.time time (on.day_is ∙ sym day_is),
)

pub excluded_on_day : (series : Series) (rule : Rule) (day : ℤ) (moment : Moment) → HasTimeOf series.start moment →
    moment_day moment ≡ day → Contains series.exdates moment → (m : Moment) → IsOnDay series rule day m → ⊥
excluded_on_day series rule day moment time day_is among m on =
    on.stays (subst (Contains series.exdates) (sym (one_moment series.start m moment on.time time (on.day_is ∙ sym day_is))) among)

pub none_on_day : (series : Series) (rule : Rule) (day : ℤ) (moment : Moment) → HasTimeOf series.start moment → moment_day moment ≡ day →
    (IsUpTo rule.end moment → ⊥) → (m : Moment) → IsOnDay series rule day m → ⊥
none_on_day series rule day moment time day_is after m on =
    after (subst (IsUpTo rule.end) (one_moment series.start m moment on.time time (on.day_is ∙ sym day_is)) on.up_to)

-- the start

pub kept_is_start : (series : Series) (from to : ℤ) → IsRuleMember series.rule series.start series.start →
    IsKept series from to series.start → (m : Moment) → (m ≡ series.start) ↔ IsStart series from to m
kept_is_start series from to member kept m = (
  λ is. record {
    is = is;
    member = subst (IsRuleMember series.rule series.start) (sym is) member;
    kept =
        subst (IsKept series from to) (sym is) kept;
  },
  λ start. start.is,
)

pub no_start : (series : Series) (from to : ℤ) →
    (IsRuleMember series.rule series.start series.start → IsKept series from to series.start → ⊥) → (m : Moment) →
    IsStart series from to m → ⊥
no_start series from to not m start =
    not (subst (IsRuleMember series.rule series.start) start.is start.member) (subst (IsKept series from to) start.is start.kept)

not_before_start : (rule : Rule) (start m : Moment) → IsCandidate rule start m → moment_cmp m start ≡ Less → ⊥
not_before_start rule start m (inl same) less =
    let tied : moment_cmp m start ≡ Equal = ap (λ x. moment_cmp x start) same ∙ tied_itself moment_total start in cc
not_before_start rule start m (inr repeat) less =
    let greater = moment_cmp-Greater m start repeat.day.later in cc

pub start_in_count : (rule : Rule) (start : Moment) (n : ℕ) → rule.end ≡ Count n → 0 < n ↔ IsMember rule start start
start_in_count rule start n is = (
  λ some. record {
    candidate = inl refl;
    within = subst (λ (e : End). IsWithinEnd e (IsCandidate rule start) start) (sym is)
        (record { all = []; each = λ m h. absurd (not_before_start rule start m h.0 h.1); few = some });
  },
  λ member. let fewer = subst (λ (e : End). IsWithinEnd e (IsCandidate rule start) start) is member.within in let few = fewer.few in
      omega arith,
)

-- the repeats

-- the repeats before a day, and those on the next one, are those before the day after that
pub between_more : (series : Series) (rule : Rule) (from day end next : ℤ) → moment_day series.start <ℤ from → from ≤ℤ day →
    IsNextDay rule (moment_day series.start) day end next → (m : Moment)
    → ((IsBetween series rule from end m × (moment_day m <ℤ day)) ⊎ IsOnDay series rule next m) ↔
    (IsBetween series rule from end m × (moment_day m <ℤ (next +ℤ pos 1)))
between_more series rule from day end next later low found m =
    let at_least = found.not_before in let below_end = found.before_end in (
      λ h. elim h [
        | inl old ↦ (old.0, let lt = old.1 in omega (arith, signed_arith))
        | inr on ↦
            let is = on.day_is in (
              record {
                repeat = record {
                  same_time = on.time;
                  day =
                      record {
                        later = omega (arith, signed_arith);
                        in_pattern =
                            subst (λ (z : ℤ). InPattern rule (moment_day series.start) z) (sym is) found.in_pattern;
                      };
                };
                not_before = omega (arith, signed_arith);
                before_end = omega (arith, signed_arith);
                up_to = on.up_to;
                stays = on.stays;
              },
              omega (arith, signed_arith),
            )
      ],
      λ h. let lt = h.1 in
          by_lt_z (moment_day m) day (λ below. inl (h.0, below))
          (λ above. by_lt_z (moment_day m) next
          (λ between. absurd (found.first (moment_day m) above between h.0.repeat.day.in_pattern))
          (λ not_below. inr (record {
            time = h.0.repeat.same_time;
            day_is = omega (arith, signed_arith);
            up_to = h.0.up_to;
            stays =
                h.0.stays;
          }))),
    )

pub none_between : (series : Series) (rule : Rule) (from end : ℤ) (m : Moment) → IsBetween series rule from end m ×
    (moment_day m <ℤ from) → ⊥
none_between series rule from end m h = let low = h.0.not_before in let high = h.1 in omega (arith, signed_arith)

pub between_all : (series : Series) (rule : Rule) (from day end : ℤ) → IsNoDay rule (moment_day series.start) day end → (m : Moment) →
    (IsBetween series rule from end m × (moment_day m <ℤ day)) ↔ IsBetween series rule from end m
between_all series rule from day end none m = (
  λ h. h.0,
  λ h. (h, by_lt_z (moment_day m) day (λ lt. lt) (λ ge. absurd (none (moment_day m) ge h.before_end h.repeat.day.in_pattern))),
)

pub between_all_before : (series : Series) (rule : Rule) (from day end : ℤ) → end ≤ℤ day → (m : Moment) →
    (IsBetween series rule from end m × (moment_day m <ℤ day)) ↔ IsBetween series rule from end m
between_all_before series rule from day end le m = (λ h. h.0, λ h. (h, let lt = h.before_end in omega (arith, signed_arith)))

-- `low`, `high` and `end` are the window's days as the walk takes them
pub between_is_repeat : (series : Series) (rule : Rule) (from to low high end : ℤ)
    → ((x : ℤ) → IsDayNumber x → moment_day series.start <ℤ x → (x <ℤ low) ↔ (x <ℤ from))
    → ((x : ℤ) → IsDayNumber x → moment_day series.start <ℤ x → (x <ℤ high) ↔ (x <ℤ to))
    → ((m : Moment) → IsRepeat rule series.start m → ((moment_day m <ℤ high) × IsWithinEnd rule.end (IsCandidate rule series.start) m) ↔
    ((moment_day m <ℤ end) × IsUpTo rule.end m))
    → (m : Moment) → IsBetween series rule low end m ↔ IsRepeatOf series rule from to m
between_is_repeat series rule from to low high end from_is to_is ends m = (
  λ h.
      let within = (ends m h.repeat).1 (h.before_end, h.up_to) in
      record {
        repeat = h.repeat;
        within = within.1;
        kept = record {
          stays = h.stays;
          not_before = by_lt_z (moment_day m) from
              (λ lt. absurd (let before = (from_is (moment_day m) (moment_day-in_years m) h.repeat.day.later).1 lt in let not_before =
              h.not_before in omega (arith, signed_arith))) (λ le. le);
          before_end = (to_is (moment_day m) (moment_day-in_years m) h.repeat.day.later).0 within.0;
        };
      },
  λ h.
      let before = (ends m h.repeat).0 ((to_is (moment_day m) (moment_day-in_years m) h.repeat.day.later).1 h.kept.before_end, h.within) in
      record {
        repeat = h.repeat;
        not_before = by_lt_z (moment_day m) low
            (λ lt. absurd (let early = (from_is (moment_day m) (moment_day-in_years m) h.repeat.day.later).0 lt in let not_before =
            h.kept.not_before in omega (arith, signed_arith))) (λ le. le);
        before_end = before.0;
        up_to = before.1;
        stays = h.kept.stays;
      },
)

-- members, and all

pub members_of_rule : (series : Series) (rule : Rule) (from to : ℤ) → series.rule ≡ Some rule → (m : Moment) →
    (IsStart series from to m ⊎ IsRepeatOf series rule from to m) ↔ IsMemberIn series from to m
members_of_rule series rule from to is m = (
  λ h. elim h [
    | inl start ↦ record { member = start.member; kept = start.kept }
    | inr repeat ↦ record {
      member =
          subst (λ (r : Option Rule). IsRuleMember r series.start m) (sym is)
          (record { candidate = inr repeat.repeat; within = repeat.within });
      kept = repeat.kept;
    }
  ],
  λ h.
      let member = subst (λ (r : Option Rule). IsRuleMember r series.start m) is h.member in
      elim member.candidate [
        | inl same ↦ inl (record { is = same; member = h.member; kept = h.kept })
        | inr repeat ↦ inr (record { repeat = repeat; within = member.within; kept = h.kept })
      ],
)

pub members_of_none : (series : Series) (from to : ℤ) → series.rule ≡ None → (m : Moment) → IsStart series from to m ↔
    IsMemberIn series from to m
members_of_none series from to is m = (
  λ start. record { member = start.member; kept = start.kept },
  λ h. record { is = subst (λ (r : Option Rule). IsRuleMember r series.start m) is h.member; member = h.member; kept = h.kept },
)

pub occurrences_of : (series : Series) (from to : ℤ) (m : Moment) →
    (IsMemberIn series from to m ⊎ IsOneOf series.rdates series from to m) ↔ OccursIn series from to m
occurrences_of series from to m = (
  λ h. elim h [
    | inl member ↦ record {
      occurs = record { there = inl member.member; stays = member.kept.stays };
      not_before = member.kept.not_before;
      before_end = member.kept.before_end;
    }
    | inr one ↦ record {
      occurs = record { there = inr one.among; stays = one.kept.stays };
      not_before = one.kept.not_before;
      before_end =
          one.kept.before_end;
    }
  ],
  λ h. elim h.occurs.there [
    | inl member ↦ inl (record {
      member = member;
      kept =
          record { stays = h.occurs.stays; not_before = h.not_before; before_end = h.before_end };
    })
    | inr among ↦ inr (record {
      among = among;
      kept =
          record { stays = h.occurs.stays; not_before = h.not_before; before_end = h.before_end };
    })
  ],
)

-- one more of a list of moments
pub one_more : (series : Series) (from to : ℤ) (moments more : List Moment) (moment : Moment) → more ≡ moments ++ moment ∷ [] →
    (m : Moment) → (IsOneOf moments series from to m ⊎ IsThis series from to moment m) ↔ IsOneOf more series from to m
one_more series from to moments more moment is m = (
  λ h. elim h [
    | inl old ↦ record {
      among =
          subst (λ (ms : List Moment). Contains ms m) (sym is) (Contains-append_left moments (moment ∷ []) m old.among);
      kept = old.kept;
    }
    | inr this ↦ record {
      among =
          subst (λ (ms : List Moment). Contains ms m) (sym is)
          (subst (Contains (moments ++ moment ∷ [])) (sym this.is) (Contains-push moments moment));
      kept = this.kept;
    }
  ],
  λ h. elim (Contains-push_cases moments moment m (subst (λ (ms : List Moment). Contains ms m) is h.among)) [
    | inl old ↦ inl (record { among = old; kept = h.kept })
    | inr same ↦ inr (record { is = sym same; kept = h.kept })
  ],
)
