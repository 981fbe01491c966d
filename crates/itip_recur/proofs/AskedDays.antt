-- Moments that are asked of a rule whose days are worked out, and of its series.
use Rattle.std.proofs.Common.{◌≡◌, ◌∙◌, ◌↔◌, ◌⊎◌, inl, inr, refl, sym, arith, ◌<ℤ◌, Bool, true, false, IsTrue}
use Rattle.std.specs.List.{Contains}
use Rattle.jiff_core.proofs.SignedLemmas.{signed_arith}
use Rattle.itip_moment.specs.declared.moment.Moment.{Moment}
use Rattle.itip_moment.specs.Moment.{moment_day}
use Rattle.itip_recur.specs.declared.rule.Rule.{Rule}
use Rattle.itip_recur.specs.declared.prepared_rule.PreparedRule.{PreparedRule}
use Rattle.itip_recur.specs.declared.series.Series.{Series}
use Rattle.itip_recur.specs.Members.{HasTimeOf, IsRepeat, IsCandidate, IsWithinEnd, IsMember, IsRuleMember, Occurs}
use Rattle.itip_recur.specs.PreparedRule.{IsPreparedRule, MayRepeat, IsLaterMember}
use Rattle.itip_recur.proofs.Moments.{moment_day-in_years}

-- what a test that says no tells
pub not_so : {P : Type 0} {b : Bool} → (IsTrue b ↔ P) → b ≡ false → P → ⊥
not_so is off p = let x : true ≡ false = sym (is.1 p) ∙ off in absurd (cc)

pub never : (P : Type 0) → (P → ⊥) → IsTrue false ↔ P
never P not = (λ t. let x : false ≡ true = t in absurd (cc), λ p. absurd (not p))

pub always : (P : Type 0) → P → IsTrue true ↔ P
always P p = (λ t. p, λ h. refl)

module _ (rule : Rule) (start m : Moment) (days : PreparedRule) (is : IsPreparedRule rule start days) where
  pub later_member : MayRepeat rule start days.end m → HasTimeOf start m → IsLaterMember rule start m
  later_member may time =
      let repeat : IsRepeat rule start m = record { same_time = time; day = record { later = may.later; in_pattern = may.in_pattern } } in
      record { repeat = repeat; within = ((is.ends m repeat).1 (may.before_end, may.up_to)).1 }

  pub may_repeat : IsLaterMember rule start m → MayRepeat rule start days.end m
  may_repeat h =
      let in_years = moment_day-in_years m in
      let ends = (is.ends m h.repeat).0 (omega (arith, signed_arith), h.within) in
      record { later = h.repeat.day.later; before_end = ends.0; up_to = ends.1; in_pattern = h.repeat.day.in_pattern }

-- a member that isn't the start is a repeat
pub other_member : (rule : Rule) (start m : Moment) → (m ≡ start → ⊥) → IsLaterMember rule start m ↔ IsMember rule start m
other_member rule start m not = (
  λ h. record { candidate = inr h.repeat; within = h.within },
  λ h. by_candidate h.candidate h.within,
)
  where
    by_candidate : IsCandidate rule start m → IsWithinEnd rule.end (IsCandidate rule start) m → IsLaterMember rule start m
    by_candidate (inl same) within = absurd (not same)
    by_candidate (inr repeat) within = record { repeat = repeat; within = within }

module _ (series : Series) (m : Moment) where
  pub excluded_never : Contains series.exdates m → Occurs series m → ⊥
  excluded_never among o = o.stays among

  pub added_occurs : (Contains series.exdates m → ⊥) → Contains series.rdates m → Occurs series m
  added_occurs stays among = record { there = inr among; stays = stays }

  pub member_occurs : (Contains series.exdates m → ⊥) → (Contains series.rdates m → ⊥) → IsRuleMember series.rule series.start m ↔
      Occurs series m
  member_occurs stays none = (λ h. record { there = inl h; stays = stays }, λ o. by_there o.there)
    where
      by_there : IsRuleMember series.rule series.start m ⊎ Contains series.rdates m → IsRuleMember series.rule series.start m
      by_there (inl member) = member
      by_there (inr among) = absurd (none among)
