-- Which properties a to-do has, and the texts of its rule.
use Rattle.std.proofs.Common.{◌≡◌, ◌≢◌, ◌↔◌, ◌⊎◌, inl, inr, ℕ, refl, sym, subst, ap, ◌∙◌, arith, true, not, ◌==◌, List, [], ◌∷◌, length}
use Rattle.std.proofs.Common.{Option, Some, None}
use Rattle.std.proofs.lemmas.Bool.Decides.{nat_tests}
use Rattle.itip_lines.specs.declared.line.Line.{Line}
use Rattle.itip_moment.specs.declared.moment.Moment.{Moment}
use Rattle.itip_recur.specs.declared.rule.Rule.{Rule}
use Rattle.itip_recur.specs.RuleText.{RuleText}
use Rattle.itip_todo.specs.Table.{has_period}
use Rattle.itip_recur.specs.ToDoShape.{EndFits, IsRuleOf}
use Rattle.itip_recur.specs.Given.{are_given}

some_is : {A : Type 0} (x : A) (xs : List A) → not (length (x ∷ xs) == 0) ≡ true
some_is x xs = grind (arith, nat_tests)

pub given_is : (rules : List (List ℕ)) (rdates exdates : List Moment) (lines : List Line) → (are_given rules rdates exdates lines ≡ true) ↔
    ((rules ≢ []) ⊎ ((rdates ≢ []) ⊎ ((exdates ≢ []) ⊎ (has_period lines ≡ true))))
given_is (rule ∷ rules) rdates exdates lines = (λ h. inl (λ e. cc), λ h. rw (some_is rule rules))
given_is [] (moment ∷ rdates) exdates lines = (λ h. inr (inl (λ e. cc)), λ h. rw (some_is moment rdates))
given_is [] [] (moment ∷ exdates) lines = (λ h. inr (inr (inl (λ e. cc))), λ h. rw (some_is moment exdates))
given_is [] [] [] lines = (
  λ h. inr (inr (inr h)),
  λ h. elim h [
    | inl some ↦ absurd (some refl)
    | inr h ↦ elim h [
      | inl some ↦ absurd (some refl)
      | inr h ↦ elim h [ inl some ↦ absurd (some refl) | inr period ↦ period ]
    ]
  ],
)

-- one text that is no rule with a fitting end makes no rule
pub no_rule_of : (texts : List (List ℕ)) (start : Moment) (text : List ℕ) → texts ≡ text ∷ [] →
    ((rule : Rule) → RuleText text rule → EndFits start rule.end → ⊥) → (rule : Option Rule) → IsRuleOf texts start rule → ⊥
no_rule_of texts start text is none None empty = let one = ap length is in let no = ap length empty in omega arith
no_rule_of texts start text is none (Some rule) h =
    let both : h.0 ∷ [] ≡ text ∷ [] = sym h.1 ∙ is in
    let same : h.0 ≡ text = cc in
    none rule (subst (λ (t : List ℕ). RuleText t rule) same h.2) h.3

-- and two make none
pub no_rule_of_two : (texts : List (List ℕ)) (start : Moment) (text : List ℕ) (behind : List (List ℕ)) (other : List ℕ)
    (rest : List (List ℕ)) → texts ≡ text ∷ behind → behind ≡ other ∷ rest → (rule : Option Rule) → IsRuleOf texts start rule → ⊥
no_rule_of_two texts start text behind other rest is more None empty =
    let some = ap length is in let no = ap length empty in omega arith
no_rule_of_two texts start text behind other rest is more (Some rule) h =
    let some = ap length is in let two = ap length more in let one = ap length h.1 in omega arith
