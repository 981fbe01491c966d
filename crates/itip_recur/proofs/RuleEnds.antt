-- A rule's text has one end.
use Rattle.std.proofs.Common.{◌≡◌, ℕ, ◌∙◌, sym, ap, refl, List, Option, Some, None}
use Rattle.itip_moment.proofs.ValueLaws.{moment_text-one}
use Rattle.itip_recur.specs.declared.rule.Rule.{Rule}
use Rattle.itip_recur.specs.declared.rule.End.{End}
use Rattle.itip_recur.specs.declared.rule.End.TheVariants.{Never, Count, Until}
use Rattle.itip_recur.specs.RuleText.{IsEndOf, RuleText}

end_one : (count until : Option (List ℕ)) (a b : End) → IsEndOf count until a → IsEndOf count until b → a ≡ b
end_one None None Never Never p q = refl
end_one None None Never (Count n) p q = absurd q.0
end_one None None Never (Until m) p q = absurd q.1
end_one None None (Count n) b p q = absurd p.0
end_one None None (Until m) b p q = absurd p.1
end_one (Some c) None Never b p q = let e = p.0 in cc
end_one (Some c) None (Count n) Never p q = let e = q.0 in cc
end_one (Some c) None (Count n) (Count k) p q = ap Count (p.0.value ∙ sym q.0.value)
end_one (Some c) None (Count n) (Until m) p q = absurd q.1
end_one (Some c) None (Until m) b p q = absurd p.1
end_one None (Some u) Never b p q = let e = p.1 in cc
end_one None (Some u) (Count n) b p q = absurd p.0
end_one None (Some u) (Until m) Never p q = let e = q.1 in cc
end_one None (Some u) (Until m) (Count n) p q = absurd q.0
end_one None (Some u) (Until m) (Until k) p q = ap Until (moment_text-one u None m k p.1 q.1)
end_one (Some c) (Some u) Never b p q = let e = p.0 in cc
end_one (Some c) (Some u) (Count n) b p q = let e = p.1 in cc
end_one (Some c) (Some u) (Until m) b p q = let e = p.0 in cc

pub rule_end_one : (text : List ℕ) (r s : Rule) → RuleText text r → RuleText text s → r.end ≡ s.end
rule_end_one text r s p q = end_one _ _ r.end s.end p.end q.end
