-- Two lines with equal fields are one line.
use Rattle.std.proofs.Common.{◌≡◌, ℕ, List, sym, subst}
use mathlib.Core.HLevel.{is_prop→PathP}
use Rattle.itip_lines.specs.Lawful.{IsLawful, IsLawful-prop}
use Rattle.itip_lines.specs.declared.line.Line.{Line}
use Rattle.itip_lines.specs.declared.line.NumberedLine.{NumberedLine}
use Rattle.itip_lines.specs.declared.line.Param.{Param}

pub same_line : (l m : Line) → l.name ≡ m.name → l.params ≡ m.params → l.value ≡ m.value → l ≡ m
same_line l m p q r =
    λ i. record {
      name = p i;
      params = q i;
      value = r i;
      lawful = is_prop→PathP (λ j. IsLawful (p j) (q j) (r j)) (λ j. IsLawful-prop (p j) (q j) (r j)) l.lawful m.lawful i;
    }

pub same_numbered : (l m : NumberedLine) → l.number ≡ m.number → l.line ≡ m.line → l ≡ m
same_numbered l m p q = λ i. record { number = p i; line = q i }

-- what is equal to the parts of a line is lawful
pub lawful_copy : (l : Line) (name : List ℕ) (params : List Param) (value : List ℕ) → name ≡ l.name → params ≡ l.params → value ≡ l.value →
    IsLawful name params value
lawful_copy l name params value p q r =
    subst (λ (v : List ℕ). IsLawful name params v) (sym r)
    (subst (λ (ps : List Param). IsLawful name ps l.value) (sym q) (subst (λ (n : List ℕ). IsLawful n l.params l.value) (sym p) l.lawful))
