-- One more reply of an office, which may be a refusal.
use Rattle.std.proofs.Common.{◌≡◌, ℕ, List, [], ◌∷◌, ◌++◌, sym, ap, ◌∙◌, append_assoc, append-nil, Option, Some, None}
use Rattle.itip_desk.specs.declared.refusal.Refusal.{Refusal}
use Rattle.itip_office.specs.declared.outcome.Outcome.{Outcome}
use Rattle.itip_office.specs.Answers.{refusal_of}
use Rattle.itip_office.specs.Scripts.{onto_refused, refused_of}

module _ (refused : List (ℕ × Refusal)) (left rest : List (ℕ × Outcome)) (reply : ℕ × Outcome) (whole : List (ℕ × Refusal))
    (first : left ≡ reply ∷ rest) (was : refused ++ refused_of left ≡ whole) where
  of_first : refused ++ onto_refused reply.0 (refusal_of reply.1) (refused_of rest) ≡ whole
  of_first = ap (λ (rs : List (ℕ × Outcome)). refused ++ refused_of rs) (sym first) ∙ was

  pub refused_more : (refusal : Refusal) (more : List (ℕ × Refusal)) → Some refusal ≡ refusal_of reply.1 → more ≡ refused ++
      (reply.0, refusal) ∷ [] → more ++ refused_of rest ≡ whole
  refused_more refusal more is more_is =
      ap (λ (rs : List (ℕ × Refusal)). rs ++ refused_of rest) more_is ∙ append_assoc refused ((reply.0, refusal) ∷ []) (refused_of rest)
      ∙ ap (λ (o : Option Refusal). refused ++ onto_refused reply.0 o (refused_of rest)) is ∙ of_first

  pub none_refused : None ≡ refusal_of reply.1 → refused ++ refused_of rest ≡ whole
  none_refused is = ap (λ (o : Option Refusal). refused ++ onto_refused reply.0 o (refused_of rest)) is ∙ of_first

pub all_refused : (refused : List (ℕ × Refusal)) (left : List (ℕ × Outcome)) (whole : List (ℕ × Refusal)) → left ≡ [] → refused ++
    refused_of left ≡ whole → refused ≡ whole
all_refused refused left whole none was = sym (append-nil refused) ∙
    ap (λ (rs : List (ℕ × Outcome)). refused ++ refused_of rs) (sym none) ∙ was
