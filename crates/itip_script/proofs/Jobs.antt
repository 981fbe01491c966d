-- The first command of a script for an office, and those after it.
use Rattle.std.proofs.Common.{◌≡◌, Bool, true, false, cond, ℕ, List, [], ◌∷◌, refl, sym, ap, ◌∙◌}
use Rattle.std.specs.List.{concat}
use Rattle.itip_script.specs.Lines.{lines_of, content_of, is_command, before_command, from_command}
use Rattle.itip_script.specs.Jobs.{Errand, errand_at, errands_from, errands_of}
use Rattle.itip_script.proofs.Stretches.{first_is_command}

errands_from-from_command : (lines : List (List ℕ)) → errands_from (from_command lines) ≡ errands_from lines
errands_from-from_command [] = refl
errands_from-from_command (line ∷ lines) =
    elim (is_command line) as (λ b. is_command line ≡ b →
    errands_from (cond b (line ∷ lines) (from_command lines)) ≡ cond b (errand_at (content_of line) (concat (before_command lines)) ∷
    errands_from lines) (errands_from lines)) [
      | true ↦ λ e. ap (λ (t : Bool). cond t (errand_at (content_of line) (concat (before_command lines)) ∷ errands_from lines)
          (errands_from lines)) e
      | false ↦ λ e. errands_from-from_command lines
    ] refl

pub errands_after : (bytes after : List ℕ) → lines_of after ≡ from_command (lines_of bytes) → errands_of after ≡ errands_of bytes
errands_after bytes after e = ap errands_from e ∙ errands_from-from_command (lines_of bytes)

pub errands_first : (bytes here line after rest : List ℕ) (errand : Errand) → lines_of here ≡ from_command (lines_of bytes) →
    lines_of here ≡ line ∷ lines_of after
    → lines_of rest ≡ from_command (lines_of after) → errand ≡ errand_at (content_of line) (concat (before_command (lines_of after)))
    → errands_of bytes ≡ errand ∷ errands_of rest
errands_first bytes here line after rest errand behind cut next is =
    let known : is_command line ≡ true = first_is_command (lines_of bytes) line (lines_of after) (sym behind ∙ cut) in
    let told = errand_at (content_of line) (concat (before_command (lines_of after))) in
    sym (errands_after bytes here behind) ∙ ap errands_from cut
    ∙ ap (λ (t : Bool). cond t (told ∷ errands_from (lines_of after)) (errands_from (lines_of after))) known
    ∙ ap (λ (t : List Errand). told ∷ t) (sym (errands_after after rest next))
    ∙ ap (λ (t : Errand). t ∷ errands_of rest) (sym is)
