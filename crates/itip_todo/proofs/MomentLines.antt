-- The line of a moment, from the text of its parameters.
use Rattle.std.proofs.Common.{◌≡◌, ◌∙◌, sym, ap, ℕ, List, [], ◌∷◌, ◌++◌, append-nil}
use Rattle.std.specs.Prelude.{Result, OnOk}
use Rattle.std.proofs.lemmas.Result.{on_ok_weaker}
use Rattle.itip_lines.specs.Lawful.{params_text}
use Rattle.itip_lines.specs.Writing.{folded}
use Rattle.itip_lines.specs.declared.line.Param.{Param}
use Rattle.itip_lines.proofs.Written.{params_append}
use Rattle.itip_todo.specs.Written.{contents_octets}

-- `text` is that of the parameters
pub line_beside : {A E : Type 0} (r : Result A E) (old new name text value : List ℕ) (params : List Param) → text ≡ params_text params →
    OnOk r (new ≡ old ++ folded 0 (name ++ (text ++ 58 ∷ value))) →
    OnOk r (new ≡ old ++ contents_octets ((record { name = name; params = params; value = value }) ∷ []))
line_beside r old new name text value params is =
    on_ok_weaker r
    (λ (e : new ≡ old ++ folded 0 (name ++ (text ++ 58 ∷ value))). e
    ∙ ap (λ (t : List ℕ). old ++ folded 0 (name ++ (t ++ 58 ∷ value))) is
    ∙ ap (λ (octets : List ℕ). old ++ octets) (sym (append-nil (folded 0 (name ++ (params_text params ++ 58 ∷ value))))))

-- the parameters of one list, and those of two
pub first_text : (none text : List ℕ) (ps : List Param) → none ≡ [] → text ≡ none ++ params_text ps → text ≡ params_text ps
first_text none text ps e f = f ∙ ap (λ (t : List ℕ). t ++ params_text ps) e

pub both_text : (none first text : List ℕ) (ps qs : List Param) → none ≡ [] → first ≡ none ++ params_text ps →
    text ≡ first ++ params_text qs → text ≡ params_text (ps ++ qs)
both_text none first text ps qs e f g =
    g ∙ ap (λ (t : List ℕ). t ++ params_text qs) (first_text none first ps e f) ∙ sym (params_append ps qs)
