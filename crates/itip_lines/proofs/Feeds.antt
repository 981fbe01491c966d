-- What a search for LF finds.
use Rattle.std.proofs.Common.{◌≡◌, ◌≢◌, ◌∙◌, sym, ap, ℕ, ◌+◌, ◌<◌, List, ◌∷◌, ◌++◌, take, drop, arith, take-append-drop}
use Rattle.std.proofs.Common.{get_or-take, length-take-le}
use Rattle.std.specs.Prelude.{Some, None}
use Rattle.std.proofs.lemmas.Bool.{eq-eqb, eqb-true}
use Rattle.std.proofs.lemmas.List.{drop_more}
use Rattle.std.proofs.lemmas.List.Elements.{All-from_get_or}
use Rattle.memchr.specs.Find.{IsFirstByte, is_byte}
use Rattle.itip_lines.specs.UnfoldedLines.{HasNoLf}

pub no_feed : (text : List ℕ) → IsFirstByte (is_byte 10) text None → HasNoLf text
no_feed text none = All-from_get_or (λ b. b ≢ 10) text 0 (λ k within is. none k (omega arith) within (eq-eqb _ _ is))

-- the first LF, and what comes before and after it
pub first_feed : (text : List ℕ) (at : ℕ) → IsFirstByte (is_byte 10) text (Some at) →
    HasNoLf (take at text) × (text ≡ take at text ++ 10 ∷ drop (at + 1) text)
first_feed text at found = (
  All-from_get_or (λ b. b ≢ 10) (take at text) 0 (λ k within is.
      let long = length-take-le at text (omega (arith, found.0.high)) in
      let before : k < at = omega (arith, within, long) in
      found.0.before k (omega arith) before (eq-eqb _ _ (sym (get_or-take at text k 0 before) ∙ is))),
  sym (take-append-drop at text) ∙ ap (λ rest. take at text ++ rest) (drop_more text at 0 found.0.high)
      ∙ ap (λ b. take at text ++ b ∷ drop (at + 1) text) (eqb-true _ _ found.1),
)
