-- What is shown of a text has no control character of one octet.
use Rattle.std.proofs.Common.{◌≡◌, ℕ, ◌/◌, ◌%◌, ◌≤◌, ◌<◌, suc, true, false, ltb, eqb, ◌&&◌, ◌||◌, List, [], ◌∷◌}
use Rattle.std.proofs.Common.{sym, ◌∙◌, inl, inr, arith}
use Rattle.std.specs.Prelude.{◌≢◌}
use Rattle.std.specs.Char.{digit_char}
use Rattle.std.specs.List.{All}
use Rattle.std.proofs.lemmas.Bool.{true≢false, or_from, or_parts, and_left, and_right, le-ltb, ltb-false, eqb-false, ne_eqb, cond_both}
use Rattle.std.proofs.lemmas.Bool.Decides.{nat_tests, leb_tells}
use Rattle.std.proofs.lemmas.List.Elements.{All-nil, All-cons, All-append}
use Rattle.itip_streams.specs.Visible.{escaped, is_second, begins_second, is_of_c1, is_hidden, shown_octet, shown_after}
use Rattle.itip_streams.specs.Visible.{visible}

-- an octet that is no control character by itself
pub record IsShown (octet : ℕ) : Type 0 where
  pub no_control : 32 ≤ octet
  pub no_delete : octet ≢ 127

digit_shown : (d : ℕ) → d < 16 → IsShown (digit_char d)
digit_shown d small = record { no_control = grind (arith, nat_tests); no_delete = λ e. absurd (grind (arith, nat_tests)) }

-- an octet that is hidden is in the range of octets
small_if_hidden : (before octet : ℕ) (after : List ℕ) → is_hidden false before octet after ≡ true → octet < 256
small_if_hidden before octet after hidden = elim (leb_tells (suc octet) 256) [
  | inl small ↦ omega (arith, small.1)
  | inr large ↦
      let none : is_hidden false before octet after ≡ false =
      or_from (ltb octet 32 || eqb octet 127) ((eqb octet 194 && begins_second after) || (eqb before 194 && is_second octet))
      (or_from (ltb octet 32) (eqb octet 127) (le-ltb octet 32 (omega (arith, large.1)))
      (ne_eqb octet 127 (λ e. absurd (omega (arith, large.1, e)))))
      (or_from (eqb octet 194 && begins_second after) (eqb before 194 && is_second octet)
      (and_left (eqb octet 194) (begins_second after) (ne_eqb octet 194 (λ e. absurd (omega (arith, large.1, e)))))
      (and_right (eqb before 194) (is_second octet) (no_second octet (omega (arith, large.1))))) in
      absurd (true≢false (sym hidden ∙ none))
]
  where
    no_second : (octet : ℕ) → 256 ≤ octet → is_second octet ≡ false
    no_second octet large = and_right _ _ (le-ltb octet 160 (omega arith))

escaped_shown : (octet : ℕ) → octet < 256 → All IsShown (escaped octet)
escaped_shown octet small =
    All-cons IsShown 92 (120 ∷ (digit_char (octet / 16) ∷ (digit_char (octet % 16) ∷ [])))
    (record { no_control = omega arith; no_delete = λ e. absurd (omega arith) })
    (All-cons IsShown 120 (digit_char (octet / 16) ∷ (digit_char (octet % 16) ∷ []))
    (record { no_control = omega arith; no_delete = λ e. absurd (omega arith) })
    (All-cons IsShown (digit_char (octet / 16)) (digit_char (octet % 16) ∷ []) (digit_shown (octet / 16) (omega arith))
    (All-cons IsShown (digit_char (octet % 16)) [] (digit_shown (octet % 16) (omega arith)) (All-nil IsShown))))

plain_shown : (before octet : ℕ) (after : List ℕ) → is_hidden false before octet after ≡ false → All IsShown (octet ∷ [])
plain_shown before octet after plain =
    let single = (or_parts (ltb octet 32 || eqb octet 127) (is_of_c1 before octet after) plain).0 in
    let parts = or_parts (ltb octet 32) (eqb octet 127) single in
    All-cons IsShown octet []
    (record { no_control = ltb-false octet 32 parts.0; no_delete = eqb-false octet 127 parts.1 })
    (All-nil IsShown)

shown : (before : ℕ) (octets : List ℕ) → All IsShown (shown_after false before octets)
shown before [] = All-nil IsShown
shown before (octet ∷ after) =
    All-append IsShown (shown_octet false before octet after) (shown_after false octet after)
    (cond_both (is_hidden false before octet after) (escaped octet) (octet ∷ []) (All IsShown)
    (λ hidden. escaped_shown octet (small_if_hidden before octet after hidden))
    (λ plain. plain_shown before octet after plain))
    (shown octet after)

pub visible_shown : (text : List ℕ) → All IsShown (visible text)
visible_shown text = shown 0 text
