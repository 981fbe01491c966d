-- The value of a parameter that a text begins with is the only one.
use Rattle.std.proofs.Common.{◌≡◌, ◌∙◌, sym, refl, ℕ, false, List, [], ◌∷◌, ◌++◌, subst, inl, inr}
use Rattle.std.specs.Prelude.{◌==◌, IsTrue}
use Rattle.std.specs.List.{list_all}
use Rattle.std.proofs.lemmas.Bool.{and_parts}
use Rattle.itip_lines.specs.Octets.{is_quotable_octet, is_plain_octet}
use Rattle.itip_lines.specs.Spelling.{ValueThen}
use Rattle.itip_lines.specs.Parts.{IsRun, begins, EndsValue, CutsValue, LacksValue}
use Rattle.itip_lines.specs.Parts.CutsValue.{quoted, plain}
use Rattle.itip_lines.proofs.Runs.{one_run}
use Rattle.itip_lines.proofs.OctetLemmas.{plain_not_quote, separator_not_plain, separator_not_quote}

-- a value without quotes and what follows it do not begin with a quote
no_quote : (value rest : List ℕ) → IsTrue (list_all is_plain_octet value) → EndsValue rest → begins (λ b. b == 34) (value ++ rest) ≡ false
no_quote [] [] p e = refl
no_quote [] (b ∷ rest) p e = separator_not_quote b e
no_quote (b ∷ value) rest p e = plain_not_quote b (and_parts _ _ p).0

ends_plain : (rest : List ℕ) → EndsValue rest → begins is_plain_octet rest ≡ false
ends_plain [] e = refl
ends_plain (b ∷ rest) e = separator_not_plain b e

-- what comes before the closing quote
pub quoted_run : (inside value rest : List ℕ) → IsTrue (list_all is_quotable_octet value) → inside ≡ value ++ 34 ∷ rest →
    IsRun is_quotable_octet inside value (34 ∷ rest)
quoted_run inside value rest q e = record { whole = e; passes = q; stops = refl }

pub cuts_from_then : (text value rest : List ℕ) → ValueThen text value rest → EndsValue rest → CutsValue text value rest
cuts_from_then text value rest (inl h) e = quoted h.0 h.1
cuts_from_then text value rest (inr h) e =
    plain (record { whole = h.1; passes = h.0; stops = ends_plain rest e })
    (subst (λ (t : List ℕ). begins (λ b. b == 34) t ≡ false) (sym h.1) (no_quote value rest h.0 e))

pub then_from_cuts : (text value rest : List ℕ) → CutsValue text value rest → ValueThen text value rest
then_from_cuts text value rest (quoted q e) = inl (q, e)
then_from_cuts text value rest (plain r n) = inr (r.passes, r.whole)

pub quote_clash : (text inside : List ℕ) → text ≡ 34 ∷ inside → begins (λ b. b == 34) text ≡ false → ⊥
quote_clash text inside e n = let f : begins (λ b. b == 34) (34 ∷ inside) ≡ false =
    subst (λ (t : List ℕ). begins (λ b. b == 34) t ≡ false) e n in cc

pub one_cut : (text v r w s : List ℕ) → CutsValue text v r → CutsValue text w s → (v ≡ w) × (r ≡ s)
one_cut text v r w s (quoted q e) (quoted p f) =
    let inside : v ++ 34 ∷ r ≡ w ++ 34 ∷ s = (let both : 34 ∷ (v ++ 34 ∷ r) ≡ 34 ∷ (w ++ 34 ∷ s) = sym e ∙ f in cc) in
    let one : (v ≡ w) × (34 ∷ r ≡ 34 ∷ s) =
    one_run is_quotable_octet _ v (34 ∷ r) w (34 ∷ s) (quoted_run _ v r q refl) (quoted_run _ w s p inside) in
    let rests : 34 ∷ r ≡ 34 ∷ s = one.1 in
    (one.0, cc)
one_cut text v r w s (quoted q e) (plain k n) = absurd (quote_clash text _ e n)
one_cut text v r w s (plain k n) (quoted p f) = absurd (quote_clash text _ f n)
one_cut text v r w s (plain k n) (plain h m) = one_run is_plain_octet text v r w s k h

pub one_value : (text v r w s : List ℕ) → CutsValue text v r → ValueThen text w s → EndsValue s → (v ≡ w) × (r ≡ s)
one_value text v r w s c h e = one_cut text v r w s c (cuts_from_then text w s h e)

-- a quote that is not closed
pub lacks_quote : (text inside value behind : List ℕ) → text ≡ 34 ∷ inside → IsRun is_quotable_octet inside value behind →
    ((rest : List ℕ) → behind ≡ 34 ∷ rest → ⊥) → LacksValue text
lacks_quote text inside value behind e run unclosed = λ w s h ends. refuse w s (cuts_from_then text w s h ends)
  where
    refuse : (w s : List ℕ) → CutsValue text w s → ⊥
    refuse w s (plain k n) = quote_clash text inside e n
    refuse w s (quoted p f) =
        let same : inside ≡ w ++ 34 ∷ s = (let both : 34 ∷ inside ≡ 34 ∷ (w ++ 34 ∷ s) = sym e ∙ f in cc) in
        unclosed s (one_run is_quotable_octet inside value behind w (34 ∷ s) run (quoted_run inside w s p same)).1
