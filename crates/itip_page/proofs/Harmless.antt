-- An escaped text has nothing that means something between tags or between quotes.
use Rattle.std.proofs.Common.{◌≡◌, ℕ, ◌≤◌, List, [], ◌∷◌, sym, subst, arith}
use Rattle.std.specs.List.{All, flat_map}
use Rattle.std.proofs.lemmas.List.Elements.{All-nil, All-cons, All-append, All-head, All-tail}
use Rattle.itip_streams.specs.Visible.{visible}
use Rattle.itip_page.specs.Escaped.{escaped, octet_markup}
use Rattle.itip_page.specs.Tokens.{IsHarmless}
use Rattle.itip_page.proofs.Shown.{IsShown, visible_shown}
use Rattle.itip_page.proofs.Taken.{Kind, Ampersand, Less, Greater, Quote, Plain, kind_of, plain_markup}

-- an octet as the letters of a reference, its ampersand and its semicolon are
pub record IsOfReference (octet : ℕ) : Type 0 where
  pub from : 38 ≤ octet
  pub no_less : octet ≡ 60 → ⊥
  pub no_greater : octet ≡ 62 → ⊥
  pub to : octet ≤ 122

harmless : (octet : ℕ) → IsOfReference octet → IsHarmless octet
harmless octet is = record {
  opens_nothing = is.no_less;
  closes_nothing = is.no_greater;
  ends_no_value = λ e. absurd (omega (arith, e, is.from));
  no_control = omega (arith, is.from);
  no_delete = λ e. absurd (omega (arith, e, is.to));
}

letter : (octet : ℕ) → 97 ≤ octet → octet ≤ 122 → IsHarmless octet
letter octet from to =
    harmless octet
    (record {
      from = omega (arith, from);
      no_less = λ e. absurd (omega (arith, e, from));
      no_greater = λ e. absurd (omega (arith, e, from));
      to = to;
    })

ampersand : IsHarmless 38
ampersand =
    harmless 38
    (record { from = omega arith; no_less = λ e. absurd (omega arith); no_greater = λ e. absurd (omega arith); to = omega arith })

semicolon : IsHarmless 59
semicolon =
    harmless 59
    (record { from = omega arith; no_less = λ e. absurd (omega arith); no_greater = λ e. absurd (omega arith); to = omega arith })

ends : All IsHarmless (59 ∷ [])
ends = All-cons IsHarmless 59 [] semicolon (All-nil IsHarmless)

-- a reference of two letters, and one of three
two : (a b : ℕ) → 97 ≤ a → a ≤ 122 → 97 ≤ b → b ≤ 122 → All IsHarmless (38 ∷ (a ∷ (b ∷ (59 ∷ []))))
two a b a_from a_to b_from b_to =
    All-cons IsHarmless 38 (a ∷ (b ∷ (59 ∷ []))) ampersand
    (All-cons IsHarmless a (b ∷ (59 ∷ [])) (letter a a_from a_to) (All-cons IsHarmless b (59 ∷ []) (letter b b_from b_to) ends))

three : (a b c : ℕ) → 97 ≤ a → a ≤ 122 → 97 ≤ b → b ≤ 122 → 97 ≤ c → c ≤ 122 →
    All IsHarmless (38 ∷ (a ∷ (b ∷ (c ∷ (59 ∷ [])))))
three a b c a_from a_to b_from b_to c_from c_to =
    All-cons IsHarmless 38 (a ∷ (b ∷ (c ∷ (59 ∷ [])))) ampersand
    (All-cons IsHarmless a (b ∷ (c ∷ (59 ∷ []))) (letter a a_from a_to)
    (All-cons IsHarmless b (c ∷ (59 ∷ [])) (letter b b_from b_to) (All-cons IsHarmless c (59 ∷ []) (letter c c_from c_to) ends)))

four : (a b c d : ℕ) → 97 ≤ a → a ≤ 122 → 97 ≤ b → b ≤ 122 → 97 ≤ c → c ≤ 122 → 97 ≤ d → d ≤ 122 →
    All IsHarmless (38 ∷ (a ∷ (b ∷ (c ∷ (d ∷ (59 ∷ []))))))
four a b c d a_from a_to b_from b_to c_from c_to d_from d_to =
    All-cons IsHarmless 38 (a ∷ (b ∷ (c ∷ (d ∷ (59 ∷ []))))) ampersand
    (All-cons IsHarmless a (b ∷ (c ∷ (d ∷ (59 ∷ [])))) (letter a a_from a_to)
    (All-cons IsHarmless b (c ∷ (d ∷ (59 ∷ []))) (letter b b_from b_to)
    (All-cons IsHarmless c (d ∷ (59 ∷ [])) (letter c c_from c_to) (All-cons IsHarmless d (59 ∷ []) (letter d d_from d_to) ends))))

module _ (octet : ℕ) (shown : IsShown octet) where
  one : Kind octet → All IsHarmless (octet_markup octet)
  one (Ampersand e) =
      subst (λ (c : ℕ). All IsHarmless (octet_markup c)) (sym e)
      (three 97 109 112 (omega arith) (omega arith) (omega arith) (omega arith) (omega arith) (omega arith))
  one (Less e) =
      subst (λ (c : ℕ). All IsHarmless (octet_markup c)) (sym e)
      (two 108 116 (omega arith) (omega arith) (omega arith) (omega arith))
  one (Greater e) =
      subst (λ (c : ℕ). All IsHarmless (octet_markup c)) (sym e)
      (two 103 116 (omega arith) (omega arith) (omega arith) (omega arith))
  one (Quote e) =
      subst (λ (c : ℕ). All IsHarmless (octet_markup c)) (sym e)
      (four 113 117 111 116 (omega arith) (omega arith) (omega arith) (omega arith) (omega arith) (omega arith) (omega arith)
      (omega arith))
  one (Plain is) =
      subst (All IsHarmless) (sym (plain_markup octet is))
      (All-cons IsHarmless octet []
      (record {
        opens_nothing = is.no_less;
        closes_nothing = is.no_greater;
        ends_no_value = is.no_quote;
        no_control = shown.no_control;
        no_delete = shown.no_delete;
      })
      (All-nil IsHarmless))

all : (octets : List ℕ) → All IsShown octets → All IsHarmless (flat_map octet_markup octets)
all [] shown = All-nil IsHarmless
all (octet ∷ octets) shown =
    All-append IsHarmless (octet_markup octet) (flat_map octet_markup octets)
    (one octet (All-head IsShown octet octets shown) (kind_of octet)) (all octets (All-tail IsShown octet octets shown))

pub escaped_harmless : (text : List ℕ) → All IsHarmless (escaped text)
escaped_harmless text = all (visible text) (visible_shown text)
