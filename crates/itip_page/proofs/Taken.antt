-- What a parser reads an escaped text as.
use Rattle.std.proofs.Common.{◌≡◌, ℕ, true, List, [], ◌∷◌, ◌++◌, refl, subst, sym, inl, inr, arith, append_assoc, append-nil}
use Rattle.std.specs.Prelude.{◌≢◌, codes}
use Rattle.std.specs.List.{All, flat_map}
use Rattle.std.proofs.lemmas.Bool.{and_from, ne_eqb}
use Rattle.std.proofs.lemmas.Bool.Decides.{eqb_tells}
use Rattle.std.proofs.lemmas.List.Elements.{All-head, All-tail}
use Rattle.itip_streams.specs.Visible.{visible}
use Rattle.itip_page.specs.Escaped.{escaped, octet_markup}
use Rattle.itip_page.specs.PageTokens.{characters, shown, lines_tokens, value_tokens}
use Rattle.itip_page.specs.Tokens.{data_state, attribute_value, start_tag, character, Tag, run, IsReadAs}
use Rattle.itip_page.specs.Value.{Lines, lines_of, lines_markup, value_markup}
use Rattle.itip_page.proofs.Itself.{is_itself, itself}
use Rattle.itip_page.proofs.Reading.{Reads, then_reads, of_source, nothing, each_reads, in_data, in_value}
use Rattle.itip_page.proofs.Shown.{IsShown, visible_shown}

-- an octet that has no reference
pub record IsPlain (octet : ℕ) : Type 0 where
  pub no_ampersand : octet ≢ 38
  pub no_less : octet ≢ 60
  pub no_greater : octet ≢ 62
  pub no_quote : octet ≢ 34

pub data Kind (octet : ℕ) : Type 0 where
  Ampersand : octet ≡ 38 → Kind octet
  Less : octet ≡ 60 → Kind octet
  Greater : octet ≡ 62 → Kind octet
  Quote : octet ≡ 34 → Kind octet
  Plain : IsPlain octet → Kind octet

pub kind_of : (octet : ℕ) → Kind octet
kind_of octet = elim (eqb_tells octet 38) [
  | inl a ↦ Ampersand a.1
  | inr a ↦ elim (eqb_tells octet 60) [
    | inl l ↦ Less l.1
    | inr l ↦ elim (eqb_tells octet 62) [
      | inl g ↦ Greater g.1
      | inr g ↦ elim (eqb_tells octet 34) [
        | inl q ↦ Quote q.1
        | inr q ↦ Plain (record { no_ampersand = a.1; no_less = l.1; no_greater = g.1; no_quote = q.1 })
      ]
    ]
  ]
]

pub plain_markup : (octet : ℕ) → IsPlain octet → octet_markup octet ≡ octet ∷ []
plain_markup octet is =
    rw (ne_eqb octet 38 is.no_ampersand, ne_eqb octet 60 is.no_less, ne_eqb octet 62 is.no_greater, ne_eqb octet 34 is.no_quote) refl

plain_itself : (octet : ℕ) → IsShown octet → IsPlain octet → is_itself octet ≡ true
plain_itself octet shown is =
    itself octet is.no_ampersand is.no_less is.no_quote (λ e. absurd (omega (arith, e, shown.no_control)))
    (λ e. absurd (omega (arith, e, shown.no_control)))

-- ---- in an element

ampersand_read : Reads data_state (codes "&amp;") (character 38 ∷ []) data_state
unfolding run
ampersand_read = record { read = refl; known = refl }

less_read : Reads data_state (codes "&lt;") (character 60 ∷ []) data_state
unfolding run
less_read = record { read = refl; known = refl }

greater_read : Reads data_state (codes "&gt;") (character 62 ∷ []) data_state
unfolding run
greater_read = record { read = refl; known = refl }

quote_read : Reads data_state (codes "&quot;") (character 34 ∷ []) data_state
unfolding run
quote_read = record { read = refl; known = refl }

octet_read : (octet : ℕ) → IsShown octet → Kind octet → Reads data_state (octet_markup octet) (character octet ∷ []) data_state
octet_read octet shown (Ampersand e) =
    subst (λ (c : ℕ). Reads data_state (octet_markup c) (character c ∷ []) data_state) (sym e) ampersand_read
octet_read octet shown (Less e) =
    subst (λ (c : ℕ). Reads data_state (octet_markup c) (character c ∷ []) data_state) (sym e) less_read
octet_read octet shown (Greater e) =
    subst (λ (c : ℕ). Reads data_state (octet_markup c) (character c ∷ []) data_state) (sym e) greater_read
octet_read octet shown (Quote e) =
    subst (λ (c : ℕ). Reads data_state (octet_markup c) (character c ∷ []) data_state) (sym e) quote_read
octet_read octet shown (Plain is) =
    of_source (octet_markup octet) (sym (plain_markup octet is))
    (in_data (octet ∷ []) (and_from (is_itself octet) true (plain_itself octet shown is) refl))

octets_read : (octets : List ℕ) → All IsShown octets → Reads data_state (flat_map octet_markup octets) (characters octets) data_state
octets_read [] shown = nothing data_state
octets_read (octet ∷ octets) shown =
    let reads =
    then_reads (octet_read octet (All-head IsShown octet octets shown) (kind_of octet))
    (octets_read octets (All-tail IsShown octet octets shown)) in
    reads

pub text_read : (text : List ℕ) → Reads data_state (escaped text) (shown text) data_state
text_read text = octets_read (visible text) (visible_shown text)

-- ---- line by line

break_read : Reads data_state (codes "<br>") (start_tag (codes "br") [] ∷ []) data_state
unfolding run
break_read = record { read = refl; known = refl }

other_read : (line : List ℕ) → Reads data_state (codes "<br>" ++ escaped line) (start_tag (codes "br") [] ∷ shown line) data_state
other_read line = let reads = then_reads break_read (text_read line) in reads

lines_read : (lines : Lines) → Reads data_state (lines_markup lines) (lines_tokens lines) data_state
lines_read lines =
    let reads =
    then_reads (text_read lines.first)
    (each_reads (λ (line : List ℕ). codes "<br>" ++ escaped line) (λ (line : List ℕ). start_tag (codes "br") [] ∷ shown line)
    data_state other_read lines.others) in
    reads

pub value_read : (value : List ℕ) → Reads data_state (value_markup value) (value_tokens value) data_state
value_read value = lines_read (lines_of value)

-- ---- in an attribute value

module _ (tag : Tag) (name : List ℕ) where
  -- one more octet of the value
  abbrev Grows : List ℕ → ℕ → Type 0
  Grows value octet =
      Reads (attribute_value tag name value) (octet_markup octet) [] (attribute_value tag name (value ++ octet ∷ []))

  ampersand_in_value : (value : List ℕ) → Grows value 38
  unfolding run
  ampersand_in_value value = record { read = refl; known = refl }

  less_in_value : (value : List ℕ) → Grows value 60
  unfolding run
  less_in_value value = record { read = refl; known = refl }

  greater_in_value : (value : List ℕ) → Grows value 62
  unfolding run
  greater_in_value value = record { read = refl; known = refl }

  quote_in_value : (value : List ℕ) → Grows value 34
  unfolding run
  quote_in_value value = record { read = refl; known = refl }

  octet_in_value : (value : List ℕ) (octet : ℕ) → IsShown octet → Kind octet → Grows value octet
  octet_in_value value octet shown (Ampersand e) = subst (Grows value) (sym e) (ampersand_in_value value)
  octet_in_value value octet shown (Less e) = subst (Grows value) (sym e) (less_in_value value)
  octet_in_value value octet shown (Greater e) = subst (Grows value) (sym e) (greater_in_value value)
  octet_in_value value octet shown (Quote e) = subst (Grows value) (sym e) (quote_in_value value)
  octet_in_value value octet shown (Plain is) =
      of_source (octet_markup octet) (sym (plain_markup octet is))
      (in_value tag name value (octet ∷ []) (and_from (is_itself octet) true (plain_itself octet shown is) refl))

  octets_in_value : (octets : List ℕ) → All IsShown octets → (value : List ℕ) →
      Reads (attribute_value tag name value) (flat_map octet_markup octets) [] (attribute_value tag name (value ++ octets))
  octets_in_value [] shown value =
      subst (λ (v : List ℕ). Reads (attribute_value tag name value) [] [] (attribute_value tag name v)) (sym (append-nil value))
      (nothing (attribute_value tag name value))
  octets_in_value (octet ∷ octets) shown value =
      let reads =
      then_reads (octet_in_value value octet (All-head IsShown octet octets shown) (kind_of octet))
      (octets_in_value octets (All-tail IsShown octet octets shown) (value ++ octet ∷ [])) in
      subst (λ (v : List ℕ). Reads (attribute_value tag name value) (flat_map octet_markup (octet ∷ octets)) []
      (attribute_value tag name v)) (append_assoc value (octet ∷ []) octets) reads

  pub text_in_value : (value text : List ℕ) →
      Reads (attribute_value tag name value) (escaped text) [] (attribute_value tag name (value ++ visible text))
  text_in_value value text = octets_in_value (visible text) (visible_shown text) value

-- ---- as laws

pub in_elements : (text : List ℕ) → IsReadAs data_state (escaped text) (shown text) data_state
in_elements text = (text_read text).read

pub in_attributes : (tag : Tag) (name value text : List ℕ) →
    IsReadAs (attribute_value tag name value) (escaped text) [] (attribute_value tag name (value ++ visible text))
in_attributes tag name value text = (text_in_value tag name value text).read

pub by_lines : (value : List ℕ) → IsReadAs data_state (value_markup value) (value_tokens value) data_state
by_lines value = (value_read value).read
