-- Where the parts of a line are in its octets.
use Rattle.std.proofs.Common.{◌≡◌, ◌∙◌, sym, ap, ℕ, ◌+◌, ◌-◌, ◌≤◌, List}
use Rattle.std.proofs.Common.{[], ◌∷◌, ◌++◌, take, drop, length, length-append, arith, subst}
use Rattle.std.proofs.lemmas.List.{take_at, drop_at}
use Rattle.std.specs.Str.{str_to_ascii_uppercase}
use Rattle.itip_lines.specs.Lawful.{line_limit, params_text}
use Rattle.itip_lines.specs.LinePlaces.{line_in, IsLineAt}
use Rattle.itip_lines.specs.LineTexts.{name_in, params_of, value_in, IsLineText}
use Rattle.itip_lines.specs.Writing.{unfolded_text}
use Rattle.itip_lines.specs.declared.line.Line.{Line}
use Rattle.itip_lines.specs.declared.line.Param.{Param}
use Rattle.itip_lines.proofs.LineLists.{is_line_text, name_of_line, params_of_line, value_of_line}
use Rattle.itip_lines.proofs.Roundtrip.{upper_name_same}
use Rattle.itip_lines.proofs.SameLine.{same_line}

-- the octets are those of the line that is seen in them
pub text_of : (text : List ℕ) (is : IsLineText text) → text ≡ unfolded_text (line_in text is)
unfolding unfolded_text
text_of text is = is.text_is

-- and the line that they are of is the one that is seen
pub line_is : (text : List ℕ) (is : IsLineText text) (line : Line) → text ≡ unfolded_text line → line_in text is ≡ line
line_is text is line e =
    same_line (line_in text is) line (ap name_in e ∙ name_of_line line) (ap params_of e ∙ params_of_line line)
    (ap value_in e ∙ value_of_line line)

-- where a line is in its octets
pub stands_at : (text : List ℕ) (line : Line) (name value : ℕ) → text ≡ unfolded_text line → name ≡ length line.name →
    value ≡ length line.name + length (params_text line.params) + 1 → IsLineAt text name value
stands_at text line name value e n v = record {
  is_line = subst (λ (t : List ℕ). IsLineText t) (sym e) (is_line_text line);
  name_ends = n ∙ ap (λ (t : List ℕ). length t) (sym (ap name_in e ∙ name_of_line line));
  value_begins = v
      ∙ ap (λ (t : List ℕ). length t + length (params_text line.params) + 1) (sym (ap name_in e ∙ name_of_line line))
      ∙ ap (λ (ps : List Param). length (name_in text) + length (params_text ps) + 1) (sym (ap params_of e ∙ params_of_line line));
}

-- the octets, cut where the parts of a line are in them
pub record AreParts (text : List ℕ) (name value : ℕ) : Type 0 where
  pub begins : name ≤ length text
  pub parted : name + 1 ≤ value
  pub params_end : value - name - 1 ≤ length (drop name text)
  pub rest : 1 ≤ length (drop (value - name - 1) (drop name text))
  pub name_is : take name text ≡ name_in text
  pub params_are : take (value - name - 1) (drop name text) ≡ params_text (params_of text)
  pub value_is : drop 1 (drop (value - name - 1) (drop name text)) ≡ value_in text

pub parts_of : (text : List ℕ) (name value : ℕ) → IsLineAt text name value → AreParts text name value
parts_of text name value at =
    let n : List ℕ = name_in text in
    let ps : List ℕ = params_text (params_of text) in
    let v : List ℕ = value_in text in
    let whole : text ≡ n ++ (ps ++ 58 ∷ v) = at.is_line.text_is in
    let tail : drop name text ≡ ps ++ 58 ∷ v = ap (λ (t : List ℕ). drop name t) whole ∙ drop_at n (ps ++ 58 ∷ v) name (sym at.name_ends) in
    let many : value - name - 1 ≡ length ps = omega (arith, at.name_ends, at.value_begins) in
    let behind : drop (value - name - 1) (drop name text) ≡ 58 ∷ v =
    ap (λ (t : List ℕ). drop (value - name - 1) t) tail ∙ drop_at ps (58 ∷ v) (value - name - 1) (sym many) in record {
      begins = omega (arith, at.name_ends, ap length whole, length-append n (ps ++ 58 ∷ v));
      parted = omega (arith, at.name_ends, at.value_begins);
      params_end = omega (arith, many, ap length tail, length-append ps (58 ∷ v));
      rest = omega (arith, ap length behind);
      name_is = ap (λ (t : List ℕ). take name t) whole ∙ take_at n (ps ++ 58 ∷ v) name (sym at.name_ends);
      params_are = ap (λ (t : List ℕ). take (value - name - 1) t) tail ∙ take_at ps (58 ∷ v) (value - name - 1) (sym many);
      value_is = ap (λ (t : List ℕ). drop 1 t) behind;
    }

-- its parts begin within the maximum length of a line
pub places_short : (text : List ℕ) (name value : ℕ) → IsLineAt text name value → (name ≤ line_limit) × (value ≤ line_limit)
places_short text name value at =
    let n : List ℕ = name_in text in
    let ps : List ℕ = params_text (params_of text) in
    let v : List ℕ = value_in text in (
      omega (arith, at.name_ends, at.is_line.lawful.short, length-append n (ps ++ 58 ∷ v)),
      omega (
        arith,
        at.value_begins,
        at.is_line.lawful.short,
        length-append n (ps ++ 58 ∷ v),
        length-append ps (58 ∷ v),
      ),
    )

-- ---- the octets of a line, put together

pub line_copied : (line : Line) (old new name params value : List ℕ) → old ≡ [] → name ≡ line.name → params ≡ params_text line.params →
    value ≡ line.value → new ≡ old ++ (str_to_ascii_uppercase name ++ (params ++ 58 ∷ value)) → new ≡ unfolded_text line
unfolding unfolded_text
line_copied line old new name params value empty n p v e =
    e ∙ (λ i. empty i ++ (str_to_ascii_uppercase (n i) ++ (p i ++ 58 ∷ v i)))
    ∙ ap (λ (t : List ℕ). t ++ (params_text line.params ++ 58 ∷ line.value)) (upper_name_same line.name line.lawful.named.upper)

pub copied_short : (line : Line) → length line.name + length (params_text line.params) + 1 ≤ line_limit
copied_short line =
    omega (
      arith,
      line.lawful.short,
      length-append line.name (params_text line.params ++ 58 ∷ line.value),
      length-append (params_text line.params) (58 ∷ line.value),
    )
