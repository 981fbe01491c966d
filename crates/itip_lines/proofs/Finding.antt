-- A text is found to be a line.
use Rattle.std.proofs.Common.{◌≡◌, ◌∙◌, sym, ap, refl, ℕ, ◌+◌, ◌≤◌, ◌<◌, true}
use Rattle.std.proofs.Common.{List, [], ◌∷◌, ◌++◌, length, length-append, append_assoc, arith}
use Rattle.std.specs.Char.{to_ascii_uppercase}
use Rattle.std.specs.List.{list_all}
use Rattle.std.proofs.lemmas.List.{length-map}
use Rattle.std.specs.Str.{IsUtf8, str_to_ascii_uppercase}
use Rattle.itip_lines.specs.Finding.{or_anew, IsFoundIn}
use Rattle.itip_lines.specs.Lawful.{line_limit, params_text, IsLawful}
use Rattle.itip_lines.specs.LinePlaces.{IsLineAt}
use Rattle.itip_lines.specs.Octets.{is_name_octet, is_upper_name_octet}
use Rattle.itip_lines.specs.Parts.{IsRun, WritesTail}
use Rattle.itip_lines.specs.Writing.{unfolded_text}
use Rattle.itip_lines.specs.declared.grammar.Found.{Found}
use Rattle.itip_lines.specs.declared.line.Line.{Line}
use Rattle.itip_lines.proofs.LinePlaces.{stands_at}
use Rattle.itip_lines.proofs.Lines.{spelled_line, lawful_line}
use Rattle.itip_lines.proofs.Roundtrip.{upper_name_same}

-- a text that is written as it is
pub as_it_stands : (name tail params value : List ℕ) → list_all is_upper_name_octet name ≡ true → tail ≡ params ++ 58 ∷ value →
    name ++ tail ≡ str_to_ascii_uppercase name ++ (params ++ 58 ∷ value)
as_it_stands name tail params value upper same = λ i. sym (upper_name_same name upper) i ++ same i

pub appended : (old a b c new name params value : List ℕ) → a ≡ old ++ name → b ≡ a ++ params → c ≡ b ++ 58 ∷ [] → new ≡ c ++ value →
    new ≡ old ++ (name ++ (params ++ 58 ∷ value))
appended old a b c new name params value first second third fourth =
    fourth ∙ ap (λ (t : List ℕ). t ++ value) (third ∙ ap (λ (t : List ℕ). t ++ 58 ∷ []) (second ∙ ap (λ (t : List ℕ). t ++ params) first))
    ∙ append_assoc ((old ++ name) ++ params) (58 ∷ []) value
    ∙ append_assoc (old ++ name) params (58 ∷ value)
    ∙ append_assoc old name (params ++ 58 ∷ value)

-- the line of a name and a tail
pub found_in : (text name tail value wrote : List ℕ) (found : Found) → IsRun is_name_octet text name tail → 0 < length name →
    (w : WritesTail tail value wrote) →
    or_anew (name ++ tail) found.anew ≡ str_to_ascii_uppercase name ++ (wrote ++ 58 ∷ value) → found.name ≡ length name →
    found.value ≡ length name + length wrote + 1 → IsFoundIn text found
found_in text name tail value wrote found run some w octets n v = record {
  name = str_to_ascii_uppercase name;
  params = w.params;
  value = value;
  spells = spelled_line text name tail (str_to_ascii_uppercase name) w.params value run some refl w.is;
  octets_are = ap (λ (t : List ℕ). or_anew t found.anew) run.whole ∙ octets
      ∙ ap (λ (t : List ℕ). str_to_ascii_uppercase name ++ (t ++ 58 ∷ value)) w.wrote_is;
  name_ends = omega (arith, n, length-map name to_ascii_uppercase);
  value_begins = omega (arith, v, length-map name to_ascii_uppercase, ap length w.wrote_is);
}

-- what is written of it is no longer than a line may be
pub parts_short : (text name tail value wrote : List ℕ) → IsRun is_name_octet text name tail → 0 < length name →
    WritesTail tail value wrote → IsUtf8 text → length text ≤ line_limit → length name + length wrote + 1 ≤ line_limit
parts_short text name tail value wrote run some w utf8 short =
    let upper : List ℕ = str_to_ascii_uppercase name in
    let spells = spelled_line text name tail upper w.params value run some refl w.is in
    let lawful = lawful_line text upper w.params value spells utf8 short in
    omega (
      arith,
      lawful.short,
      length-map name to_ascii_uppercase,
      ap length w.wrote_is,
      length-append upper (params_text w.params ++ 58 ∷ value),
      length-append (params_text w.params) (58 ∷ value),
    )

-- it is lawful
pub lawful_found : (text : List ℕ) (found : Found) → (f : IsFoundIn text found) → IsUtf8 text → length text ≤ line_limit →
    IsLawful f.name f.params f.value
lawful_found text found f utf8 short = lawful_line text f.name f.params f.value f.spells utf8 short

abbrev pub line_found : (text : List ℕ) (found : Found) → IsFoundIn text found → IsUtf8 text → length text ≤ line_limit → Line
line_found text found f utf8 short =
    record { name = f.name; params = f.params; value = f.value; lawful = lawful_found text found f utf8 short }

pub octets_found : (text : List ℕ) (found : Found) (f : IsFoundIn text found) (utf8 : IsUtf8 text) (short : length text ≤ line_limit) →
    or_anew text found.anew ≡ unfolded_text (line_found text found f utf8 short)
unfolding unfolded_text
octets_found text found f utf8 short = f.octets_are

pub found_at : (text : List ℕ) (found : Found) → IsFoundIn text found → IsUtf8 text → length text ≤ line_limit →
    IsLineAt (or_anew text found.anew) found.name found.value
found_at text found f utf8 short =
    stands_at (or_anew text found.anew) (line_found text found f utf8 short) found.name found.value
    (octets_found text found f utf8 short) f.name_ends f.value_begins
