-- Lawful contents are lines, and their octets are read as these lines.
use Rattle.std.proofs.Common.{◌≡◌, ap, refl, ℕ, ◌<◌, ◌≤◌, List, [], ◌∷◌, ◌++◌, length, map, arith, subst, suc, ltb-true}
use Rattle.std.specs.Prelude.{IsTrue, nat_lt}
use Rattle.std.specs.Str.{IsAscii}
use Rattle.std.specs.List.{list_all, AllByRecursion}
use Rattle.std.proofs.lemmas.Bool.{and_parts}
use Rattle.std.proofs.lemmas.Str.{IsUtf8-from_ascii}
use Rattle.std.proofs.lemmas.Str.Ascii.{IsAscii-cons, IsAscii-nil}
use Rattle.itip_lines.specs.Lawful.{line_text}
use Rattle.itip_lines.specs.Octets.{is_upper_name_octet, is_value_octet}
use Rattle.itip_lines.specs.Writing.{written, unfolded_text, all_written}
use Rattle.itip_lines.specs.Reading.{ReadsLines}
use Rattle.itip_lines.specs.declared.line.Line.{Line}
use Rattle.itip_lines.proofs.Roundtrip.{reads_written}
use Rattle.itip_todo.specs.Lawful.{IsLawfulContent}
use Rattle.itip_todo.specs.Written.{Content, contents_octets, content_of, bare}

-- the lines of lawful contents
abbrev pub lines_from : (cs : List Content) → AllByRecursion IsLawfulContent cs → List Line
lines_from [] h = []
lines_from (c ∷ cs) h = (record { name = c.name; params = c.params; value = c.value; lawful = h.0 }) ∷ lines_from cs h.1

pub contents_of : (cs : List Content) (h : AllByRecursion IsLawfulContent cs) → map content_of (lines_from cs h) ≡ cs
contents_of [] h = refl
contents_of (c ∷ cs) h = ap (λ (ds : List Content). c ∷ ds) (contents_of cs h.1)

pub length_from : (cs : List Content) (h : AllByRecursion IsLawfulContent cs) → length (lines_from cs h) ≡ length cs
length_from [] h = refl
length_from (c ∷ cs) h = ap suc (length_from cs h.1)

octets_from : (cs : List Content) (h : AllByRecursion IsLawfulContent cs) → all_written (lines_from cs h) ≡ contents_octets cs
unfolding written unfolded_text
octets_from [] h = refl
octets_from (c ∷ cs) h =
    ap (λ (bytes : List ℕ). written (record { name = c.name; params = c.params; value = c.value; lawful = h.0 }) ++ bytes)
    (octets_from cs h.1)

pub reads_from : (cs : List Content) (h : AllByRecursion IsLawfulContent cs) → length cs ≤ 20000 → length (contents_octets cs) ≤ 1048576 →
    ReadsLines (contents_octets cs) (lines_from cs h)
reads_from cs h few short =
    subst (λ (bytes : List ℕ). ReadsLines bytes (lines_from cs h)) (octets_from cs h)
    (reads_written (lines_from cs h) (omega (arith, length_from cs h)) (omega (arith, ap length (octets_from cs h))))

ascii : (bs : List ℕ) → IsTrue (list_all (λ b. nat_lt b 128) bs) → IsAscii bs
ascii [] h = IsAscii-nil
ascii (b ∷ bs) h = let p = and_parts _ _ h in IsAscii-cons b bs (ltb-true b 128 p.0) (ascii bs p.1)

-- a line of octets below 128 without parameters
pub plain_lawful : (name value : List ℕ) → 0 < length name → IsTrue (list_all is_upper_name_octet name) →
    IsTrue (list_all is_value_octet value) → IsTrue (list_all (λ b. nat_lt b 128) value) → length (line_text name [] value) ≤ 65536 →
    IsLawfulContent (bare name value)
plain_lawful name value some upper octets low short = record {
  named = record { some = some; upper = upper };
  each_param = tt;
  octets = octets;
  utf8 = IsUtf8-from_ascii value (ascii value low);
  short = short;
}

pub followed : (cs ds : List Content) → AllByRecursion IsLawfulContent cs → AllByRecursion IsLawfulContent ds →
    AllByRecursion IsLawfulContent (cs ++ ds)
followed [] ds h k = k
followed (c ∷ cs) ds h k = (h.0, followed cs ds h.1 k)
