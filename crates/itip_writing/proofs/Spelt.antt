-- Contents that are content lines of any length: if their octets are read, these contents are read, and none is too long.
use Rattle.std.proofs.Common.{◌≡◌, ◌∙◌, sym, ap, refl, ℕ, ◌+◌, ◌<◌, ◌≤◌, true, false, cond, List, [], ◌∷◌, ◌++◌, length, map, arith}
use Rattle.std.proofs.Common.{subst, length-append}
use Rattle.std.specs.Prelude.{IsTrue}
use Rattle.std.specs.Str.{IsUtf8}
use Rattle.std.specs.List.{AllByRecursion, list_all, list_any}
use Rattle.std.proofs.lemmas.Bool.{and_parts, and_from}
use Rattle.std.proofs.lemmas.Bool.Decides.{nat_tests}
use Rattle.std.proofs.lemmas.List.Folds.{list_all-append}
use Rattle.itip_lines.specs.UnfoldedLines.{NumberedText, texts_of, numbered_lines_of, without_empty, is_blank}
use Rattle.itip_lines.specs.Lawful.{line_limit, value_text, values_text, param_text, params_text, line_text, IsName, IsParamValue}
use Rattle.itip_lines.specs.Lawful.{IsLawfulParam}
use Rattle.itip_lines.specs.Octets.{is_upper_name_octet, is_value_octet, is_quotable_octet, is_separator}
use Rattle.itip_lines.specs.Reading.{count_limit, plain_lines, AreLines, Reads}
use Rattle.itip_lines.specs.Stretches.{LacksBlank, stretches_of, lines_onto}
use Rattle.itip_lines.specs.Writing.{fits, folded}
use Rattle.itip_lines.specs.declared.line.NumberedLine.{NumberedLine}
use Rattle.itip_lines.specs.declared.line.Param.{Param}
use Rattle.itip_lines.proofs.Cuttings.{lines_of_cut}
use Rattle.itip_lines.proofs.Numbers.{lines_plain}
use Rattle.itip_lines.proofs.OctetLemmas.{upper_is_name, name_value, quotable_value}
use Rattle.itip_lines.proofs.OneReading.{one_plain_reading}
use Rattle.itip_lines.proofs.Unfolding.{unfolds}
use Rattle.itip_todo.specs.Lawful.{IsLawfulContent}
use Rattle.itip_todo.specs.Written.{Content, content_of, contents_octets}
use Rattle.itip_todo.proofs.ContentLines.{lines_from, contents_of, reads_from}

-- what makes a content lawful, apart from its length
pub record IsSpelt (content : Content) : Type 0 where
  pub named : IsName content.name
  pub each_param : AllByRecursion IsLawfulParam content.params
  pub octets : IsTrue (list_all is_value_octet content.value)
  pub utf8 : IsUtf8 content.value

abbrev pub AreSpelt : List Content → Type 0
AreSpelt cs = AllByRecursion IsSpelt cs

pub spelt_of : (c : Content) → IsLawfulContent c → IsSpelt c
spelt_of c h = record { named = h.named; each_param = h.each_param; octets = h.octets; utf8 = h.utf8 }

pub all_spelt : (cs : List Content) → AllByRecursion IsLawfulContent cs → AreSpelt cs
all_spelt [] h = tt
all_spelt (c ∷ cs) h = (spelt_of c h.0, all_spelt cs h.1)

pub spelt_both : (cs ds : List Content) → AreSpelt cs → AreSpelt ds → AreSpelt (cs ++ ds)
spelt_both [] ds h k = k
spelt_both (c ∷ cs) ds h k = (h.0, spelt_both cs ds h.1 k)

abbrev text_of : Content → List ℕ
text_of c = line_text c.name c.params c.value

-- ---- none of its octets is in a line break

abbrev IsClean : List ℕ → Type 0
IsClean text = list_all is_value_octet text ≡ true

both : (a b : List ℕ) → IsClean a → IsClean b → IsClean (a ++ b)
both a b h k = list_all-append is_value_octet a b ∙ rw h k

clean_name : (name : List ℕ) → list_all is_upper_name_octet name ≡ true → IsClean name
clean_name [] h = refl
clean_name (b ∷ bs) h = let p = and_parts _ _ h in and_from _ _ (name_value b (upper_is_name b p.0)) (clean_name bs p.1)

clean_quotable : (value : List ℕ) → list_all is_quotable_octet value ≡ true → IsClean value
clean_quotable [] h = refl
clean_quotable (b ∷ bs) h = let p = and_parts _ _ h in and_from _ _ (quotable_value b p.0) (clean_quotable bs p.1)

clean_value : (value : List ℕ) → IsParamValue value → IsClean (value_text value)
clean_value value h =
    let inside : IsClean value = clean_quotable value h.octets in
    elim (list_any is_separator value) as (λ v. IsClean (cond v (34 ∷ (value ++ 34 ∷ [])) value))
    [ true ↦ both (34 ∷ []) (value ++ 34 ∷ []) refl (both value (34 ∷ []) inside refl) | false ↦ inside ]

clean_values : (vs : List (List ℕ)) → AllByRecursion IsParamValue vs → IsClean (values_text vs)
clean_values [] h = refl
clean_values (v ∷ []) h = clean_value v h.0
clean_values (v ∷ (w ∷ vs)) h =
    both (value_text v) (44 ∷ values_text (w ∷ vs)) (clean_value v h.0)
    (both (44 ∷ []) (values_text (w ∷ vs)) refl (clean_values (w ∷ vs) h.1))

clean_params : (ps : List Param) → AllByRecursion IsLawfulParam ps → IsClean (params_text ps)
clean_params [] h = refl
clean_params (p ∷ ps) h =
    both (param_text p) (params_text ps)
    (both (59 ∷ []) (p.name ++ 61 ∷ values_text p.values) refl
    (both p.name (61 ∷ values_text p.values) (clean_name p.name h.0.named.upper)
    (both (61 ∷ []) (values_text p.values) refl (clean_values p.values h.0.values))))
    (clean_params ps h.1)

clean_content : (c : Content) → IsSpelt c → IsClean (text_of c)
clean_content c h =
    both c.name (params_text c.params ++ 58 ∷ c.value) (clean_name c.name h.named.upper)
    (both (params_text c.params) (58 ∷ c.value) (clean_params c.params h.each_param) (both (58 ∷ []) c.value refl h.octets))

-- ---- the lines of their octets are their texts

name_octet_fits : (b : ℕ) → is_upper_name_octet b ≡ true → fits 0 b ≡ true
name_octet_fits b h = grind (arith, nat_tests)

name_octet_no_blank : (b : ℕ) → is_upper_name_octet b ≡ true → is_blank b ≡ false
name_octet_no_blank b h = grind (arith, nat_tests)

first_is : (x y : ℕ) (xs ys : List ℕ) → x ∷ xs ≡ y ∷ ys → x ≡ y
first_is x y xs ys e = cc

named_lacks_blank : (name more rest : List ℕ) → IsName name → LacksBlank (folded 0 (name ++ more) ++ rest)
named_lacks_blank [] more rest named = absurd (omega (arith, named.some))
named_lacks_blank (n ∷ name) more rest named = λ b t e.
    let k = (and_parts _ _ named.upper).0 in
    let stands : n ∷ (folded 1 (name ++ more) ++ rest) ≡ b ∷ t =
    sym (ap (λ x. cond x (n ∷ folded 1 (name ++ more)) (13 ∷ (10 ∷ (32 ∷ (n ∷ folded 2 (name ++ more))))) ++ rest)
    (name_octet_fits n k)) ∙ e in
    subst (λ (x : ℕ). is_blank x ≡ false) (first_is n b (folded 1 (name ++ more) ++ rest) t stands) (name_octet_no_blank n k)

lacks_blank : (cs : List Content) → AreSpelt cs → LacksBlank (contents_octets cs)
lacks_blank [] h = λ b t e. absurd cc
lacks_blank (c ∷ cs) h = named_lacks_blank c.name (params_text c.params ++ 58 ∷ c.value) (contents_octets cs) h.0.named

nothing_left : without_empty (lines_onto [] []) ≡ []
unfolding lines_onto stretches_of
nothing_left = refl

some_text : (c : Content) → IsSpelt c → 0 < length (text_of c)
some_text c h = omega (arith, length-append c.name (params_text c.params ++ 58 ∷ c.value), h.named.some)

without_empty_some : (text : List ℕ) (ls : List (List ℕ)) → 0 < length text → without_empty (text ∷ ls) ≡ text ∷ without_empty ls
without_empty_some [] ls h = absurd (omega arith)
without_empty_some (b ∷ text) ls h = refl

lines_of_contents : (cs : List Content) → AreSpelt cs → without_empty (lines_onto [] (contents_octets cs)) ≡ map text_of cs
lines_of_contents [] h = nothing_left
lines_of_contents (c ∷ cs) h =
    ap without_empty (unfolds [] 0 (text_of c) (contents_octets cs) (clean_content c h.0) (lacks_blank cs h.1))
    ∙ without_empty_some (text_of c) (lines_onto [] (contents_octets cs)) (some_text c h.0)
    ∙ ap (λ ts. text_of c ∷ ts) (lines_of_contents cs h.1)

-- ---- what is read is not too long, and not too much

abbrev AreShort : List (List ℕ) → Type 0
AreShort texts = AllByRecursion (λ text. length text ≤ line_limit) texts

read_short : (n : ℕ) (ts : List NumberedText) (ls : List NumberedLine) → AreLines n ts ls → AreShort (texts_of ts)
read_short n [] [] h = tt
read_short n [] (l ∷ ls) h = absurd h
read_short n (t ∷ ts) [] h = absurd h
read_short n (t ∷ ts) (l ∷ ls) h = (h.1.within.short, read_short (n + 1) ts ls h.2)

read_few : (n : ℕ) (ts : List NumberedText) (ls : List NumberedLine) → n ≤ count_limit + 1 → AreLines n ts ls →
    n + length (texts_of ts) ≤ count_limit + 1
read_few n [] [] few h = omega arith
read_few n [] (l ∷ ls) few h = absurd h
read_few n (t ∷ ts) [] few h = absurd h
read_few n (t ∷ ts) (l ∷ ls) few h =
    let here : n ≤ count_limit = h.1.within.few in
    let rest : (n + 1) + length (texts_of ts) ≤ count_limit + 1 = read_few (n + 1) ts ls (omega arith) h.2 in
    omega arith

lawful_short : (cs : List Content) → AreSpelt cs → AreShort (map text_of cs) → AllByRecursion IsLawfulContent cs
lawful_short [] h k = tt
lawful_short (c ∷ cs) h k = (
  record { named = h.0.named; each_param = h.0.each_param; octets = h.0.octets; utf8 = h.0.utf8; short = k.0 },
  lawful_short cs h.1 k.1,
)

as_many : (cs : List Content) → length (map text_of cs) ≡ length cs
as_many [] = refl
as_many (c ∷ cs) = let rest = as_many cs in omega (arith, rest)

-- the lines that are read of their octets have these contents
pub read_contents : (cs : List Content) → AreSpelt cs → (numbered : List NumberedLine) → Reads (contents_octets cs) numbered →
    map content_of (plain_lines numbered) ≡ cs
read_contents cs h numbered reads =
    let texts : texts_of (numbered_lines_of reads.pieces reads.last) ≡ map text_of cs =
    lines_plain reads.pieces reads.last ∙ lines_of_cut (contents_octets cs) reads.pieces reads.last reads.cut ∙ lines_of_contents cs h in
    let short : AreShort (map text_of cs) =
    subst AreShort texts (read_short 1 (numbered_lines_of reads.pieces reads.last) numbered reads.lines_are) in
    let few = read_few 1 (numbered_lines_of reads.pieces reads.last) numbered (omega arith) reads.lines_are in
    let count : length (texts_of (numbered_lines_of reads.pieces reads.last)) ≡ length cs = ap length texts ∙ as_many cs in
    let lawful : AllByRecursion IsLawfulContent cs = lawful_short cs h short in
    let same = one_plain_reading (contents_octets cs) (plain_lines numbered) (lines_from cs lawful) (numbered, refl, reads)
    (reads_from cs lawful (omega (arith, few, count)) reads.short) in
    ap (map content_of) same ∙ contents_of cs lawful
