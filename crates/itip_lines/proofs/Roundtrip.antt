-- What was written is read again.
use Rattle.std.proofs.Common.{◌≡◌, ◌∙◌, sym, ap, refl, ℕ, ◌+◌, ◌*◌, ◌≤◌, ◌<◌, Bool, true, false, cond, not, List, [], ◌∷◌, ◌++◌, length}
use Rattle.std.proofs.Common.{map, arith, subst, inl, inr, append_assoc, length-append}
use Rattle.std.specs.Prelude.{IsTrue}
use Rattle.std.specs.Char.{to_ascii_uppercase}
use Rattle.std.specs.Str.{IsUtf8}
use Rattle.std.specs.List.{list_all, list_any, AllByRecursion}
use Rattle.std.proofs.lemmas.Bool.{and_parts, and_from, or_parts}
use Rattle.std.proofs.lemmas.List.{append-nil}
use Rattle.std.proofs.lemmas.List.Folds.{list_all-append}
use Rattle.std.proofs.lemmas.Str.{IsUtf8-append, IsUtf8-nil, IsUtf8-from_ascii}
use Rattle.std.proofs.lemmas.Str.Ascii.{IsAscii-cons, IsAscii-nil}
use Rattle.itip_lines.specs.Octets.{is_upper_name_octet, is_name_octet, is_value_octet, is_quotable_octet, is_separator, is_plain_octet}
use Rattle.itip_lines.specs.Lawful.{line_limit, value_text, values_text, param_text, params_text, IsName, IsParamValue, IsLawfulParam}
use Rattle.itip_lines.specs.Spelling.{SpellsName, ValueThen, ValuesThen, ParamThen, IsTail, Spells}
use Rattle.itip_lines.specs.declared.line.Param.{Param}
use Rattle.itip_lines.specs.declared.line.Line.{Line}
use Rattle.itip_lines.specs.declared.line.NumberedLine.{NumberedLine}
use Rattle.itip_lines.specs.UnfoldedLines.{NumberedText, text_at, texts_of, with_octets, without_empty, numbered_lines_of}
use Rattle.itip_lines.specs.Reading.{text_limit, count_limit, IsGood, line_at, plain_lines, AreLines, Reads, ReadsLines}
use Rattle.itip_lines.specs.Stretches.{LacksBlank, stretches_of, lines_onto, numbered_stretches, texts_onto}
use Rattle.itip_lines.specs.Writing.{fits, folded, unfolded_text, written, all_written}
use Rattle.itip_lines.proofs.OctetLemmas.{upper_is_name, upper_same, name_value, quotable_value}
use Rattle.itip_lines.proofs.Utf8Parts.{utf8_name}
use Rattle.itip_lines.proofs.Cuttings.{cutting_of, lines_of_cut, numbered_of_cut}
use Rattle.itip_lines.proofs.Numbers.{lines_plain, texts_plain, begins_at}
use Rattle.itip_lines.proofs.SameLine.{same_numbered}
use Rattle.itip_lines.proofs.Stretches.{stretches_of_some}
use Rattle.itip_lines.proofs.Unfolding.{unfolds, written_lacks_blank}

-- ---- a line spells itself

all_weaker : (p q : ℕ → Bool) → ((b : ℕ) → p b ≡ true → q b ≡ true) → (bs : List ℕ) → list_all p bs ≡ true → list_all q bs ≡ true
all_weaker p q h [] k = refl
all_weaker p q h (b ∷ bs) k = let r = and_parts _ _ k in rw (h b r.0) (all_weaker p q h bs r.1)

pub upper_name_same : (name : List ℕ) → list_all is_upper_name_octet name ≡ true → map to_ascii_uppercase name ≡ name
upper_name_same [] h = refl
upper_name_same (b ∷ bs) h =
    let p = and_parts _ _ h in
    ap (λ x. x ∷ map to_ascii_uppercase bs) (upper_same b p.0) ∙ ap (λ xs. b ∷ xs) (upper_name_same bs p.1)

pub name_spells : (name : List ℕ) → IsName name → SpellsName name name
name_spells name h =
    record {
      some = h.some;
      octets = all_weaker is_upper_name_octet is_name_octet upper_is_name name h.upper;
      name_is =
          sym (upper_name_same name h.upper);
    }

plain_from : (b : ℕ) → is_quotable_octet b ≡ true → is_separator b ≡ false → is_plain_octet b ≡ true
plain_from b h k = and_from _ _ h (ap not k)

pub plain_without : (value : List ℕ) → list_all is_quotable_octet value ≡ true → list_any is_separator value ≡ false →
    list_all is_plain_octet value ≡ true
plain_without [] h k = refl
plain_without (b ∷ bs) h k =
    let p = and_parts _ _ h in
    let q = or_parts _ _ k in
    and_from _ _ (plain_from b p.0 q.0) (plain_without bs p.1 q.1)

value_spells : (value rest : List ℕ) → list_all is_quotable_octet value ≡ true → ValueThen (value_text value ++ rest) value rest
value_spells value rest h =
    elim (list_any is_separator value) as (λ v. list_any is_separator value ≡ v →
    ValueThen (cond v (34 ∷ (value ++ 34 ∷ [])) value ++ rest) value rest) [
      | true ↦ λ e. inl (h, ap (λ t. 34 ∷ t) (append_assoc value (34 ∷ []) rest))
      | false ↦ λ e. inr (plain_without value h e, refl)
    ] refl

values_spell : (vs : List (List ℕ)) (rest : List ℕ) → 0 < length vs → AllByRecursion IsParamValue vs →
    ValuesThen (values_text vs ++ rest) vs rest
values_spell [] rest some h = absurd (omega arith)
values_spell (v ∷ []) rest some h = value_spells v rest h.0.octets
values_spell (v ∷ (w ∷ vs)) rest some h = (
  values_text (w ∷ vs) ++ rest,
  subst (λ (t : List ℕ). ValueThen t v (44 ∷ (values_text (w ∷ vs) ++ rest)))
      (sym (append_assoc (value_text v) (44 ∷ values_text (w ∷ vs)) rest))
      (value_spells v (44 ∷ (values_text (w ∷ vs) ++ rest)) h.0.octets),
  values_spell (w ∷ vs) rest (omega arith) h.1,
)

param_spells : (p : Param) (rest : List ℕ) → IsLawfulParam p → ParamThen (p.name ++ 61 ∷ (values_text p.values ++ rest)) p rest
param_spells p rest h = record {
  spelled = p.name;
  after = values_text p.values ++ rest;
  whole = refl;
  named = name_spells p.name h.named;
  values = values_spell p.values rest h.some h.values;
}

pub param_then : (p : Param) (rest : List ℕ) → param_text p ++ rest ≡ 59 ∷ (p.name ++ 61 ∷ (values_text p.values ++ rest))
param_then p rest = ap (λ t. 59 ∷ t) (append_assoc p.name (61 ∷ values_text p.values) rest)

tail_spells : (ps : List Param) (value : List ℕ) → AllByRecursion IsLawfulParam ps → IsTrue (list_all is_value_octet value) →
    IsTail (params_text ps ++ 58 ∷ value) ps value
tail_spells [] value h k = (refl, k)
tail_spells (p ∷ ps) value h k = (
  p.name ++ 61 ∷ (values_text p.values ++ (params_text ps ++ 58 ∷ value)),
  params_text ps ++ 58 ∷ value,
  append_assoc (param_text p) (params_text ps) (58 ∷ value) ∙ param_then p (params_text ps ++ 58 ∷ value),
  param_spells p (params_text ps ++ 58 ∷ value) h.0,
  tail_spells ps value h.1 k,
)

pub line_spells : (l : Line) → Spells (unfolded_text l) l.name l.params l.value
unfolding unfolded_text
line_spells l = record {
  spelled = l.name;
  tail = params_text l.params ++ 58 ∷ l.value;
  whole = refl;
  named = name_spells l.name l.lawful.named;
  tail_is = tail_spells l.params l.value l.lawful.each_param l.lawful.octets;
}

-- ---- its octets are UTF-8, and in no line break

pub record IsClean (text : List ℕ) : Type 0 where
  pub octets : list_all is_value_octet text ≡ true
  pub utf8 : IsUtf8 text

both : (a b : List ℕ) → IsClean a → IsClean b → IsClean (a ++ b)
both a b h k = record { octets = list_all-append is_value_octet a b ∙ rw h.octets k.octets; utf8 = IsUtf8-append a b h.utf8 k.utf8 }

clean_nil : IsClean []
clean_nil = record { octets = refl; utf8 = IsUtf8-nil }

mark : (b : ℕ) → is_value_octet b ≡ true → b < 128 → IsClean (b ∷ [])
mark b h k = record { octets = and_from _ _ h refl; utf8 = IsUtf8-from_ascii (b ∷ []) (IsAscii-cons b [] k IsAscii-nil) }

clean_name : (name : List ℕ) → IsName name → IsClean name
clean_name name h =
    let octets = all_weaker is_upper_name_octet is_name_octet upper_is_name name h.upper in
    record { octets = all_weaker is_name_octet is_value_octet name_value name octets; utf8 = utf8_name name octets }

clean_value : (value : List ℕ) → IsParamValue value → IsClean (value_text value)
clean_value value h =
    let inside : IsClean value =
    record { octets = all_weaker is_quotable_octet is_value_octet quotable_value value h.octets; utf8 = h.utf8 } in
    elim (list_any is_separator value) as (λ v. IsClean (cond v (34 ∷ (value ++ 34 ∷ [])) value)) [
      | true ↦ both (34 ∷ []) (value ++ 34 ∷ []) (mark 34 refl (omega arith)) (both value (34 ∷ []) inside (mark 34 refl (omega arith)))
      | false ↦ inside
    ]

clean_values : (vs : List (List ℕ)) → AllByRecursion IsParamValue vs → IsClean (values_text vs)
clean_values [] h = clean_nil
clean_values (v ∷ []) h = clean_value v h.0
clean_values (v ∷ (w ∷ vs)) h =
    both (value_text v) (44 ∷ values_text (w ∷ vs)) (clean_value v h.0)
    (both (44 ∷ []) (values_text (w ∷ vs)) (mark 44 refl (omega arith)) (clean_values (w ∷ vs) h.1))

clean_param : (p : Param) → IsLawfulParam p → IsClean (param_text p)
clean_param p h =
    both (59 ∷ []) (p.name ++ 61 ∷ values_text p.values) (mark 59 refl (omega arith))
    (both p.name (61 ∷ values_text p.values) (clean_name p.name h.named)
    (both (61 ∷ []) (values_text p.values) (mark 61 refl (omega arith)) (clean_values p.values h.values)))

clean_params : (ps : List Param) → AllByRecursion IsLawfulParam ps → IsClean (params_text ps)
clean_params [] h = clean_nil
clean_params (p ∷ ps) h = both (param_text p) (params_text ps) (clean_param p h.0) (clean_params ps h.1)

pub utf8_params : (ps : List Param) → AllByRecursion IsLawfulParam ps → IsUtf8 (params_text ps)
utf8_params ps h = (clean_params ps h).utf8

pub clean_line : (l : Line) → IsClean (unfolded_text l)
unfolding unfolded_text
clean_line l =
    both l.name (params_text l.params ++ 58 ∷ l.value) (clean_name l.name l.lawful.named)
    (both (params_text l.params) (58 ∷ l.value) (clean_params l.params l.lawful.each_param)
    (both (58 ∷ []) l.value (mark 58 refl (omega arith)) (record { octets = l.lawful.octets; utf8 = l.lawful.utf8 })))

pub utf8_line : (l : Line) → IsUtf8 (unfolded_text l)
utf8_line l = (clean_line l).utf8

-- ---- lines that were written are read again

line_some : (l : Line) → 0 < length (unfolded_text l)
unfolding unfolded_text
line_some l = omega (arith, length-append l.name (params_text l.params ++ 58 ∷ l.value), l.lawful.named.some)

line_short : (l : Line) → length (unfolded_text l) ≤ line_limit
unfolding unfolded_text
line_short l = l.lawful.short

without_empty_some : (text : List ℕ) (ls : List (List ℕ)) → 0 < length text → without_empty (text ∷ ls) ≡ text ∷ without_empty ls
without_empty_some [] ls h = absurd (omega arith)
without_empty_some (b ∷ text) ls h = refl

nothing_left : without_empty (lines_onto [] []) ≡ []
unfolding lines_onto stretches_of
nothing_left = refl

unfolds_written : (l : Line) (rest : List ℕ) → LacksBlank rest → lines_onto [] (written l ++ rest) ≡ unfolded_text l ∷ lines_onto [] rest
unfolding written
unfolds_written l rest lacks = unfolds [] 0 (unfolded_text l) rest (clean_line l).octets lacks

pub lines_written : (lines : List Line) → without_empty (lines_onto [] (all_written lines)) ≡ map unfolded_text lines
lines_written [] = nothing_left
lines_written (l ∷ ls) =
    ap without_empty (unfolds_written l (all_written ls) (written_lacks_blank ls))
    ∙ without_empty_some (unfolded_text l) (lines_onto [] (all_written ls)) (line_some l)
    ∙ ap (λ ts. unfolded_text l ∷ ts) (lines_written ls)

good_line : (n : ℕ) (l : Line) → n ≤ count_limit → IsGood n (unfolded_text l) l
good_line n l h = record { within = record { few = h; short = line_short l }; utf8 = (clean_line l).utf8; spells = line_spells l }

same_texts : (a b : List ℕ) (more others : List (List ℕ)) → a ∷ more ≡ b ∷ others → (a ≡ b) × (more ≡ others)
same_texts a b more others e = (cc, cc)

-- texts of lines are these lines, whatever their numbers
good_lines : (n : ℕ) (ts : List NumberedText) (lines : List Line) → texts_of ts ≡ map unfolded_text lines →
    n + length lines ≤ count_limit + 1 → (numbered : List NumberedLine) × (plain_lines numbered ≡ lines) × AreLines n ts numbered
good_lines n [] [] e h = ([], refl, tt)
good_lines n [] (l ∷ ls) e h = absurd cc
good_lines n (t ∷ ts) [] e h = absurd cc
good_lines n (t ∷ ts) (l ∷ ls) e h =
    let parts = same_texts t.text (unfolded_text l) (texts_of ts) (map unfolded_text ls) e in
    let more = good_lines (n + 1) ts ls parts.1 (omega arith) in (
      line_at t.number l ∷ more.0,
      ap (λ xs. l ∷ xs) more.1,
      (refl, subst (λ (text : List ℕ). IsGood n text l) (sym parts.0) (good_line n l (omega arith)), more.2),
    )

-- what was written of some lines is read as these lines, within the limits of a text
pub reads_written : (lines : List Line) → length lines ≤ count_limit → length (all_written lines) ≤ text_limit →
    ReadsLines (all_written lines) lines
reads_written lines few short =
    let cutting = cutting_of (all_written lines) in
    let texts = lines_plain cutting.pieces cutting.last ∙ lines_of_cut (all_written lines) cutting.pieces cutting.last cutting.cut ∙
    lines_written lines in
    let good = good_lines 1 (numbered_lines_of cutting.pieces cutting.last) lines texts (omega arith) in
    (good.0, good.1, record { pieces = cutting.pieces; last = cutting.last; short = short; cut = cutting.cut; lines_are = good.2 })

folded_short : (used : ℕ) (bs : List ℕ) → length (folded used bs) ≤ 4 * length bs + 2
folded_short used [] = omega arith
folded_short used (b ∷ bs) =
    elim (fits used b) as (λ v. length (cond v (b ∷ folded (used + 1) bs) (13 ∷ (10 ∷ (32 ∷ (b ∷ folded 2 bs))))) ≤ 4 * length (b ∷ bs) +
    2) [
      | true ↦ omega (arith, folded_short (used + 1) bs)
      | false ↦ omega (arith, folded_short 2 bs)
    ]

written_short : (l : Line) → length (written l) ≤ text_limit
unfolding written
written_short l = omega (arith, folded_short 0 (unfolded_text l), line_short l)

-- the first line begins in the first stretch
first_text : (text : List ℕ) → (first : List ℕ) × (others : List NumberedText) × (texts_onto 1 [] 1 text ≡ text_at 1 first ∷ others)
unfolding texts_onto
first_text text = first (stretches_of text) (stretches_of_some text)
  where
    first : (cs : List (List ℕ)) → 0 < length cs → (first : List ℕ) × (others : List NumberedText) ×
        (numbered_stretches 1 [] 1 cs ≡ text_at 1 first ∷ others)
    first [] h = absurd (omega arith)
    first (c ∷ cs) h = begins_at 1 c (1 + 1) cs

one_numbered : (l : Line) → ReadsLines (written l ++ []) (l ∷ []) → Reads (written l ++ []) (line_at 1 l ∷ [])
one_numbered l (numbered, plain, reads) =
    let at = first_text (written l ++ []) in
    let texts = sym (ap texts_of at.2) ∙ texts_plain 1 [] 1 (written l ++ []) ∙ unfolds_written l [] (λ b t e. absurd cc) in
    let are = subst (λ (ts : List NumberedText). AreLines 1 ts numbered)
    (numbered_of_cut (written l ++ []) reads.pieces reads.last reads.cut ∙ ap with_octets at.2) reads.lines_are in
    subst (λ (ls : List NumberedLine). Reads (written l ++ []) ls)
    (only at.0 at.1 numbered (same_texts at.0 (unfolded_text l) (texts_of at.1) (lines_onto [] []) texts).0 are plain) reads
  where
    only : (first : List ℕ) (others : List NumberedText) (ls : List NumberedLine) → first ≡ unfolded_text l →
        AreLines 1 (with_octets (text_at 1 first ∷ others)) ls → plain_lines ls ≡ l ∷ [] → ls ≡ line_at 1 l ∷ []
    only [] others ls e are plain = absurd (omega (arith, ap length e, line_some l))
    only (b ∷ first) others [] e are plain = absurd are
    only (b ∷ first) others (m ∷ []) e are plain =
        ap (λ (x : NumberedLine). x ∷ []) (same_numbered m (line_at 1 l) are.0 (same_first m.line plain))
      where
        same_first : (x : Line) → x ∷ [] ≡ l ∷ [] → x ≡ l
        same_first x p = cc
    only (b ∷ first) others (m ∷ (k ∷ ls)) e are plain = absurd cc

-- what was written of one line is read as this line, which is the first
pub one_written : (l : Line) → Reads (written l) (line_at 1 l ∷ [])
one_written l =
    subst (λ (bytes : List ℕ). Reads bytes (line_at 1 l ∷ [])) (append-nil (written l))
    (one_numbered l (reads_written (l ∷ []) (omega arith) (omega (arith, written_short l, ap length (append-nil (written l))))))
