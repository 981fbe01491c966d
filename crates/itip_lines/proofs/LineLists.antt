-- Lines that are stored as texts.
use Rattle.std.proofs.Common.{◌≡◌, ◌∙◌, sym, ap, refl, ℕ, ◌+◌, ◌<◌, Bool, false, List, [], ◌∷◌, ◌++◌}
use Rattle.std.proofs.Common.{take, get_or, map, length, subst, arith}
use Rattle.std.proofs.Common.{append-nil}
use Rattle.std.specs.Prelude.{◌||◌, OnOk, OnErr, is_ok, Result, Ok, Err, cond}
use Rattle.std.proofs.lemmas.List.{map-append, take_more}
use Rattle.std.specs.List.{list_any}
use Rattle.itip_lines.specs.Joining.{joined}
use Rattle.itip_lines.specs.Lawful.{params_text, line_text}
use Rattle.itip_lines.specs.Lookup.{same_text}
use Rattle.itip_lines.specs.LineTexts.{has_line, name_in, params_of, value_in, tail_in, Halves, halves, IsLineText, AreLineTexts, lines_in}
use Rattle.itip_lines.specs.Octets.{is_name_octet}
use Rattle.itip_lines.specs.Parts.{IsRun, begins}
use Rattle.itip_lines.specs.Writing.{unfolded_text, folded, Writes}
use Rattle.itip_lines.specs.declared.line.Line.{Line}
use Rattle.itip_lines.specs.declared.line.Param.{Param}
use Rattle.itip_lines.proofs.Halves.{halves_are}
use Rattle.itip_lines.proofs.Joined.{joined_more}
use Rattle.itip_lines.proofs.ParamTexts.{params_are}
use Rattle.itip_lines.proofs.Roundtrip.{name_spells}
use Rattle.itip_lines.proofs.Runs.{one_run, run_of_prefix}
use Rattle.itip_lines.proofs.SameLine.{same_line, lawful_copy}

-- ---- a line is found in its text

-- a name that was cut off is the name in the text
pub name_cut : (text name rest : List ℕ) → IsRun is_name_octet text name rest → name ≡ name_in text
name_cut text name rest run = (one_run is_name_octet text name rest _ _ run (run_of_prefix is_name_octet text)).0

no_name : (params : List Param) (value : List ℕ) → begins is_name_octet (params_text params ++ 58 ∷ value) ≡ false
no_name [] value = refl
no_name (p ∷ ps) value = refl

name_run : (l : Line) → IsRun is_name_octet (unfolded_text l) l.name (params_text l.params ++ 58 ∷ l.value)
unfolding unfolded_text
name_run l = record {
  whole = refl;
  passes = (name_spells l.name l.lawful.named).octets;
  stops = no_name l.params l.value;
}

pub name_of_line : (l : Line) → name_in (unfolded_text l) ≡ l.name
name_of_line l = sym (name_cut (unfolded_text l) l.name (params_text l.params ++ 58 ∷ l.value) (name_run l))

tail_of_line : (l : Line) → tail_in (unfolded_text l) ≡ record { front = params_text l.params; value = l.value }
unfolding tail_in
tail_of_line l =
    ap (λ (t : List ℕ). halves false t) (sym (one_run is_name_octet (unfolded_text l) l.name (params_text l.params ++ 58 ∷ l.value) _ _
    (name_run l) (run_of_prefix is_name_octet (unfolded_text l))).1)
    ∙ halves_are l.params l.value l.lawful.each_param

pub params_of_line : (l : Line) → params_of (unfolded_text l) ≡ l.params
params_of_line l = params_are _ l.params l.lawful.each_param (ap (λ (h : Halves). h.front) (tail_of_line l))

pub value_of_line : (l : Line) → value_in (unfolded_text l) ≡ l.value
value_of_line l = ap (λ (h : Halves). h.value) (tail_of_line l)

pub is_line_text : (l : Line) → IsLineText (unfolded_text l)
unfolding unfolded_text
is_line_text l = record {
  lawful = lawful_copy l _ _ _ (name_of_line l) (params_of_line l) (value_of_line l);
  text_is = λ i. line_text (sym (name_of_line l) i) (sym (params_of_line l) i) (sym (value_of_line l) i);
}

each_text : (lines : List Line) → AreLineTexts (map unfolded_text lines)
each_text [] = tt
each_text (l ∷ ls) = (is_line_text l, each_text ls)

pub are_line_texts : (texts : List (List ℕ)) (lines : List Line) → texts ≡ map unfolded_text lines → AreLineTexts texts
are_line_texts texts lines e = subst (λ (ts : List (List ℕ)). AreLineTexts ts) (sym e) (each_text lines)

same_texts : (a b : List ℕ) (more others : List (List ℕ)) → a ∷ more ≡ b ∷ others → (a ≡ b) × (more ≡ others)
same_texts a b more others e = (cc, cc)

-- the texts of lines are these lines
pub lines_are : (texts : List (List ℕ)) (are : AreLineTexts texts) (lines : List Line) → texts ≡ map unfolded_text lines →
    lines_in texts are ≡ lines
lines_are [] are [] e = refl
lines_are [] are (l ∷ ls) e = absurd cc
lines_are (t ∷ ts) are [] e = absurd cc
lines_are (t ∷ ts) are (l ∷ ls) e =
    let parts = same_texts t (unfolded_text l) ts (map unfolded_text ls) e in
    ap (λ (x : Line). x ∷ lines_in ts are.1) (same_line _ l (ap name_in parts.0 ∙ name_of_line l) (ap params_of parts.0 ∙ params_of_line l)
    (ap value_in parts.0 ∙ value_of_line l))
    ∙ ap (λ (xs : List Line). l ∷ xs) (lines_are ts are.1 ls parts.1)

-- one for each
pub count_is : (texts : List (List ℕ)) (are : AreLineTexts texts) → length texts ≡ length (lines_in texts are)
count_is [] are = refl
count_is (t ∷ ts) are = omega (arith, count_is ts are.1)

-- and lines are stored as their texts
pub texts_of_lines : (texts : List (List ℕ)) (are : AreLineTexts texts) → texts ≡ map unfolded_text (lines_in texts are)
unfolding unfolded_text
texts_of_lines [] are = refl
texts_of_lines (t ∷ ts) are =
    ap (λ (x : List ℕ). x ∷ ts) are.0.text_is ∙ ap (λ (xs : List (List ℕ)). line_text (name_in t) (params_of t) (value_in t) ∷ xs)
    (texts_of_lines ts are.1)

pub has_named : (name : List ℕ) (lines : List Line) → list_any (λ text. same_text (name_in text) name) (map unfolded_text lines) ≡
    has_line name lines
has_named name [] = refl
has_named name (l ∷ ls) =
    ap (λ (here : List ℕ). same_text here name || list_any (λ text. same_text (name_in text) name) (map unfolded_text ls)) (name_of_line l)
    ∙ ap (λ (later : Bool). same_text l.name name || later) (has_named name ls)

-- ---- appending

more_texts : (old : List (List ℕ)) (are : AreLineTexts old) (line : Line) →
    old ++ unfolded_text line ∷ [] ≡ map unfolded_text (lines_in old are ++ line ∷ [])
more_texts old are line =
    ap (λ (ts : List (List ℕ)). ts ++ unfolded_text line ∷ []) (texts_of_lines old are)
    ∙ sym (map-append unfolded_text (lines_in old are) (line ∷ []))

-- one text, and one line
pub text_taken : (texts : List (List ℕ)) (i : ℕ) (text at new : List ℕ) → i < length texts → text ≡ get_or texts i text →
    at ≡ joined (take i texts) → new ≡ at ++ (text ++ 10 ∷ []) → new ≡ joined (take (i + 1) texts)
text_taken texts i text at new less is first second =
    second ∙ ap (λ (a : List ℕ). a ++ (text ++ 10 ∷ [])) first ∙ sym (joined_more (take i texts) text)
    ∙ ap joined (sym (take_more texts i text less ∙ ap (λ (t : List ℕ). take i texts ++ t ∷ []) (sym is)))

pub pushed_are : {A E : Type 0} (r : Result A E) (old new : List (List ℕ)) (are : AreLineTexts old) (line : Line) →
    OnOk r (new ≡ old ++ unfolded_text line ∷ []) → OnErr r (new ≡ old) → AreLineTexts new
pushed_are (Ok x) old new are line pushed kept =
    are_line_texts new (lines_in old are ++ line ∷ []) (pushed ∙ more_texts old are line)
pushed_are (Err x) old new are line pushed kept = subst (λ (ts : List (List ℕ)). AreLineTexts ts) (sym kept) are

pub pushed_lines : {A E : Type 0} (r : Result A E) (old new : List (List ℕ)) (are : AreLineTexts old) (now : AreLineTexts new)
    (lines : List Line) (line : Line) → lines_in old are ≡ lines → OnOk r (new ≡ old ++ unfolded_text line ∷ []) →
    OnOk r (lines_in new now ≡ lines ++ line ∷ [])
pushed_lines (Ok x) old new are now lines line were pushed =
    lines_are new now (lines_in old are ++ line ∷ []) (pushed ∙ more_texts old are line) ∙ ap (λ (ls : List Line). ls ++ line ∷ []) were
pushed_lines (Err x) old new are now lines line were pushed = tt

pub kept_lines : {A E : Type 0} (r : Result A E) (old new : List (List ℕ)) (are : AreLineTexts old) (now : AreLineTexts new)
    (lines : List Line) → lines_in old are ≡ lines → OnErr r (new ≡ old) → OnErr r (lines_in new now ≡ lines)
kept_lines (Ok x) old new are now lines were kept = tt
kept_lines (Err x) old new are now lines were kept = lines_are new now (lines_in old are) (kept ∙ texts_of_lines old are) ∙ were

-- a text with its folds and its break
pub text_ended : {A E : Type 0} (r : Result A E) (old text all new : List ℕ) (now : ℕ) → Writes old 0 text all now →
    new ≡ cond (is_ok r) (all ++ 13 ∷ (10 ∷ [])) all → OnOk r (new ≡ old ++ folded 0 text)
text_ended (Ok x) old text all new now wrote e = e ∙ wrote.on [] ∙ ap (λ (t : List ℕ). old ++ folded 0 t) (append-nil text)
text_ended (Err x) old text all new now wrote e = tt
