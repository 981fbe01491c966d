-- Texts in one text are found in it again.
use Rattle.std.proofs.Common.{◌≡◌, ◌≢◌, ◌∙◌, ◌↔◌, ◌||◌, ◌+◌, sym, ap, refl, subst, ℕ, suc, ◌<◌, Bool}
use Rattle.std.proofs.Common.{true, false, List, [], ◌∷◌, ◌++◌, length, get_or}
use Rattle.std.proofs.Common.{map, arith, append_assoc, Bor}
use Rattle.std.specs.List.{list_all, list_any, count_by, AllByRecursion}
use Rattle.std.specs.Prelude.{◌==◌, Option, Some, None, MatchOption, cond, Result, Ok, Err, OnOk, OnErr}
use Rattle.std.proofs.lemmas.Bool.Decides.{nat_tests}
use Rattle.std.proofs.lemmas.List.Sums.{sum_by-cons}
use Rattle.std.specs.Str.{IsUtf8}
use Rattle.std.proofs.lemmas.Str.{IsUtf8-append, IsUtf8-nil, IsUtf8-from_ascii}
use Rattle.std.proofs.lemmas.Str.Ascii.{IsAscii-cons, IsAscii-nil}
use Rattle.std.proofs.lemmas.Bool.{and_parts, or_parts}
use Rattle.itip_lines.specs.Octets.{is_value_octet}
use Rattle.itip_lines.specs.Joining.{is_break, joined, with_octet, texts_in, IsOneLine, AreJoined}
use Rattle.itip_lines.specs.Writing.{unfolded_text}
use Rattle.itip_lines.specs.declared.line.Line.{Line}
use Rattle.itip_lines.proofs.OctetLemmas.{value_no_break}
use Rattle.itip_lines.proofs.Roundtrip.{clean_line}

-- a text that LF ends
pub past_text : (text more : List ℕ) → list_any is_break text ≡ false → texts_in (text ++ 10 ∷ more) ≡ text ∷ texts_in more
unfolding texts_in
past_text [] more h = refl
past_text (b ∷ bs) more h =
    let parts = or_parts (is_break b) (list_any is_break bs) h in
    rw (parts.0) (ap (λ (texts : List (List ℕ)). with_octet b texts) (past_text bs more parts.1))

-- a text that none ends
pub none_ended : (text : List ℕ) → list_any is_break text ≡ false → texts_in text ≡ []
unfolding texts_in
none_ended [] h = refl
none_ended (b ∷ bs) h =
    let parts = or_parts (is_break b) (list_any is_break bs) h in
    rw (parts.0) (ap (λ (texts : List (List ℕ)). with_octet b texts) (none_ended bs parts.1))

break_is : (b : ℕ) → is_break b ≡ true → b ≡ 10
break_is b e = grind (arith, nat_tests, e)

-- no octet of the text is LF
pub unbroken : (text : List ℕ) → ((i : ℕ) → i < length text → get_or text i 0 ≢ 10) → list_any is_break text ≡ false
unbroken [] h = refl
unbroken (b ∷ bs) h =
    elim (is_break b) as (λ v. is_break b ≡ v → (v || list_any is_break bs) ≡ false) [
      | true ↦ λ e. absurd (h 0 (omega arith) (break_is b e))
      | false ↦ λ e. unbroken bs (λ i less. h (suc i) (omega (arith, less)))
    ] refl

pub cut_is : (text : List ℕ) (r : Option (Bor (List ℕ) × Bor (List ℕ))) → MatchOption r
    ((i : ℕ) → i < length text → get_or text i 0 ≢ 10)
    (λ p. (text ≡ p.0.now ++ 10 ∷ p.1.now) × ((i : ℕ) → i < length p.0.now → get_or p.0.now i 0 ≢ 10)) →
    MatchOption r (texts_in text ≡ []) (λ p. texts_in text ≡ p.0.now ∷ texts_in p.1.now)
cut_is text None h = none_ended text (unbroken text h)
cut_is text (Some p) h = ap texts_in h.0 ∙ past_text p.0.now p.1.now (unbroken p.0.now h.1)

pub texts_are : (texts : List (List ℕ)) → AllByRecursion IsOneLine texts → texts_in (joined texts) ≡ texts
unfolding texts_in
texts_are [] h = refl
texts_are (text ∷ texts) h =
    past_text text (joined texts) h.0.unbroken ∙ ap (λ (more : List (List ℕ)). text ∷ more) (texts_are texts h.1)

pub found_again : (octets : List ℕ) (texts : List (List ℕ)) → AllByRecursion IsOneLine texts → octets ≡ joined texts →
    texts_in octets ≡ texts
found_again octets texts h e = ap texts_in e ∙ texts_are texts h

pub are_joined : (octets : List ℕ) (texts : List (List ℕ)) → AllByRecursion IsOneLine texts → octets ≡ joined texts → AreJoined octets
are_joined octets texts h e =
    let same = found_again octets texts h e in
    record {
      each = subst (λ (ts : List (List ℕ)). AllByRecursion IsOneLine ts) (sym same) h;
      octets_are = e ∙ ap joined (sym same);
    }

-- as many LF as texts
with_octet_length : (b : ℕ) (texts : List (List ℕ)) → length (with_octet b texts) ≡ length texts
with_octet_length b [] = refl
with_octet_length b (text ∷ texts) = refl

one_more : (b : ℕ) (breaks : Bool) (texts : List (List ℕ)) (n : ℕ) → n ≡ length texts →
    cond breaks 1 0 + n ≡ length (cond breaks ([] ∷ texts) (with_octet b texts))
one_more b true texts n e = omega (arith, e)
one_more b false texts n e = omega (arith, e, with_octet_length b texts)

pub count_breaks : (octets : List ℕ) → count_by is_break octets ≡ length (texts_in octets)
unfolding texts_in
count_breaks [] = refl
count_breaks (b ∷ bs) = sum_by-cons (λ x. cond (is_break x) 1 0) b bs ∙ one_more b (is_break b) (texts_in bs) _ (count_breaks bs)

empty_joined : (texts : List (List ℕ)) → length texts ≡ 0 → length (joined texts) ≡ 0
empty_joined [] e = refl
empty_joined (text ∷ texts) e = absurd (omega (arith, e))

not_empty : (b : ℕ) (bs : List ℕ) → (length (b ∷ bs) == 0) ≡ false
not_empty b bs = grind (arith, nat_tests)

-- no octet, no text
pub empty_told : (told : Bool) (octets : List ℕ) → told ≡ (length octets == 0) → AreJoined octets →
    (told ≡ true) ↔ (length (texts_in octets) ≡ 0)
unfolding texts_in
empty_told told [] e h = (λ t. refl, λ none. e)
empty_told told (b ∷ bs) e h = (
  λ t. absurd (apart (sym t ∙ e ∙ not_empty b bs)),
  λ none. let same = ap length h.octets_are in absurd (omega (arith, same, empty_joined (texts_in (b ∷ bs)) none)),
)
  where
    apart : true ≡ false → ⊥
    apart f = cc

pub joined_utf8 : (texts : List (List ℕ)) → AllByRecursion IsOneLine texts → IsUtf8 (joined texts)
joined_utf8 [] h = IsUtf8-nil
joined_utf8 (text ∷ texts) h =
    IsUtf8-append text (10 ∷ joined texts) h.0.utf8
    (IsUtf8-append (10 ∷ []) (joined texts) (IsUtf8-from_ascii (10 ∷ []) (IsAscii-cons 10 [] (omega arith) IsAscii-nil))
    (joined_utf8 texts h.1))

-- one text more
pub joined_more : (texts : List (List ℕ)) (text : List ℕ) → joined (texts ++ text ∷ []) ≡ joined texts ++ (text ++ 10 ∷ [])
joined_more [] text = refl
joined_more (first ∷ texts) text =
    ap (λ (rest : List ℕ). first ++ 10 ∷ rest) (joined_more texts text)
    ∙ sym (append_assoc first (10 ∷ joined texts) (text ++ 10 ∷ []))

all_more : (texts : List (List ℕ)) (text : List ℕ) → AllByRecursion IsOneLine texts → IsOneLine text →
    AllByRecursion IsOneLine (texts ++ text ∷ [])
all_more [] text h one = (one, tt)
all_more (first ∷ texts) text h one = (h.0, all_more texts text h.1 one)

text_joins : (old new text : List ℕ) → AreJoined old → new ≡ old ++ (text ++ 10 ∷ []) → new ≡ joined (texts_in old ++ text ∷ [])
text_joins old new text are e = e ∙ ap (λ (t : List ℕ). t ++ (text ++ 10 ∷ [])) are.octets_are ∙ sym (joined_more (texts_in old) text)

pub pushed_joined : {A E : Type 0} (r : Result A E) (old new text : List ℕ) → AreJoined old → IsOneLine text →
    OnOk r (new ≡ old ++ (text ++ 10 ∷ [])) → OnErr r (new ≡ old) → AreJoined new
pushed_joined (Ok x) old new text are one pushed kept =
    are_joined new (texts_in old ++ text ∷ []) (all_more (texts_in old) text are.each one) (text_joins old new text are pushed)
pushed_joined (Err x) old new text are one pushed kept = subst AreJoined (sym kept) are

pub pushed_texts : {A E : Type 0} (r : Result A E) (old new text : List ℕ) → AreJoined old → IsOneLine text →
    OnOk r (new ≡ old ++ (text ++ 10 ∷ [])) → OnOk r (texts_in new ≡ texts_in old ++ text ∷ [])
pushed_texts (Ok x) old new text are one pushed =
    found_again new (texts_in old ++ text ∷ []) (all_more (texts_in old) text are.each one) (text_joins old new text are pushed)
pushed_texts (Err x) old new text are one pushed = tt

pub kept_texts : {A E : Type 0} (r : Result A E) (old new : List ℕ) → OnErr r (new ≡ old) → OnErr r (texts_in new ≡ texts_in old)
kept_texts (Ok x) old new kept = tt
kept_texts (Err x) old new kept = ap texts_in kept

value_unbroken : (text : List ℕ) → list_all is_value_octet text ≡ true → list_any is_break text ≡ false
value_unbroken [] h = refl
value_unbroken (b ∷ bs) h =
    let parts = and_parts _ _ h in
    rw ((value_no_break b parts.0).0) (value_unbroken bs parts.1)

-- a value of a line can be joined
pub one_value : (text : List ℕ) → list_all is_value_octet text ≡ true → IsUtf8 text → IsOneLine text
one_value text octets utf8 = record { unbroken = value_unbroken text octets; utf8 = utf8 }

-- and so can a line
pub each_line : (lines : List Line) → AllByRecursion IsOneLine (map unfolded_text lines)
each_line [] = tt
each_line (l ∷ ls) = let clean = clean_line l in (one_value (unfolded_text l) clean.octets clean.utf8, each_line ls)
