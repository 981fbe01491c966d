-- Reading a text line by line.
use Rattle.std.proofs.Common.{◌≡◌, ◌∙◌, sym, ap, ℕ, ◌+◌, ◌≤◌, ◌<◌, List, [], ◌∷◌, ◌++◌, length, arith, subst, inl, inr, append_assoc}
use Rattle.std.specs.Prelude.{Option, Some, None}
use Rattle.itip_lines.specs.UnfoldedLines.{NumberedText, text_at, with_octets}
use Rattle.itip_lines.specs.Reading.{IsGood, AreLines, HasRefusal, FirstRefusal, Reads, HasBadLine, Refused, IfRefused, text_limit}
use Rattle.itip_lines.specs.Stretches.{texts_behind, HasRead}
use Rattle.itip_lines.specs.UnfoldSteps.{PushesLine, ReadsNext, HasNextRefusal}
use Rattle.std.proofs.lemmas.List.{append-nil}
use Rattle.itip_lines.proofs.Cuttings.{cutting_of, numbered_of_cut}
use Rattle.itip_lines.specs.declared.line.NumberedLine.{NumberedLine}
use Rattle.itip_lines.specs.declared.error.LineRefusal.{LineRefusal}
use Rattle.itip_lines.specs.declared.error.LineError.{LineError}
use Rattle.itip_lines.specs.declared.error.LineError.TheVariants as error
use Rattle.itip_lines.specs.declared.unfold.Rest.{Rest}

pub next_refusal : (left : Rest) (old : List NumberedLine) (line : List ℕ) (others : List NumberedText) (e : LineError) →
    texts_behind (Some left) ≡ text_at left.number line ∷ others
    → IfRefused e (λ r. (0 < length line) × HasRefusal (length old + 1) (text_at left.number line) r) →
    IfRefused e (HasNextRefusal left old)
next_refusal left old line others error.NoMemory first h = tt
next_refusal left old line others (error.Refused r) first h = record { line = line; others = others; first = first; some = h.0; is = h.1 }

-- ---- lines, one more

lines_more : (n : ℕ) (ts : List NumberedText) (ls : List NumberedLine) (t : NumberedText) (l : NumberedLine) → AreLines n ts ls →
    l.number ≡ t.number → IsGood (n + length ls) t.text l.line → AreLines n (ts ++ t ∷ []) (ls ++ l ∷ [])
lines_more n [] [] t l h same good = (same, subst (λ (k : ℕ). IsGood k t.text l.line) (let e : n + 0 ≡ n = omega arith in e) good, tt)
lines_more n [] (k ∷ ls) t l h same good = absurd h
lines_more n (s ∷ ts) [] t l h same good = absurd h
lines_more n (s ∷ ts) (k ∷ ls) t l h same good = (
  h.0,
  h.1,
  lines_more (n + 1) ts ls t l h.2 same
      (subst (λ (x : ℕ). IsGood x t.text l.line) (let e : n + length (k ∷ ls) ≡ n + 1 + length ls = omega arith in e) good),
)

refusal_after : (n : ℕ) (ts : List NumberedText) (ls : List NumberedLine) (t : NumberedText) (us : List NumberedText) (r : LineRefusal) →
    AreLines n ts ls → HasRefusal (n + length ls) t r → FirstRefusal n (ts ++ t ∷ us) r
refusal_after n [] [] t us r h bad = inl (subst (λ (k : ℕ). HasRefusal k t r) (let e : n + 0 ≡ n = omega arith in e) bad)
refusal_after n [] (k ∷ ls) t us r h bad = absurd h
refusal_after n (s ∷ ts) [] t us r h bad = absurd h
refusal_after n (s ∷ ts) (k ∷ ls) t us r h bad =
    inr (
      (k.line, h.1),
      refusal_after (n + 1) ts ls t us r h.2
          (subst (λ (x : ℕ). HasRefusal x t r) (let e : n + length (k ∷ ls) ≡ n + 1 + length ls = omega arith in e) bad),
    )

-- ---- the loop

pub more_read : (text : List ℕ) (old new : List NumberedLine) (left : Rest) (rest : Option Rest) → HasRead text old (Some left) →
    ReadsNext left old new rest → HasRead text new rest
more_read text old new left rest has next = pushed next.line next.first next.pushes
  where
    pushed : (line : List ℕ) → texts_behind (Some left) ≡ text_at left.number line ∷ texts_behind rest →
        PushesLine old (text_at left.number line) new → HasRead text new rest
    pushed [] first (inl h) = record {
      done = has.done;
      all = has.all ∙ ap (λ ts. has.done ++ with_octets ts) first;
      are = subst (λ (ls : List NumberedLine). AreLines 1 has.done ls) (sym h.1) has.are;
    }
    pushed (b ∷ line) first (inl h) = absurd (omega (arith, h.0))
    pushed [] first (inr h) = absurd (omega (arith, h.0))
    pushed (b ∷ line) first (inr h) =
        let t : NumberedText = text_at left.number (b ∷ line) in
        record {
          done = has.done ++ t ∷ [];
          all = has.all ∙ ap (λ ts. has.done ++ with_octets ts) first ∙
              sym (append_assoc has.done (t ∷ []) (with_octets (texts_behind rest)));
          are = subst (λ (ls : List NumberedLine). AreLines 1 (has.done ++ t ∷ []) ls) (sym h.1.1)
              (lines_more 1 has.done old t h.1.0 has.are h.1.2
              (subst (λ (x : ℕ). IsGood x (b ∷ line) h.1.0.line) (let e : length old + 1 ≡ 1 + length old = omega arith in e) h.1.3));
        }

pub all_read : (text : List ℕ) (lines : List NumberedLine) → length text ≤ text_limit → HasRead text lines None → Reads text lines
all_read text lines short has =
    let cutting = cutting_of text in
    record {
      pieces = cutting.pieces;
      last = cutting.last;
      short = short;
      cut = cutting.cut;
      lines_are = subst (λ (ts : List NumberedText). AreLines 1 ts lines)
          (sym (numbered_of_cut text cutting.pieces cutting.last cutting.cut ∙ has.all ∙ append-nil has.done)) has.are;
    }

bad_line : (text : List ℕ) (old : List NumberedLine) (left : Rest) (r : LineRefusal) → length text ≤ text_limit →
    HasRead text old (Some left) → HasNextRefusal left old r → HasBadLine text r
bad_line text old left r short has next =
    let cutting = cutting_of text in
    record {
      pieces = cutting.pieces;
      last = cutting.last;
      short = short;
      cut = cutting.cut;
      first = subst (λ (ts : List NumberedText). FirstRefusal 1 ts r)
          (sym (numbered_of_cut text cutting.pieces cutting.last cutting.cut ∙ has.all)) (at next.line next.first next.some next.is);
    }
  where
    at : (line : List ℕ) → texts_behind (Some left) ≡ text_at left.number line ∷ next.others → 0 < length line →
        HasRefusal (length old + 1) (text_at left.number line) r → FirstRefusal 1 (has.done ++ with_octets (texts_behind (Some left))) r
    at [] first some is = absurd (omega (arith, some))
    at (b ∷ line) first some is =
        let t : NumberedText = text_at left.number (b ∷ line) in
        subst (λ (ts : List NumberedText). FirstRefusal 1 (has.done ++ with_octets ts) r) (sym first)
        (refusal_after 1 has.done old t (with_octets next.others) r has.are
        (subst (λ (x : ℕ). HasRefusal x t r) (let e : length old + 1 ≡ 1 + length old = omega arith in e) is))

pub refused_line : (text : List ℕ) (old : List NumberedLine) (left : Rest) (e : LineError) → length text ≤ text_limit →
    HasRead text old (Some left) → IfRefused e (HasNextRefusal left old) → IfRefused e (Refused text)
refused_line text old left error.NoMemory short has next = tt
refused_line text old left (error.Refused r) short has next = inr (bad_line text old left r short has next)
