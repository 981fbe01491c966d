-- Bytes in two parts that are cut into messages separately.
use Rattle.std.proofs.Common.{◌≡◌, ◌∙◌, sym, ap, refl, ℕ, suc, ◌<◌, ◌+◌, ◌-◌, Bool, true, false, cond, not, ◌&&◌, List, [], ◌∷◌, ◌++◌}
use Rattle.std.proofs.Common.{length, take, drop, arith, subst, append_assoc, append-nil}
use Rattle.std.specs.Prelude.{◌==◌}
use Rattle.std.specs.List.{onto_first, concat, list_all}
use Rattle.std.proofs.lemmas.Bool.{and_parts, eqb-true}
use Rattle.std.proofs.lemmas.List.{append_cancel_right, length-append, take_at}
use Rattle.itip_message.specs.Scanned.{begins_blank, ends_line, line_length, lines_of, is_empty}
use Rattle.itip_message.specs.Scanned.{ends_calendar, groups_of, texts_of, messages_of}
use Rattle.itip_message.specs.Passing.{StaysFirstLine}
use Rattle.itip_message.specs.Parting.{StaysParted, ClosesLine, IsAtLine}
use Rattle.itip_message.proofs.FirstLines.{lines_first}

-- ---- where a line is complete

not_true : (b : Bool) → not b ≡ true → b ≡ false
not_true true e = absurd cc
not_true false e = refl

ends_at : (bytes : List ℕ) → line_length bytes < length bytes → ClosesLine (take (line_length bytes) bytes) (drop (line_length bytes) bytes)
ends_at [] within = absurd (omega (arith, within))
ends_at (b ∷ bytes) within =
    elim (ends_line b bytes) as (λ (t : Bool). ends_line b bytes ≡ t → cond t 1 (suc (line_length bytes)) < suc (length bytes) →
    ClosesLine (take (cond t 1 (suc (line_length bytes))) (b ∷ bytes)) (drop (cond t 1 (suc (line_length bytes))) (b ∷ bytes))) [
      | true ↦ λ is h. record {
        before = [];
        feed = ap (λ (x : ℕ). x ∷ []) (eqb-true b 10 (and_parts (b == 10) (not (begins_blank bytes)) is).0);
        plain = not_true (begins_blank bytes) (and_parts (b == 10) (not (begins_blank bytes)) is).1;
      }
      | false ↦ λ is h.
          let more : ClosesLine (take (line_length bytes) bytes) (drop (line_length bytes) bytes) = ends_at bytes (omega (arith, h)) in
          record {
            before = b ∷ more.before;
            feed = ap (λ (t : List ℕ). b ∷ t) more.feed;
            plain = more.plain;
          }
    ] refl within

-- a line that a byte follows
pub line_at_end : (bytes : List ℕ) (n : ℕ) → n ≡ line_length bytes → n < length bytes → ClosesLine (take n bytes) (drop n bytes)
line_at_end bytes n is within =
    subst (λ (k : ℕ). ClosesLine (take k bytes) (drop k bytes)) (sym is) (ends_at bytes (omega (arith, is, within)))

-- ---- lists of lists, of which the first is longer

module _ {X : Type 0} where
  onto_both : (x : X) (xs ys : List (List X)) → 0 < length xs → onto_first x (xs ++ ys) ≡ onto_first x xs ++ ys
  onto_both x [] ys some = absurd (omega (arith, some))
  onto_both x (part ∷ parts) ys some = refl

  onto_some : (x : X) (xs : List (List X)) → 0 < length (onto_first x xs)
  onto_some x [] = omega arith
  onto_some x (part ∷ parts) = omega arith

-- ---- lines

blank_front : (before rest : List ℕ) → begins_blank ((before ++ 10 ∷ []) ++ rest) ≡ begins_blank (before ++ 10 ∷ [])
blank_front [] rest = refl
blank_front (b ∷ before) rest = refl

some_lines : (before : List ℕ) → 0 < length (lines_of (before ++ 10 ∷ []))
some_lines [] = omega arith
some_lines (b ∷ before) = subst (λ (lines : List (List ℕ)). 0 < length lines) (sym (lines_first b (before ++ 10 ∷ []))) (omega arith)

-- one more byte, before the lines of two parts
line_before : (b : ℕ) (text rest : List ℕ) → begins_blank (text ++ rest) ≡ begins_blank text → 0 < length (lines_of text) →
    lines_of (text ++ rest) ≡ lines_of text ++ lines_of rest → lines_of (b ∷ (text ++ rest)) ≡ lines_of (b ∷ text) ++ lines_of rest
line_before b text rest blank some apart =
    ap (λ (t : Bool). cond (b == 10 && not t) ((b ∷ []) ∷ lines_of (text ++ rest)) (onto_first b (lines_of (text ++ rest)))) blank
    ∙ ap (λ (ls : List (List ℕ)). cond (ends_line b text) ((b ∷ []) ∷ ls) (onto_first b ls)) apart
    ∙ (elim (ends_line b text) as (λ (t : Bool). cond t ((b ∷ []) ∷ (lines_of text ++ lines_of rest)) (onto_first b
    (lines_of text ++ lines_of rest)) ≡ cond t ((b ∷ []) ∷ lines_of text) (onto_first b (lines_of text)) ++ lines_of rest) [
      | true ↦ refl
      | false ↦ onto_both b (lines_of text) (lines_of rest) some
    ])

lines_apart : (before rest : List ℕ) → begins_blank rest ≡ false →
    lines_of ((before ++ 10 ∷ []) ++ rest) ≡ lines_of (before ++ 10 ∷ []) ++ lines_of rest
lines_apart [] rest plain = ap (λ (t : Bool). cond (not t) ((10 ∷ []) ∷ lines_of rest) (onto_first 10 (lines_of rest))) plain
lines_apart (b ∷ before) rest plain =
    line_before b (before ++ 10 ∷ []) rest (blank_front before rest) (some_lines before) (lines_apart before rest plain)

-- after a line that is complete others begin
behind_line : (x line rest before : List ℕ) → line ≡ before ++ 10 ∷ [] → begins_blank rest ≡ false →
    lines_of ((x ++ line) ++ rest) ≡ lines_of (x ++ line) ++ lines_of rest
behind_line x line rest before feed plain =
    let same : x ++ line ≡ (x ++ before) ++ 10 ∷ [] = ap (λ (t : List ℕ). x ++ t) feed ∙ sym (append_assoc x before (10 ∷ [])) in
    subst (λ (t : List ℕ). lines_of (t ++ rest) ≡ lines_of t ++ lines_of rest) (sym same) (lines_apart (x ++ before) rest plain)

first_whole : (bytes line after : List ℕ) → StaysFirstLine bytes line after → bytes ≡ line ++ after
first_whole bytes line after first =
    sym (append-nil bytes) ∙ (first []).whole ∙ ap (λ (t : List ℕ). line ++ t) (append-nil after)

-- the first line alone is one line
line_alone : (bytes line after : List ℕ) → StaysFirstLine bytes line after → ClosesLine line after → lines_of line ≡ line ∷ []
line_alone bytes line after first ends =
    append_cancel_right (lines_of line) (line ∷ []) (lines_of after)
    (sym (behind_line [] line after ends.before ends.feed ends.plain) ∙ ap lines_of (sym (first_whole bytes line after first)) ∙
    ap lines_of (sym (append-nil bytes)) ∙ (first []).lines ∙ ap (λ (t : List ℕ). line ∷ lines_of t) (append-nil after))

-- the first line begins with a blank only if the bytes do
line_plain : (bytes line after : List ℕ) → StaysFirstLine bytes line after → ClosesLine line after → begins_blank bytes ≡ false →
    begins_blank line ≡ false
line_plain bytes line after first ends plain =
    ap begins_blank ends.feed ∙ sym (blank_front ends.before after) ∙
    ap (λ (t : List ℕ). begins_blank (t ++ after)) (sym ends.feed) ∙ ap begins_blank (sym (first_whole bytes line after first)) ∙ plain

plain_more : (after more : List ℕ) → 0 < length after → begins_blank after ≡ false → begins_blank (after ++ more) ≡ false
plain_more [] more some plain = absurd (omega (arith, some))
plain_more (b ∷ after) more some plain = plain

-- ---- groups of lines, and their texts

some_groups : (before : List (List ℕ)) (line : List ℕ) → 0 < length (groups_of (before ++ line ∷ []))
some_groups [] line = elim (ends_calendar line) as (λ (t : Bool). 0 < length (cond t ((line ∷ []) ∷ []) ((line ∷ []) ∷ []))) [
  | true ↦ omega arith
  | false ↦ omega arith
]
some_groups (l ∷ before) line =
    elim (ends_calendar l) as (λ (t : Bool). 0 < length (cond t ((l ∷ []) ∷ groups_of (before ++ line ∷ [])) (onto_first l
    (groups_of (before ++ line ∷ []))))) [ true ↦ omega arith | false ↦ onto_some l (groups_of (before ++ line ∷ [])) ]

-- after a line that ends a calendar another group begins
groups_apart : (before : List (List ℕ)) (line : List ℕ) (rest : List (List ℕ)) → ends_calendar line ≡ true →
    groups_of ((before ++ line ∷ []) ++ rest) ≡ groups_of (before ++ line ∷ []) ++ groups_of rest
groups_apart [] line rest ends =
    ap (λ (t : Bool). cond t ((line ∷ []) ∷ groups_of rest) (onto_first line (groups_of rest))) ends ∙
    sym (ap (λ (t : Bool). cond t ((line ∷ []) ∷ []) ((line ∷ []) ∷ []) ++ groups_of rest) ends)
groups_apart (l ∷ before) line rest ends =
    ap (λ (gs : List (List (List ℕ))). cond (ends_calendar l) ((l ∷ []) ∷ gs) (onto_first l gs)) (groups_apart before line rest ends)
    ∙ (elim (ends_calendar l) as (λ (t : Bool). cond t ((l ∷ []) ∷ (groups_of (before ++ line ∷ []) ++ groups_of rest)) (onto_first l
    (groups_of (before ++ line ∷ []) ++ groups_of rest)) ≡ cond t ((l ∷ []) ∷ groups_of (before ++ line ∷ [])) (onto_first l
    (groups_of (before ++ line ∷ []))) ++ groups_of rest) [
      | true ↦ refl
      | false ↦ onto_both l (groups_of (before ++ line ∷ [])) (groups_of rest) (some_groups before line)
    ])

texts_apart : (gs hs : List (List (List ℕ))) → texts_of (gs ++ hs) ≡ texts_of gs ++ texts_of hs
texts_apart [] hs = refl
texts_apart (g ∷ gs) hs =
    ap (λ (ts : List (List ℕ)). cond (list_all is_empty g) ts (concat g ∷ ts)) (texts_apart gs hs)
    ∙ (elim (list_all is_empty g) as (λ (t : Bool). cond t (texts_of gs ++ texts_of hs) (concat g ∷ (texts_of gs ++ texts_of hs)) ≡
    cond t (texts_of gs) (concat g ∷ texts_of gs) ++ texts_of hs) [ true ↦ refl | false ↦ refl ])

messages_apart : (text rest : List ℕ) (before : List (List ℕ)) (line : List ℕ) → lines_of (text ++ rest) ≡ lines_of text ++ lines_of rest →
    lines_of text ≡ before ++ line ∷ [] → ends_calendar line ≡ true → messages_of (text ++ rest) ≡ messages_of text ++ messages_of rest
unfolding messages_of
messages_apart text rest before line apart lines ends =
    ap (λ (ls : List (List ℕ)). texts_of (groups_of ls)) (apart ∙ ap (λ (ls : List (List ℕ)). ls ++ lines_of rest) lines) ∙
    ap texts_of (groups_apart before line (lines_of rest) ends) ∙
    texts_apart (groups_of (before ++ line ∷ [])) (groups_of (lines_of rest)) ∙
    ap (λ (ls : List (List ℕ)). texts_of (groups_of ls) ++ texts_of (groups_of (lines_of rest))) (sym lines)

-- ---- parts

-- after a line that is complete another begins
pub at_line : (bytes x behind line after : List ℕ) → bytes ≡ x ++ behind → StaysFirstLine behind line after → ClosesLine line after →
    IsAtLine bytes after
at_line bytes x behind line after whole first ends = record {
  front = x ++ line;
  whole = whole ∙ ap (λ (t : List ℕ). x ++ t) (first_whole behind line after first) ∙ sym (append_assoc x line after);
  apart = λ more plain. behind_line x line more ends.before ends.feed plain;
  plain = ends.plain;
}

-- with a line that ends a calendar the first part ends
pub parted_at : (bytes rest line after part : List ℕ) → IsAtLine bytes rest → StaysFirstLine rest line after → ClosesLine line after →
    0 < length after → ends_calendar line ≡ true → part ≡ take (length bytes - length after) bytes → StaysParted bytes part after
parted_at bytes rest line after part at first ends some is_end is =
    let whole : bytes ≡ (at.front ++ line) ++ after =
    at.whole ∙ ap (λ (t : List ℕ). at.front ++ t) (first_whole rest line after first) ∙ sym (append_assoc at.front line after) in
    let long : length bytes ≡ length (at.front ++ line) + length after = ap length whole ∙ length-append (at.front ++ line) after in
    let count : length (at.front ++ line) ≡ length bytes - length after = omega (arith, long) in
    let same : part ≡ at.front ++ line =
    is ∙ ap (λ (t : List ℕ). take (length bytes - length after) t) whole ∙
    take_at (at.front ++ line) after (length bytes - length after) count in
    record {
      whole = whole ∙ ap (λ (t : List ℕ). t ++ after) (sym same);
      messages = λ more.
          ap (λ (t : List ℕ). messages_of (t ++ more)) whole ∙ ap messages_of (append_assoc (at.front ++ line) after more) ∙
          messages_apart (at.front ++ line) (after ++ more) (lines_of at.front) line
          (behind_line at.front line (after ++ more) ends.before ends.feed (plain_more after more some ends.plain))
          (at.apart line (line_plain rest line after first ends at.plain) ∙
          ap (λ (ls : List (List ℕ)). lines_of at.front ++ ls) (line_alone rest line after first ends)) is_end ∙
          ap (λ (t : List ℕ). messages_of t ++ messages_of (after ++ more)) (sym same);
    }
