-- A message of which only the beginning has arrived, and the few bytes that stand in for it.
use Rattle.std.proofs.Common.{◌≡◌, ◌∙◌, sym, ap, refl, subst, ℕ, zero, suc, ◌+◌, ◌<◌, ◌≤◌, Bool, true, false, cond, ◌&&◌, ◌||◌, not}
use Rattle.std.proofs.Common.{List, [], ◌∷◌, ◌++◌, length, map, drop, get_or, ◌≢◌, inl, inr, arith, append_assoc, append-nil}
use Rattle.std.specs.Prelude.{◌==◌, codes}
use Rattle.std.specs.Char.{to_ascii_uppercase}
use Rattle.std.specs.List.{AllByRecursion, concat, list_all, list_any, onto_first}
use Rattle.std.proofs.lemmas.Bool.{and_parts, or_parts, eqb-true, eqb-false}
use Rattle.std.proofs.lemmas.List.{length-append}
use Rattle.std.proofs.lemmas.List.Folds.{list_all-append}
use Rattle.itip_lines.specs.UnfoldedLines.{is_blank}
use Rattle.itip_todo.specs.Participation.{same_text}
use Rattle.itip_message.specs.Scanned.{begins_blank, ends_line, line_length, lines_of, is_return}
use Rattle.itip_message.specs.Scanned.{said, said_behind, is_empty, ends_calendar}
use Rattle.itip_message.specs.Scanned.{groups_of, texts_of, messages_of, StaysCut}
use Rattle.itip_message.specs.Passing.{is_left_out, Passes, StaysPassing}
use Rattle.itip_message.specs.Begun.{IsBegun, DifferInFirst, StandsIn, SaysTheSame, something_else, IsSaid, PassesLine}
use Rattle.itip_message.specs.Begun.{begun_line, break_before, few_octets, stand_in_limit}
use Rattle.itip_message.specs.declared.begun.BegunMessage.{BegunMessage}
use Rattle.itip_message.specs.declared.begun.LineFront.{LineFront}
use Rattle.itip_message.proofs.SaidMore.{says_else}
use Rattle.itip_message.proofs.Messages.{concat_push, groups_none, none_ends_more, start_passing, texts_end}

-- ---- texts that differ in the first

abbrev NoneEnds : List (List ℕ) → Type 0
NoneEnds lines = AllByRecursion (λ line. ends_calendar line ≡ false) lines

none_texts : (lines : List (List ℕ)) → NoneEnds lines → texts_of (groups_of lines) ≡ cond (list_all is_empty lines) [] (concat lines ∷ [])
none_texts [] none = refl
none_texts (line ∷ lines) none = ap texts_of (groups_none line lines none)

last_differ : (least : ℕ) (empty other : Bool) (text another : List ℕ) → empty ≡ other → least ≤ length text →
    DifferInFirst least (cond empty [] (text ∷ [])) (cond other [] (another ∷ []))
last_differ least empty other text another same within =
    subst (λ (b : Bool). DifferInFirst least (cond empty [] (text ∷ [])) (cond b [] (another ∷ []))) same
    (elim empty as (λ (b : Bool). DifferInFirst least (cond b [] (text ∷ [])) (cond b [] (another ∷ [])))
    [ true ↦ tt | false ↦ (within, refl) ])

longer : (least : ℕ) (lines : List (List ℕ)) (line : List ℕ) → least ≤ length (concat lines) → least ≤ length (concat (lines ++ line ∷ []))
longer least lines line within =
    let long : length (concat (lines ++ line ∷ [])) ≡ length (concat lines) + length line =
    ap length (concat_push lines line) ∙ length-append (concat lines) line in
    omega (arith, long, within)

empty_more : (ls ms : List (List ℕ)) (l m : List ℕ) → list_all is_empty ls ≡ list_all is_empty ms → is_empty l ≡ is_empty m →
    list_all is_empty (ls ++ l ∷ []) ≡ list_all is_empty (ms ++ m ∷ [])
empty_more ls ms l m same one =
    list_all-append is_empty ls (l ∷ []) ∙ ap (λ (b : Bool). b && (is_empty l && true)) same ∙
    ap (λ (b : Bool). list_all is_empty ms && (b && true)) one ∙ sym (list_all-append is_empty ms (m ∷ []))

-- lines were passed of which none ends a calendar, empty in the one as in the other, and these follow
groups_differ : (least : ℕ) (lines ls ms : List (List ℕ)) → NoneEnds ls → NoneEnds ms → list_all is_empty ls ≡ list_all is_empty ms →
    least ≤ length (concat ls) → DifferInFirst least (texts_of (groups_of (ls ++ lines))) (texts_of (groups_of (ms ++ lines)))
groups_differ least [] ls ms none others same within =
    let left : texts_of (groups_of (ls ++ [])) ≡ cond (list_all is_empty ls) [] (concat ls ∷ []) =
    ap (λ (t : List (List ℕ)). texts_of (groups_of t)) (append-nil ls) ∙ none_texts ls none in
    let right : texts_of (groups_of (ms ++ [])) ≡ cond (list_all is_empty ms) [] (concat ms ∷ []) =
    ap (λ (t : List (List ℕ)). texts_of (groups_of t)) (append-nil ms) ∙ none_texts ms others in
    rw (left, right) (last_differ least (list_all is_empty ls) (list_all is_empty ms) (concat ls) (concat ms) same within)
groups_differ least (line ∷ lines) ls ms none others same within =
    elim (ends_calendar line) as (λ (b : Bool). ends_calendar line ≡ b →
    DifferInFirst least (texts_of (groups_of (ls ++ line ∷ lines))) (texts_of (groups_of (ms ++ line ∷ lines)))) [
      | true ↦ λ ends. rw (texts_end ls line lines none ends, texts_end ms line lines others ends) (longer least ls line within, refl)
      | false ↦ λ not_end.
          let goes_on : DifferInFirst least (texts_of (groups_of ((ls ++ line ∷ []) ++ lines)))
          (texts_of (groups_of ((ms ++ line ∷ []) ++ lines))) =
          groups_differ least lines (ls ++ line ∷ []) (ms ++ line ∷ []) (none_ends_more ls line none not_end)
          (none_ends_more ms line others not_end) (empty_more ls ms line line same refl) (longer least ls line within) in
          subst (λ (t : List (List ℕ)). DifferInFirst least (texts_of (groups_of t)) (texts_of (groups_of (ms ++ line ∷ lines))))
          (append_assoc ls (line ∷ []) lines)
          (subst (λ (t : List (List ℕ)). DifferInFirst least (texts_of (groups_of ((ls ++ line ∷ []) ++ lines))) (texts_of (groups_of t)))
          (append_assoc ms (line ∷ []) lines) goes_on)
    ] refl

-- and between them is a line that ends a calendar in the one as in the other
lines_differ : (least : ℕ) (lines ls ms : List (List ℕ)) (l m : List ℕ) → NoneEnds ls → NoneEnds ms →
    list_all is_empty ls ≡ list_all is_empty ms → ends_calendar l ≡ ends_calendar m → is_empty l ≡ is_empty m →
    least ≤ length (concat (ls ++ l ∷ []))
    → DifferInFirst least (texts_of (groups_of (ls ++ l ∷ lines))) (texts_of (groups_of (ms ++ m ∷ lines)))
lines_differ least lines ls ms l m none others same ends empty within =
    elim (ends_calendar l) as (λ (b : Bool). ends_calendar l ≡ b →
    DifferInFirst least (texts_of (groups_of (ls ++ l ∷ lines))) (texts_of (groups_of (ms ++ m ∷ lines)))) [
      | true ↦ λ is_end. rw (texts_end ls l lines none is_end, texts_end ms m lines others (sym ends ∙ is_end)) (within, refl)
      | false ↦ λ not_end.
          let goes_on : DifferInFirst least (texts_of (groups_of ((ls ++ l ∷ []) ++ lines)))
          (texts_of (groups_of ((ms ++ m ∷ []) ++ lines))) =
          groups_differ least lines (ls ++ l ∷ []) (ms ++ m ∷ []) (none_ends_more ls l none not_end)
          (none_ends_more ms m others (sym ends ∙ not_end)) (empty_more ls ms l m same empty) within in
          subst (λ (t : List (List ℕ)). DifferInFirst least (texts_of (groups_of t)) (texts_of (groups_of (ms ++ m ∷ lines))))
          (append_assoc ls (l ∷ []) lines)
          (subst (λ (t : List (List ℕ)). DifferInFirst least (texts_of (groups_of ((ls ++ l ∷ []) ++ lines))) (texts_of (groups_of t)))
          (append_assoc ms (m ∷ []) lines) goes_on)
    ] refl

-- ---- a line that goes on

-- the line ends with none of these bytes, if that byte follows them
abbrev GoesOn : List ℕ → ℕ → Type 0
GoesOn [] last = Unit {0}
GoesOn (b ∷ octets) last = (ends_line b (octets ++ last ∷ []) ≡ false) × GoesOn octets last

goes_on : (octets : List ℕ) (last : ℕ) → line_length (octets ++ last ∷ []) ≡ length (octets ++ last ∷ []) → GoesOn octets last
goes_on [] last whole = tt
goes_on (b ∷ octets) last whole =
    let some : length (octets ++ last ∷ []) ≡ length octets + 1 = length-append octets (last ∷ []) in
    elim (ends_line b (octets ++ last ∷ [])) as (λ (t : Bool). ends_line b (octets ++ last ∷ []) ≡ t →
    cond t 1 (suc (line_length (octets ++ last ∷ []))) ≡ suc (length (octets ++ last ∷ [])) →
    (ends_line b (octets ++ last ∷ []) ≡ false) × GoesOn octets last) [
      | true ↦ λ ends h. absurd (omega (arith, h, some))
      | false ↦ λ ends h. (ends, goes_on octets last (omega (arith, h)))
    ] refl whole

-- the next byte alone decides whether a line ends
same_end : (b : ℕ) (octets : List ℕ) (last : ℕ) (more : List ℕ) → ends_line b (octets ++ (last ∷ more)) ≡ ends_line b (octets ++ last ∷ [])
same_end b [] last more = refl
same_end b (c ∷ octets) last more = refl

-- the first line has these bytes, and goes on as a line that begins with the last
lines_past : (octets : List ℕ) (last : ℕ) (more line : List ℕ) (lines : List (List ℕ)) → GoesOn octets last →
    lines_of (last ∷ more) ≡ line ∷ lines → lines_of (octets ++ (last ∷ more)) ≡ (octets ++ line) ∷ lines
lines_past [] last more line lines goes first = first
lines_past (b ∷ octets) last more line lines goes first =
    ap (λ (t : Bool). cond t ((b ∷ []) ∷ lines_of (octets ++ (last ∷ more))) (onto_first b (lines_of (octets ++ (last ∷ more)))))
    (same_end b octets last more ∙ goes.0) ∙
    ap (λ (ls : List (List ℕ)). onto_first b ls) (lines_past octets last more line lines goes.1 first)

-- a break that ends no line is followed by a blank
blank_behind : (front : List ℕ) (last : ℕ) → GoesOn (front ++ 10 ∷ []) last → is_blank last ≡ true
blank_behind [] last goes =
    elim (is_blank last) as (λ (t : Bool). (true && not t) ≡ false → t ≡ true) [ true ↦ λ h. refl | false ↦ λ h. absurd cc ] goes.0
blank_behind (b ∷ front) last goes = blank_behind front last goes.1

-- ---- what a line says

no_return : (b : ℕ) (t : List ℕ) → (b == 13) ≡ false → is_return b t ≡ false
no_return b [] h = refl
no_return b (c ∷ t) h = ap (λ (v : Bool). v && c == 10) h

-- the next byte alone decides whether a byte is the CR of a break
same_return : (b : ℕ) (after more : List ℕ) → 0 < length after → is_return b (after ++ more) ≡ is_return b after
same_return b [] more some = absurd (omega (arith, some))
same_return b (c ∷ after) more some = refl

left_said : (b : ℕ) (behind : Bool) (after more : List ℕ) → 0 < length after → is_left_out b behind after ≡ true →
    said_behind behind (b ∷ (after ++ more)) ≡ said_behind (b == 10) (after ++ more)
left_said b behind after more some out =
    elim (b == 10) as (λ (t : Bool). (t || is_return b after || (behind && is_blank b)) ≡ true →
    cond t (said_behind true (after ++ more)) (cond (is_return b (after ++ more) || (behind && is_blank b))
    (said_behind false (after ++ more))
    (b ∷ said_behind false (after ++ more))) ≡ said_behind t (after ++ more)) [
      | true ↦ λ h. refl
      | false ↦ λ h. ap (λ (t : Bool). cond (t || (behind && is_blank b)) (said_behind false (after ++ more))
          (b ∷ said_behind false (after ++ more))) (same_return b after more some) ∙
          ap (λ (t : Bool). cond t (said_behind false (after ++ more)) (b ∷ said_behind false (after ++ more))) h
    ] out

kept_said : (b : ℕ) (behind : Bool) (after more : List ℕ) → 0 < length after → is_left_out b behind after ≡ false →
    said_behind behind (b ∷ (after ++ more)) ≡ b ∷ said_behind (b == 10) (after ++ more)
kept_said b behind after more some kept =
    elim (b == 10) as (λ (t : Bool). (t || is_return b after || (behind && is_blank b)) ≡ false →
    cond t (said_behind true (after ++ more)) (cond (is_return b (after ++ more) || (behind && is_blank b))
    (said_behind false (after ++ more))
    (b ∷ said_behind false (after ++ more))) ≡ b ∷ said_behind t (after ++ more)) [
      | true ↦ λ h. absurd cc
      | false ↦ λ h. ap (λ (t : Bool). cond (t || (behind && is_blank b)) (said_behind false (after ++ more))
          (b ∷ said_behind false (after ++ more))) (same_return b after more some) ∙
          ap (λ (t : Bool). cond t (said_behind false (after ++ more)) (b ∷ said_behind false (after ++ more))) h
    ] kept

says_itself : (text : List ℕ) → SaysTheSame text text
says_itself text = record { ends = refl; empty = refl }

says_then : (one two three : List ℕ) → SaysTheSame one two → SaysTheSame two three → SaysTheSame one three
says_then one two three a b = record { ends = a.ends ∙ b.ends; empty = a.empty ∙ b.empty }

-- ---- what stands in for it

pub nothing_said : IsSaid []
nothing_said = inr (codes "END:VCALENDAR", refl)

-- none of these bytes is of a break
abbrev IsPlain : List ℕ → Type 0
IsPlain text = AllByRecursion (λ b. ((b == 10) ≡ false) × ((b == 13) ≡ false)) text

plain_front : (text rest : List ℕ) → IsPlain (text ++ rest) → IsPlain text
plain_front [] rest all = tt
plain_front (b ∷ text) rest all = (all.0, plain_front text rest all.1)

not_true : (x : Bool) → not x ≡ true → x ≡ false
not_true true h = absurd cc
not_true false h = refl

abbrev is_plain : ℕ → Bool
is_plain b = not (b == 10) && not (b == 13)

plain_all : (text : List ℕ) → list_all is_plain text ≡ true → IsPlain text
plain_all [] all = tt
plain_all (b ∷ text) all =
    let parts = and_parts (is_plain b) (list_all is_plain text) all in
    let octet = and_parts (not (b == 10)) (not (b == 13)) parts.0 in
    ((not_true (b == 10) octet.0, not_true (b == 13) octet.1), plain_all text parts.1)

said_plain : (text : List ℕ) → IsSaid text → IsPlain text
said_plain text (inl is) = subst IsPlain (sym is) (plain_all something_else refl)
said_plain text (inr is) = plain_front text is.0 (subst IsPlain is.1 (plain_all (codes "END:VCALENDAR") refl))

-- plain bytes say themselves
plain_said : (text more : List ℕ) → IsPlain text → said_behind false (text ++ more) ≡ text ++ said_behind false more
plain_said [] more plain = refl
plain_said (b ∷ text) more plain =
    ap (λ (t : Bool). cond t (said_behind true (text ++ more)) (cond (is_return b (text ++ more) || false)
    (said_behind false (text ++ more))
    (b ∷ said_behind false (text ++ more)))) plain.0.0 ∙
    ap (λ (t : Bool). cond (t || false) (said_behind false (text ++ more)) (b ∷ said_behind false (text ++ more)))
    (no_return b (text ++ more) plain.0.1) ∙ ap (λ (t : List ℕ). b ∷ t) (plain_said text more plain.1)

plain_goes_on : (text after : List ℕ) (last : ℕ) → IsPlain text → GoesOn after last → GoesOn (text ++ after) last
plain_goes_on [] after last plain goes = goes
plain_goes_on (b ∷ text) after last plain goes =
    (ap (λ (t : Bool). t && not (begins_blank ((text ++ after) ++ last ∷ []))) plain.0.0, plain_goes_on text after last plain.1 goes)

-- the bytes of the line that stands in for another
abbrev stand_line : List ℕ → Bool → List ℕ
stand_line text behind = 10 ∷ (32 ∷ (text ++ break_before behind))

stand_goes_on : (text : List ℕ) (behind : Bool) (last : ℕ) → IsPlain text → (behind ≡ true → is_blank last ≡ true) →
    GoesOn (stand_line text behind) last
stand_goes_on text true last plain blank =
    (refl, (refl, plain_goes_on text (10 ∷ []) last plain (ap (λ (t : Bool). true && not t) (blank refl), tt)))
stand_goes_on text false last plain blank = (refl, (refl, plain_goes_on text [] last plain tt))

-- after a fold the line says what follows it
fold_said : (text : List ℕ) → said_behind false (10 ∷ (32 ∷ text)) ≡ said_behind false text
fold_said text = ap (λ (t : Bool). cond (t || true) (said_behind false text) (32 ∷ said_behind false text)) (no_return 32 text refl)

break_said : (behind : Bool) (rest : List ℕ) → said_behind false (break_before behind ++ rest) ≡ said_behind behind rest
break_said true rest = refl
break_said false rest = refl

stand_says : (text : List ℕ) (behind : Bool) (rest : List ℕ) → IsPlain text →
    said (stand_line text behind ++ rest) ≡ text ++ said_behind behind rest
stand_says text behind rest plain =
    fold_said ((text ++ break_before behind) ++ rest) ∙ ap (λ (t : List ℕ). said_behind false t)
    (append_assoc text (break_before behind) rest) ∙
    plain_said text (break_before behind ++ rest) plain ∙ ap (λ (t : List ℕ). text ++ t) (break_said behind rest)

-- ---- passing the bytes of a line

pub line_begins : (line : List ℕ) → PassesLine line [] false line
line_begins line = record {
  before = [];
  whole = refl;
  some = λ none. none;
  said_is = nothing_said;
  says = λ more. says_itself (said (line ++ more));
  break_is = λ h. absurd cc;
}

module _ (line text : List ℕ) (behind : Bool) (b : ℕ) (after : List ℕ) (so_far : PassesLine line text behind (b ∷ after))
    (some : 0 < length after) where
  break_then : (b == 10) ≡ true → (front : List ℕ) × (so_far.before ++ b ∷ [] ≡ front ++ 10 ∷ [])
  break_then is = (so_far.before, ap (λ (x : ℕ). so_far.before ++ x ∷ []) (eqb-true b 10 is))

  none_then : after ≡ [] → line ≡ []
  none_then none = absurd (let e : length after ≡ 0 = ap length none in omega (arith, e, some))

  whole_then : line ≡ (so_far.before ++ b ∷ []) ++ after
  whole_then = so_far.whole ∙ sym (append_assoc so_far.before (b ∷ []) after)

  -- a byte that is left out
  pub octet_left : is_left_out b behind after ≡ true → PassesLine line text (b == 10) after
  octet_left out = record {
    before = so_far.before ++ b ∷ [];
    whole = whole_then;
    some = none_then;
    said_is = so_far.said_is;
    says = λ more. subst (λ (t : List ℕ). SaysTheSame (said (line ++ more)) (text ++ t)) (left_said b behind after more some out)
        (so_far.says more);
    break_is = break_then;
  }

  -- one that is said
  pub octet_said : (other : List ℕ) → is_left_out b behind after ≡ false → IsSaid other →
      ((more : List ℕ) → SaysTheSame (text ++ b ∷ more) (other ++ more)) → PassesLine line other (b == 10) after
  octet_said other kept is same = record {
    before = so_far.before ++ b ∷ [];
    whole = whole_then;
    some = none_then;
    said_is = is;
    says = λ more. says_then (said (line ++ more)) (text ++ b ∷ said_behind (b == 10) (after ++ more))
        (other ++ said_behind (b == 10) (after ++ more))
        (subst (λ (t : List ℕ). SaysTheSame (said (line ++ more)) (text ++ t)) (kept_said b behind after more some kept) (so_far.says more))
        (same (said_behind (b == 10) (after ++ more)));
    break_is = break_then;
  }

  -- a byte, whether it is left out or not
  octet_passed : (other : List ℕ) (is_out : Bool) → is_out ≡ is_left_out b behind after → IsSaid other → (is_out ≡ true → other ≡ text) →
      (is_out ≡ false → (more : List ℕ) → SaysTheSame (text ++ b ∷ more) (other ++ more)) → PassesLine line other (b == 10) after
  octet_passed other true is_left said_is left same =
      subst (λ (t : List ℕ). PassesLine line t (b == 10) after) (sym (left refl)) (octet_left (sym is_left))
  octet_passed other false is_left said_is left same = octet_said other (sym is_left) said_is (same refl)

-- the first byte of what is left is passed
pub first_passed : (line text : List ℕ) (behind : Bool) (rest other : List ℕ) (is_out : Bool) → PassesLine line text behind rest →
    (length (drop 1 rest) == 0) ≡ false → is_out ≡ is_left_out (get_or rest 0 0) behind (drop 1 rest) → IsSaid other →
    (is_out ≡ true → other ≡ text) → (is_out ≡ false → (more : List ℕ) → SaysTheSame (text ++ get_or rest 0 0 ∷ more) (other ++ more)) →
    PassesLine line other (get_or rest 0 0 == 10) (drop 1 rest)
first_passed line text behind [] other is_out so_far some is_left said_is left same = absurd cc
first_passed line text behind (b ∷ after) other is_out so_far some is_left said_is left same =
    let none : length after ≢ 0 = eqb-false (length after) 0 some in
    octet_passed line text behind b after so_far (omega (arith, none)) other is_out is_left said_is left same

-- ---- the stand-in

-- the first line of bytes that aren't empty
first_line_of : (last : ℕ) (more : List ℕ) → (line : List ℕ) × (lines : List (List ℕ)) × (lines_of (last ∷ more) ≡ (last ∷ line) ∷ lines)
first_line_of last more =
    elim (ends_line last more) as (λ (t : Bool). (line : List ℕ) × (lines : List (List ℕ))
    × (cond t ((last ∷ []) ∷ lines_of more) (onto_first last (lines_of more)) ≡ (last ∷ line) ∷ lines)) [
      | true ↦ ([], lines_of more, refl)
      | false ↦ elim (lines_of more) as (λ (ls : List (List ℕ)). (line : List ℕ) × (lines : List (List ℕ))
          × (onto_first last ls ≡ (last ∷ line) ∷ lines)) [ [] ↦ ([], [], refl) | line ∷ lines ↦ (line, lines, refl) ]
    ]

-- the few bytes as they are cut
few_passes : (all_empty : Bool) (text : List ℕ) (behind : Bool) (last : ℕ) (more : List ℕ) →
    Passes ((((begun_line all_empty ++ text) ++ break_before behind) ++ last ∷ []) ++ more)
    (stand_line text behind ++ (last ∷ more)) all_empty
few_passes true text behind last more =
    subst (λ (t : List ℕ). Passes t (stand_line text behind ++ (last ∷ more)) true)
    (sym (append_assoc (stand_line text behind) (last ∷ []) more)) (start_passing (stand_line text behind ++ (last ∷ more)))
few_passes false text behind last more =
    let rest : List ℕ = stand_line text behind ++ (last ∷ more) in
    let passed : Passes (88 ∷ (10 ∷ rest)) rest false =
    record { passed = (88 ∷ (10 ∷ [])) ∷ []; whole = refl; lines = refl; none_ends = (refl, tt); blank_is = refl } in
    subst (λ (t : List ℕ). Passes (88 ∷ (10 ∷ t)) rest false) (sym (append_assoc (stand_line text behind) (last ∷ []) more)) passed

module _ (octets line text : List ℕ) (all_empty behind : Bool) (last : ℕ) (begun : (more : List ℕ) →
    Passes (octets ++ more) (line ++ more) all_empty) (whole : line_length line ≡ length line)
    (front : PassesLine line text behind (last ∷ [])) where
  before_goes_on : GoesOn front.before last
  before_goes_on = goes_on front.before last (subst (λ (t : List ℕ). line_length t ≡ length t) front.whole whole)

  line_past : (more : List ℕ) → line ++ more ≡ front.before ++ (last ∷ more)
  line_past more = ap (λ (t : List ℕ). t ++ more) front.whole ∙ append_assoc front.before (last ∷ []) more

  -- the line says as much as the one that stands in for it, whatever it goes on with
  alike : (more : List ℕ) → SaysTheSame (said (front.before ++ (last ∷ more))) (said (stand_line text behind ++ (last ∷ more)))
  alike more = subst (λ (t : List ℕ). SaysTheSame (said (front.before ++ (last ∷ more))) t)
      (sym (stand_says text behind (last ∷ more) (said_plain text front.said_is)))
      (subst (λ (t : List ℕ). SaysTheSame (said t) (text ++ said_behind behind (last ∷ more))) (line_past more) (front.says more))

  -- the bytes are only the lines that were passed and the one that goes on
  bound : (more more_line : List ℕ) (passed : List (List ℕ)) → octets ++ more ≡ concat passed ++ (line ++ more) →
      length octets ≤ length (concat (passed ++ (front.before ++ (last ∷ more_line)) ∷ []))
  bound more more_line passed is =
      let a : length (octets ++ more) ≡ length octets + length more = length-append octets more in
      let b : length (concat passed ++ (line ++ more)) ≡ length (concat passed) + length (line ++ more) =
      length-append (concat passed) (line ++ more) in
      let d : length (line ++ more) ≡ length line + length more = length-append line more in
      let e : length line ≡ length front.before + 1 = ap length front.whole ∙ length-append front.before (last ∷ []) in
      let f : length (concat (passed ++ (front.before ++ (last ∷ more_line)) ∷ [])) ≡
      length (concat passed) + length (front.before ++ (last ∷ more_line)) =
      ap length (concat_push passed (front.before ++ (last ∷ more_line))) ∙
      length-append (concat passed) (front.before ++ (last ∷ more_line)) in
      let g : length (front.before ++ (last ∷ more_line)) ≡ length front.before + suc (length more_line) =
      length-append front.before (last ∷ more_line) in
      let h : length (octets ++ more) ≡ length (concat passed ++ (line ++ more)) = ap length is in
      omega (arith, a, b, d, e, f, g, h)

  pub stands_for : StandsIn octets (((begun_line all_empty ++ text) ++ break_before behind) ++ last ∷ [])
  unfolding messages_of
  stands_for = λ more.
      let first = first_line_of last more in
      let came = begun more in
      let few = few_passes all_empty text behind last more in
      let stand_on : GoesOn (stand_line text behind) last = stand_goes_on text behind last (said_plain text front.said_is)
      (λ is. let ends = front.break_is is in blank_behind ends.0 last (subst (λ (t : List ℕ). GoesOn t last) ends.1 before_goes_on)) in
      let says = alike first.0 in
      let lines : lines_of (octets ++ more) ≡ came.passed ++ (front.before ++ (last ∷ first.0)) ∷ first.1 =
      came.lines ∙ ap (λ (t : List ℕ). came.passed ++ lines_of t) (line_past more) ∙
      ap (λ (ls : List (List ℕ)). came.passed ++ ls)
      (lines_past front.before last more (last ∷ first.0) first.1 before_goes_on first.2) in
      let others : lines_of ((((begun_line all_empty ++ text) ++ break_before behind) ++ last ∷ []) ++ more) ≡
      few.passed ++ (stand_line text behind ++ (last ∷ first.0)) ∷ first.1 =
      few.lines ∙ ap (λ (ls : List (List ℕ)). few.passed ++ ls)
      (lines_past (stand_line text behind) last more (last ∷ first.0) first.1 stand_on first.2) in
      subst (λ (ls : List (List ℕ)). DifferInFirst (length octets) (texts_of (groups_of ls))
      (texts_of (groups_of (lines_of ((((begun_line all_empty ++ text) ++ break_before behind) ++ last ∷ []) ++ more))))) (sym lines)
      (subst (λ (ls : List (List ℕ)). DifferInFirst (length octets)
      (texts_of (groups_of (came.passed ++ (front.before ++ (last ∷ first.0)) ∷ first.1))) (texts_of (groups_of ls))) (sym others)
      (lines_differ (length octets) first.1 came.passed few.passed (front.before ++ (last ∷ first.0))
      (stand_line text behind ++ (last ∷ first.0)) came.none_ends few.none_ends (sym came.blank_is ∙ few.blank_is) says.ends says.empty
      (bound more first.0 came.passed came.whole)))

-- no bytes stand in for none
differ_itself : (texts : List (List ℕ)) → DifferInFirst 0 texts texts
differ_itself [] = tt
differ_itself (text ∷ texts) = let e : 0 ≤ length text = omega arith in (e, refl)

pub none_for_none : (octets few : List ℕ) → octets ≡ [] → few ≡ [] → StandsIn octets few
none_for_none octets few none nothing = λ more.
    subst (λ (t : List ℕ). DifferInFirst (length t) (messages_of (t ++ more)) (messages_of (few ++ more))) (sym none)
    (subst (λ (t : List ℕ). DifferInFirst 0 (messages_of more) (messages_of (t ++ more))) (sym nothing) (differ_itself (messages_of more)))

pub message_stands : (message : BegunMessage) (front : LineFront) (few : List ℕ) → IsBegun message →
    PassesLine message.line.now front.said.now front.is_behind (front.last ∷ []) → few ≡ few_octets message.all_empty front
    → StandsIn message.octets.now few
message_stands message front few begun passes is =
    subst (λ (t : List ℕ). StandsIn message.octets.now t) (sym is)
    (stands_for message.octets.now message.line.now front.said.now message.all_empty front.is_behind front.last begun.passes begun.goes_on
    passes)

-- ---- how many bytes stand in for a message

short_said : (text : List ℕ) → IsSaid text → length text ≤ 14
short_said text (inl is) = let long : length text ≡ 14 = ap length is in omega (arith, long)
short_said text (inr rest) =
    let long : 13 ≡ length text + length rest.0 = ap length rest.1 ∙ length-append text rest.0 in
    omega (arith, long)

short_begun : (all_empty : Bool) → length (begun_line all_empty) ≤ 4
short_begun true = omega arith
short_begun false = omega arith

short_break : (behind : Bool) → length (break_before behind) ≤ 1
short_break true = omega arith
short_break false = omega arith

pub few_are_few : (all_empty : Bool) (front : LineFront) → IsSaid front.said.now → length (few_octets all_empty front) ≤ stand_in_limit
few_are_few all_empty front said_is =
    let begun : List ℕ = begun_line all_empty in
    let text : List ℕ = front.said.now in
    let mark : List ℕ = break_before front.is_behind in
    let all : length (((begun ++ text) ++ mark) ++ front.last ∷ []) ≡ length ((begun ++ text) ++ mark) + 1 =
    length-append ((begun ++ text) ++ mark) (front.last ∷ []) in
    let before : length ((begun ++ text) ++ mark) ≡ length (begun ++ text) + length mark = length-append (begun ++ text) mark in
    let first : length (begun ++ text) ≡ length begun + length text = length-append begun text in
    omega (arith, all, before, first, short_begun all_empty, short_said text said_is, short_break front.is_behind)

-- ---- where the end of a message isn't known, none is cut off

and_false : (x : Bool) → (x && false) ≡ false
and_false true = refl
and_false false = refl

-- a line that goes on, and a blank after it: all of it is one line
one_line : (line more : List ℕ) → line_length line ≡ length line → begins_blank more ≡ true → lines_of more ≡ more ∷ [] →
    lines_of (line ++ more) ≡ (line ++ more) ∷ []
one_line [] more whole blank one = one
one_line (b ∷ []) more whole blank one =
    let goes : ends_line b more ≡ false = ap (λ (t : Bool). b == 10 && not t) blank ∙ and_false (b == 10) in
    ap (λ (t : Bool). cond t ((b ∷ []) ∷ lines_of more) (onto_first b (lines_of more))) goes ∙
    ap (λ (ls : List (List ℕ)). onto_first b ls) one
one_line (b ∷ (c ∷ line)) more whole blank one =
    elim (ends_line b (c ∷ line)) as (λ (t : Bool). ends_line b (c ∷ line) ≡ t →
    cond t 1 (suc (line_length (c ∷ line))) ≡ suc (length (c ∷ line)) →
    lines_of (b ∷ ((c ∷ line) ++ more)) ≡ (b ∷ ((c ∷ line) ++ more)) ∷ []) [
      | true ↦ λ ends h. absurd (omega (arith, h))
      | false ↦ λ goes h.
          ap (λ (t : Bool). cond t ((b ∷ []) ∷ lines_of ((c ∷ line) ++ more)) (onto_first b (lines_of ((c ∷ line) ++ more)))) goes ∙
          ap (λ (ls : List (List ℕ)). onto_first b ls) (one_line (c ∷ line) more (omega (arith, h)) blank one)
    ] refl whole

-- what comes last, and is X (88), is said last
x_said : (octets : List ℕ) (behind : Bool) → (text : List ℕ) × (said_behind behind (octets ++ 88 ∷ []) ≡ text ++ 88 ∷ [])
x_said [] true = ([], refl)
x_said [] false = ([], refl)
x_said (b ∷ octets) behind =
    elim (b == 10) as (λ (t : Bool). (text : List ℕ) × (cond t (said_behind true (octets ++ 88 ∷ []))
    (cond (is_return b (octets ++ 88 ∷ []) || (behind && is_blank b)) (said_behind false (octets ++ 88 ∷ []))
    (b ∷ said_behind false (octets ++ 88 ∷ []))) ≡ text ++ 88 ∷ [])) [
      | true ↦ x_said octets true
      | false ↦ elim (is_return b (octets ++ 88 ∷ []) || (behind && is_blank b)) as (λ (t : Bool). (text : List ℕ)
          × (cond t (said_behind false (octets ++ 88 ∷ [])) (b ∷ said_behind false (octets ++ 88 ∷ [])) ≡ text ++ 88 ∷ [])) [
            | true ↦ x_said octets false
            | false ↦ let rest = x_said octets false in (b ∷ rest.0, ap (λ (t : List ℕ). b ∷ t) rest.1)
          ]
    ]

not_among : (x : ℕ) (xs : List ℕ) (i : ℕ) → list_any (λ c. c == x) xs ≡ false → i < length xs → get_or xs i 0 ≡ x → ⊥
not_among x [] i none within is = omega (arith, within)
not_among x (y ∷ xs) zero none within is =
    let apart : y ≢ x = eqb-false y x (or_parts (y == x) (list_any (λ c. c == x) xs) none).0 in apart is
not_among x (y ∷ xs) (suc i) none within is =
    not_among x xs i (or_parts (y == x) (list_any (λ c. c == x) xs) none).1 (omega (arith, within)) is

-- a line that ends in X neither ends a calendar nor is empty
x_line : (octets : List ℕ) → (ends_calendar (octets ++ 88 ∷ []) ≡ false) × (is_empty (octets ++ 88 ∷ []) ≡ false)
x_line octets =
    let text = x_said octets false in
    let other = says_else text.0 88 (λ short at. not_among 88 (codes "END:VCALENDAR") (length text.0) refl short at) [] in (
      ap (λ (t : List ℕ). same_text (map to_ascii_uppercase t) (codes "END:VCALENDAR")) text.1 ∙ other.ends,
      ap (λ (t : List ℕ). same_text (map to_ascii_uppercase t) []) text.1 ∙ other.empty,
    )

-- the line goes on after a fold, and says X last: the message has all bytes
module _ (octets line : List ℕ) (all_empty : Bool) (begun : StaysPassing octets line all_empty) (whole : line_length line ≡ length line)
  where
    all_of_it : (front : List ℕ) → begins_blank (front ++ 88 ∷ []) ≡ true → lines_of (front ++ 88 ∷ []) ≡ (front ++ 88 ∷ []) ∷ [] →
        messages_of (octets ++ (front ++ 88 ∷ [])) ≡ (octets ++ (front ++ 88 ∷ [])) ∷ []
    unfolding messages_of
    all_of_it front blank one =
        let more : List ℕ = front ++ 88 ∷ [] in
        let came = begun more in
        let last : List ℕ = line ++ more in
        let says : (ends_calendar last ≡ false) × (is_empty last ≡ false) =
        subst (λ (t : List ℕ). (ends_calendar t ≡ false) × (is_empty t ≡ false)) (append_assoc line front (88 ∷ []))
        (x_line (line ++ front)) in
        let lines : lines_of (octets ++ more) ≡ came.passed ++ last ∷ [] =
        came.lines ∙ ap (λ (ls : List (List ℕ)). came.passed ++ ls) (one_line line more whole blank one) in
        let some : list_all is_empty (came.passed ++ last ∷ []) ≡ false =
        list_all-append is_empty came.passed (last ∷ []) ∙ ap (λ (b : Bool). list_all is_empty came.passed && (b && true)) says.1 ∙
        and_false (list_all is_empty came.passed) in
        let text : concat (came.passed ++ last ∷ []) ≡ octets ++ more = concat_push came.passed last ∙ sym came.whole in
        ap (λ (ls : List (List ℕ)). texts_of (groups_of ls)) lines
        ∙ none_texts (came.passed ++ last ∷ []) (none_ends_more came.passed last came.none_ends says.0)
        ∙ ap (λ (b : Bool). cond b [] (concat (came.passed ++ last ∷ []) ∷ [])) some
        ∙ ap (λ (t : List ℕ). t ∷ []) text

    first_is : (front cut after : List ℕ) → begins_blank (front ++ 88 ∷ []) ≡ true →
        lines_of (front ++ 88 ∷ []) ≡ (front ++ 88 ∷ []) ∷ [] → StaysCut octets cut after → octets ++ (front ++ 88 ∷ []) ≡ cut
    first_is front cut after blank one stays =
        let same : (octets ++ (front ++ 88 ∷ [])) ∷ [] ≡ cut ∷ messages_of (after ++ (front ++ 88 ∷ [])) =
        sym (all_of_it front blank one) ∙ (stays (front ++ 88 ∷ [])).messages in
        cc

    -- no message that is cut off is the same whatever follows: with one more byte the first is one byte longer
    pub not_cut : (cut after : List ℕ) → StaysCut octets cut after → ⊥
    not_cut cut after stays =
        let one : length (octets ++ 32 ∷ (88 ∷ [])) ≡ length cut = ap length (first_is (32 ∷ []) cut after refl refl stays) in
        let two : length (octets ++ 32 ∷ (88 ∷ (88 ∷ []))) ≡ length cut = ap length (first_is (32 ∷ (88 ∷ [])) cut after refl refl stays) in
        let short = length-append octets (32 ∷ (88 ∷ [])) in
        let long = length-append octets (32 ∷ (88 ∷ (88 ∷ []))) in
        omega (arith, one, two, short, long)
