-- Lines that are passed, and the message that they make.
use Rattle.std.proofs.Common.{◌≡◌, ℕ, ◌+◌, ◌-◌, ◌<◌, Bool, true, false, cond, ◌&&◌, List, [], ◌∷◌, ◌++◌, length, map, take, refl, sym, ap}
use Rattle.std.proofs.Common.{◌∙◌, append_assoc, arith}
use Rattle.std.specs.Prelude.{codes}
use Rattle.std.specs.Char.{to_ascii_uppercase}
use Rattle.std.specs.List.{onto_first, concat, list_all, AllByRecursion}
use Rattle.std.proofs.lemmas.List.{append-nil, length-append, take_at}
use Rattle.std.proofs.lemmas.List.Folds.{list_all-append}
use Rattle.std.proofs.Math.Bool.{and-true}
use Rattle.itip_todo.specs.Participation.{same_text}
use Rattle.itip_message.specs.Scanned.{lines_of, said, says, is_empty, ends_calendar, groups_of, texts_of, messages_of, CutsMessage}
use Rattle.itip_message.specs.Passing.{IsFirstLine, Passes}

-- lines up to one that ends a calendar are a group
pub groups_end : (passed : List (List ℕ)) (line : List ℕ) (rest : List (List ℕ)) →
    AllByRecursion (λ line. ends_calendar line ≡ false) passed → ends_calendar line ≡ true
    → groups_of (passed ++ line ∷ rest) ≡ (passed ++ line ∷ []) ∷ groups_of rest
groups_end [] line rest none ends = ap (λ (t : Bool). cond t ((line ∷ []) ∷ groups_of rest) (onto_first line (groups_of rest))) ends
groups_end (l ∷ ls) line rest none ends =
    ap (λ (t : Bool). cond t ((l ∷ []) ∷ groups_of (ls ++ line ∷ rest)) (onto_first l (groups_of (ls ++ line ∷ rest)))) none.0
    ∙ ap (λ (gs : List (List (List ℕ))). onto_first l gs) (groups_end ls line rest none.1 ends)

-- and so are lines of which none does
pub groups_none : (l : List ℕ) (ls : List (List ℕ)) → AllByRecursion (λ line. ends_calendar line ≡ false) (l ∷ ls) →
    groups_of (l ∷ ls) ≡ (l ∷ ls) ∷ []
groups_none l [] none = ap (λ (t : Bool). cond t ((l ∷ []) ∷ []) ((l ∷ []) ∷ [])) none.0
groups_none l (m ∷ ls) none =
    ap (λ (t : Bool). cond t ((l ∷ []) ∷ groups_of (m ∷ ls)) (onto_first l (groups_of (m ∷ ls)))) none.0
    ∙ ap (λ (gs : List (List (List ℕ))). onto_first l gs) (groups_none m ls none.1)

says_no_other : (text : List ℕ) → same_text text (codes "END:VCALENDAR") ≡ true → same_text text [] ≡ false
says_no_other [] says = absurd cc
says_no_other (b ∷ text) says = refl

pub not_empty : (passed : List (List ℕ)) (line : List ℕ) → ends_calendar line ≡ true → list_all is_empty (passed ++ line ∷ []) ≡ false
not_empty [] line ends = ap (λ (t : Bool). t && true) (says_no_other (map to_ascii_uppercase (said line)) ends)
not_empty (p ∷ passed) line ends =
    ap (λ (t : Bool). is_empty p && t) (not_empty passed line ends) ∙ and_false (is_empty p)
  where
    and_false : (b : Bool) → (b && false) ≡ false
    and_false true = refl
    and_false false = refl

pub concat_push : (lines : List (List ℕ)) (line : List ℕ) → concat (lines ++ line ∷ []) ≡ concat lines ++ line
concat_push [] line = append-nil line
concat_push (l ∷ lines) line = ap (λ (t : List ℕ). l ++ t) (concat_push lines line) ∙ sym (append_assoc l (concat lines) line)

-- the text of the first group
pub texts_end : (passed : List (List ℕ)) (line : List ℕ) (rest : List (List ℕ)) →
    AllByRecursion (λ line. ends_calendar line ≡ false) passed → ends_calendar line ≡ true
    → texts_of (groups_of (passed ++ line ∷ rest)) ≡ concat (passed ++ line ∷ []) ∷ texts_of (groups_of rest)
texts_end passed line rest none ends =
    ap texts_of (groups_end passed line rest none ends)
    ∙ ap (λ (t : Bool). cond t (texts_of (groups_of rest)) (concat (passed ++ line ∷ []) ∷ texts_of (groups_of rest)))
    (not_empty passed line ends)

pub start_passing : (bytes : List ℕ) → Passes bytes bytes true
start_passing bytes = record { passed = []; whole = refl; lines = refl; none_ends = tt; blank_is = refl }

pub none_ends_more : (passed : List (List ℕ)) (line : List ℕ) → AllByRecursion (λ line. ends_calendar line ≡ false) passed →
    ends_calendar line ≡ false → AllByRecursion (λ line. ends_calendar line ≡ false) (passed ++ line ∷ [])
none_ends_more [] line none not = (not, tt)
none_ends_more (p ∷ passed) line none not = (none.0, none_ends_more passed line none.1 not)

module _ (bytes rest line after : List ℕ) (blank : Bool) (so_far : Passes bytes rest blank) (first : IsFirstLine rest line after) where
  behind : bytes ≡ concat (so_far.passed ++ line ∷ []) ++ after
  behind =
      so_far.whole ∙ ap (λ (t : List ℕ). concat so_far.passed ++ t) first.whole ∙ sym (append_assoc (concat so_far.passed) line after)
      ∙ ap (λ (t : List ℕ). t ++ after) (sym (concat_push so_far.passed line))

  more_lines : lines_of bytes ≡ so_far.passed ++ line ∷ lines_of after
  more_lines = so_far.lines ∙ ap (λ (t : List (List ℕ)). so_far.passed ++ t) first.lines

  -- a line that ends no calendar is passed
  pub pass_line : ends_calendar line ≡ false → Passes bytes after (blank && is_empty line)
  pass_line not = record {
    passed = so_far.passed ++ line ∷ [];
    whole = behind;
    lines = more_lines ∙ sym (append_assoc so_far.passed (line ∷ []) (lines_of after));
    none_ends = none_ends_more so_far.passed line so_far.none_ends not;
    blank_is =
        ap (λ (t : Bool). t && is_empty line) so_far.blank_is
        ∙ ap (λ (t : Bool). list_all is_empty so_far.passed && t) (sym (and-true (is_empty line)))
        ∙ sym (list_all-append is_empty so_far.passed (line ∷ []));
  }

  -- with a line that ends one the message ends
  pub message_ends : ends_calendar line ≡ true → CutsMessage bytes (take (length bytes - length after) bytes) after
  unfolding messages_of
  message_ends ends =
      let long : length bytes ≡ length (concat (so_far.passed ++ line ∷ [])) + length after = ap length behind ∙
      length-append (concat (so_far.passed ++ line ∷ [])) after in
      let some : 0 < length line = first.some in
      let front : length (concat (so_far.passed ++ line ∷ [])) ≡ length (concat so_far.passed) + length line =
      ap length (concat_push so_far.passed line) ∙ length-append (concat so_far.passed) line in
      let count : length (concat (so_far.passed ++ line ∷ [])) ≡ length bytes - length after = omega (arith, long) in
      let text : take (length bytes - length after) bytes ≡ concat (so_far.passed ++ line ∷ []) =
      ap (λ (t : List ℕ). take (length bytes - length after) t) behind ∙
      take_at (concat (so_far.passed ++ line ∷ [])) after (length bytes - length after) count in
      record {
        messages = ap (λ (t : List (List ℕ)). texts_of (groups_of t)) more_lines ∙
            texts_end so_far.passed line (lines_of after) so_far.none_ends ends
            ∙ ap (λ (t : List ℕ). t ∷ texts_of (groups_of (lines_of after))) (sym text);
        shorter = omega (arith, long, some, front);
      }

-- where nothing is left
all_lines : (bytes rest : List ℕ) (blank : Bool) (so_far : Passes bytes rest blank) → rest ≡ [] → lines_of bytes ≡ so_far.passed
all_lines bytes rest blank so_far none = so_far.lines ∙ ap (λ (t : List ℕ). so_far.passed ++ lines_of t) none ∙ append-nil so_far.passed

texts_empty : (passed : List (List ℕ)) → AllByRecursion (λ line. ends_calendar line ≡ false) passed → list_all is_empty passed ≡ true →
    texts_of (groups_of passed) ≡ []
texts_empty [] none empty = refl
texts_empty (l ∷ ls) none empty = ap texts_of (groups_none l ls none) ∙ ap (λ (t : Bool). cond t [] (concat (l ∷ ls) ∷ [])) empty

texts_last : (passed : List (List ℕ)) → AllByRecursion (λ line. ends_calendar line ≡ false) passed → list_all is_empty passed ≡ false →
    texts_of (groups_of passed) ≡ concat passed ∷ []
texts_last [] none empty = absurd cc
texts_last (l ∷ ls) none empty = ap texts_of (groups_none l ls none) ∙ ap (λ (t : Bool). cond t [] (concat (l ∷ ls) ∷ [])) empty

pub no_message : (bytes rest : List ℕ) (blank : Bool) → Passes bytes rest blank → rest ≡ [] → blank ≡ true → messages_of bytes ≡ []
unfolding messages_of
no_message bytes rest blank so_far none empty =
    ap (λ (t : List (List ℕ)). texts_of (groups_of t)) (all_lines bytes rest blank so_far none) ∙
    texts_empty so_far.passed so_far.none_ends (sym so_far.blank_is ∙ empty)

some_octet : (bytes rest : List ℕ) (blank : Bool) → Passes bytes rest blank → rest ≡ [] → blank ≡ false → 0 < length bytes
some_octet [] rest blank so_far none empty =
    let same : so_far.passed ≡ [] = sym (all_lines [] rest blank so_far none) in
    let e : true ≡ false = ap (list_all is_empty) (sym same) ∙ sym so_far.blank_is ∙ empty in
    absurd cc
some_octet (b ∷ bytes) rest blank so_far none empty = omega arith

pub last_message : (bytes rest : List ℕ) (blank : Bool) → Passes bytes rest blank → rest ≡ [] → blank ≡ false → CutsMessage bytes bytes []
unfolding messages_of
last_message bytes rest blank so_far none empty =
    let text : concat so_far.passed ≡ bytes = sym (append-nil (concat so_far.passed)) ∙
    ap (λ (t : List ℕ). concat so_far.passed ++ t) (sym none) ∙ sym so_far.whole in
    record {
      messages = ap (λ (t : List (List ℕ)). texts_of (groups_of t)) (all_lines bytes rest blank so_far none) ∙
          texts_last so_far.passed so_far.none_ends (sym so_far.blank_is ∙ empty)
          ∙ ap (λ (t : List ℕ). t ∷ []) text;
      shorter = some_octet bytes rest blank so_far none empty;
    }
