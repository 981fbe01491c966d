-- Stretches of lines between commands.
use Rattle.std.proofs.Common.{◌≡◌, ℕ, ◌+◌, ◌-◌, Bool, true, false, cond, ◌&&◌, List, [], ◌∷◌, ◌++◌, length, take, refl, sym, ap, ◌∙◌}
use Rattle.std.proofs.Common.{append_assoc, arith}
use Rattle.std.proofs.lemmas.List.{append-nil, length-append, take_at}
use Rattle.std.proofs.Math.Bool.{and-true, and_assoc}
use Rattle.std.specs.List.{concat, list_all}
use Rattle.itip_script.specs.Lines.{lines_of, content_of, is_command, is_empty, before_command, from_command, IsFirstLine, Passes}
use Rattle.itip_script.specs.Orders.{Order, malformed, order_at, is_take}
use Rattle.itip_script.specs.Script.{stray, given_by, given_from, orders_of, GivesFirst}

-- what comes from the first command on has nothing before a command
pub before_command-from_command : (lines : List (List ℕ)) → before_command (from_command lines) ≡ []
before_command-from_command [] = refl
before_command-from_command (line ∷ lines) =
    elim (is_command line) as (λ b. is_command line ≡ b → before_command (cond b (line ∷ lines) (from_command lines)) ≡ []) [
      | true ↦ λ e. ap (λ (t : Bool). cond t [] (line ∷ before_command lines)) e
      | false ↦ λ e. before_command-from_command lines
    ] refl

pub given_from-from_command : (lines : List (List ℕ)) → given_from (from_command lines) ≡ given_from lines
given_from-from_command [] = refl
given_from-from_command (line ∷ lines) =
    elim (is_command line) as (λ b. is_command line ≡ b →
    given_from (cond b (line ∷ lines) (from_command lines)) ≡ cond b (given_by line (before_command lines) ++ given_from lines)
    (given_from lines)) [
      | true ↦ λ e. ap (λ (t : Bool). cond t (given_by line (before_command lines) ++ given_from lines) (given_from lines)) e
      | false ↦ λ e. given_from-from_command lines
    ] refl

pub first_is_command : (lines : List (List ℕ)) (line : List ℕ) (others : List (List ℕ)) → from_command lines ≡ line ∷ others →
    is_command line ≡ true
first_is_command [] line others e = absurd cc
first_is_command (l ∷ lines) line others e =
    elim (is_command l) as (λ b. is_command l ≡ b → cond b (l ∷ lines) (from_command lines) ≡ line ∷ others → is_command line ≡ true) [
      | true ↦ λ known same. let head : l ≡ line = cc in rw (← head) known
      | false ↦ λ known same. first_is_command lines line others same
    ] refl e

-- the commands after a stretch of lines
pub orders_of_after : (bytes after : List ℕ) → lines_of after ≡ from_command (lines_of bytes) →
    orders_of after ≡ given_from (lines_of bytes)
orders_of_after bytes after e =
    rw (e, before_command-from_command (lines_of bytes)) (given_from-from_command (lines_of bytes))

-- a line that is no command is passed
pub pass_line : (bytes rest line after : List ℕ) (blank : Bool) → Passes bytes rest blank → IsFirstLine rest line after →
    is_command line ≡ false → Passes bytes after (blank && is_empty line)
pass_line bytes rest line after blank so_far first plain =
    let before : before_command (lines_of rest) ≡ line ∷ before_command (lines_of after) = ap before_command first.lines ∙
    ap (λ (t : Bool). cond t [] (line ∷ before_command (lines_of after))) plain in
    let behind : from_command (lines_of rest) ≡ from_command (lines_of after) = ap from_command first.lines ∙
    ap (λ (t : Bool). cond t (line ∷ lines_of after) (from_command (lines_of after))) plain in
    record {
      front = so_far.front ++ line;
      whole = so_far.whole ∙ ap (λ (t : List ℕ). so_far.front ++ t) first.whole ∙ sym (append_assoc so_far.front line after);
      text = append_assoc so_far.front line (concat (before_command (lines_of after))) ∙
          ap (λ (t : List (List ℕ)). so_far.front ++ concat t) (sym before) ∙ so_far.text;
      blanks = and_assoc blank (is_empty line) (list_all is_empty (before_command (lines_of after))) ∙
          ap (λ (t : List (List ℕ)). blank && list_all is_empty t) (sym before) ∙ so_far.blanks;
      after = sym behind ∙ so_far.after;
    }

pub start_passing : (bytes : List ℕ) → Passes bytes bytes true
start_passing bytes = record { front = []; whole = refl; text = refl; blanks = refl; after = refl }

-- where the passing ends, at a command or at the end
pub passed_all : (bytes rest : List ℕ) (blank : Bool) → Passes bytes rest blank → before_command (lines_of rest) ≡ [] →
    (take (length bytes - length rest) bytes ≡ concat (before_command (lines_of bytes))) ×
    (blank ≡ list_all is_empty (before_command (lines_of bytes)))
passed_all bytes rest blank so_far none =
    let front : so_far.front ≡ concat (before_command (lines_of bytes)) = sym (append-nil so_far.front) ∙
    ap (λ (t : List (List ℕ)). so_far.front ++ concat t) (sym none) ∙ so_far.text in
    let long : length bytes ≡ length so_far.front + length rest = ap length so_far.whole ∙ length-append so_far.front rest in
    let count : length so_far.front ≡ length bytes - length rest = omega (arith, long) in (
      ap (λ (t : List ℕ). take (length bytes - length rest) t) so_far.whole ∙
          take_at so_far.front rest (length bytes - length rest) count ∙ front,
      sym (and-true blank) ∙ ap (λ (t : List (List ℕ)). blank && list_all is_empty t) (sym none) ∙ so_far.blanks,
    )

-- the commands if a stretch before the first command is not blank, and if it is
pub orders_of_stray : (bytes after : List ℕ) → list_all is_empty (before_command (lines_of bytes)) ≡ false →
    lines_of after ≡ from_command (lines_of bytes) → orders_of bytes ≡ malformed ∷ orders_of after
orders_of_stray bytes after full behind =
    ap (λ (t : Bool). cond t [] (malformed ∷ []) ++ given_from (lines_of bytes)) full
    ∙ ap (λ (t : List Order). malformed ∷ t) (sym (orders_of_after bytes after behind))

pub orders_of_blank : (bytes after : List ℕ) → list_all is_empty (before_command (lines_of bytes)) ≡ true →
    lines_of after ≡ from_command (lines_of bytes) → orders_of bytes ≡ orders_of after
orders_of_blank bytes after blank behind =
    ap (λ (t : Bool). cond t [] (malformed ∷ []) ++ given_from (lines_of bytes)) blank
    ∙ sym (orders_of_after bytes after behind)

-- the commands if a command line comes first
pub orders_of_first : (bytes here line after rest : List ℕ) (order : Order) → lines_of here ≡ from_command (lines_of bytes) →
    lines_of here ≡ line ∷ lines_of after → GivesFirst line after order rest → orders_of here ≡ order ∷ orders_of rest
orders_of_first bytes here line after rest order behind cut gives =
    let known : is_command line ≡ true = first_is_command (lines_of bytes) line (lines_of after) (sym behind ∙ cut) in
    rw cut (ap (λ (t : Bool). stray (cond t [] (line ∷ before_command (lines_of after))) ++
    cond t (given_by line (before_command (lines_of after)) ++ given_from (lines_of after)) (given_from (lines_of after))) known ∙
    gives)

-- a `!take` and its message
pub gives_take : (line after rest message : List ℕ) (order : Order) → is_take (content_of line) ≡ true →
    message ≡ concat (before_command (lines_of after)) → order ≡ order_at (content_of line) message →
    lines_of rest ≡ from_command (lines_of after) → GivesFirst line after order rest
gives_take line after rest message order taken text said behind =
    ap (λ (t : Bool). cond t (order_at (content_of line) (concat (before_command (lines_of after))) ∷ []) (order_at (content_of line) [] ∷
    stray (before_command (lines_of after))) ++ given_from (lines_of after)) taken
    ∙ ap (λ (t : List ℕ). order_at (content_of line) t ∷ given_from (lines_of after)) (sym text)
    ∙ ap (λ (t : Order). t ∷ given_from (lines_of after)) (sym said)
    ∙ ap (λ (t : List Order). order ∷ t) (sym (orders_of_after after rest behind))

-- any other command
pub gives_other : (line after : List ℕ) (order : Order) → is_take (content_of line) ≡ false → order ≡ order_at (content_of line) [] →
    GivesFirst line after order after
gives_other line after order other said =
    ap (λ (t : Bool). cond t (order_at (content_of line) (concat (before_command (lines_of after))) ∷ []) (order_at (content_of line) [] ∷
    stray (before_command (lines_of after))) ++ given_from (lines_of after)) other
    ∙ ap (λ (t : Order). t ∷ (stray (before_command (lines_of after)) ++ given_from (lines_of after))) (sym said)

-- the same after a blank stretch
pub orders_of_blank_first : (bytes here line after rest : List ℕ) (order : Order) →
    list_all is_empty (before_command (lines_of bytes)) ≡ true → lines_of here ≡ from_command (lines_of bytes) → lines_of here ≡ line ∷
    lines_of after → GivesFirst line after order rest → orders_of bytes ≡ order ∷ orders_of rest
orders_of_blank_first bytes here line after rest order blank behind cut gives =
    orders_of_blank bytes here blank behind ∙ orders_of_first bytes here line after rest order behind cut gives
