-- Lines that are passed whatever bytes come after them.
use Rattle.std.proofs.Common.{◌≡◌, ◌∙◌, sym, ap, refl, ℕ, zero, suc, ◌<◌, ◌≤◌, ◌-◌, ◌+◌, Bool, true, false, cond, ◌&&◌, List, [], ◌∷◌, ◌++◌}
use Rattle.std.proofs.Common.{length, take, drop, arith, subst}
use Rattle.std.proofs.lemmas.List.{length-append}
use Rattle.itip_message.specs.Scanned.{line_length, ends_line, ends_calendar, is_empty, CutsMessage, StaysCut}
use Rattle.itip_message.specs.Passing.{IsFirstLine, StaysFirstLine, StaysPassing}
use Rattle.itip_message.proofs.FirstLines.{is_first_line}
use Rattle.itip_message.proofs.Messages.{start_passing, pass_line, message_ends}

length_stays : (bytes more : List ℕ) → line_length bytes < length bytes → line_length (bytes ++ more) ≡ line_length bytes
length_stays [] more within = absurd (omega (arith, within))
length_stays (b ∷ []) more within =
    let one : ◌≡◌ {A = ℕ} (line_length (b ∷ [])) 1 =
    elim (ends_line b []) as (λ (t : Bool). ◌≡◌ {A = ℕ} (cond t 1 1) 1) [ true ↦ refl | false ↦ refl ] in
    absurd (omega (arith, within, one))
length_stays (b ∷ (c ∷ bytes)) more within =
    elim (ends_line b (c ∷ bytes)) as (λ (t : Bool). cond t 1 (suc (line_length (c ∷ bytes))) < suc (length (c ∷ bytes)) →
    cond t 1 (suc (line_length ((c ∷ bytes) ++ more))) ≡ cond t 1 (suc (line_length (c ∷ bytes)))) [
      | true ↦ λ h. refl
      | false ↦ λ h. ap suc (length_stays (c ∷ bytes) more (omega (arith, h)))
    ] within

take_front : (n : ℕ) (xs ys : List ℕ) → n ≤ length xs → take n (xs ++ ys) ≡ take n xs
take_front zero xs ys within = refl
take_front (suc n) [] ys within = absurd (omega (arith, within))
take_front (suc n) (x ∷ xs) ys within = ap (λ (t : List ℕ). x ∷ t) (take_front n xs ys (omega (arith, within)))

drop_front : (n : ℕ) (xs ys : List ℕ) → n ≤ length xs → drop n (xs ++ ys) ≡ drop n xs ++ ys
drop_front zero xs ys within = refl
drop_front (suc n) [] ys within = absurd (omega (arith, within))
drop_front (suc n) (x ∷ xs) ys within = drop_front n xs ys (omega (arith, within))

-- a line that a byte follows is the first line, whatever comes after it
pub line_stays : (bytes : List ℕ) (n : ℕ) → n ≡ line_length bytes → n < length bytes → StaysFirstLine bytes (take n bytes) (drop n bytes)
line_stays bytes n is within = λ more.
    let inside : line_length bytes < length bytes = omega (arith, is, within) in
    let long : length (bytes ++ more) ≡ length bytes + length more = length-append bytes more in
    let first : IsFirstLine (bytes ++ more) (take (line_length (bytes ++ more)) (bytes ++ more))
    (drop (line_length (bytes ++ more)) (bytes ++ more)) =
    is_first_line (bytes ++ more) (omega (arith, long, within)) in
    let same : line_length (bytes ++ more) ≡ n = length_stays bytes more inside ∙ sym is in
    let at : IsFirstLine (bytes ++ more) (take n (bytes ++ more)) (drop n (bytes ++ more)) =
    subst (λ (k : ℕ). IsFirstLine (bytes ++ more) (take k (bytes ++ more)) (drop k (bytes ++ more))) same first in
    subst (λ (t : List ℕ). IsFirstLine (bytes ++ more) t (drop n bytes ++ more)) (take_front n bytes more (omega (arith, within)))
    (subst (λ (t : List ℕ). IsFirstLine (bytes ++ more) (take n (bytes ++ more)) t) (drop_front n bytes more (omega (arith, within))) at)

pub stays_begin : (bytes : List ℕ) → StaysPassing bytes bytes true
stays_begin bytes = λ more. start_passing (bytes ++ more)

pub stays_more : (bytes rest line after : List ℕ) (blank : Bool) → StaysPassing bytes rest blank → StaysFirstLine rest line after →
    ends_calendar line ≡ false → StaysPassing bytes after (blank && is_empty line)
stays_more bytes rest line after blank so_far first not = λ more.
    pass_line (bytes ++ more) (rest ++ more) line (after ++ more) blank (so_far more) (first more) not

-- with a line that ends a calendar the message ends
pub stays_end : (bytes rest line after message : List ℕ) (blank : Bool) → StaysPassing bytes rest blank → StaysFirstLine rest line after →
    ends_calendar line ≡ true → length after ≤ length bytes
    → message ≡ take (length bytes - length after) bytes → StaysCut bytes message after
stays_end bytes rest line after message blank so_far first ends within is = λ more.
    let cut = message_ends (bytes ++ more) (rest ++ more) line (after ++ more) blank (so_far more) (first more) ends in
    let a : length (bytes ++ more) ≡ length bytes + length more = length-append bytes more in
    let b : length (after ++ more) ≡ length after + length more = length-append after more in
    let count : length (bytes ++ more) - length (after ++ more) ≡ length bytes - length after = omega (arith, a, b, within) in
    let text : take (length (bytes ++ more) - length (after ++ more)) (bytes ++ more) ≡ message =
    ap (λ (k : ℕ). take k (bytes ++ more)) count ∙ take_front (length bytes - length after) bytes more (omega (arith, within)) ∙ sym is in
    subst (λ (t : List ℕ). CutsMessage (bytes ++ more) t (after ++ more)) text cut

-- what has bytes is not empty
pub none_left : (bytes after : List ℕ) → 0 < length after → after ≡ [] → bytes ≡ []
none_left bytes after some none = absurd (let e : length after ≡ 0 = ap length none in omega (arith, e, some))
