use Rattle.std.proofs.Common.{◌≡◌, ◌≢◌, ◌∙◌, sym, ap, refl, suc, ℕ, ◌+◌, ◌<◌, Bool, true, false, cond, not, List, [], ◌∷◌, ◌++◌, append-nil}
use Rattle.std.proofs.Common.{length, length-append, arith}
use Rattle.std.specs.Prelude.{◌&&◌}
use Rattle.std.proofs.lemmas.Bool.{ne_eqb}
use Rattle.std.proofs.lemmas.List.Elements.{All-head, All-tail}
use Rattle.itip_lines.specs.UnfoldedLines.{HasNoLf}
use Rattle.itip_message.specs.Scanned.{begins_blank, line_length}
use Rattle.itip_message.proofs.cutting.line_length.Goals as goal

past : (front rest : List ℕ) → HasNoLf front → line_length (front ++ rest) ≡ length front + line_length rest
past [] rest none = omega arith
past (b ∷ front) rest none =
    ap (λ (t : Bool). cond (t && not (begins_blank (front ++ rest))) 1 (suc (line_length (front ++ rest))))
    (ne_eqb b 10 (All-head (λ x. x ≢ 10) b front none))
    ∙ ap suc (past front rest (All-tail (λ x. x ≢ 10) b front none)) ∙ omega arith

-- the line ends behind the first LF, or goes on there
past_lf : (text front after : List ℕ) (blank : Bool) → HasNoLf front → text ≡ front ++ 10 ∷ after → begins_blank after ≡ blank →
    (line_length text + length after ≡ length text + cond blank (line_length after) 0) × (length after < length text)
past_lf text front after blank none whole is =
    let long : length text ≡ length front + (length after + 1) = ap length whole ∙ length-append front (10 ∷ after) ∙ omega arith in
    let to_lf : line_length text ≡ length front + cond (not blank) 1 (suc (line_length after)) =
    ap line_length whole ∙ past front (10 ∷ after) none ∙ ap (λ (t : Bool). length front + cond (not t) 1 (suc (line_length after))) is in (
      elim blank as (λ t. line_length text ≡ length front + cond (not t) 1 (suc (line_length after)) →
          line_length text + length after ≡ length text + cond t (line_length after) 0)
          [ true ↦ λ e. omega (arith, e, long) | false ↦ λ e. omega (arith, e, long) ] to_lf,
      omega (arith, long),
    )

all_of : (text : List ℕ) → HasNoLf text → line_length text ≡ length text
all_of text none = ap line_length (sym (append-nil text)) ∙ past text [] none ∙ omega arith

pub returns-then-not-begins_blank-clause-exact : goal.returns-then-not-begins_blank-clause-exact
returns-then-not-begins_blank-clause-exact c =
    let rest : List ℕ = c.loop-after.rest.now in
    let after : List ℕ = c.in-Some.after.now in
    let ends : line_length rest + length after ≡ length rest + 0 =
    (past_lf rest _ after false c.in-Some.ensures.0 c.in-Some.ensures.1 (sym c.begins_blank.ensures ∙ c.if-not-begins_blank.true)).0 in
    omega (arith, c.loop-after.invariant.exact, c.loop-after.invariant.within, ends)

pub loop-after-preserved : goal.loop-after-preserved
loop-after-preserved c =
    let rest : List ℕ = c.loop-after.rest.now in
    let after : List ℕ = c.in-Some.after.now in
    let goes_on : (line_length rest + length after ≡ length rest + line_length after) × (length after < length rest) =
    past_lf rest _ after true c.in-Some.ensures.0 c.in-Some.ensures.1 (sym c.begins_blank.ensures ∙ c.if-not-begins_blank.false) in
    let was = c.loop-after.invariant in
    record { exact = omega (arith, was.exact, goes_on.0); within = omega (arith, was.within, goes_on.1) }

pub loop-after-smaller : goal.loop-after-smaller
loop-after-smaller c =
    (past_lf c.loop-after.rest.now _ c.in-Some.after.now _ c.in-Some.ensures.0 c.in-Some.ensures.1 refl).1

pub returns-clause-exact : goal.returns-clause-exact
returns-clause-exact c =
    let all : line_length c.loop-after.rest.now ≡ length c.loop-after.rest.now = all_of c.loop-after.rest.now c.in_default.ensures in
    omega (arith, c.loop-after.invariant.exact, c.loop-after.invariant.within, all)
