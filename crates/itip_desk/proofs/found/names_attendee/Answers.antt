use Rattle.std.proofs.Common.{◌≡◌, ◌+◌, ◌<◌, ◌≤◌, ◌++◌, ◌∷◌, ◌∙◌, ℕ, List, [], inl}
use Rattle.std.proofs.Common.{inr, take, take_all, length, get_or, true, false, sym, ap, subst, arith}
use Rattle.std.specs.List.{Contains}
use Rattle.std.proofs.lemmas.List.{take_more}
use Rattle.std.proofs.lemmas.List.Elements.{Contains-push_cases}
use Rattle.itip_todo.specs.Table.{attendee_key}
use Rattle.itip_todo.specs.Properties.{Property}
use Rattle.itip_desk.proofs.found.names_attendee.Goals as goal

one_more : (xs : List Property) (i : ℕ) (x : Property) → i < length xs → x ≡ get_or xs i x → take (i + 1) xs ≡ take i xs ++ x ∷ []
one_more xs i x below is = take_more xs i x below ∙ ap (λ (y : Property). take i xs ++ y ∷ []) (sym is)

pub loop-line-preserved : goal.loop-line-preserved
loop-line-preserved c = λ line h named.
    let i : ℕ = c.loop-line.line-index in
    let x : Property = c.line-item.result in
    let more : take (i + 1) c.args.item.now.todo.attendees ≡ take i c.args.item.now.todo.attendees ++ x ∷ [] =
    subst (λ (xs : List Property). take (i + 1) xs ≡ take i xs ++ x ∷ []) c.as_slice-line-items.ensures
    (one_more c.as_slice-line-items.result.now i x c.loop-line-test.true c.line-item.is) in
    elim (Contains-push_cases (take i c.args.item.now.todo.attendees) x line (subst (λ (xs : List Property). Contains xs line) more h)) [
      | inl before ↦ c.loop-line.invariant line before named
      | inr one ↦
          let is : true ≡ false = sym (c.eq_ignore_ascii_case.ensures.test.1 (ap attendee_key c.value.ensures ∙
          ap (λ (l : Property). attendee_key l.value) one ∙ named)) ∙ c.if-eq_ignore_ascii_case.false in
          absurd (cc)
    ]

pub returns : goal.returns
returns c = (
  λ is. absurd (cc),
  λ names. absurd (c.loop-line.invariant names.line
      (subst (λ (xs : List Property). Contains xs names.line) (sym (take_all c.loop-line.line-index c.args.item.now.todo.attendees
      (subst (λ (xs : List Property). length xs ≤ c.loop-line.line-index) c.as_slice-line-items.ensures
      (omega (arith, c.loop-line-test.false)))))
      names.there) names.named),
)
