use Rattle.std.proofs.Common.{◌≡◌, ◌∙◌, ap, sym, ◌∷◌, [], ℕ, List, Option, Some, None, false}
use Rattle.std.specs.Option.{is_some}
use Rattle.std.specs.Prelude.{MatchOption}
use Rattle.itip_lines.specs.TextsLeft.{texts_left}
use Rattle.itip_recur.proofs.RuleTexts.{no_rule_of}
use Rattle.itip_recur.proofs.todo_shape.rule_of.Goals as goal

no_more : {A : Type 0} (o : Option A) (P : Type 0) (Q : A → Type 0) → is_some o ≡ false → MatchOption o P Q → P
no_more None P Q e h = h
no_more (Some x) P Q e h = absurd cc

pub returns-in-None : goal.returns-in-None
returns-in-None c =
    let none = rw c.in-None.is at c.in_ok-rule.ensures in
    let end : texts_left c.next.new.self ≡ [] =
    (no_more c.next-2.result _ _ (sym c.is_some.ensures ∙ c.if-is_some.false) c.next-2.ensures.steps).0 in
    no_rule_of c.args.rules.now c.args.start.now c.in-Some.text.now (sym c.iter-texts.ensures ∙ c.in-Some.ensures.steps ∙
    ap (λ (rest : List (List ℕ)). c.in-Some.text.now ∷ rest) end) none
