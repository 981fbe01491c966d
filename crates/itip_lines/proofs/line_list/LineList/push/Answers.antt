use Rattle.std.proofs.Common.{◌≡◌, ◌++◌, ◌∷◌, [], ℕ, List, sym, subst}
use Rattle.std.specs.Prelude.{OnOk}
use Rattle.itip_lines.specs.Joining.{IsOneLine}
use Rattle.itip_lines.proofs.Joined.{each_line}
use Rattle.itip_lines.proofs.LineLists.{pushed_are, pushed_lines, kept_lines}
use Rattle.itip_lines.proofs.line_list.LineList.push.Goals as goal

pub push-requires : goal.push-requires
push-requires c = subst IsOneLine (sym c.as_str.ensures) (each_line (c.args.line.now ∷ [])).0

pub invariant_of-self-inside : goal.invariant_of-self-inside
invariant_of-self-inside c = (
  pushed_are c.push.result c.self.inside.texts c.push.new.self c.self.inside.lines c.args.line.now
      (subst (λ (t : List ℕ). OnOk c.push.result (c.push.new.self ≡ c.self.inside.texts ++ t ∷ [])) c.as_str.ensures c.push.ensures.pushed)
      c.push.ensures.err,
  tt,
)

pub returns-clause-pushed : goal.returns-clause-pushed
returns-clause-pushed c =
    pushed_lines c.push.result c.self.inside.texts c.push.new.self c.self.inside.lines _ c.args.self.now c.args.line.now c.self.view_is
    (subst (λ (t : List ℕ). OnOk c.push.result (c.push.new.self ≡ c.self.inside.texts ++ t ∷ [])) c.as_str.ensures c.push.ensures.pushed)

pub returns-clause-err : goal.returns-clause-err
returns-clause-err c =
    kept_lines c.push.result c.self.inside.texts c.push.new.self c.self.inside.lines _ c.args.self.now c.self.view_is c.push.ensures.err
