use Rattle.std.proofs.Common.{◌≡◌, ℕ, List, [], ◌∷◌, ◌++◌, subst, arith}
use Rattle.std.specs.Prelude.{OnOk}
use Rattle.json.specs.Token.{number}
use Rattle.itip_inbox.proofs.Numerals.{decimal_numeral}
use Rattle.itip_inbox.proofs.json_records.write_digits.Goals as goal

pub returns-clause-tokens : goal.returns-clause-tokens
returns-clause-tokens c =
    subst (λ (text : List ℕ). OnOk c.u64.result (c.u64.new.self.tokens ≡ c.args.writer.now.tokens ++ number text ∷ []))
    (decimal_numeral c.args.number (omega arith)) c.u64.ensures.ok
