use Rattle.std.specs.Str.{IsUtf8}
use Rattle.itip_recur.proofs.Numbers.{IsUtf8-digits, refused}
use Rattle.itip_recur.proofs.elements.read_number.Goals as goal

pub returns-in_err-ok : goal.returns-in_err-ok
returns-in_err-ok c =
    rw c.from_residual-in_err-ok.ensures
    (λ n is. refused c.from_utf8.result _ (IsUtf8 c.args.text.now) _ c.in_err-ok.ensures.value c.from_utf8.ensures.cases
    (IsUtf8-digits c.args.text.now is.digits.1))
