use Rattle.std.proofs.Common.{◌≡◌, true, false, sym, subst}
use Rattle.itip_lines.specs.Room.{StandsInPlace}
use Rattle.itip_lines.proofs.text.Text.copy.Goals as goal

pub returns-in_err-octets-clause-room : goal.returns-in_err-octets-clause-room
returns-in_err-octets-clause-room c = λ short.
    let no : false ≡ true = c.in_err-octets.ensures.succeeds (subst StandsInPlace (sym c.as_bytes.ensures.value) short) in absurd cc
