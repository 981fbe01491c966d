use Rattle.std.proofs.Common.{◌<◌, ℕ, List, false, sym, ap, subst, refl, inr, arith, length}
use Rattle.std.specs.Str.{IsUtf8}
use Rattle.itip_lines.specs.Reading.{line_at}
use Rattle.itip_lines.specs.SeenOctets.{octets_of}
use Rattle.itip_lines.proofs.Runs.{some_from_test}
use Rattle.itip_lines.proofs.read.push_line.Goals as goal

pub returns-clause-pushed : goal.returns-clause-pushed
returns-clause-pushed c =
    let some : 0 < length (octets_of c.args.text) =
    subst (λ (t : List ℕ). 0 < length t) c.as_slice-octets.ensures (some_from_test _ (sym c.if-is_empty.ensures)) in
    inr (
      some,
      (
        line_at c.args.number c.in-Some.line,
        c.in_ok-push.ensures.items,
        refl,
        record {
          within = record { few = omega arith; short = omega (arith, ap length c.as_slice-octets.ensures) };
          utf8 = subst IsUtf8 c.as_slice-octets.ensures (c.is_line_utf8.ensures.0 c.if-not-is_line_utf8.false);
          spells = rw c.in-Some.is at c.in_ok-line.ensures;
        },
      ),
    )
