use Rattle.std.proofs.Common.{◌≡◌, ◌≤◌, false, length}
use Rattle.itip_lines.specs.Lookup.{behind_values}
use Rattle.itip_lines.proofs.lookup.behind_values.Given as goal

abbrev pub invariant-loop-rest : goal.invariant-loop-rest
invariant-loop-rest l = record {
  so_far : behind_values l.quoted l.rest ≡ behind_values false l.fn.text;
  shorter : length l.rest ≤ length l.fn.text;
}

abbrev pub decreases-loop-rest : goal.decreases-loop-rest
decreases-loop-rest l = length l.rest
