use Rattle.std.proofs.Common.{ℕ, List, ◌++◌, drop}
use Rattle.itip_explain.specs.Explanation.{AreLines}
use Rattle.itip_explain.specs.Knowing.{told_to}
use Rattle.itip_explain.proofs.text.lines.Given as goal

-- the lines of the rest complete those that were made
abbrev pub invariant-loop-one : goal.invariant-loop-one
invariant-loop-one l = (rest : List ℕ) → AreLines (told_to l.fates) l.names (drop l.one-index (told_to l.fates)) rest →
    AreLines (told_to l.fates) l.names (told_to l.fates) (l.text.items ++ rest)
