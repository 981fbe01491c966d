use Rattle.std.proofs.Common.{take}
use Rattle.std.specs.Option.{option_copied}
use Rattle.itip_writing.specs.Removing.{IsOvertaken, removed_keys}
use Rattle.itip_writing.specs.Stamping.{IsEqualRevision, IsLatestOf}
use Rattle.itip_writing.proofs.removing.latest_answer.Given as goal

-- the latest of those so far, none of which has a greater sequence
abbrev pub invariant-loop-line : goal.invariant-loop-line
invariant-loop-line l = record {
  latest : IsLatestOf (IsEqualRevision l.items.items (removed_keys l.items.uid (option_copied l.id) (take l.line-index l.lines)) l.sequence)
      l.latest;
  first : ¬ IsOvertaken l.items.items (removed_keys l.items.uid (option_copied l.id) (take l.line-index l.lines)) l.sequence;
}
