use Rattle.std.proofs.Common.{[], take}
use Rattle.itip_lines.specs.Reading.{plain_lines}
use Rattle.itip_todo.specs.Drafts.{IsDraftOf}
use Rattle.itip_todo.specs.Reading.{AreGood, lines_of}
use Rattle.itip_todo.proofs.read.read_todo.Given as goal

-- the lines so far are good, and the draft is theirs
abbrev pub invariant-loop-line : goal.invariant-loop-line
invariant-loop-line l = AreGood [] (plain_lines (take l.line-index l.lines)) ×
    IsDraftOf (lines_of (plain_lines (take l.line-index l.lines))) l.draft
