use Rattle.std.proofs.Common.{List, ◌++◌, drop, map}
use Rattle.itip_view.specs.Answers.{AreShown}
use Rattle.itip_view.specs.RowsOfUid.{asked_by}
use Rattle.itip_view.specs.declared.row.ShownAttendee.{ShownAttendee}
use Rattle.itip_view.proofs.answers.AnswerSearch.shown_attendees.Given as goal

-- what the rest shows completes what was shown
abbrev pub invariant-loop-line : goal.invariant-loop-line
invariant-loop-line l = (others : List ShownAttendee)
    → AreShown l.self.items.now.items (asked_by l.self.items.now.uid l.self.questions.now)
    (map (λ line. line.line.now) (drop l.line-index l.lines)) others
    → AreShown l.self.items.now.items (asked_by l.self.items.now.uid l.self.questions.now) (map (λ line. line.line.now) l.lines)
    (l.attendees.items ++ others)
