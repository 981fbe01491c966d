use Rattle.std.proofs.Common.{◌∙◌, List, ap, map, refl, subst}
use Rattle.std.specs.Option.{option_map}
use Rattle.itip_todo.specs.Properties.{Property}
use Rattle.itip_items.specs.declared.item.Item.{Item}
use Rattle.itip_state.specs.OfUid.{UidPart}
use Rattle.itip_view.specs.Answers.{AreShown}
use Rattle.itip_view.specs.RowsOfUid.{asked_by}
use Rattle.itip_view.specs.UnmadeRows.{governing_item, questions_of}
use Rattle.itip_view.specs.Progress.{progress_of}
use Rattle.itip_view.specs.declared.answers.Questions.{Questions}
use Rattle.itip_view.specs.declared.row.ShownAttendee.{ShownAttendee}
use Rattle.itip_view.specs.declared.unmade_row.UnmadeRow.{UnmadeRow}
use Rattle.itip_view.proofs.live_rows.UidView.row_with.Goals as goal

pub returns : goal.returns
returns c =
    let part : UidPart = c.args.self.now.items.now in
    let place : UnmadeRow = c.args.place.now in
    let item : Item = governing_item place.governing in
    let shown : List ShownAttendee = c.in_ok-attendees.attendees in
    let are : AreShown part.items (asked_by part.uid (questions_of item place.kind)) item.todo.attendees shown =
    subst (λ (lines : List Property). AreShown part.items (asked_by part.uid (questions_of item place.kind)) lines shown) c.requires
    (subst (λ (qs : Questions). AreShown part.items (asked_by part.uid qs) (map (λ line. line.line.now) c.args.lines.now) shown)
    c.questions-questions.ensures c.in_ok-attendees.ensures) in
    record {
      start = c.in_ok-dates.dates.start;
      due = c.in_ok-dates.dates.due;
      dates = c.in_ok-dates.ensures;
      row_is = record {
        uid_is = c.in_ok-uid.ensures.cases ∙ c.uid.ensures;
        id_is = c.in_ok-id.ensures;
        fields = record {
          seq = ap (λ (i : Item). i.own) c.item-item.ensures;
          status = ap (λ (i : Item). i.todo.status) c.item-item.ensures;
          percent = ap (λ (i : Item). i.todo.percent) c.item-item.ensures;
          priority = ap (λ (i : Item). i.todo.priority) c.item-item.ensures;
          summary = c.in_ok-summary.ensures ∙ ap (λ (i : Item). option_map (λ (p : Property). p.value) i.todo.summary) c.item-item.ensures;
        };
        start_is = refl;
        due_is = refl;
        attendees = are;
        progress = c.progress_of-progress.ensures ∙ ap progress_of c.as_slice.ensures;
      };
    }
