use Rattle.std.proofs.Common.{◌≡◌, ◌∙◌, ℕ, List, Bool, Option, ap, sym, subst}
use Rattle.std.specs.List.{list_any}
use Rattle.std.specs.Option.{option_copied}
use Rattle.itip_todo.specs.Properties.{Property}
use Rattle.itip_items.specs.declared.item.Item.{Item}
use Rattle.itip_state.proofs.Members.{if_ok_then}
use Rattle.itip_state.specs.OfUid.{UidPart}
use Rattle.itip_view.specs.Answers.{AreShown}
use Rattle.itip_view.specs.RowsOfUid.{asked_by}
use Rattle.itip_view.specs.UnmadeRows.{governing_item, questions_of}
use Rattle.itip_view.specs.Wanted.{is_asked, shows_named}
use Rattle.itip_view.specs.declared.answers.Questions.{Questions}
use Rattle.itip_view.specs.declared.row.ShownAttendee.{ShownAttendee}
use Rattle.itip_view.specs.declared.unmade_row.UnmadeRow.{UnmadeRow}
use Rattle.itip_view.proofs.live_rows.UidView.shows_named.Goals as goal

pub returns-in_default : goal.returns-in_default
returns-in_default c = λ shown are.
    ap (λ (named : Option (List ℕ)). shows_named c.args.wanted.now.is_open named shown) (ap option_copied c.in_default.is)

pub returns : goal.returns
returns c =
    let part : UidPart = c.args.self.now.items.now in
    let place : UnmadeRow = c.args.place.now in
    let item : Item = governing_item place.governing in
    let lines : c.as_slice-lines.result.now ≡ item.todo.attendees = c.as_slice-lines.ensures ∙
    ap (λ (i : Item). i.todo.attendees) c.item.ensures in
    if_ok_then (λ (shows : Bool). (shown : List ShownAttendee) →
    AreShown part.items (asked_by part.uid c.questions-questions.result) c.as_slice-lines.result.now shown →
    list_any (is_asked c.args.wanted.now.is_open c.in-Some.address.now) shown ≡ shows) (λ (shows : Bool). (shown : List ShownAttendee) →
    AreShown part.items (asked_by part.uid (questions_of item place.kind)) item.todo.attendees shown →
    shows_named c.args.wanted.now.is_open (option_copied c.args.wanted.now.attendee) shown ≡ shows) c.shows.result
    (λ shows told shown are. ap (λ (named : Option (List ℕ)). shows_named c.args.wanted.now.is_open named shown)
    (ap option_copied c.in-Some.is) ∙ told shown
    (subst (λ (ls : List Property). AreShown part.items (asked_by part.uid c.questions-questions.result) ls shown) (sym lines)
    (subst (λ (qs : Questions). AreShown part.items (asked_by part.uid qs) item.todo.attendees shown)
    (sym c.questions-questions.ensures) are)))
    c.shows.ensures
