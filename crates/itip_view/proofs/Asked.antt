-- Whether an attendee who is shown is asked for, line by line.
use Rattle.std.proofs.Common.{◌≡◌, ◌∙◌, ℕ, List, ◌∷◌, refl, ap, Bool, true, false, ◌||◌, ◌&&◌, not, Option, Some, None}
use Rattle.std.specs.List.{list_any}
use Rattle.itip_todo.specs.Participation.{partstat_of, same_text}
use Rattle.itip_todo.specs.Table.{attendee_key}
use Rattle.itip_todo.specs.Properties.{Property}
use Rattle.itip_items.specs.declared.item.Item.{Item}
use Rattle.itip_items.specs.declared.kind.Kind.{Kind}
use Rattle.itip_items.specs.declared.kind.Kind.TheVariants as kind
use Rattle.itip_view.specs.Answers.{Asked, Decides, AreShown, shown_line, unless_removed, partstat_in, in_front}
use Rattle.itip_view.specs.Wanted.{is_done, is_asked, is_some_asked}
use Rattle.itip_view.specs.declared.row.ShownAttendee.{ShownAttendee}
use Rattle.itip_view.proofs.OneRow.{one_decides}

module _ (only : Bool) (address : List ℕ) where
  -- an attendee of another address is not
  other_address : (attendee : ShownAttendee) → same_text (attendee_key attendee.address) (attendee_key address) ≡ false →
      is_asked only address attendee ≡ false
  other_address attendee off = ap (λ b. b && not (only && is_done attendee.partstat)) off

  unless_other : (k : Kind) (attendee : ShownAttendee) → same_text (attendee_key attendee.address) (attendee_key address) ≡ false →
      is_some_asked only address (unless_removed k attendee) ≡ false
  unless_other kind.Remove attendee off = refl
  unless_other kind.Reply attendee off = other_address attendee off
  unless_other kind.Request attendee off = other_address attendee off
  unless_other kind.Add attendee off = other_address attendee off
  unless_other kind.Cancel attendee off = other_address attendee off
  unless_other kind.Refresh attendee off = other_address attendee off

  -- a line of another address shows none who is
  pub other_line : (line : Property) (answer : Option Item) → same_text (attendee_key line.value) (attendee_key address) ≡ false →
      is_some_asked only address (shown_line line answer) ≡ false
  other_line line None off = other_address (record { address = line.value; partstat = partstat_of line.params; percent = None }) off
  other_line line (Some answer) off = unless_other answer.kind
      (record { address = line.value; partstat = partstat_in answer.todo.attendees; percent = answer.todo.percent }) off

  any_front : (first : Option ShownAttendee) (others : List ShownAttendee) → list_any (is_asked only address) (in_front first others) ≡
      (is_some_asked only address first || list_any (is_asked only address) others)
  any_front None others = refl
  any_front (Some attendee) others = refl

  module _ (heard : List Item) (asked_of : Property → List Asked) where
    -- with the answer that decides of the first line
    pub line_decided : (line : Property) (found answer : Option Item) → Decides heard (asked_of line) found →
        Decides heard (asked_of line) answer → is_some_asked only address (shown_line line answer) ≡
        is_some_asked only address (shown_line line found)
    line_decided line found answer is also =
        ap (λ (a : Option Item). is_some_asked only address (shown_line line a)) (one_decides heard (asked_of line) answer found also is)

    -- where the first line shows one who is asked for, or where it doesn't
    pub shows_first : (line : Property) (lines : List Property) →
        ((answer : Option Item) → Decides heard (asked_of line) answer → is_some_asked only address (shown_line line answer) ≡ true) →
        (shown : List ShownAttendee) → AreShown heard asked_of (line ∷ lines) shown → list_any (is_asked only address) shown ≡ true
    shows_first line lines told shown (answer, others, decides, rest, is) =
        ap (list_any (is_asked only address)) is ∙ any_front (shown_line line answer) others ∙
        ap (λ b. b || list_any (is_asked only address) others) (told answer decides)

    pub shows_later : (line : Property) (lines : List Property) →
        ((answer : Option Item) → Decides heard (asked_of line) answer → is_some_asked only address (shown_line line answer) ≡ false) →
        (shown : List ShownAttendee) → AreShown heard asked_of (line ∷ lines) shown →
        (others : List ShownAttendee) × AreShown heard asked_of lines others ×
        (list_any (is_asked only address) shown ≡ list_any (is_asked only address) others)
    shows_later line lines told shown (answer, others, decides, rest, is) = (
      others,
      rest,
      ap (list_any (is_asked only address)) is ∙ any_front (shown_line line answer) others ∙
          ap (λ b. b || list_any (is_asked only address) others) (told answer decides),
    )

-- none of the lines before these shows one who is
abbrev pub LeftToAsk : Bool → List ℕ → List Item → (Property → List Asked) → List Property → List Property → Type 0
LeftToAsk only address heard asked_of all lines = (shown : List ShownAttendee) → AreShown heard asked_of all shown →
    (others : List ShownAttendee) × AreShown heard asked_of lines others ×
    (list_any (is_asked only address) shown ≡ list_any (is_asked only address) others)
