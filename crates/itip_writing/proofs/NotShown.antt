-- After a removal the row in question doesn't show those who were removed, and neither do the rows that the series item governs.
use Rattle.std.proofs.Common.{◌≡◌, ◌∙◌, ℕ, List, [], ◌∷◌, ◌++◌, map, sym, ap, subst, true, false, Option, None}
use Rattle.std.specs.Cmp.Lexicographic.{bytes_decides}
use Rattle.std.specs.List.{AllZip, Contains}
use Rattle.itip_moment.specs.declared.moment.Moment.{Moment}
use Rattle.itip_moment.specs.declared.stamp.Stamp.{Stamp}
use Rattle.itip_todo.specs.Participation.{same_text}
use Rattle.itip_todo.specs.Parts.{Parts}
use Rattle.itip_todo.specs.Table.{attendee_key}
use Rattle.itip_todo.specs.Properties.{Property}
use Rattle.itip_recur.proofs.MappedLists.{Contains-map}
use Rattle.itip_items.specs.Given.{AreItemsOf}
use Rattle.itip_items.specs.Items.{drafts}
use Rattle.itip_items.specs.declared.item.Item.{Item}
use Rattle.itip_items.specs.declared.key.Key.{Key}
use Rattle.itip_items.specs.declared.key.Key.TheVariants as key
use Rattle.itip_items.specs.declared.kind.Method.TheVariants as method
use Rattle.itip_state.proofs.Members.{none_in}
use Rattle.itip_view.specs.Answers.{answer_key}
use Rattle.itip_view.specs.InQuestion.{ShowsInQuestion}
use Rattle.itip_view.specs.Showing.{Shows}
use Rattle.itip_view.specs.declared.row.Row.{Row}
use Rattle.itip_view.specs.declared.row.ShownAttendee.{ShownAttendee}
use Rattle.itip_view.specs.declared.window.Window.{Window}
use Rattle.itip_view.proofs.Showing.{finds, into_filter}
use Rattle.itip_writing.specs.Cancelling.{notice}
use Rattle.itip_writing.specs.Removing.{IsRemovable, IsRemovalOf, ShowsOne, is_one_of, lines_of}
use Rattle.itip_writing.specs.Replying.{AsksWhole}
use Rattle.itip_writing.proofs.BriefRead.{HasLine, line_in_question}
use Rattle.itip_writing.proofs.CancelDrafts.{IsRemoved, each_removed}
use Rattle.itip_writing.proofs.GivenItems.{HasRight, left_of, right_of}
use Rattle.itip_writing.proofs.RemovalHeard.{IsRemover, not_in_question, not_on_rows}
use Rattle.itip_writing.proofs.RequestStands.{IsTask}

-- ---- each who is removed has a line

-- the line of the attendee of an address
record HasLineOf (lines : List Property) (address : List ℕ) : Type 0 where
  line : Property
  there : Contains lines line
  same : attendee_key line.value ≡ attendee_key address

line_of : (heard : List Item) (uid : List ℕ) (id : Option Moment) (addresses : List (List ℕ)) (item : Item) →
    IsRemovable heard uid id addresses item → (address : List ℕ) → Contains addresses address →
    HasLineOf (lines_of addresses item.todo.attendees) address
line_of heard uid id addresses item is address named =
    let one : ShowsOne is.shown address = is.each.each address named in
    let found : HasLine item.todo.attendees one.attendee.address =
    line_in_question heard uid id item is.shown is.shows one.attendee one.there in
    let line : Property = found.line in
    let same : attendee_key line.value ≡ attendee_key address = ap attendee_key found.value_is ∙ one.same in
    let chosen : is_one_of addresses line ≡ true =
    finds (λ (a : List ℕ). same_text (attendee_key line.value) (attendee_key a)) addresses address named
    ((bytes_decides (attendee_key line.value) (attendee_key address)).1 same) in
    record { line = line; there = into_filter (is_one_of addresses) item.todo.attendees line found.there chosen; same = same }

all_removed : (uid : List ℕ) (item : Item) (id : Option Moment) (n : ℕ) (stamp : Stamp) (lines : List Property) (some : Property) →
    Contains lines some → (items : List Item) → AreItemsOf (drafts method.Cancel (notice uid item id false None lines n stamp ∷ [])) items →
    AllZip (IsRemoved uid id n stamp) lines items
all_removed uid item id n stamp [] some there items are = absurd (none_in some there)
all_removed uid item id n stamp (line ∷ lines) some there items are = each_removed uid item id n stamp line lines items are

-- ---- a removal is heard

module _ (heard : List Item) (uid : List ℕ) (id : Option Moment) (addresses : List (List ℕ)) (at : Stamp) (parts : Parts)
    (is : IsRemovalOf heard uid id addresses at parts) (items : List Item) (given : AreItemsOf (drafts method.Cancel (parts ∷ [])) items)
    (address : List ℕ) (named : Contains addresses address) where
  abbrev lines : List Property
  lines = lines_of addresses is.item.todo.attendees

  has : HasLineOf lines address
  has = line_of heard uid id addresses is.item is.removes.removable address named

  zipped : AllZip (IsRemoved uid id is.sequence is.stamp) lines items
  zipped = all_removed uid is.item id is.sequence is.stamp lines has.line has.there items
      (subst (λ (p : Parts). AreItemsOf (drafts method.Cancel (p ∷ [])) items) is.parts_are given)

  remover : (i : Item) → Contains items i → IsRemover is.sequence is.stamp i
  remover i h =
      let found = left_of (IsRemoved uid id is.sequence is.stamp) lines items zipped i h in record {
        kind_is = found.related.kind_is;
        own_is = found.related.own_is;
        eff_is = found.related.eff_is;
        stamp_is = found.related.stamp_is;
        of_answer = λ task. subst IsTask found.related.about task;
      }

  key_is : answer_key uid id has.line ≡ key.Answer uid id (attendee_key address)
  key_is = ap (key.Answer uid id) has.same

  among : Contains is.keys (key.Answer uid id (attendee_key address))
  among = subst (λ (ks : List Key). Contains ks (key.Answer uid id (attendee_key address))) (sym is.removes.keys_are)
      (subst (Contains (map (answer_key uid id) lines)) key_is (Contains-map (answer_key uid id) lines has.line has.there))

  mine : HasRight (IsRemoved uid id is.sequence is.stamp) has.line items
  mine = right_of (IsRemoved uid id is.sequence is.stamp) lines items zipped has.line has.there

  about : mine.one.key ≡ key.Answer uid id (attendee_key address)
  about = mine.related.about ∙ key_is

  pub removed_in_question : (g : Item) (shown : List ShownAttendee) → ShowsInQuestion (heard ++ items) uid id g shown →
      (one : ShownAttendee) → Contains shown one → attendee_key one.address ≡ attendee_key address → ⊥
  removed_in_question =
      not_in_question heard items uid is.sequence is.removes.next is.keys is.first at is.stamp is.stamped remover id (attendee_key address)
      among mine.one mine.there about

pub removed_on_rows : (heard : List Item) (uid : List ℕ) (addresses : List (List ℕ)) (at : Stamp) (parts : Parts) →
    IsRemovalOf heard uid None addresses at parts → (items : List Item) → AreItemsOf (drafts method.Cancel (parts ∷ [])) items →
    (address : List ℕ) → Contains addresses address → (window : Window) (row : Row) → row.uid ≡ uid →
    AsksWhole (heard ++ items) window address row → Shows address row → ⊥
removed_on_rows heard uid addresses at parts is items given address named window row of =
    let one = mine heard uid None addresses at parts is items given address named in
    not_on_rows heard items uid is.sequence is.removes.next is.keys is.first at is.stamp is.stamped
    (remover heard uid None addresses at parts is items given address named) address
    (among heard uid None addresses at parts is items given address named) one.one one.there
    (about heard uid None addresses at parts is items given address named) row of window
