-- Causes of one step as causes of the whole, and what a search finds.
use Rattle.std.proofs.Common.{◌≡◌, ◌∙◌, ℕ, ◌+◌, ◌<◌, List, length, take, get_or, sym, subst, inl, inr, Option, Result, Ok, Err}
use Rattle.std.specs.Prelude.{IfErr}
use Rattle.std.specs.List.{Contains}
use Rattle.std.proofs.lemmas.List.{take_more}
use Rattle.std.proofs.lemmas.List.Elements.{Contains-push_cases}
use Rattle.itip_moment.specs.declared.moment.Moment.{Moment}
use Rattle.itip_moment.specs.declared.stamp.Stamp.{Stamp}
use Rattle.itip_items.specs.declared.item.Item.{Item}
use Rattle.itip_message.specs.declared.error.MessageRefusal.{MessageRefusal}
use Rattle.itip_view.specs.InQuestion.{NoneInQuestion}
use Rattle.itip_writing.specs.Causes.{IfLate, IfNothing, IfUnread}
use Rattle.itip_writing.specs.Refreshing.{CannotRefresh, IsRefreshLate, IsRefreshUnread}
use Rattle.itip_writing.specs.Replying.{CannotReply, IsNotAsked, IsReplyLate, IsReplyUnread}
use Rattle.itip_writing.specs.declared.answer.Answer.{Answer}
use Rattle.itip_writing.specs.declared.error.WritingError.{WritingError}
use Rattle.itip_writing.specs.declared.error.WritingError.TheVariants as error

pub nothing_asked : (heard : List Item) (uid : List ℕ) (id : Option Moment) (address : List ℕ)
    (e : WritingError) → IfNothing (NoneInQuestion heard uid id) e → IsNotAsked heard uid id address e
nothing_asked heard uid id address error.NothingStands h = h
nothing_asked heard uid id address error.NoSuchAttendee h = absurd h
nothing_asked heard uid id address error.NoSequenceLeft h = absurd h
nothing_asked heard uid id address error.AnswerOvertakes h = absurd h
nothing_asked heard uid id address error.TwoOfOneKey h = absurd h
nothing_asked heard uid id address error.NoTimeLeft h = absurd h
nothing_asked heard uid id address (error.Unreadable refusal) h = absurd h
nothing_asked heard uid id address error.NoMemory h = h

pub reply_not_asked : (heard : List Item) (uid : List ℕ) (id : Option Moment) (answer : Answer) (at : Stamp)
    (e : WritingError) → IsNotAsked heard uid id answer.attendee.now e → CannotReply heard uid id answer at e
reply_not_asked heard uid id answer at error.NothingStands h = h
reply_not_asked heard uid id answer at error.NoSuchAttendee h = h
reply_not_asked heard uid id answer at error.NoSequenceLeft h = absurd h
reply_not_asked heard uid id answer at error.AnswerOvertakes h = absurd h
reply_not_asked heard uid id answer at error.TwoOfOneKey h = absurd h
reply_not_asked heard uid id answer at error.NoTimeLeft h = absurd h
reply_not_asked heard uid id answer at (error.Unreadable refusal) h = absurd h
reply_not_asked heard uid id answer at error.NoMemory h = h

pub reply_late : (heard : List Item) (uid : List ℕ) (id : Option Moment) (answer : Answer) (at : Stamp) (late : Type 0)
    (is : late → IsReplyLate heard uid id answer at)
    (e : WritingError) → IfLate late e → CannotReply heard uid id answer at e
reply_late heard uid id answer at late is error.NothingStands h = absurd h
reply_late heard uid id answer at late is error.NoSuchAttendee h = absurd h
reply_late heard uid id answer at late is error.NoSequenceLeft h = absurd h
reply_late heard uid id answer at late is error.AnswerOvertakes h = absurd h
reply_late heard uid id answer at late is error.TwoOfOneKey h = absurd h
reply_late heard uid id answer at late is error.NoTimeLeft h = is h
reply_late heard uid id answer at late is (error.Unreadable refusal) h = absurd h
reply_late heard uid id answer at late is error.NoMemory h = h

pub reply_unread : (heard : List Item) (uid : List ℕ) (id : Option Moment) (answer : Answer) (at : Stamp)
    (unread : MessageRefusal → Type 0) (is : (refusal : MessageRefusal) → unread refusal → IsReplyUnread heard uid id answer at refusal)
    (e : WritingError) → IfUnread unread e → CannotReply heard uid id answer at e
reply_unread heard uid id answer at unread is error.NothingStands h = absurd h
reply_unread heard uid id answer at unread is error.NoSuchAttendee h = absurd h
reply_unread heard uid id answer at unread is error.NoSequenceLeft h = absurd h
reply_unread heard uid id answer at unread is error.AnswerOvertakes h = absurd h
reply_unread heard uid id answer at unread is error.TwoOfOneKey h = absurd h
reply_unread heard uid id answer at unread is error.NoTimeLeft h = absurd h
reply_unread heard uid id answer at unread is (error.Unreadable refusal) h = is refusal h
reply_unread heard uid id answer at unread is error.NoMemory h = h

pub refresh_not_asked : (heard : List Item) (uid : List ℕ) (id : Option Moment) (address : List ℕ) (at : Stamp)
    (e : WritingError) → IsNotAsked heard uid id address e → CannotRefresh heard uid id address at e
refresh_not_asked heard uid id address at error.NothingStands h = h
refresh_not_asked heard uid id address at error.NoSuchAttendee h = h
refresh_not_asked heard uid id address at error.NoSequenceLeft h = absurd h
refresh_not_asked heard uid id address at error.AnswerOvertakes h = absurd h
refresh_not_asked heard uid id address at error.TwoOfOneKey h = absurd h
refresh_not_asked heard uid id address at error.NoTimeLeft h = absurd h
refresh_not_asked heard uid id address at (error.Unreadable refusal) h = absurd h
refresh_not_asked heard uid id address at error.NoMemory h = h

pub refresh_late : (heard : List Item) (uid : List ℕ) (id : Option Moment) (address : List ℕ) (at : Stamp) (late : Type 0)
    (is : late → IsRefreshLate heard uid id address at)
    (e : WritingError) → IfLate late e → CannotRefresh heard uid id address at e
refresh_late heard uid id address at late is error.NothingStands h = absurd h
refresh_late heard uid id address at late is error.NoSuchAttendee h = absurd h
refresh_late heard uid id address at late is error.NoSequenceLeft h = absurd h
refresh_late heard uid id address at late is error.AnswerOvertakes h = absurd h
refresh_late heard uid id address at late is error.TwoOfOneKey h = absurd h
refresh_late heard uid id address at late is error.NoTimeLeft h = is h
refresh_late heard uid id address at late is (error.Unreadable refusal) h = absurd h
refresh_late heard uid id address at late is error.NoMemory h = h

pub refresh_unread : (heard : List Item) (uid : List ℕ) (id : Option Moment) (address : List ℕ) (at : Stamp)
    (unread : MessageRefusal → Type 0) (is : (refusal : MessageRefusal) → unread refusal → IsRefreshUnread heard uid id address at refusal)
    (e : WritingError) → IfUnread unread e → CannotRefresh heard uid id address at e
refresh_unread heard uid id address at unread is error.NothingStands h = absurd h
refresh_unread heard uid id address at unread is error.NoSuchAttendee h = absurd h
refresh_unread heard uid id address at unread is error.NoSequenceLeft h = absurd h
refresh_unread heard uid id address at unread is error.AnswerOvertakes h = absurd h
refresh_unread heard uid id address at unread is error.TwoOfOneKey h = absurd h
refresh_unread heard uid id address at unread is error.NoTimeLeft h = absurd h
refresh_unread heard uid id address at unread is (error.Unreadable refusal) h = is refusal h
refresh_unread heard uid id address at unread is error.NoMemory h = h

-- if none so far is of a kind and neither is the next element, none up to it is
pub none_more : {X : Type 0} (P : X → Type 0) (xs : List X) (i : ℕ) (x : X) → i < length xs → x ≡ get_or xs i x →
    ((y : X) → Contains (take i xs) y → P y → ⊥) → (P x → ⊥) → (y : X) → Contains (take (i + 1) xs) y → P y → ⊥
none_more P xs i x less is before not y h of =
    elim (Contains-push_cases (take i xs) (get_or xs i x) y (subst (λ ys. Contains ys y) (take_more xs i x less) h)) [
      | inl old ↦ before y old of
      | inr same ↦ not (subst P (sym same ∙ sym is) of)
    ]

-- `IfLate` of what follows from a statement
pub late_weaker : (A B : Type 0) → (A → B) → (e : WritingError) → IfLate A e → IfLate B e
late_weaker A B to error.NothingStands h = absurd h
late_weaker A B to error.NoSuchAttendee h = absurd h
late_weaker A B to error.NoSequenceLeft h = absurd h
late_weaker A B to error.AnswerOvertakes h = absurd h
late_weaker A B to error.TwoOfOneKey h = absurd h
late_weaker A B to error.NoTimeLeft h = to h
late_weaker A B to (error.Unreadable refusal) h = absurd h
late_weaker A B to error.NoMemory h = h

-- `IfNothing` of what follows from a statement
pub nothing_weaker : (A B : Type 0) → (A → B) → (e : WritingError) → IfNothing A e → IfNothing B e
nothing_weaker A B to error.NothingStands h = to h
nothing_weaker A B to error.NoSuchAttendee h = absurd h
nothing_weaker A B to error.NoSequenceLeft h = absurd h
nothing_weaker A B to error.AnswerOvertakes h = absurd h
nothing_weaker A B to error.TwoOfOneKey h = absurd h
nothing_weaker A B to error.NoTimeLeft h = absurd h
nothing_weaker A B to (error.Unreadable refusal) h = absurd h
nothing_weaker A B to error.NoMemory h = h

-- what holds of an error, by what follows from it
pub if_err_then : {A E : Type 0} (P Q : E → Type 0) (r : Result A E) → ((e : E) → P e → Q e) → IfErr r P → IfErr r Q
if_err_then P Q (Ok a) f h = tt
if_err_then P Q (Err e) f h = f e h
