-- Which items the reports of a desk are about, and their lines (our own rules and format).
use Rattle.std.specs.Prelude.{◌≡◌, ◌⊎◌, ℕ, List, ◌++◌, codes, Option, Some, None}
use Rattle.std.specs.List.{Contains}
use Rattle.std.specs.declared.cmp.Ordering.TheVariants.{Less}
use Rattle.itip_moment.specs.Order.{stamp_cmp}
use Rattle.itip_moment.specs.declared.moment.Moment.{Moment}
use Rattle.itip_items.specs.KeyParts.{uid_of, instance_of, attendee_of}
use Rattle.itip_items.specs.declared.item.Item.{Item}
use Rattle.itip_items.specs.declared.key.Key.{Key}
use Rattle.itip_items.specs.declared.key.Key.TheVariants.{Series, Instance, Range, Answer, Refresh}
use Rattle.itip_state.specs.Kept.{IsBest, IsKept}
use Rattle.itip_moment.specs.Shown.{shown_moment}
use Rattle.itip_view.specs.ListText.{shown}
use Rattle.itip_view.specs.Standing.{IsCancelled, Stands, StandsFrom, Governs}
use Rattle.itip_report.specs.Lines.{AreLinesOf}
use Rattle.itip_report.specs.declared.report.Report.{Report}
use Rattle.itip_report.specs.declared.report.Report.TheVariants as report

-- the series item of a cancelled to-do
pub record IsCancelledSeries (heard : List Item) (item : Item) : Type 0 where
  pub best : IsBest heard (Series (uid_of item.key)) item
  pub cancelled : IsCancelled item

-- an instance item that stands at its instance, or a range item that stands from its instance on
pub record IsStanding (heard : List Item) (uid : List ℕ) (item : Item) : Type 0 where
  pub id : Moment
  pub stands : Stands heard uid id item ⊎ StandsFrom heard uid id item

-- a cancelled instance or range item that stands
pub record IsCancelledOverride (heard : List Item) (item : Item) : Type 0 where
  pub standing : IsStanding heard (uid_of item.key) item
  pub cancelled : IsCancelled item

abbrev pub IsCancellation : List Item → Item → Type 0
IsCancellation heard item = IsCancelledSeries heard item ⊎ IsCancelledOverride heard item

-- nothing was heard at the key
abbrev pub NoneAt : List Item → Key → Type 0
NoneAt heard key = (item : Item) → Contains heard item → item.key ≡ key → ⊥

-- no instance item was heard at the instance that a key names, if it names one
abbrev pub NoneAtInstance : List Item → List ℕ → Option Moment → Type 0
NoneAtInstance heard uid None = Unit {0}
NoneAtInstance heard uid (Some id) = NoneAt heard (Instance uid id)

-- what is about one attendee: answers, an organizer's removals among them, and refresh requests
abbrev pub IsOfAttendee : Key → Type 0
IsOfAttendee (Series uid) = ⊥
IsOfAttendee (Instance uid id) = ⊥
IsOfAttendee (Range uid id) = ⊥
IsOfAttendee (Answer uid id attendee) = Unit {0}
IsOfAttendee (Refresh uid id attendee) = Unit {0}

-- a kept answer or refresh request whose UID has no series item and, if it names an instance, no instance item there
pub record IsOrphan (heard : List Item) (item : Item) : Type 0 where
  pub kept : IsKept heard item
  pub of_attendee : IsOfAttendee item.key
  pub no_series : NoneAt heard (Series (uid_of item.key))
  pub no_instance : NoneAtInstance heard (uid_of item.key) (instance_of item.key)

abbrev pub IsRefresh : Key → Type 0
IsRefresh (Series uid) = ⊥
IsRefresh (Instance uid id) = ⊥
IsRefresh (Range uid id) = ⊥
IsRefresh (Answer uid id attendee) = ⊥
IsRefresh (Refresh uid id attendee) = Unit {0}

-- a kept refresh request that is newer than the item that governs what it names
pub record IsWanted (heard : List Item) (item : Item) : Type 0 where
  pub kept : IsKept heard item
  pub refresh : IsRefresh item.key
  pub governing : Item
  pub governs : Governs heard (uid_of item.key) (instance_of item.key) governing
  pub older : stamp_cmp governing.stamp item.stamp ≡ Less

-- the UID, and "-" or the instance
abbrev pub named : Item → List ℕ
named item = uid_of item.key ++ (codes " " ++ shown shown_moment (instance_of item.key))

-- the word for an item of an attendee
abbrev pub word_of : Key → List ℕ
word_of (Series uid) = codes ""
word_of (Instance uid id) = codes ""
word_of (Range uid id) = codes ""
word_of (Answer uid id attendee) = codes " answer "
word_of (Refresh uid id attendee) = codes " refresh "

-- what follows the moment of an item: a mark for a range
abbrev pub mark_of : Key → List ℕ
mark_of (Series uid) = codes ""
mark_of (Instance uid id) = codes ""
mark_of (Range uid id) = codes "+"
mark_of (Answer uid id attendee) = codes ""
mark_of (Refresh uid id attendee) = codes ""

-- what a report is about
abbrev pub IsReported : Report → List Item → Item → Type 0
IsReported report.Cancelled heard item = IsCancellation heard item
IsReported report.Orphans heard item = IsOrphan heard item
IsReported report.Refresh heard item = IsWanted heard item

abbrev pub line_of : Report → Item → List ℕ
line_of report.Cancelled item = named item ++ mark_of item.key
line_of report.Orphans item = named item ++ (word_of item.key ++ attendee_of item.key)
line_of report.Refresh item = named item ++ (codes " " ++ attendee_of item.key)

-- the lines of a report over what was heard
abbrev pub AreReportLines : Report → List Item → List (List ℕ) → Type 0
AreReportLines asked heard lines = AreLinesOf (IsReported asked heard) (line_of asked) lines
