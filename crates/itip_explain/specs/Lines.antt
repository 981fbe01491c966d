-- The line of each item that was told (our own format): where it was told, its kind, what it is about, its revision, and what became
-- of it.
use Rattle.std.specs.Prelude.{ℕ, List, [], ◌++◌, codes, Option, Some, None, slice_get}
use Rattle.std.specs.Fmt.{decimal}
use Rattle.itip_moment.specs.Shown.{shown_moment}
use Rattle.itip_moment.specs.Written.{stamp_text}
use Rattle.itip_items.specs.KeyParts.{instance_of}
use Rattle.itip_items.specs.declared.item.Item.{Item}
use Rattle.itip_items.specs.declared.key.Key.{Key}
use Rattle.itip_items.specs.declared.key.Key.TheVariants.{Series, Instance, Range, Answer, Refresh}
use Rattle.itip_items.specs.declared.kind.Kind.{Kind}
use Rattle.itip_items.specs.declared.kind.Kind.TheVariants as kind
use Rattle.itip_streams.specs.Told.{place_of}
use Rattle.itip_streams.specs.declared.source_name.SourceName.{SourceName}
use Rattle.itip_streams.specs.declared.source_name.SourceName.TheVariants as named
use Rattle.itip_view.specs.ListText.{shown}
use Rattle.itip_report.specs.Reports.{mark_of}
use Rattle.itip_explain.specs.declared.fate.Fate.{Fate}
use Rattle.itip_explain.specs.declared.fate.Fate.TheVariants as fate
use Rattle.itip_explain.specs.declared.told.Place.{Place}
use Rattle.itip_explain.specs.declared.told.ToldItem.{ToldItem}

abbrev pub kind_text : Kind → List ℕ
kind_text kind.Request = codes "request"
kind_text kind.Add = codes "add"
kind_text kind.Remove = codes "remove"
kind_text kind.Cancel = codes "cancel"
kind_text kind.Reply = codes "reply"
kind_text kind.Refresh = codes "refresh"

-- what an item is about: "-" or the instance, with "+" after it if it is of a range
abbrev pub about_text : Key → List ℕ
about_text key = shown shown_moment (instance_of key) ++ mark_of key

-- the attendee, if the item is of one
abbrev pub attendee_text : Key → List ℕ
attendee_text (Series uid) = []
attendee_text (Instance uid id) = []
attendee_text (Range uid id) = []
attendee_text (Answer uid id attendee) = codes " " ++ attendee
attendee_text (Refresh uid id attendee) = codes " " ++ attendee

-- the item's own SEQUENCE, and DTSTAMP
abbrev pub revision_text : Item → List ℕ
revision_text item = codes " seq " ++ (decimal item.own ++ (codes " stamp " ++ stamp_text item.stamp))

abbrev pub item_text : Item → List ℕ
item_text item =
    kind_text item.kind ++ (codes " " ++ (about_text item.key ++ (attendee_text item.key ++ revision_text item)))

-- a message of a source; a source without a name is named like standard input
abbrev pub message_in : Option SourceName → ℕ → List ℕ
message_in None message = place_of named.StandardInput message
message_in (Some name) message = place_of name message

abbrev pub place_text : List SourceName → Place → List ℕ
place_text names place = message_in (slice_get names place.source) place.message

abbrev pub fate_words : Fate → List ℕ
fate_words (fate.OvertakenBy place) = codes "overtaken by"
fate_words (fate.VoidBy place) = codes "void by"
fate_words fate.Stands = codes "stands"
fate_words fate.CancelsToDo = codes "cancels the to-do"
fate_words fate.CancelsInstance = codes "cancels the instance"
fate_words fate.CancelsOnward = codes "cancels from there on"
fate_words (fate.CancelledWithToDoBy place) = codes "cancelled with the to-do by"
fate_words fate.AboutNothing = codes "about nothing that stands"
fate_words (fate.ForOlderThan place) = codes "for an older revision than"
fate_words (fate.FromNoAttendeeOf place) = codes "from no attendee of"
fate_words fate.Counts = codes "counts"
fate_words fate.Waits = codes "waits"
fate_words fate.IsAnswered = codes "is answered"

-- the place that follows these words
abbrev pub named_place : Fate → Option Place
named_place (fate.OvertakenBy place) = Some place
named_place (fate.VoidBy place) = Some place
named_place fate.Stands = None
named_place fate.CancelsToDo = None
named_place fate.CancelsInstance = None
named_place fate.CancelsOnward = None
named_place (fate.CancelledWithToDoBy place) = Some place
named_place fate.AboutNothing = None
named_place (fate.ForOlderThan place) = Some place
named_place (fate.FromNoAttendeeOf place) = Some place
named_place fate.Counts = None
named_place fate.Waits = None
named_place fate.IsAnswered = None

abbrev pub after_words : List SourceName → Option Place → List ℕ
after_words names None = []
after_words names (Some place) = codes " " ++ place_text names place

abbrev pub fate_text : List SourceName → Fate → List ℕ
fate_text names became = fate_words became ++ after_words names (named_place became)

abbrev pub line_text : List SourceName → ToldItem → Fate → List ℕ
line_text names one became =
    place_text names one.place ++ (codes ": " ++ (item_text one.item ++ (codes " " ++ (fate_text names became ++ codes "\n"))))
