-- The bytes of a message as it is sent (RFC 5546 3.4; its lines are those of the canonical form, our own).
use Rattle.std.specs.Prelude.{ℕ, Bool, true, false, cond, List, [], ◌∷◌, ◌++◌, codes, None}
use Rattle.std.specs.Fmt.{decimal}
use Rattle.std.specs.List.{flat_map}
use Rattle.std.specs.Option.{option_copied}
use Rattle.itip_message.specs.Message.{ReadsMessage}
use Rattle.itip_moment.specs.Written.{stamp_text}
use Rattle.itip_todo.specs.Parts.{Parts}
use Rattle.itip_todo.specs.Written.{Content, contents_octets, plain, todo_contents}
use Rattle.itip_todo.specs.declared.property_name.PropertyName.TheVariants as name
use Rattle.itip_items.specs.Items.{bare, method_text}
use Rattle.itip_items.specs.declared.item.Item.{Item}
use Rattle.itip_items.specs.declared.kind.Method.{Method}
use Rattle.itip_items.specs.declared.kind.Method.TheVariants as method
use Rattle.itip_writing.specs.declared.brief.BriefTodo.{BriefTodo}

-- The lines of a to-do without SEQUENCE, which is the fourth, after BEGIN, UID and DTSTAMP.
abbrev pub without_sequence : List Content → List Content
without_sequence [] = []
without_sequence (a ∷ []) = a ∷ []
without_sequence (a ∷ b ∷ []) = a ∷ b ∷ []
without_sequence (a ∷ b ∷ c ∷ []) = a ∷ b ∷ c ∷ []
without_sequence (a ∷ b ∷ c ∷ sequence ∷ others) = a ∷ b ∷ c ∷ others

-- the lines of a to-do under a method: a REFRESH has no SEQUENCE (RFC 5546 3.4.6)
abbrev pub sent_todo : Method → Parts → List Content
sent_todo method.Request parts = todo_contents parts
sent_todo method.Add parts = todo_contents parts
sent_todo method.Cancel parts = todo_contents parts
sent_todo method.Reply parts = todo_contents parts
sent_todo method.Refresh parts = without_sequence (todo_contents parts)

-- the lines before the to-dos
abbrev pub sent_front : Method → List Content
sent_front m =
    bare (codes "BEGIN") (codes "VCALENDAR") ∷ bare (codes "PRODID") (codes "-//itipdesk//1//EN") ∷ bare (codes "VERSION") (codes "2.0")
    ∷ bare (codes "METHOD") (method_text m) ∷ []

-- the line after them
abbrev pub calendar_end : Content
calendar_end = bare (codes "END") (codes "VCALENDAR")

-- the lines of a message with these to-dos
abbrev pub sent_contents : Method → List Parts → List Content
sent_contents m all = sent_front m ++ (flat_map (sent_todo m) all ++ calendar_end ∷ [])

abbrev pub sent_octets : Method → List Parts → List ℕ
sent_octets m all = contents_octets (sent_contents m all)

-- the bytes are read as a message
pub record IsReadable (octets : List ℕ) : Type 0 where
  pub items : List Item
  pub reads : ReadsMessage octets items

-- ---- a to-do of which only a few properties are written

-- SEQUENCE is written under each method but REFRESH
abbrev pub has_sequence : Method → Bool
has_sequence method.Request = true
has_sequence method.Add = true
has_sequence method.Cancel = true
has_sequence method.Reply = true
has_sequence method.Refresh = false

abbrev pub sequence_lines : Method → ℕ → List Content
sequence_lines m sequence = cond (has_sequence m) (plain name.Sequence (decimal sequence) ∷ []) []

-- UID, DTSTAMP and, if it is written, SEQUENCE
abbrev pub sent_head : Method → Parts → List Content
sent_head m parts = plain name.Uid parts.uid ∷ plain name.DtStamp (stamp_text parts.stamp) ∷ sequence_lines m parts.seq

-- its parts: properties that it doesn't have are absent
abbrev pub brief_parts : BriefTodo → Parts
brief_parts brief = record {
  uid = brief.uid.now;
  stamp = brief.stamp;
  seq = brief.seq;
  base = None;
  rid = option_copied brief.rid;
  range = brief.range;
  start = None;
  due = None;
  status = brief.status;
  percent = brief.percent;
  priority = None;
  summary = None;
  organizer = brief.organizer.now;
  attendees = brief.attendees.now;
  rule = [];
  rdates = [];
  exdates = [];
  others = [];
}
