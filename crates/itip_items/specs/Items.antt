-- The items of a message's to-dos (RFC 5546 2.1.5 and 3.4; the effective sequence and the canonical form are our own).
use Rattle.std.specs.Prelude.{◌≡◌, ℕ, ◌≤◌, nat_lt, nat_eq, max, Bool, true, false, cond, ◌&&◌, List, [], ◌∷◌, ◌++◌, length, map, codes}
use Rattle.std.specs.Prelude.{Option, Some, None, unwrap_or, IfSome}
use Rattle.std.specs.Option.{is_none}
use Rattle.itip_moment.specs.declared.moment.Moment.{Moment}
use Rattle.std.specs.List.{flat_map}
use Rattle.std.specs.Cmp.Lexicographic.{pointwise}
use Rattle.itip_moment.specs.declared.stamp.Stamp.{Stamp}
use Rattle.itip_todo.specs.Participation.{same_text}
use Rattle.itip_todo.specs.Parts.{Parts}
use Rattle.itip_todo.specs.Table.{attendee_key}
use Rattle.itip_todo.specs.Written.{Content, contents_octets, parts_contents, front_contents, rest_contents}
use Rattle.itip_todo.specs.PartsOf.{parts_of}
use Rattle.itip_todo.specs.Properties.{Property}
use Rattle.itip_todo.specs.declared.todo.Todo.{Todo}
use Rattle.itip_items.specs.MethodNeeds.{Suits, removes}
use Rattle.itip_items.specs.declared.key.Key.{Key}
use Rattle.itip_items.specs.declared.key.Key.TheVariants as key
use Rattle.itip_items.specs.declared.kind.Kind.{Kind}
use Rattle.itip_items.specs.declared.kind.Kind.TheVariants as kind
use Rattle.itip_items.specs.declared.kind.Method.{Method}
use Rattle.itip_items.specs.declared.kind.Method.TheVariants as method

-- the maximum numbers of octets and of lines in an item's canonical form (our own limits)
abbrev pub canonical_octets_limit : ℕ
canonical_octets_limit = 262144

abbrev pub canonical_lines_limit : ℕ
canonical_lines_limit = 20000

abbrev pub method_text : Method → List ℕ
method_text method.Request = codes "REQUEST"
method_text method.Add = codes "ADD"
method_text method.Cancel = codes "CANCEL"
method_text method.Reply = codes "REPLY"
method_text method.Refresh = codes "REFRESH"

-- the method with this name in upper case
abbrev pub method_named : List ℕ → Option Method
method_named name =
    cond (same_text name (codes "REQUEST")) (Some method.Request)
    (cond (same_text name (codes "ADD")) (Some method.Add)
    (cond (same_text name (codes "CANCEL")) (Some method.Cancel)
    (cond (same_text name (codes "REPLY")) (Some method.Reply)
    (cond (same_text name (codes "REFRESH")) (Some method.Refresh) None))))

-- the method under which an item of a kind is sent
abbrev pub method_of : Kind → Method
method_of kind.Request = method.Request
method_of kind.Add = method.Add
method_of kind.Remove = method.Cancel
method_of kind.Cancel = method.Cancel
method_of kind.Reply = method.Reply
method_of kind.Refresh = method.Refresh

abbrev pub bare : List ℕ → List ℕ → Content
bare name value = record { name = name; params = []; value = value }

-- the lines of an item's canonical form
abbrev pub canonical_contents : Kind → Parts → List Content
canonical_contents k parts =
    (bare (codes "BEGIN") (codes "VCALENDAR") ∷ bare (codes "PRODID") (codes "-//itipdesk//1//EN") ∷ bare (codes "VERSION") (codes "2.0")
    ∷ bare (codes "METHOD") (method_text (method_of k)) ∷ bare (codes "BEGIN") (codes "VTODO") ∷ [])
    ++ (parts_contents parts ++ (bare (codes "END") (codes "VTODO") ∷ bare (codes "END") (codes "VCALENDAR") ∷ []))

abbrev pub canonical_octets : Kind → Parts → List ℕ
canonical_octets k parts = contents_octets (canonical_contents k parts)

-- the lines before a to-do
abbrev pub opening_contents : Kind → List Content
opening_contents k =
    bare (codes "BEGIN") (codes "VCALENDAR") ∷ bare (codes "PRODID") (codes "-//itipdesk//1//EN") ∷ bare (codes "VERSION") (codes "2.0")
    ∷ bare (codes "METHOD") (method_text (method_of k)) ∷ []

-- the octets from BEGIN:VCALENDAR to ORGANIZER, which the items of one to-do's attendees share
abbrev pub front_octets : Kind → Parts → List ℕ
front_octets k parts = contents_octets (opening_contents k ++ front_contents parts)

-- the front that is shared, if any
abbrev pub IsFrontOf : Kind → Parts → Option (List ℕ) → Type 0
IsFrontOf k parts front = IfSome front (λ octets. octets ≡ front_octets k parts)

-- the lines after those of the front
abbrev pub closing_contents : Parts → List Content
closing_contents parts = rest_contents parts ++ bare (codes "END") (codes "VCALENDAR") ∷ []

abbrev pub one_if : Bool → ℕ
one_if true = 1
one_if false = 0

-- an item as data: what it speaks of, its kind, its effective sequence, and its to-do in canonical form
pub record ItemDraft : Type 0 where
  pub key : Key
  pub kind : Kind
  pub eff : ℕ
  pub parts : Parts

abbrev pub kind_of : Method → Parts → Kind
kind_of method.Request parts = kind.Request
kind_of method.Add parts = kind.Add
kind_of method.Cancel parts = cond (removes parts) kind.Remove kind.Cancel
kind_of method.Reply parts = kind.Reply
kind_of method.Refresh parts = kind.Refresh

-- the kinds that speak of the to-do as a whole, of an instance, or of it and all after it, as RECURRENCE-ID says
abbrev pub is_task : Kind → Bool
is_task kind.Request = true
is_task kind.Add = false
is_task kind.Remove = false
is_task kind.Cancel = true
is_task kind.Reply = false
is_task kind.Refresh = false

-- a series component: one without RECURRENCE-ID in a REQUEST, or in a CANCEL that removes no attendee
abbrev pub is_series : Method → Parts → Bool
is_series m parts = is_none parts.rid && is_task (kind_of m parts)

-- the greatest SEQUENCE of the series components of a UID, 0 if there is none
abbrev pub series_sequence : Method → List ℕ → List Parts → ℕ
series_sequence m uid [] = 0
series_sequence m uid (parts ∷ all) =
    max (cond (is_series m parts && pointwise nat_eq parts.uid uid) parts.seq 0) (series_sequence m uid all)

-- the greatest of a to-do's SEQUENCE, its X-DESK-BASE, and `above`
abbrev pub raised : Parts → ℕ → ℕ
raised parts above = max parts.seq (max (unwrap_or parts.base 0) above)

-- the effective sequence of an instance or range item (our own rule): the greatest of its own SEQUENCE, its X-DESK-BASE
-- and each SEQUENCE of the series components of its UID in the message
abbrev pub effective_sequence : Method → List Parts → Parts → ℕ
effective_sequence m all parts = raised parts (series_sequence m parts.uid all)

-- X-DESK-BASE in canonical form: the effective sequence, if it exceeds the own one
abbrev pub canonical_base : ℕ → ℕ → Option ℕ
canonical_base own eff = cond (nat_lt own eff) (Some eff) None

abbrev pub with_base : Parts → Option ℕ → Parts
with_base parts base = record parts { base = base }

abbrev pub series_draft : Kind → Parts → ItemDraft
series_draft k parts = record { key = key.Series parts.uid; kind = k; eff = parts.seq; parts = with_base parts None }

-- the draft of this key, which is that of an instance, or of it and all after it
abbrev pub instance_draft : Kind → ℕ → Key → Parts → ItemDraft
instance_draft k eff key parts = record { key = key; kind = k; eff = eff; parts = with_base parts (canonical_base parts.seq eff) }

-- the key of an instance, or of it and all after it
abbrev pub instance_key : Bool → List ℕ → Moment → Key
instance_key true uid id = key.Range uid id
instance_key false uid id = key.Instance uid id

-- what the item of an attendee keeps of its to-do: few properties, beside these attendees (our own rule)
abbrev pub kept_with : List Property → Parts → Parts
kept_with attendees parts = record {
  uid = parts.uid;
  stamp = parts.stamp;
  seq = parts.seq;
  base = None;
  rid = parts.rid;
  range = false;
  start = None;
  due = None;
  status = parts.status;
  percent = parts.percent;
  priority = None;
  summary = None;
  organizer = parts.organizer;
  attendees = attendees;
  rule = [];
  rdates = [];
  exdates = [];
  others = [];
}

-- the same with the one attendee of the item
abbrev pub only_of : Property → Parts → Parts
only_of attendee parts = kept_with (attendee ∷ []) parts

-- an item of this kind is an attendee's wish for the newest revision, and not an answer
abbrev pub refreshes : Kind → Bool
refreshes kind.Request = false
refreshes kind.Add = false
refreshes kind.Remove = false
refreshes kind.Cancel = false
refreshes kind.Reply = false
refreshes kind.Refresh = true

-- the key of an attendee's answer or refresh; a removal has that of the answer
abbrev pub attendee_key_of : Kind → Parts → Property → Key
attendee_key_of k parts attendee =
    cond (refreshes k) (key.Refresh parts.uid parts.rid (attendee_key attendee.value))
    (key.Answer parts.uid parts.rid (attendee_key attendee.value))

abbrev pub attendee_draft : Kind → Parts → Property → ItemDraft
attendee_draft k parts attendee =
    record { key = attendee_key_of k parts attendee; kind = k; eff = parts.seq; parts = only_of attendee parts }

-- the draft of the series, or of the instance that RECURRENCE-ID names, or of it and all after it
abbrev pub task_draft : Kind → ℕ → Option Moment → Parts → ItemDraft
task_draft k eff None parts = series_draft k parts
task_draft k eff (Some id) parts = instance_draft k eff (instance_key parts.range parts.uid id) parts

-- the draft of the instance that DTSTART names
abbrev pub add_drafts : ℕ → Option Moment → Parts → List ItemDraft
add_drafts eff None parts = []
add_drafts eff (Some id) parts = instance_draft kind.Add eff (key.Instance parts.uid id) parts ∷ []

-- what a to-do of a kind gives, if its effective sequence as an instance is eff
abbrev pub drafts_of : Kind → ℕ → Parts → List ItemDraft
drafts_of kind.Request eff parts = task_draft kind.Request eff parts.rid parts ∷ []
drafts_of kind.Cancel eff parts = task_draft kind.Cancel eff parts.rid parts ∷ []
drafts_of kind.Add eff parts = add_drafts eff parts.start parts
drafts_of kind.Remove eff parts = map (attendee_draft kind.Remove parts) parts.attendees
drafts_of kind.Reply eff parts = map (attendee_draft kind.Reply parts) parts.attendees
drafts_of kind.Refresh eff parts = map (attendee_draft kind.Refresh parts) parts.attendees

-- the items of a message as data, by to-do and then by ATTENDEE line
abbrev pub drafts : Method → List Parts → List ItemDraft
drafts m all = flat_map (λ parts. drafts_of (kind_of m parts) (effective_sequence m all parts) parts) all

-- the canonical form is within its limits
pub record IsWithinLimits (draft : ItemDraft) : Type 0 where
  pub octets : length (canonical_octets draft.kind draft.parts) ≤ canonical_octets_limit
  pub lines : length (canonical_contents draft.kind draft.parts) ≤ canonical_lines_limit

-- these are the octets of the canonical form, which is within its limits
pub record IsWhole (draft : ItemDraft) (bytes : List ℕ) : Type 0 where
  pub bytes_are : bytes ≡ canonical_octets draft.kind draft.parts
  pub within : IsWithinLimits draft

-- these fields are those of the draft
pub record IsOfDraft (draft : ItemDraft) (key : Key) (own eff : ℕ) (stamp : Stamp) (bytes : List ℕ) (parts : Parts) (kind : Kind) : Type 0
  where
    pub key_is : key ≡ draft.key
    pub kind_is : kind ≡ draft.kind
    pub eff_is : eff ≡ draft.eff
    pub parts_are : parts ≡ draft.parts
    pub own_is : own ≡ parts.seq
    pub stamp_is : stamp ≡ parts.stamp
    pub bytes_are : bytes ≡ canonical_octets kind parts

-- a to-do gives items of this kind under the method of the kind, and may be sent alone
pub record Sends (k : Kind) (parts : Parts) : Type 0 where
  pub kind_is : kind_of (method_of k) parts ≡ k
  pub suits : Suits (method_of k) parts

-- A draft is in canonical form: its to-do may be sent alone under the method of its kind, and gives this draft and no other.
pub record IsCanonical (draft : ItemDraft) : Type 0 where
  pub alone : drafts (method_of draft.kind) (draft.parts ∷ []) ≡ draft ∷ []
  pub suits : Suits (method_of draft.kind) draft.parts

abbrev pub draft_of : Key → ℕ → Todo → Kind → ItemDraft
draft_of key eff todo kind = record { key = key; kind = kind; eff = eff; parts = parts_of todo }

-- An item is the one that its to-do alone, in canonical form, gives under the method of its kind, within the limits.
pub record IsItem (key : Key) (own eff : ℕ) (stamp : Stamp) (bytes : List ℕ) (todo : Todo) (kind : Kind) : Type 0 where
  pub is_canonical : IsCanonical (draft_of key eff todo kind)
  pub within : IsWithinLimits (draft_of key eff todo kind)
  pub own_is : own ≡ todo.seq
  pub stamp_is : stamp ≡ todo.stamp
  pub bytes_are : bytes ≡ canonical_octets kind (parts_of todo)
