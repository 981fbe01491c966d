-- The parts of a key (our own rule).
use Rattle.std.specs.Prelude.{List, [], ℕ, Option, Some, None}
use Rattle.itip_moment.specs.declared.moment.Moment.{Moment}
use Rattle.itip_items.specs.declared.key.Key.{Key}
use Rattle.itip_items.specs.declared.key.Key.TheVariants.{Series, Instance, Range, Answer, Refresh}

-- the UID that a key is about
abbrev pub uid_of : Key → List ℕ
uid_of (Series uid) = uid
uid_of (Instance uid id) = uid
uid_of (Range uid id) = uid
uid_of (Answer uid id attendee) = uid
uid_of (Refresh uid id attendee) = uid

-- the ranks of the kinds of key
abbrev pub rank_of : Key → ℕ
rank_of (Series uid) = 0
rank_of (Instance uid id) = 1
rank_of (Range uid id) = 2
rank_of (Answer uid id attendee) = 3
rank_of (Refresh uid id attendee) = 4

-- the instance that a key is about, or at which its range begins
abbrev pub instance_of : Key → Option Moment
instance_of (Series uid) = None
instance_of (Instance uid id) = Some id
instance_of (Range uid id) = Some id
instance_of (Answer uid id attendee) = id
instance_of (Refresh uid id attendee) = id

-- the attendee that a key is about, empty if there is none
abbrev pub attendee_of : Key → List ℕ
attendee_of (Series uid) = []
attendee_of (Instance uid id) = []
attendee_of (Range uid id) = []
attendee_of (Answer uid id attendee) = attendee
attendee_of (Refresh uid id attendee) = attendee
