-- The parts of a key, as a look-up compares them (our own form).
use Rattle.std.specs.Prelude.{◌≡◌}
use Rattle.std.specs.Option.{option_copied, option_cmp}
use Rattle.std.specs.Ordering.{nat_cmp, ordering_then}
use Rattle.std.specs.Cmp.Lexicographic.{slice_cmp}
use Rattle.std.specs.declared.cmp.Ordering.{Ordering}
use Rattle.itip_moment.specs.Order.{moment_cmp}
use Rattle.itip_items.specs.KeyParts.{uid_of, rank_of, instance_of, attendee_of}
use Rattle.itip_items.specs.declared.key.Key.{Key}
use Rattle.itip_state.specs.Slots.{time_cmp}
use Rattle.itip_state.specs.declared.parts.KeyParts.{KeyParts}

-- the key has these parts
pub record HasParts (key : Key) (parts : KeyParts) : Type 0 where
  pub uid : uid_of key ≡ parts.uid.now
  pub rank : rank_of key ≡ parts.rank
  pub instance : instance_of key ≡ option_copied parts.instance
  pub attendee : attendee_of key ≡ parts.attendee.now

-- a key compared with the parts of another, by attendee and instance
abbrev pub tied_beside : Key → KeyParts → Ordering
tied_beside key parts =
    ordering_then (slice_cmp nat_cmp (attendee_of key) parts.attendee.now)
    (option_cmp moment_cmp (instance_of key) (option_copied parts.instance))

-- the same by the time of the instance, then by these
abbrev pub within_beside : Key → KeyParts → Ordering
within_beside key parts =
    ordering_then (option_cmp time_cmp (instance_of key) (option_copied parts.instance)) (tied_beside key parts)

-- the same by kind of key, then by these
abbrev pub rest_beside : Key → KeyParts → Ordering
rest_beside key parts = ordering_then (nat_cmp (rank_of key) parts.rank) (within_beside key parts)

-- the same, then by UID
abbrev pub parts_cmp : Key → KeyParts → Ordering
parts_cmp key parts = ordering_then (rest_beside key parts) (slice_cmp nat_cmp (uid_of key) parts.uid.now)
