-- What contracts see of a keeper, of a pass and of a receipt: lists of groups of batches, and which pair it is (our own form).
use Rattle.std.specs.Prelude.{◌≡◌, ◌⊎◌, List, [], ◌∷◌, ◌++◌, Option, Some, None}
use mathlib.Core.List.{IsPrefix}
use Rattle.logbook.specs.Pages.{Book}
use Rattle.itip_items.specs.declared.item.Item.{Item}
use Rattle.itip_running.specs.History.{Group, batches_of}
use Rattle.itip_running.specs.Pair.{published_groups, published_log, pending_log}
use Rattle.itip_running.specs.declared.published.Published.{Published}
use Rattle.itip_running.specs.declared.write_end.WriteEnd.{WriteEnd}
use Rattle.itip_running.specs.declared.monotonic_reads.ReadEnd.{ReadEnd}
use Rattle.itip_running.specs.declared.receipt.Receipt.{Receipt}
use Rattle.itip_running.specs.declared.keeper.Keeper.{Keeper}
use Rattle.itip_running.specs.declared.pass.Pass.{Pass}

-- For the keeper's end of a pair: the value that is shown, the published groups and their batches, the pending batches, the groups of all
-- calls of `publish`, the batches that were submitted since the last of them, and which pair it is.
abbrev pub shown_value : WriteEnd → Published
shown_value e = e.writer.desk.shown.value

abbrev pub writer_groups : WriteEnd → List Group
writer_groups e = published_groups e.writer.desk.shown.value

abbrev pub writer_published : WriteEnd → List (List Item)
writer_published e = published_log e.writer.desk.shown.value

abbrev pub writer_pending : WriteEnd → List (List Item)
writer_pending e = pending_log e.writer.behind e.writer.log.items

abbrev pub writer_calls : WriteEnd → List Group
writer_calls e = e.last.seen.log

abbrev pub writer_fresh : WriteEnd → List (List Item)
writer_fresh e = e.fresh

abbrev pub writer_pair : WriteEnd → Book
writer_pair e = e.last.seen.book

-- For a reader's end: the published groups that it has seen, their batches, and which pair it is.
abbrev pub reader_groups : ReadEnd → List Group
reader_groups e = e.front.seen.log

abbrev pub reader_seen : ReadEnd → List (List Item)
reader_seen e = batches_of e.front.seen.log

abbrev pub reader_pair : ReadEnd → Book
reader_pair e = e.front.seen.book

abbrev pub end_groups : Option WriteEnd → List Group
end_groups None = []
end_groups (Some e) = writer_groups e

abbrev pub end_pending : Option WriteEnd → List (List Item)
end_pending None = []
end_pending (Some e) = writer_pending e

abbrev pub end_calls : Option WriteEnd → List Group
end_calls None = []
end_calls (Some e) = writer_calls e

abbrev pub end_fresh : Option WriteEnd → List (List Item)
end_fresh None = []
end_fresh (Some e) = writer_fresh e

abbrev pub end_pair : Option WriteEnd → Option Book
end_pair None = None
end_pair (Some e) = Some (writer_pair e)

-- the groups of batches that were published: each was shown at once
abbrev pub publishes : Keeper → List Group
publishes k = end_groups k.end

-- the batches that were published, which are those of these groups
abbrev pub published : Keeper → List (List Item)
published k = batches_of (publishes k)

-- the batches that were submitted but aren't published
abbrev pub pending : Keeper → List (List Item)
pending k = end_pending k.end

-- the groups of all calls of `publish`: those that were published, and then those of calls that were refused
abbrev pub calls : Keeper → List Group
calls k = end_calls k.end

-- the batches that were submitted since the last of these calls
abbrev pub fresh : Keeper → List (List Item)
fresh k = end_fresh k.end

-- which pair a keeper has
abbrev pub keeper_pair : Keeper → Option Book
keeper_pair k = end_pair k.end

abbrev pub end_reader_groups : Option ReadEnd → List Group
end_reader_groups None = []
end_reader_groups (Some e) = reader_groups e

abbrev pub end_reader_pair : Option ReadEnd → Option Book
end_reader_pair None = None
end_reader_pair (Some e) = Some (reader_pair e)

-- the published groups that a pass has seen
abbrev pub publishes_seen : Pass → List Group
publishes_seen p = end_reader_groups p.end

-- the published batches that a pass has seen, which are those of these groups
abbrev pub seen : Pass → List (List Item)
seen p = batches_of (publishes_seen p)

-- which pair a pass has
abbrev pub pass_pair : Pass → Option Book
pass_pair p = end_reader_pair p.end

-- the groups that a receipt tells of: those that were published when a keeper gave it, or those that a pass had seen
abbrev pub publishes_told : Receipt → List Group
publishes_told r = r.front.seen.log

-- the batches of these groups
abbrev pub told : Receipt → List (List Item)
told r = batches_of r.front.seen.log

-- which pair a receipt is of
abbrev pub receipt_pair : Receipt → Option Book
receipt_pair r = Some r.front.seen.book

-- What a refused call of `publish` leaves: nothing more is published, and the same batches are pending; its group was added to those of
-- all calls, or it wasn't.
pub record IsRefusedCall (groups calls : List Group) (fresh : Group) (groups' calls' : List Group) (fresh' : Group) : Type 0 where
  pub groups_are : groups' ≡ groups
  pub calls_are : ((calls' ≡ calls) × (fresh' ≡ fresh)) ⊎ ((calls' ≡ calls ++ fresh ∷ []) × (fresh' ≡ []))

-- What a call of `publish` leaves that published all that was pending, at once, after what was published before.
pub record IsShownCall (groups calls : List Group) (fresh : Group) (groups' calls' : List Group) (fresh' : Group) : Type 0 where
  pub groups_are : groups' ≡ calls ++ fresh ∷ []
  pub grows : IsPrefix groups groups'
  pub calls_are : calls' ≡ groups'
  pub none_fresh : fresh' ≡ []
