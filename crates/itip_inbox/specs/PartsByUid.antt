-- Inputs in parts, each UID told of in one part alone: their lists, cut by UID, and their compactions, merged (our own form).
use Rattle.std.specs.Prelude.{◌≡◌, ◌≢◌, ◌≤◌, ◌<◌, ◌⊎◌, ℕ, List, length}
use Rattle.std.specs.List.{AllPairs, AllZip, flat_map}
use Rattle.itip_items.specs.KeyParts.{uid_of}
use Rattle.itip_items.specs.declared.item.Item.{Item}
use Rattle.itip_state.specs.Kept.{AreKept, SameItems}
use Rattle.itip_view.specs.Blocks.{Block, joined, rows_of_blocks}
use Rattle.itip_view.specs.ListText.{list_text}
use Rattle.itip_view.specs.Rows.{row_limit}
use Rattle.itip_desk.specs.Octets.{AscendOctets}
use Rattle.itip_desk.specs.Refusals.{refused_text}
use Rattle.itip_inbox.specs.Compaction.{HaveSameCompaction, TellsItem, all_inputs}
use Rattle.itip_inbox.specs.Inbox.{IsInbox}
use Rattle.itip_inbox.specs.declared.refused.RefusedMessage.{RefusedMessage}

-- the two parts tell of no UID in common
abbrev pub TellOfNoSameUid : List (List ℕ) → List (List ℕ) → Type 0
TellOfNoSameUid part other = (a b : Item) → TellsItem part a → TellsItem other b → uid_of a.key ≢ uid_of b.key

-- Together these parts have the compaction of the whole, as they do if they tell its items; and no two of them tell of one UID. A
-- part is a list of inputs.
pub record ArePartedByUid (parts : List (List (List ℕ))) (whole : List (List ℕ)) : Type 0 where
  pub same : HaveSameCompaction whole (all_inputs parts)
  pub apart : AllPairs TellOfNoSameUid parts

-- this holds of all items that some inputs tell
pub record IsOfHeard {X : Type 0} (Is : List Item → X → Type 0) (inputs : List (List ℕ)) (x : X) : Type 0 where
  pub heard : List Item
  pub refusals : List RefusedMessage
  pub inbox : IsInbox inputs heard refusals
  pub is : Is heard x

-- this holds of each part and what is beside it
abbrev pub AreOfHeard : {X : Type 0} → (List Item → X → Type 0) → List (List (List ℕ)) → List X → Type 0
AreOfHeard Is parts xs = AllZip (IsOfHeard Is) parts xs

-- the text of a block
abbrev pub block_text : Block → List ℕ
block_text block = list_text block.rows

-- The texts of blocks, one after another; or `refused 31` if they have too many rows for a list.
abbrev pub IsTextOfBlocks : List Block → List ℕ → Type 0
IsTextOfBlocks blocks text =
    ((length (rows_of_blocks blocks) ≤ row_limit) × (text ≡ flat_map block_text blocks))
    ⊎ ((row_limit < length (rows_of_blocks blocks)) × (text ≡ refused_text 31))

-- what is kept of what was heard, sorted by canonical bytes, each once
pub record IsKeptBatch (heard batch : List Item) : Type 0 where
  pub ascend : AscendOctets batch
  pub kept : AreKept batch heard

-- the items of some batches, sorted by canonical bytes, each once
pub record AreMergedBatches (batches : List (List Item)) (merged : List Item) : Type 0 where
  pub ascend : AscendOctets merged
  pub same : SameItems merged (joined batches)
