-- Lists cut by UID (our own form): the rows of a UID are a block. And a set in parts, each UID in one part, whose lists are merged.
use Rattle.std.specs.Prelude.{◌≡◌, ◌≢◌, ◌↔◌, ℕ, ◌<◌, List, length}
use Rattle.std.specs.List.{Contains, AllPairs, AllZip, flat_map, sum_by}
use Rattle.std.specs.List.Sorted.{IsPermutation}
use Rattle.std.specs.Ordering.{nat_cmp}
use Rattle.std.specs.Cmp.Lexicographic.{slice_cmp}
use Rattle.std.specs.declared.cmp.Ordering.TheVariants.{Less}
use Rattle.itip_items.specs.KeyParts.{uid_of}
use Rattle.itip_items.specs.declared.item.Item.{Item}
use Rattle.itip_state.specs.Kept.{IsKept}
use Rattle.itip_view.specs.Showing.{AreRowsWhere}
use Rattle.itip_view.specs.declared.row.Row.{Row}
use Rattle.itip_view.specs.declared.window.Window.{Window}

-- rows of one UID
pub record Block : Type 0 where
  pub uid : List ℕ
  pub rows : List Row

-- it has rows, and all of them are of its UID
pub record IsBlock (block : Block) : Type 0 where
  pub some : 0 < length block.rows
  pub of_uid : (row : Row) → Contains block.rows row → row.uid ≡ block.uid

-- the rows of blocks, one block after another
abbrev pub rows_of_blocks : List Block → List Row
rows_of_blocks blocks = flat_map (λ (block : Block). block.rows) blocks

abbrev pub IsBlockBefore : Block → Block → Type 0
IsBlockBefore a b = slice_cmp nat_cmp a.uid b.uid ≡ Less

-- blocks sorted by UID, no two of one UID
abbrev pub AscendBlocks : List Block → Type 0
AscendBlocks = AllPairs IsBlockBefore

-- the rows of the view for which P holds, in their order, each once, cut into these blocks
pub record AreBlocksWhere (P : Row → Type 0) (window : Window) (heard : List Item) (blocks : List Block) : Type 0 where
  pub ascend : AscendBlocks blocks
  pub each : (block : Block) → Contains blocks block → IsBlock block
  pub are_rows : AreRowsWhere P heard window (rows_of_blocks blocks)

-- the elements of some lists, one list after another
abbrev pub joined : {X : Type 0} → List (List X) → List X
joined {X} lists = flat_map (λ (list : List X). list) lists

-- how many rows some lists have, added up
abbrev pub number_of_rows : List (List Block) → ℕ
number_of_rows lists = sum_by (λ (blocks : List Block). length (rows_of_blocks blocks)) lists

-- the blocks of some lists, sorted by UID
pub record AreMerged (lists : List (List Block)) (merged : List Block) : Type 0 where
  pub ascend : AscendBlocks merged
  pub same : IsPermutation (joined lists) merged

-- no UID of the one set is a UID of the other
abbrev pub ShareNoUid : List Item → List Item → Type 0
ShareNoUid part other = (a b : Item) → Contains part a → Contains other b → uid_of a.key ≢ uid_of b.key

-- Together these parts keep what the whole keeps, as they do if they have its items; and no UID is in two of them.
pub record ArePartsByUid (parts : List (List Item)) (whole : List Item) : Type 0 where
  pub same : (item : Item) → IsKept whole item ↔ IsKept (joined parts) item
  pub apart : AllPairs ShareNoUid parts

-- each of these lists is that of the part at the same index
abbrev pub AreBlocksOfParts : (Row → Type 0) → Window → List (List Item) → List (List Block) → Type 0
AreBlocksOfParts P window = AllZip (AreBlocksWhere P window)
