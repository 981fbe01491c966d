-- The lists of parts that share no UID, merged, are the list of the whole.
use Rattle.std.proofs.Common.{◌≡◌, ◌↔◌, ◌<◌, ◌+◌, ◌∙◌, ℕ, List, [], ◌∷◌, ◌++◌, length, length-append, refl, sym, ap, subst, inl, inr}
use Rattle.std.specs.List.{Contains, AllPairs}
use Rattle.std.specs.Option.{option_cmp}
use Rattle.std.specs.Ordering.{nat_cmp, ordering_then}
use Rattle.std.specs.Cmp.Lexicographic.{slice_cmp}
use Rattle.std.specs.declared.cmp.Ordering.TheVariants.{Less}
use Rattle.std.proofs.lemmas.List.Concat.{flat_map-append, length-flat_map}
use Rattle.std.proofs.lemmas.List.Elements.{Contains-append_cases, Contains-append_left, Contains-append_right}
use Rattle.std.proofs.lemmas.List.Kept.{AllPairs-cons}
use Rattle.std.proofs.lemmas.List.Sorted.{Contains-permutation, IsPermutation-sym, sum_by-IsPermutation}
use Rattle.std.proofs.lemmas.List.Sums.{sum_by-cons}
use Rattle.itip_moment.specs.Order.{moment_cmp}
use Rattle.itip_items.specs.declared.item.Item.{Item}
use Rattle.itip_state.proofs.Members.{all_each, cons_cases, cons_first, cons_later, no_pairs, none_in, pairs_append}
use Rattle.itip_state.proofs.OfKey.{head_pair, tail_pairs}
use Rattle.itip_view.specs.Blocks.{Block, IsBlock, rows_of_blocks, AscendBlocks, AreBlocksWhere, joined, number_of_rows, AreMerged}
use Rattle.itip_view.specs.Blocks.{ShareNoUid, ArePartsByUid, AreBlocksOfParts, IsBlockBefore}
use Rattle.itip_view.specs.Rows.{IsRow, AscendRows, moment_of, row_cmp, row_limit}
use Rattle.itip_view.specs.Showing.{AreTooManyWhere}
use Rattle.itip_view.specs.declared.row.Row.{Row}
use Rattle.itip_view.specs.declared.window.Window.{Window}
use Rattle.itip_view.proofs.Alike.{alike_back}
use Rattle.itip_view.proofs.Apart.{row_of_two, apart_from_all}
use Rattle.itip_view.proofs.Needing.{row_needs_days}
use Rattle.itip_view.proofs.OfKept.{row_of_same}
use Rattle.itip_view.proofs.OneList.{rows_over}
use Rattle.itip_view.proofs.SameAsked.{over_limit}

abbrev IsBefore : Row → Row → Type 0
IsBefore a b = row_cmp a b ≡ Less

-- ---- the rows of blocks

module _ {X : Type 0} (R : X → X → Type 0) where
  pairs_in_front : (xs ys : List X) → AllPairs R (xs ++ ys) → AllPairs R xs
  pairs_in_front [] ys up = no_pairs R
  pairs_in_front (x ∷ xs) ys up = AllPairs-cons R x xs
      (all_each (R x) xs (λ y h. head_pair R x (xs ++ ys) up y (Contains-append_left xs ys y h)))
      (pairs_in_front xs ys (tail_pairs R x (xs ++ ys) up))

  pairs_behind : (xs ys : List X) → AllPairs R (xs ++ ys) → AllPairs R ys
  pairs_behind [] ys up = up
  pairs_behind (x ∷ xs) ys up = pairs_behind xs ys (tail_pairs R x (xs ++ ys) up)

-- a row of blocks is one of a block
in_block : (blocks : List Block) (row : Row) → Contains (rows_of_blocks blocks) row → (block : Block) × Contains blocks block ×
    Contains block.rows row
in_block [] row h = absurd (none_in row h)
in_block (block ∷ blocks) row h = elim (Contains-append_cases block.rows (rows_of_blocks blocks) row h) [
  | inl here ↦ (block, cons_first block blocks, here)
  | inr later ↦ let found = in_block blocks row later in (found.0, cons_later block blocks found.0 found.1, found.2)
]

of_block : (blocks : List Block) (block : Block) (row : Row) → Contains blocks block → Contains block.rows row →
    Contains (rows_of_blocks blocks) row
of_block [] block row h there = absurd (none_in block h)
of_block (first ∷ blocks) block row h there = elim (cons_cases first blocks block h) [
  | inl same ↦ Contains-append_left first.rows (rows_of_blocks blocks) row
      (subst (λ (b : Block). Contains b.rows row) (sym same) there)
  | inr later ↦ Contains-append_right first.rows (rows_of_blocks blocks) row (of_block blocks block row later there)
]

-- the rows of a block are in the order of the list
rows_within : (blocks : List Block) → AscendRows (rows_of_blocks blocks) → (block : Block) → Contains blocks block →
    AscendRows block.rows
rows_within [] up block h = absurd (none_in block h)
rows_within (first ∷ blocks) up block h = elim (cons_cases first blocks block h) [
  | inl same ↦ subst (λ (b : Block). AscendRows b.rows) same (pairs_in_front IsBefore first.rows (rows_of_blocks blocks) up)
  | inr later ↦ rows_within blocks (pairs_behind IsBefore first.rows (rows_of_blocks blocks) up) block later
]

by_uid : (row next : Row) (a b : Block) → row.uid ≡ a.uid → next.uid ≡ b.uid → IsBlockBefore a b → row_cmp row next ≡ Less
by_uid row next a b mine theirs before =
    ap (λ o. ordering_then o (option_cmp moment_cmp (moment_of row.id) (moment_of next.id)))
    (ap (λ (u : List ℕ). slice_cmp nat_cmp u next.uid) mine ∙ ap (λ (u : List ℕ). slice_cmp nat_cmp a.uid u) theirs ∙ before)

-- blocks in their order have their rows in order
rows_ascend : (blocks : List Block) → AscendBlocks blocks → ((block : Block) → Contains blocks block → IsBlock block × AscendRows
    block.rows) → AscendRows (rows_of_blocks blocks)
rows_ascend [] up each = no_pairs IsBefore
rows_ascend (block ∷ blocks) up each =
    pairs_append IsBefore block.rows (rows_of_blocks blocks) (each block (cons_first block blocks)).1
    (rows_ascend blocks (tail_pairs IsBlockBefore block blocks up) (λ other h. each other (cons_later block blocks other h)))
    (λ row next h g.
    let found = in_block blocks next g in
    by_uid row next block found.0 ((each block (cons_first block blocks)).0.of_uid row h)
    ((each found.0 (cons_later block blocks found.0 found.1)).0.of_uid next found.2)
    (head_pair IsBlockBefore block blocks up found.0 found.1))

-- ---- all lists together

rows_of_lists : (blocks : List Block) (lists : List (List Block)) → rows_of_blocks (joined (blocks ∷ lists)) ≡
    rows_of_blocks blocks ++ rows_of_blocks (joined lists)
rows_of_lists blocks lists = flat_map-append (λ (block : Block). block.rows) blocks (joined lists)

rows_added : (lists : List (List Block)) → length (rows_of_blocks (joined lists)) ≡ number_of_rows lists
rows_added [] = refl
rows_added (blocks ∷ lists) =
    ap length (rows_of_lists blocks lists) ∙ length-append (rows_of_blocks blocks) (rows_of_blocks (joined lists)) ∙
    ap (λ (n : ℕ). length (rows_of_blocks blocks) + n) (rows_added lists) ∙
    sym (sum_by-cons (λ (list : List Block). length (rows_of_blocks list)) blocks lists)

module _ (P : Row → Type 0) (window : Window) where
  blocks_of_lists : (parts : List (List Item)) (lists : List (List Block)) → AreBlocksOfParts P window parts lists → (block : Block) →
      Contains (joined lists) block → IsBlock block × AscendRows block.rows
  blocks_of_lists [] [] each block h = absurd (none_in block h)
  blocks_of_lists [] (list ∷ lists) each block h = absurd each
  blocks_of_lists (part ∷ parts) [] each block h = absurd each
  blocks_of_lists (part ∷ parts) (list ∷ lists) each block h = elim (Contains-append_cases list (joined lists) block h) [
    | inl here ↦ (each.0.each block here, rows_within list each.0.are_rows.ascend block here)
    | inr later ↦ blocks_of_lists parts lists each.1 block later
  ]

  -- a row of parts that share no UID is one of a part
  row_of_lists : (parts : List (List Item)) (lists : List (List Block)) → AllPairs ShareNoUid parts →
      AreBlocksOfParts P window parts lists → (row : Row) →
      Contains (rows_of_blocks (joined lists)) row ↔ (IsRow (joined parts) window row × P row)
  row_of_lists [] [] apart each row =
      (λ h. absurd (none_in row h), λ is. let need = row_needs_days [] window row is.0 in absurd (none_in need.item need.is_heard))
  row_of_lists [] (list ∷ lists) apart each row = absurd each
  row_of_lists (part ∷ parts) [] apart each row = absurd each
  row_of_lists (part ∷ parts) (list ∷ lists) apart each row =
      let two = row_of_two part (joined parts) (apart_from_all part parts (head_pair ShareNoUid part parts apart)) window row in
      let rest = row_of_lists parts lists (tail_pairs ShareNoUid part parts apart) each.1 row in
      let all = rows_of_lists list lists in (
        λ h. elim (Contains-append_cases (rows_of_blocks list) (rows_of_blocks (joined lists)) row
            (subst (λ (rows : List Row). Contains rows row) all h)) [
              | inl here ↦ (two.1 (inl (each.0.are_rows.each row here)), each.0.are_rows.holds row here)
              | inr later ↦ let is = rest.0 later in (two.1 (inr is.0), is.1)
            ],
        λ is. subst (λ (rows : List Row). Contains rows row) (sym all) (elim (two.0 is.0) [
          | inl here ↦ Contains-append_left (rows_of_blocks list) (rows_of_blocks (joined lists)) row (each.0.are_rows.all row here is.1)
          | inr later ↦ Contains-append_right (rows_of_blocks list) (rows_of_blocks (joined lists)) row (rest.1 (later, is.1))
        ]),
      )

  row_of_joined : (parts : List (List Item)) → AllPairs ShareNoUid parts → (part : List Item) → Contains parts part → (row : Row) →
      IsRow part window row → IsRow (joined parts) window row
  row_of_joined [] apart part h row is = absurd (none_in part h)
  row_of_joined (first ∷ parts) apart part h row is =
      let two = row_of_two first (joined parts) (apart_from_all first parts (head_pair ShareNoUid first parts apart)) window row in
      elim (cons_cases first parts part h) [
        | inl same ↦ two.1 (inl (subst (λ (p : List Item). IsRow p window row) (sym same) is))
        | inr later ↦ two.1 (inr (row_of_joined parts (tail_pairs ShareNoUid first parts apart) part later row is))
      ]

  module _ (parts : List (List Item)) (whole : List Item) (are : ArePartsByUid parts whole) where
    row_of_whole : (row : Row) → IsRow (joined parts) window row ↔ IsRow whole window row
    row_of_whole row = (
      row_of_same (joined parts) whole (alike_back whole (joined parts) are.same) window row,
      row_of_same whole (joined parts) are.same window row,
    )

    module _ (lists : List (List Block)) (merged : List Block) (each : AreBlocksOfParts P window parts lists)
        (merge : AreMerged lists merged) where
      -- a block that was merged is one of a list
      from_merged : (block : Block) → Contains merged block → Contains (joined lists) block
      from_merged block = Contains-permutation merged (joined lists) block (IsPermutation-sym (joined lists) merged merge.same)

      merged_row : (row : Row) → Contains (rows_of_blocks merged) row ↔ (IsRow whole window row × P row)
      merged_row row =
          let of_lists = row_of_lists parts lists are.apart each row in (
            λ h.
                let found = in_block merged row h in
                let is = of_lists.0 (of_block (joined lists) found.0 row (from_merged found.0 found.1) found.2) in
                ((row_of_whole row).0 is.0, is.1),
            λ is.
                let found = in_block (joined lists) row (of_lists.1 ((row_of_whole row).1 is.0, is.1)) in
                of_block merged found.0 row (Contains-permutation (joined lists) merged found.0 merge.same found.1) found.2,
          )

      -- the blocks of the parts' lists, sorted, are those of the list of the whole
      pub merged_blocks : AreBlocksWhere P window whole merged
      merged_blocks = record {
        ascend = merge.ascend;
        each = λ block h. (blocks_of_lists parts lists each block (from_merged block h)).0;
        are_rows = record {
          ascend = rows_ascend merged merge.ascend (λ block h. blocks_of_lists parts lists each block (from_merged block h));
          each = λ row h. ((merged_row row).0 h).0;
          holds = λ row h. ((merged_row row).0 h).1;
          all = λ row is holds. (merged_row row).1 (is, holds);
        };
      }

      merged_number : length (rows_of_blocks merged) ≡ number_of_rows lists
      merged_number =
          length-flat_map (λ (block : Block). block.rows) merged ∙
          sum_by-IsPermutation (λ (block : Block). length block.rows) (joined lists) merged merge.same ∙
          sym (length-flat_map (λ (block : Block). block.rows) (joined lists)) ∙ rows_added lists

      pub too_many_added : AreTooManyWhere P whole window ↔ (row_limit < number_of_rows lists)
      too_many_added = (
        λ over. subst (λ (n : ℕ). row_limit < n) merged_number
            (rows_over P whole window (rows_of_blocks merged) merged_blocks.are_rows over),
        λ many. over_limit P whole window (rows_of_blocks merged) merged_blocks.are_rows
            (subst (λ (n : ℕ). row_limit < n) (sym merged_number) many),
      )

    -- if a part has too many rows, so has the whole
    pub too_many_of_part : (part : List Item) → Contains parts part → AreTooManyWhere P part window → AreTooManyWhere P whole window
    too_many_of_part part h over = record {
      some = over.some;
      ascend = over.ascend;
      each = λ row there. (row_of_whole row).0 (row_of_joined parts are.apart part h row (over.each row there));
      holds = over.holds;
      many = over.many;
    }
