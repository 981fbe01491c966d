-- Rows in their order are cut into blocks by UID.
use Rattle.std.proofs.Common.{◌≡◌, ◌⊎◌, ◌<◌, ◌∙◌, ℕ, List, [], ◌∷◌, length, refl, sym, ap, subst, inl, inr, arith}
use Rattle.std.specs.List.{Contains}
use Rattle.std.specs.Option.{option_cmp}
use Rattle.std.specs.Ordering.{nat_cmp, ordering_then}
use Rattle.std.specs.Cmp.Lexicographic.{slice_cmp}
use Rattle.std.specs.declared.cmp.Ordering.{Ordering}
use Rattle.std.specs.declared.cmp.Ordering.TheVariants.{Less, Equal, Greater}
use Rattle.std.proofs.lemmas.Cmp.{nat_list_cmp_total}
use Rattle.std.proofs.lemmas.List.Elements.{Contains-append_left}
use Rattle.std.proofs.lemmas.List.Kept.{AllPairs-cons}
use Rattle.std.proofs.lemmas.Map.Lookups.{exact_bytes}
use Rattle.itip_moment.specs.Order.{moment_cmp}
use Rattle.itip_items.specs.declared.item.Item.{Item}
use Rattle.itip_state.proofs.Members.{all_each, cons_cases, cons_first, cons_later, no_pairs, none_in}
use Rattle.itip_state.proofs.OfKey.{head_pair, tail_pairs}
use Rattle.itip_view.specs.Blocks.{Block, IsBlock, rows_of_blocks, IsBlockBefore, AscendBlocks, AreBlocksWhere}
use Rattle.itip_view.specs.Rows.{AscendRows, moment_of, row_cmp}
use Rattle.itip_view.specs.Showing.{AreRowsWhere}
use Rattle.itip_view.specs.declared.row.Row.{Row}
use Rattle.itip_view.specs.declared.window.Window.{Window}

-- these rows, cut into blocks
record AreCutInto (rows : List Row) (blocks : List Block) : Type 0 where
  ascend : AscendBlocks blocks
  each : (block : Block) → Contains blocks block → IsBlock block
  whole : rows ≡ rows_of_blocks blocks

-- what comes first by two orders in turn comes no later by the first of them
less_or_tied : (first rest : Ordering) → ordering_then first rest ≡ Less → (first ≡ Less) ⊎ (first ≡ Equal)
less_or_tied Less rest less = inl refl
less_or_tied Equal rest less = inr refl
less_or_tied Greater rest less = absurd (let x : Greater ≡ Less = less in cc)

-- rows after a row are of its UID, or of a later one
uid_behind : (row next : Row) → row_cmp row next ≡ Less → (slice_cmp nat_cmp row.uid next.uid ≡ Less) ⊎ (row.uid ≡ next.uid)
uid_behind row next before =
    elim (less_or_tied (slice_cmp nat_cmp row.uid next.uid) (option_cmp moment_cmp (moment_of row.id) (moment_of next.id)) before) [
      | inl less ↦ inl less
      | inr tied ↦ inr (exact_bytes row.uid next.uid tied)
    ]

some_in : (rows : List Row) → 0 < length rows → (row : Row) × Contains rows row
some_in [] some = absurd (omega (arith, some))
some_in (row ∷ rows) some = (row, cons_first row rows)

abbrev one_block : Row → Block
one_block row = record { uid = row.uid; rows = row ∷ [] }

one_is : (row : Row) → IsBlock (one_block row)
one_is row = record {
  some = omega arith;
  of_uid = λ other h. elim (cons_cases row [] other h) [
    | inl same ↦ ap (λ (r : Row). r.uid) (sym same)
    | inr none ↦ absurd (none_in other none)
  ];
}

module _ (row : Row) (rows : List Row) (before : (next : Row) → Contains rows next → row_cmp row next ≡ Less) where
  -- a row before all blocks is a block of its own
  alone : (blocks : List Block) → AreCutInto rows blocks → ((block : Block) → Contains blocks block → slice_cmp nat_cmp row.uid block.uid ≡
      Less) → AreCutInto (row ∷ rows) (one_block row ∷ blocks)
  alone blocks cut earlier = record {
    ascend = AllPairs-cons IsBlockBefore (one_block row) blocks (all_each (IsBlockBefore (one_block row)) blocks earlier) cut.ascend;
    each = λ block h. elim (cons_cases (one_block row) blocks block h) [
      | inl same ↦ subst IsBlock same (one_is row)
      | inr later ↦ cut.each block later
    ];
    whole = ap (λ (others : List Row). row ∷ others) cut.whole;
  }

  module _ (first : Block) (blocks : List Block) (cut : AreCutInto rows (first ∷ blocks)) where
    -- or the first row of the first block
    abbrev grown : Block
    grown = record { uid = first.uid; rows = row ∷ first.rows }

    grows : row.uid ≡ first.uid → AreCutInto (row ∷ rows) (grown ∷ blocks)
    grows same = record {
      ascend = AllPairs-cons IsBlockBefore grown blocks
          (all_each (IsBlockBefore grown) blocks (head_pair IsBlockBefore first blocks cut.ascend))
          (tail_pairs IsBlockBefore first blocks cut.ascend);
      each = λ block h. elim (cons_cases grown blocks block h) [
        | inl is ↦ subst IsBlock is (record {
          some = omega arith;
          of_uid = λ other there. elim (cons_cases row first.rows other there) [
            | inl one ↦ ap (λ (r : Row). r.uid) (sym one) ∙ same
            | inr later ↦ (cut.each first (cons_first first blocks)).of_uid other later
          ];
        })
        | inr later ↦ cut.each block (cons_later first blocks block later)
      ];
      whole = ap (λ (others : List Row). row ∷ others) cut.whole;
    }

    -- the first block has a row of its UID
    uid_of_first : (slice_cmp nat_cmp row.uid first.uid ≡ Less) ⊎ (row.uid ≡ first.uid)
    uid_of_first =
        let is = cut.each first (cons_first first blocks) in
        let one = some_in first.rows is.some in
        let there : Contains rows one.0 =
        subst (λ (list : List Row). Contains list one.0) (sym cut.whole)
        (Contains-append_left first.rows (rows_of_blocks blocks) one.0 one.1) in
        subst (λ (uid : List ℕ). (slice_cmp nat_cmp row.uid uid ≡ Less) ⊎ (row.uid ≡ uid)) (is.of_uid one.0 one.1)
        (uid_behind row one.0 (before one.0 there))

    earlier_than : slice_cmp nat_cmp row.uid first.uid ≡ Less → (block : Block) → Contains (first ∷ blocks) block →
        slice_cmp nat_cmp row.uid block.uid ≡ Less
    earlier_than less block h = elim (cons_cases first blocks block h) [
      | inl same ↦ subst (λ (b : Block). slice_cmp nat_cmp row.uid b.uid ≡ Less) same less
      | inr later ↦ nat_list_cmp_total.trans row.uid first.uid block.uid less (head_pair IsBlockBefore first blocks cut.ascend block later)
    ]

    more : (all : List Block) × AreCutInto (row ∷ rows) all
    more = elim uid_of_first [
      | inl less ↦ (one_block row ∷ (first ∷ blocks), alone (first ∷ blocks) cut (earlier_than less))
      | inr same ↦ (grown ∷ blocks, grows same)
    ]

  put : (blocks : List Block) → AreCutInto rows blocks → (all : List Block) × AreCutInto (row ∷ rows) all
  put [] cut = (one_block row ∷ [], alone [] cut (λ block h. absurd (none_in block h)))
  put (first ∷ blocks) cut = more first blocks cut

some_cut : (rows : List Row) → AscendRows rows → (blocks : List Block) × AreCutInto rows blocks
some_cut [] up = ([], record { ascend = no_pairs IsBlockBefore; each = λ block h. absurd (none_in block h); whole = refl })
some_cut (row ∷ rows) up =
    let rest = some_cut rows (tail_pairs (λ (a b : Row). row_cmp a b ≡ Less) row rows up) in
    put row rows (head_pair (λ (a b : Row). row_cmp a b ≡ Less) row rows up) rest.0 rest.1

pub some_blocks : (P : Row → Type 0) (heard : List Item) (window : Window) (rows : List Row) → AreRowsWhere P heard window rows →
    (blocks : List Block) × AreBlocksWhere P window heard blocks × (rows ≡ rows_of_blocks blocks)
some_blocks P heard window rows are =
    let cut = some_cut rows are.ascend in (
      cut.0,
      record {
        ascend = cut.1.ascend;
        each = cut.1.each;
        are_rows = subst (λ (list : List Row). AreRowsWhere P heard window list) cut.1.whole are;
      },
      cut.1.whole,
    )
