-- What is written of the rows that a desk is asked for (our own format).
use Rattle.std.specs.Prelude.{◌≡◌, ◌≤◌, ◌⊎◌, ℕ, List, ◌++◌, length, Option, Some, None}
use Rattle.itip_streams.specs.Written.{AppendsFront, MovesOut}
use Rattle.itip_view.specs.ByUid.{AreLeft, IsCountOf}
use Rattle.itip_view.specs.Rows.{row_limit}
use Rattle.itip_view.specs.declared.row_count.RowCount.TheVariants.{TooMany}
use Rattle.itip_view.specs.declared.by_uid.RowsByUid.{RowsByUid}
use Rattle.itip_view.specs.declared.row_count.MostRows.{MostRows}
use Rattle.itip_view.specs.declared.row.Row.{Row}
use Rattle.itip_desk.specs.Listed.{headed_text}
use Rattle.itip_desk.specs.Refusals.{refused_text}

-- the text of the remaining rows, which are no more than the limit, after their head
pub record HasHeadedText (word : List ℕ) (desk : ℕ) (asked : RowsByUid) (text : List ℕ) : Type 0 where
  pub rows : List Row
  pub are_left : AreLeft asked rows
  pub few : length rows ≤ row_limit
  pub text_is : text ≡ headed_text word desk rows

-- That text; or, if there are too many rows, `refused 31` and the to-do that has the most of them.
abbrev pub IsHeadedList : List ℕ → ℕ → RowsByUid → Option MostRows → List ℕ → Type 0
IsHeadedList word desk asked None text = HasHeadedText word desk asked text
IsHeadedList word desk asked (Some most) text = IsCountOf asked (TooMany most) × (text ≡ refused_text 31)

-- Such a text was appended to what is kept to be written, and a prefix of both was written.
pub record WritesListed (word : List ℕ) (desk : ℕ) (asked : RowsByUid) (old new : Option (List ℕ)) (kept rest : List ℕ)
    (most : Option MostRows) : Type 0 where
  pub text : List ℕ
  pub is_listed : IsHeadedList word desk asked most text
  pub moved : MovesOut old new (kept ++ text) rest

-- A prefix of what is kept was written, or of that and the text of the rows after it, with its head.
abbrev pub WritesListedFront : List ℕ → ℕ → RowsByUid → Option (List ℕ) → Option (List ℕ) → List ℕ → Type 0
WritesListedFront word desk asked old new kept =
    AppendsFront old new kept ⊎ ((text : List ℕ) × HasHeadedText word desk asked text × AppendsFront old new (kept ++ text))
