-- A page, written as its head, its rows and its foot.
use Rattle.std.proofs.Common.{◌≡◌, ℕ, List, ◌++◌, sym, ap, subst, ◌∙◌, append_assoc, Option}
use Rattle.std.specs.Prelude.{ℤ}
use Rattle.std.specs.List.{flat_map}
use Rattle.std.specs.Io.KnownBytes.{Appends}
use Rattle.itip_streams.specs.Written.{AppendsFront, MovesOut}
use Rattle.itip_streams.proofs.Writing.{moves_more, all_moved, front_moved, front_longer, front_none}
use Rattle.itip_view.specs.ByUid.{AreFewLeft}
use Rattle.itip_view.specs.declared.by_uid.RowsByUid.{RowsByUid}
use Rattle.itip_view.specs.declared.window.Window.{Window}
use Rattle.itip_page.specs.Page.{head_markup, foot_markup, page_markup}
use Rattle.itip_page.specs.RowMarkup.{row_markup}

module _ (window : Window) (today : ℤ) (asked : RowsByUid) (number : ℕ) (few : AreFewLeft asked number) (old mid : Option (List ℕ))
    (head kept grown : List ℕ) (head_is : head ≡ head_markup window today number) where
  -- the rows after the head
  abbrev headed : List ℕ
  headed = head ++ flat_map (row_markup today) few.rows

  whole : headed ++ foot_markup ≡ page_markup window today few.rows
  whole =
      append_assoc head (flat_map (row_markup today) few.rows) foot_markup ∙
      ap (λ (t : List ℕ). t ++ (flat_map (row_markup today) few.rows ++ foot_markup)) head_is ∙
      ap (λ (n : ℕ). head_markup window today n ++ (flat_map (row_markup today) few.rows ++ foot_markup)) (sym few.number_is)

  -- a prefix of the head and the rows is one of the page
  pub page_front : AppendsFront old mid headed → AppendsFront old mid (page_markup window today few.rows)
  page_front front =
      subst (λ (t : List ℕ). AppendsFront old mid t) whole (front_longer old mid headed foot_markup front)

  module _ (moved : MovesOut old mid headed kept) where
    -- nothing more is written
    pub page_stays : AppendsFront old mid (page_markup window today few.rows)
    page_stays = page_front (front_moved old mid headed kept moved mid (front_none mid kept))

    module _ (grown_is : grown ≡ kept ++ foot_markup) (new : Option (List ℕ)) where
      footed : MovesOut old mid (page_markup window today few.rows) grown
      footed =
          subst (λ (t : List ℕ). MovesOut old mid t grown) whole (moves_more old mid headed kept moved foot_markup grown grown_is)

      pub page_written : Appends mid new grown → Appends old new (page_markup window today few.rows)
      page_written appended = all_moved old mid (page_markup window today few.rows) grown footed new appended

      pub page_cut : AppendsFront mid new grown → AppendsFront old new (page_markup window today few.rows)
      page_cut front = front_moved old mid (page_markup window today few.rows) grown footed new front
