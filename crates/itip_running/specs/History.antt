-- The history of a running desk, a list that only grows: what each call of `publish` was to show, a list of batches (our own form).
-- Here are the rule of its book, and what a step on it tells.
use Rattle.std.specs.Prelude.{ℕ, ◌≡◌, ◌==◌, true, List, [], ◌∷◌, ◌++◌, length, MatchBool}
use Rattle.logbook.specs.Pages.{Cell, Step, View, Book, Named}
use Rattle.itip_items.specs.declared.item.Item.{Item}

-- a batch, as contracts see it
abbrev pub Items : Type 0
Items = List Item

-- what one call of `publish` was to show: the batches that were submitted since the call before it
abbrev pub Group : Type 0
Group = List Items

-- the batches of these groups, one after another
abbrev pub batches_of : List Group → List Items
batches_of [] = []
batches_of (group ∷ groups) = group ++ batches_of groups

-- The first word is the length of the history. A book has two words; this one leaves the second at 0.
pub record IsCounted (cells : List Cell) (log : List Group) : Type 0 where
  pub words : cells ≡ (length log, true) ∷ (0, true) ∷ []

-- the word by which a history grows
abbrev pub head_of : Book → Named
head_of b = record { tracked = true; key = 0; book = b }

-- the group was added to all that had been seen, or the history had another length
abbrev pub Adds : Step Group → View Group ℕ → ℕ → View Group ℕ → Type 0
Adds s v found w = MatchBool (found == s.old) (w.0 ≡ v.0 ++ s.ask ∷ []) (length w.0 ≡ found)
