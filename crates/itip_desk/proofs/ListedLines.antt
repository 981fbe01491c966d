-- The lines of a list with its head that begin with TODO.
use Rattle.std.proofs.Common.{◌≡◌, ◌+◌, ℕ, true, false, List, [], ◌∷◌, ◌++◌, length, refl, sym, ap, ◌∙◌, arith, append-nil, add-zero}
use Rattle.std.specs.Prelude.{codes}
use Rattle.std.specs.Fmt.{decimal}
use Rattle.std.specs.List.{AllByRecursion}
use Rattle.itip_view.specs.ListText.{list_text}
use Rattle.itip_view.specs.TodoLines.{HasUnbrokenTexts, IsSmallNumber, todo_lines, todo_lines_from}
use Rattle.itip_view.specs.declared.row.Row.{Row}
use Rattle.itip_view.proofs.TodoLines.{Adds, then_adds, unbroken, line_end, rows_add, number_unbroken, written_out}
use Rattle.itip_desk.specs.Listed.{headed_text, listed_text, listed_for_text}

listed_word : Adds true (codes "list") 0 false
unfolding todo_lines_from
listed_word = record { adds = λ rest. omega arith }

mine_word : Adds true (codes "mine") 0 false
unfolding todo_lines_from
mine_word = record { adds = λ rest. omega arith }

module _ (word : List ℕ) (desk : ℕ) (rows : List Row) (starts : Adds true word 0 false) (small : IsSmallNumber desk)
    (few : IsSmallNumber (length rows)) (has : AllByRecursion HasUnbrokenTexts rows) where
  head : Adds true (word ++ codes " " ++ decimal desk ++ codes " rows " ++ decimal (length rows)) 0 false
  head =
      then_adds (word ++ codes " " ++ decimal desk ++ codes " rows ") (decimal (length rows))
      (then_adds (word ++ codes " " ++ decimal desk) (codes " rows ")
      (then_adds (word ++ codes " ") (decimal desk)
      (then_adds word (codes " ") starts (unbroken (codes " ") (written_out (codes " ") refl)))
      (unbroken (decimal desk) (number_unbroken desk small)))
      (unbroken (codes " rows ") (written_out (codes " rows ") refl)))
      (unbroken (decimal (length rows)) (number_unbroken (length rows) few))

  all : Adds true (headed_text word desk rows) (length rows) true
  all = record {
    adds = λ rest. (then_adds (word ++ codes " " ++ decimal desk ++ codes " rows " ++ decimal (length rows)) (10 ∷ list_text rows) head
        (then_adds (codes "\n") (list_text rows) line_end (rows_add rows has))).adds rest ∙
        ap (λ n. n + todo_lines_from true rest) (omega arith);
  }

  headed_lines : todo_lines (headed_text word desk rows) ≡ length rows
  unfolding todo_lines_from
  headed_lines = ap todo_lines (sym (append-nil (headed_text word desk rows))) ∙ all.adds [] ∙ add-zero (length rows)

pub lines_listed : (desk : ℕ) (rows : List Row) → IsSmallNumber desk → IsSmallNumber (length rows) →
    AllByRecursion HasUnbrokenTexts rows → todo_lines (listed_text desk rows) ≡ length rows
lines_listed desk rows small few has = headed_lines (codes "list") desk rows listed_word small few has

pub lines_mine : (desk : ℕ) (rows : List Row) → IsSmallNumber desk → IsSmallNumber (length rows) →
    AllByRecursion HasUnbrokenTexts rows → todo_lines (listed_for_text desk rows) ≡ length rows
lines_mine desk rows small few has = headed_lines (codes "mine") desk rows mine_word small few has
