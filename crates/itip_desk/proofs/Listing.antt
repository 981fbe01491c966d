-- The text of a list after its head.
use Rattle.std.proofs.Common.{◌≡◌, ℕ, List, [], ◌∷◌, ◌++◌, append_assoc, length, Result, Ok, Err, IfOk}
use Rattle.std.specs.Fmt.{decimal}
use Rattle.std.specs.Prelude.{codes}
use Rattle.itip_view.specs.ListText.{list_text}
use Rattle.itip_view.specs.declared.row.Row.{Row}
use Rattle.itip_desk.specs.Listed.{head_text, headed_text}

-- two facts about one result
pub if_ok_both : {A E : Type 0} (P Q R : A → Type 0) (r : Result A E) → ((a : A) → P a → Q a → R a) → IfOk r P → IfOk r Q → IfOk r R
if_ok_both P Q R (Ok a) f p q = f a p q
if_ok_both P Q R (Err e) f p q = tt

pub headed : (word : List ℕ) (desk : ℕ) (rows : List Row) → head_text word desk (length rows) ++ list_text rows ≡ headed_text word desk rows
headed word desk rows =
    append_assoc (word ++ codes " " ++ decimal desk ++ codes " rows " ++ decimal (length rows)) (10 ∷ []) (list_text rows)
