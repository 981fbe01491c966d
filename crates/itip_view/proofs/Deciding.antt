-- Which answer decides, and whom the lines show, step by step.
use Rattle.std.proofs.Common.{◌≡◌, List, [], ◌∷◌, ◌++◌, refl, sym, ap, inl, inr, Option, Some, None, append_assoc}
use Rattle.std.specs.Prelude.{MatchOption}
use Rattle.itip_todo.specs.Properties.{Property}
use Rattle.itip_items.specs.declared.item.Item.{Item}
use Rattle.itip_view.specs.Answers.{Asked, Counts, NoneCounts, Decides, AreShown, shown_line, in_front}
use Rattle.itip_view.specs.declared.row.ShownAttendee.{ShownAttendee}

module _ (heard : List Item) where
  pub decides_later : (asked : Asked) (rest : List Asked) → NoneCounts heard asked → (answer : Option Item) → Decides heard rest answer →
      Decides heard (asked ∷ rest) answer
  decides_later asked rest none None decides = (none, decides)
  decides_later asked rest none (Some answer) decides = inr (none, decides)

  -- the last question
  pub decides_last : (asked : Asked) (answer : Option Item) → MatchOption answer (NoneCounts heard asked) (Counts heard asked) →
      Decides heard (asked ∷ []) answer
  decides_last asked None none = (none, tt)
  decides_last asked (Some answer) counts = inl counts

  pub shows_more : (asked_of : Property → List Asked) (line : Property) (lines : List Property) (answer : Option Item)
      (others : List ShownAttendee) → Decides heard (asked_of line) answer →
      AreShown heard asked_of lines others → AreShown heard asked_of (line ∷ lines) (in_front (shown_line line answer) others)
  shows_more asked_of line lines answer others decides rest = (answer, others, decides, rest, refl)

-- one more, or none, after those before
pub behind : (front others : List ShownAttendee) (shown : Option ShownAttendee) → front ++
    in_front shown others ≡ (front ++ in_front shown []) ++ others
behind front others None = ap (λ (xs : List ShownAttendee). xs ++ others) (sym (nothing front))
  where
    nothing : (xs : List ShownAttendee) → xs ++ [] ≡ xs
    nothing [] = refl
    nothing (x ∷ xs) = ap (λ (ys : List ShownAttendee). x ∷ ys) (nothing xs)
behind front others (Some one) = sym (append_assoc front (one ∷ []) others)
