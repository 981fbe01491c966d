-- The items that drafts give (our own form).
use Rattle.std.specs.Prelude.{◌≡◌, ◌⊎◌, ℕ, ◌+◌, List, [], ◌∷◌, ◌++◌, map}
use Rattle.std.specs.List.{AllByRecursion, Any}
use Rattle.itip_todo.specs.Parts.{Parts}
use Rattle.itip_todo.specs.PartsOf.{parts_of}
use Rattle.itip_items.specs.Items.{ItemDraft, drafts_of, kind_of, effective_sequence, IsWithinLimits, IsOfDraft}
use Rattle.itip_items.specs.declared.error.FormError.{FormError}
use Rattle.itip_items.specs.declared.error.FormError.TheVariants as error
use Rattle.itip_items.specs.declared.error.ItemError.{ItemError}
use Rattle.itip_items.specs.declared.error.ItemError.TheVariants as item_error
use Rattle.itip_items.specs.declared.item.Item.{Item}
use Rattle.itip_items.specs.declared.kind.Method.{Method}

abbrev pub IsItemOf : ItemDraft → Item → Type 0
IsItemOf draft item = IsOfDraft draft item.key item.own item.eff item.stamp item.bytes (parts_of item.todo) item.kind

-- these items are those of the drafts, in their order
abbrev pub AreItemsOf : List ItemDraft → List Item → Type 0
AreItemsOf [] [] = Unit {0}
AreItemsOf [] (item ∷ items) = ⊥
AreItemsOf (draft ∷ drafts) [] = ⊥
AreItemsOf (draft ∷ drafts) (item ∷ items) = IsItemOf draft item × AreItemsOf drafts items

-- the items of drafts, each within the limits
pub record GivesItems (given : List ItemDraft) (items : List Item) : Type 0 where
  pub within : AllByRecursion IsWithinLimits given
  pub items_are : AreItemsOf given items

-- the canonical form of some draft is too large
pub record IsOver (given : List ItemDraft) : Type 0 where
  pub over : Any (λ draft. ¬ IsWithinLimits draft) given

-- if the error is `TooLarge`, P holds; of a failed allocation nothing is said
abbrev pub IfLarge : ItemError → Type 0 → Type 0
IfLarge item_error.NoMemory P = Unit {0}
IfLarge item_error.TooLarge P = P

-- what each of the to-dos `rest` gives in a message with the to-dos `all`
abbrev pub drafts_each : Method → List Parts → List Parts → List (List ItemDraft)
drafts_each m all rest = map (λ parts. drafts_of (kind_of m parts) (effective_sequence m all parts) parts) rest

-- of these drafts, grouped by to-do, those of the to-do `todo` are the first with a form that is too large; the first
-- to-do has the number `number`
abbrev pub FirstOver : ℕ → List (List ItemDraft) → ℕ → Type 0
FirstOver number [] todo = ⊥
FirstOver number (given ∷ others) todo = ((todo ≡ number) × IsOver given) ⊎
    (AllByRecursion IsWithinLimits given × FirstOver (number + 1) others todo)

-- if the error is `TooLarge`, P holds of the to-do's number; of a failed allocation nothing is said
abbrev pub IfTooLarge : FormError → (ℕ → Type 0) → Type 0
IfTooLarge error.NoMemory P = Unit {0}
IfTooLarge (error.TooLarge todo) P = P todo

-- the error of an item as that of its message, with the number of its to-do
abbrev pub error_of_todo : ItemError → ℕ → FormError
error_of_todo item_error.NoMemory todo = error.NoMemory
error_of_todo item_error.TooLarge todo = error.TooLarge todo

-- an item is that of a draft, within the limits
abbrev pub Gives : ItemDraft → Item → Type 0
Gives draft item = IsItemOf draft item × IsWithinLimits draft

-- the items of the drafts follow those that were there
pub record Adds (given : List ItemDraft) (old new : List Item) : Type 0 where
  pub added : List Item
  pub whole : new ≡ old ++ added
  pub gives : GivesItems given added
