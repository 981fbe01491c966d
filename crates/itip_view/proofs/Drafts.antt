-- What holds of all drafts that the to-do of an item gives holds of the item's own.
use Rattle.std.proofs.Common.{append-nil, ◌≡◌, ◌∙◌, sym, ℕ, List, [], ◌∷◌, map, subst}
use Rattle.std.specs.List.{AllByRecursion}
use Rattle.itip_todo.specs.Parts.{Parts}
use Rattle.itip_todo.specs.PartsOf.{parts_of}
use Rattle.itip_todo.specs.Properties.{Property}
use Rattle.itip_items.specs.Items.{ItemDraft, drafts_of, task_draft, add_drafts, attendee_draft, effective_sequence, kind_of, method_of}
use Rattle.itip_items.specs.declared.item.Item.{Item}
use Rattle.itip_items.specs.declared.kind.Kind.{Kind}
use Rattle.itip_items.specs.declared.kind.Kind.TheVariants as kind
use Rattle.itip_items.proofs.SameItem.{draft, alone}

module _ (P : ItemDraft → Type 0) where
  each_line : (k : Kind) (parts : Parts) → ((line : Property) → P (attendee_draft k parts line)) → (lines : List Property) →
      AllByRecursion P (map (attendee_draft k parts) lines)
  each_line k parts by_line [] = tt
  each_line k parts by_line (line ∷ lines) = (by_line line, each_line k parts by_line lines)

  each_draft : (parts : Parts) (eff : ℕ) → ((k : Kind) → P (task_draft k eff parts.rid parts)) →
      AllByRecursion P (add_drafts eff parts.start parts) → ((k : Kind) (line : Property) → P (attendee_draft k parts line)) →
      (k : Kind) → AllByRecursion P (drafts_of k eff parts)
  each_draft parts eff task add by_line kind.Request = (task kind.Request, tt)
  each_draft parts eff task add by_line kind.Cancel = (task kind.Cancel, tt)
  each_draft parts eff task add by_line kind.Add = add
  each_draft parts eff task add by_line kind.Remove = each_line kind.Remove parts (by_line kind.Remove) parts.attendees
  each_draft parts eff task add by_line kind.Reply = each_line kind.Reply parts (by_line kind.Reply) parts.attendees
  each_draft parts eff task add by_line kind.Refresh = each_line kind.Refresh parts (by_line kind.Refresh) parts.attendees

  pub of_item : (item : Item) → ((k : Kind) (eff : ℕ) → P (task_draft k eff item.todo.rid (parts_of item.todo))) →
      ((eff : ℕ) → AllByRecursion P (add_drafts eff item.todo.start (parts_of item.todo))) →
      ((k : Kind) (line : Property) → P (attendee_draft k (parts_of item.todo) line)) → P (draft item)
  of_item item task add by_line =
      let parts : Parts = parts_of item.todo in
      let eff : ℕ = effective_sequence (method_of item.kind) (parts ∷ []) parts in
      let k : Kind = kind_of (method_of item.kind) parts in
      let one : drafts_of k eff parts ≡ draft item ∷ [] = sym (append-nil (drafts_of k eff parts)) ∙ alone item in
      (subst (AllByRecursion P) one (each_draft parts eff (λ k. task k eff) (add eff) by_line k)).0
