-- The key of an item is about the UID of its to-do.
use Rattle.std.proofs.Common.{◌≡◌, ℕ, Bool, true, false, cond, List, [], ◌∷◌, refl, sym, subst, ◌∙◌, append-nil, Option, Some, None, map}
use Rattle.std.specs.List.{AllByRecursion}
use Rattle.itip_moment.specs.declared.moment.Moment.{Moment}
use Rattle.itip_todo.specs.Parts.{Parts}
use Rattle.itip_todo.specs.PartsOf.{parts_of}
use Rattle.itip_todo.specs.Table.{attendee_key}
use Rattle.itip_todo.specs.Properties.{Property}
use Rattle.itip_items.specs.KeyParts.{uid_of}
use Rattle.itip_items.specs.Items.{ItemDraft, drafts_of, task_draft, add_drafts, attendee_draft, instance_key, refreshes}
use Rattle.itip_items.specs.Items.{effective_sequence, kind_of, method_of}
use Rattle.itip_items.specs.declared.item.Item.{Item}
use Rattle.itip_items.specs.declared.key.Key.TheVariants as key
use Rattle.itip_items.specs.declared.kind.Kind.{Kind}
use Rattle.itip_items.specs.declared.kind.Kind.TheVariants as kind
use Rattle.itip_items.proofs.SameItem.{draft, alone}

-- a draft is about this UID
abbrev IsAbout : List ℕ → ItemDraft → Type 0
IsAbout uid draft = uid_of draft.key ≡ uid

instance_about : (b : Bool) (uid : List ℕ) (id : Moment) → uid_of (instance_key b uid id) ≡ uid
instance_about true uid id = refl
instance_about false uid id = refl

task_about : (k : Kind) (eff : ℕ) (rid : Option Moment) (parts : Parts) → IsAbout parts.uid (task_draft k eff rid parts)
task_about k eff None parts = refl
task_about k eff (Some id) parts = instance_about parts.range parts.uid id

add_about : (eff : ℕ) (start : Option Moment) (parts : Parts) → AllByRecursion (IsAbout parts.uid) (add_drafts eff start parts)
add_about eff None parts = tt
add_about eff (Some id) parts = (refl, tt)

chosen_about : (b : Bool) (parts : Parts) (a : Property) →
    uid_of (cond b (key.Refresh parts.uid parts.rid (attendee_key a.value)) (key.Answer parts.uid parts.rid (attendee_key a.value))) ≡
    parts.uid
chosen_about true parts a = refl
chosen_about false parts a = refl

attendees_about : (k : Kind) (parts : Parts) (list : List Property) → AllByRecursion (IsAbout parts.uid) (map (attendee_draft k parts) list)
attendees_about k parts [] = tt
attendees_about k parts (a ∷ rest) = (chosen_about (refreshes k) parts a, attendees_about k parts rest)

drafts_about : (k : Kind) (eff : ℕ) (parts : Parts) → AllByRecursion (IsAbout parts.uid) (drafts_of k eff parts)
drafts_about kind.Request eff parts = (task_about kind.Request eff parts.rid parts, tt)
drafts_about kind.Cancel eff parts = (task_about kind.Cancel eff parts.rid parts, tt)
drafts_about kind.Add eff parts = add_about eff parts.start parts
drafts_about kind.Remove eff parts = attendees_about kind.Remove parts parts.attendees
drafts_about kind.Reply eff parts = attendees_about kind.Reply parts parts.attendees
drafts_about kind.Refresh eff parts = attendees_about kind.Refresh parts parts.attendees

pub uid_of_item : (item : Item) → uid_of item.key ≡ item.todo.uid
uid_of_item item =
    let parts : Parts = parts_of item.todo in
    let eff : ℕ = effective_sequence (method_of item.kind) (parts ∷ []) parts in
    let k : Kind = kind_of (method_of item.kind) parts in
    let one : drafts_of k eff parts ≡ draft item ∷ [] = sym (append-nil (drafts_of k eff parts)) ∙ alone item in
    (subst (λ (ds : List ItemDraft). AllByRecursion (IsAbout parts.uid) ds) one (drafts_about k eff parts)).0
