-- The own SEQUENCE of an item is no greater than the effective one.
use Rattle.std.proofs.Common.{◌≡◌, ◌≤◌, ℕ, List, [], ◌∷◌, map, sym, subst, ◌∙◌, append-nil, arith, Option, Some, None}
use Rattle.std.specs.List.{AllByRecursion}
use Rattle.itip_moment.specs.declared.moment.Moment.{Moment}
use Rattle.itip_todo.specs.Parts.{Parts}
use Rattle.itip_todo.specs.PartsOf.{parts_of}
use Rattle.itip_todo.specs.Properties.{Property}
use Rattle.itip_items.specs.Items.{ItemDraft, drafts_of, task_draft, add_drafts, attendee_draft, raised, series_sequence, kind_of}
use Rattle.itip_items.specs.Items.{method_of}
use Rattle.itip_items.specs.declared.item.Item.{Item}
use Rattle.itip_items.specs.declared.kind.Kind.{Kind}
use Rattle.itip_items.specs.declared.kind.Kind.TheVariants as kind
use Rattle.itip_items.proofs.SameItem.{draft, alone, own_is}

abbrev IsAbove : Parts → ItemDraft → Type 0
IsAbove parts draft = parts.seq ≤ draft.eff

module _ (parts : Parts) (eff : ℕ) (up : parts.seq ≤ eff) where
  task_above : (k : Kind) (rid : Option Moment) → IsAbove parts (task_draft k eff rid parts)
  task_above k None = omega arith
  task_above k (Some id) = up

  add_above : (start : Option Moment) → AllByRecursion (IsAbove parts) (add_drafts eff start parts)
  add_above None = tt
  add_above (Some id) = (up, tt)

  attendee_above : (k : Kind) (a : Property) → IsAbove parts (attendee_draft k parts a)
  attendee_above k a = omega arith

  attendees_above : (k : Kind) (list : List Property) → AllByRecursion (IsAbove parts) (map (attendee_draft k parts) list)
  attendees_above k [] = tt
  attendees_above k (a ∷ rest) = (attendee_above k a, attendees_above k rest)

  drafts_above : (k : Kind) → AllByRecursion (IsAbove parts) (drafts_of k eff parts)
  drafts_above kind.Request = (task_above kind.Request parts.rid, tt)
  drafts_above kind.Cancel = (task_above kind.Cancel parts.rid, tt)
  drafts_above kind.Add = add_above parts.start
  drafts_above kind.Remove = attendees_above kind.Remove parts.attendees
  drafts_above kind.Reply = attendees_above kind.Reply parts.attendees
  drafts_above kind.Refresh = attendees_above kind.Refresh parts.attendees

raised_up : (parts : Parts) (above : ℕ) → parts.seq ≤ raised parts above
raised_up parts above = omega arith

pub own_up : (item : Item) → item.own ≤ item.eff
own_up item =
    let parts : Parts = parts_of item.todo in
    let above : ℕ = series_sequence (method_of item.kind) parts.uid (parts ∷ []) in
    let k : Kind = kind_of (method_of item.kind) parts in
    let one : drafts_of k (raised parts above) parts ≡ draft item ∷ [] =
    sym (append-nil (drafts_of k (raised parts above) parts)) ∙ alone item in
    let up : parts.seq ≤ item.eff = (subst (λ (ds : List ItemDraft). AllByRecursion (IsAbove parts) ds) one
    (drafts_above parts (raised parts above) (raised_up parts above) k)).0 in
    subst (λ (n : ℕ). n ≤ item.eff) (sym (own_is item)) up
