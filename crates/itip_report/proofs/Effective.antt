-- An effective sequence is no greater than the greatest SEQUENCE that there is.
use Rattle.std.proofs.Common.{◌≡◌, ℕ, suc, ◌+◌, ◌≤◌, List, [], ◌∷◌, sym, subst, ◌∙◌, append-nil, arith, Option, Some, None}
use Rattle.std.specs.Prelude.{map, ◌≢◌}
use Rattle.std.specs.List.{AllByRecursion}
use Rattle.itip_moment.specs.declared.moment.Moment.{Moment}
use Rattle.itip_todo.specs.Parts.{Parts}
use Rattle.itip_todo.specs.PartsOf.{parts_of}
use Rattle.itip_todo.specs.Properties.{Property}
use Rattle.itip_items.specs.Items.{ItemDraft, drafts_of, task_draft, add_drafts, attendee_draft, effective_sequence, kind_of, method_of}
use Rattle.itip_items.specs.declared.item.Item.{Item}
use Rattle.itip_items.specs.declared.kind.Kind.{Kind}
use Rattle.itip_items.specs.declared.kind.Kind.TheVariants as kind
use Rattle.itip_items.proofs.Lawfulness.{raised_small, series_small}
use Rattle.itip_items.proofs.SameItem.{draft, alone}
use Rattle.itip_state.specs.Organizers.{IsLastUsed}
use Rattle.itip_report.specs.NextSequence.{IsNext, last_sequence}

abbrev IsSmall : ItemDraft → Type 0
IsSmall draft = draft.eff ≤ last_sequence

module _ (parts : Parts) (seq : parts.seq ≤ last_sequence) (eff : ℕ) (small : eff ≤ last_sequence) where
  task_small : (k : Kind) (rid : Option Moment) → IsSmall (task_draft k eff rid parts)
  task_small k None = seq
  task_small k (Some id) = small

  add_small : (start : Option Moment) → AllByRecursion IsSmall (add_drafts eff start parts)
  add_small None = tt
  add_small (Some id) = (small, tt)

  attendees_small : (k : Kind) (list : List Property) → AllByRecursion IsSmall (map (attendee_draft k parts) list)
  attendees_small k [] = tt
  attendees_small k (a ∷ rest) = (seq, attendees_small k rest)

  drafts_small : (k : Kind) → AllByRecursion IsSmall (drafts_of k eff parts)
  drafts_small kind.Request = (task_small kind.Request parts.rid, tt)
  drafts_small kind.Cancel = (task_small kind.Cancel parts.rid, tt)
  drafts_small kind.Add = add_small parts.start
  drafts_small kind.Remove = attendees_small kind.Remove parts.attendees
  drafts_small kind.Reply = attendees_small kind.Reply parts.attendees
  drafts_small kind.Refresh = attendees_small kind.Refresh parts.attendees

pub eff_small : (item : Item) → item.eff ≤ last_sequence
eff_small item =
    let parts : Parts = parts_of item.todo in
    let eff : ℕ = effective_sequence (method_of item.kind) (parts ∷ []) parts in
    let small : eff ≤ last_sequence =
    raised_small parts _ item.todo.lawful (series_small (method_of item.kind) parts.uid (item.todo ∷ [])) in
    let k : Kind = kind_of (method_of item.kind) parts in
    let one : drafts_of k eff parts ≡ draft item ∷ [] = sym (append-nil (drafts_of k eff parts)) ∙ alone item in
    (subst (λ (ds : List ItemDraft). AllByRecursion IsSmall ds) one (drafts_small parts item.todo.lawful.seq eff small k)).0

-- the sequence that was used last is the effective sequence of an item
pub last_small : (heard : List Item) (uid : List ℕ) (n : ℕ) → IsLastUsed heard uid (Some n) → n ≤ last_sequence
last_small heard uid n (used, above) = subst (λ (m : ℕ). m ≤ last_sequence) used.eff_is (eff_small used.item)

pub one_more : (heard : List Item) (uid : List ℕ) (n : ℕ) → IsLastUsed heard uid (Some n) → n ≢ last_sequence →
    IsNext heard uid (Some (n + 1))
one_more heard uid n last other =
    let small : n ≤ last_sequence = last_small heard uid n last in
    let next : suc n ≡ n + 1 = omega arith in
    subst (λ (m : ℕ). IsNext heard uid (Some m)) next (last, omega (arith, small, other))
