-- Only the effective sequence of an instance or range item may differ from its own.
use Rattle.std.proofs.Common.{◌≡◌, ◌∙◌, sym, ap, refl, ℕ, List, Option, Some, None}
use Rattle.std.specs.Prelude.{Bool, true, false}
use Rattle.std.specs.List.{AllByRecursion}
use Rattle.itip_moment.specs.declared.moment.Moment.{Moment}
use Rattle.itip_todo.specs.Parts.{Parts}
use Rattle.itip_todo.specs.PartsOf.{parts_of}
use Rattle.itip_items.specs.Items.{ItemDraft, task_draft, add_drafts, instance_key}
use Rattle.itip_items.specs.declared.item.Item.{Item}
use Rattle.itip_items.specs.declared.key.Key.{Key}
use Rattle.itip_items.specs.declared.key.Key.TheVariants.{Series, Instance, Range, Answer, Refresh}
use Rattle.itip_items.specs.declared.kind.Kind.{Kind}
use Rattle.itip_items.proofs.SameItem.{own_is}
use Rattle.itip_view.proofs.Drafts.{of_item}

-- of an instance, or of it and all after it
abbrev is_instance : Key → Bool
is_instance (Series uid) = false
is_instance (Instance uid id) = true
is_instance (Range uid id) = true
is_instance (Answer uid id attendee) = false
is_instance (Refresh uid id attendee) = false

abbrev IsPlain : Parts → ItemDraft → Type 0
IsPlain parts draft = is_instance draft.key ≡ false → draft.eff ≡ parts.seq

instance_key-is : (range : Bool) (uid : List ℕ) (id : Moment) → is_instance (instance_key range uid id) ≡ true
instance_key-is true uid id = refl
instance_key-is false uid id = refl

task_plain : (k : Kind) (eff : ℕ) (rid : Option Moment) (parts : Parts) → IsPlain parts (task_draft k eff rid parts)
task_plain k eff None parts = λ e. refl
task_plain k eff (Some id) parts = λ e. let x : true ≡ false = sym (instance_key-is parts.range parts.uid id) ∙ e in cc

added_plain : (eff : ℕ) (start : Option Moment) (parts : Parts) → AllByRecursion (IsPlain parts) (add_drafts eff start parts)
added_plain eff None parts = tt
added_plain eff (Some id) parts = (λ e. cc, tt)

-- an answer or a refresh is of no instance as a whole
eff_is_own : (item : Item) → is_instance item.key ≡ false → item.eff ≡ item.own
eff_is_own item not_instance =
    of_item (IsPlain (parts_of item.todo)) item (λ k eff. task_plain k eff item.todo.rid (parts_of item.todo))
    (λ eff. added_plain eff item.todo.start (parts_of item.todo)) (λ k line e. refl) not_instance ∙ sym (own_is item)

pub series_eff : (item : Item) (uid : List ℕ) → item.key ≡ Series uid → item.eff ≡ item.own
series_eff item uid about = eff_is_own item (ap is_instance about)

pub answer_eff : (item : Item) (uid : List ℕ) (id : Option Moment) (attendee : List ℕ) → item.key ≡ Answer uid id attendee →
    item.eff ≡ item.own
answer_eff item uid id attendee about = eff_is_own item (ap is_instance about)
