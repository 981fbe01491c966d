-- A desk that hears a refresh request reports it.
use Rattle.std.proofs.Common.{◌≡◌, ◌∙◌, ℕ, ◌<◌, List, [], ◌∷◌, ◌++◌, append-nil, map, refl, sym, ap, subst, inl, inr, Bool, true, false}
use Rattle.std.proofs.Common.{Option, Some, None}
use Rattle.std.specs.List.{AllByRecursion, Contains}
use Rattle.std.specs.declared.cmp.Ordering.TheVariants.{Less}
use Rattle.itip_moment.specs.Order.{stamp_cmp}
use Rattle.itip_moment.specs.declared.moment.Moment.{Moment}
use Rattle.itip_moment.specs.declared.stamp.Stamp.{Stamp}
use Rattle.itip_todo.specs.Parts.{Parts}
use Rattle.itip_todo.specs.PartsOf.{parts_of}
use Rattle.itip_todo.specs.Table.{attendee_key}
use Rattle.itip_todo.specs.Properties.{Property}
use Rattle.itip_items.specs.Given.{AreItemsOf}
use Rattle.itip_items.specs.Items.{ItemDraft, add_drafts, attendee_draft, drafts, drafts_of, effective_sequence, instance_key, kind_of}
use Rattle.itip_items.specs.Items.{method_of, task_draft}
use Rattle.itip_items.specs.KeyParts.{instance_of, uid_of}
use Rattle.itip_items.specs.RevisionOrder.{IsLater}
use Rattle.itip_items.specs.declared.item.Item.{Item}
use Rattle.itip_items.specs.declared.key.Key.{Key}
use Rattle.itip_items.specs.declared.key.Key.TheVariants as key
use Rattle.itip_items.specs.declared.kind.Kind.{Kind}
use Rattle.itip_items.specs.declared.kind.Kind.TheVariants as kind
use Rattle.itip_items.specs.declared.kind.Method.TheVariants as method
use Rattle.itip_items.proofs.SameItem.{alone, draft, own_is}
use Rattle.itip_state.specs.Kept.{CanDie, IsBest, IsDead, IsKept}
use Rattle.itip_state.proofs.Members.{cons_first}
use Rattle.itip_view.specs.Standing.{Governs}
use Rattle.itip_view.proofs.Asking.{question_governs, shows_is}
use Rattle.itip_report.specs.Reports as reports
use Rattle.itip_report.specs.Reports.{IsWanted}
use Rattle.itip_writing.specs.Refreshing.{IsBefore, IsRefreshOf, NoneSequenced, refresh_key, refresh_parts}
use Rattle.itip_writing.proofs.AttendeeHeard.{SameTasks, new_best, question_kept, tasks_stay}
use Rattle.itip_writing.proofs.RemovalHeard.{after_each, later_stamped}
use Rattle.itip_writing.proofs.RequestStands.{IsTask}

-- ---- the effective sequence of a refresh is its own

abbrev IsPlain : Parts → ItemDraft → Type 0
IsPlain parts draft = reports.IsRefresh draft.key → draft.eff ≡ parts.seq

no_refresh : (range : Bool) (uid : List ℕ) (id : Moment) → reports.IsRefresh (instance_key range uid id) → ⊥
no_refresh true uid id h = h
no_refresh false uid id h = h

task_plain : (k : Kind) (eff : ℕ) (rid : Option Moment) (parts : Parts) → IsPlain parts (task_draft k eff rid parts)
task_plain k eff None parts = λ no. absurd no
task_plain k eff (Some id) parts = λ no. absurd (no_refresh parts.range parts.uid id no)

add_plain : (eff : ℕ) (start : Option Moment) (parts : Parts) → AllByRecursion (IsPlain parts) (add_drafts eff start parts)
add_plain eff None parts = tt
add_plain eff (Some id) parts = (λ no. absurd no, tt)

attendees_plain : (k : Kind) (parts : Parts) (lines : List Property) → AllByRecursion (IsPlain parts) (map (attendee_draft k parts) lines)
attendees_plain k parts [] = tt
attendees_plain k parts (line ∷ lines) = (λ _. refl, attendees_plain k parts lines)

drafts_plain : (k : Kind) (eff : ℕ) (parts : Parts) → AllByRecursion (IsPlain parts) (drafts_of k eff parts)
drafts_plain kind.Request eff parts = (task_plain kind.Request eff parts.rid parts, tt)
drafts_plain kind.Cancel eff parts = (task_plain kind.Cancel eff parts.rid parts, tt)
drafts_plain kind.Add eff parts = add_plain eff parts.start parts
drafts_plain kind.Remove eff parts = attendees_plain kind.Remove parts parts.attendees
drafts_plain kind.Reply eff parts = attendees_plain kind.Reply parts parts.attendees
drafts_plain kind.Refresh eff parts = attendees_plain kind.Refresh parts parts.attendees

refresh_eff : (item : Item) → reports.IsRefresh item.key → item.eff ≡ item.own
refresh_eff item is =
    let parts : Parts = parts_of item.todo in
    let eff : ℕ = effective_sequence (method_of item.kind) (parts ∷ []) parts in
    let k : Kind = kind_of (method_of item.kind) parts in
    let one : drafts_of k eff parts ≡ draft item ∷ [] = sym (append-nil (drafts_of k eff parts)) ∙ alone item in
    (subst (λ (ds : List ItemDraft). AllByRecursion (IsPlain parts) ds) one (drafts_plain k eff parts)).0 is ∙ sym (own_is item)

-- ---- the item of a refresh

record IsRefreshItem (k : Key) (stamp : Stamp) (i : Item) : Type 0 where
  about : i.key ≡ k
  eff_is : i.eff ≡ 0
  stamp_is : i.stamp ≡ stamp

record IsOneRefresh (k : Key) (stamp : Stamp) (items : List Item) : Type 0 where
  item : Item
  items_are : items ≡ item ∷ []
  is : IsRefreshItem k stamp item

one_refresh : (uid : List ℕ) (id : Option Moment) (stamp : Stamp) (organizer : Option Property) (named : List ℕ) (items : List Item) →
    AreItemsOf (drafts method.Refresh (refresh_parts uid id stamp organizer named ∷ [])) items →
    IsOneRefresh (refresh_key uid id named) stamp items
one_refresh uid id stamp organizer named [] are = absurd are
one_refresh uid id stamp organizer named (i ∷ []) are = record {
  item = i;
  items_are = refl;
  is = record {
    about = are.0.key_is;
    eff_is = are.0.eff_is;
    stamp_is = are.0.stamp_is ∙ ap (λ (p : Parts). p.stamp) are.0.parts_are;
  };
}
one_refresh uid id stamp organizer named (i ∷ j ∷ rest) are = absurd are.1

-- ---- it is kept, and newer than what governs

module _ (heard : List Item) (uid : List ℕ) (id : Option Moment) (address : List ℕ) (at : Stamp) (parts : Parts)
    (sent : IsRefreshOf heard uid id address at parts) (none : NoneSequenced heard uid id address) where
  abbrev wanted_key : Key
  wanted_key = refresh_key uid id sent.named

  module _ (new : Item) (is : IsRefreshItem wanted_key sent.stamp new) where
    wanted_named : wanted_key ≡ refresh_key uid id address
    wanted_named =
        ap (λ (a : List ℕ). key.Refresh uid id a) (ap attendee_key sent.asked.named_is ∙ sent.asked.same)

    earlier : (b : Item) → IsKept heard b → b.key ≡ new.key → IsLater new b
    earlier b kept same =
        let about : b.key ≡ wanted_key = same ∙ is.about in
        let nought : b.own ≡ 0 = none b kept (about ∙ wanted_named) in
        let plain : b.eff ≡ b.own = refresh_eff b (subst reports.IsRefresh (sym about) tt) in
        let even : b.eff ≡ 0 = plain ∙ nought in
        let before : stamp_cmp b.stamp sent.stamp ≡ Less =
        after_each (IsBefore heard wanted_key sent.item) at sent.stamp sent.stamp_is b.stamp
        (inl (record {
          item = b;
          kept = kept;
          about = subst (Contains (wanted_key ∷ [])) (sym about) (cons_first wanted_key []);
          same = even;
          stamp_is = refl;
        })) in
        later_stamped new b (is.eff_is ∙ sym even) (subst (λ (s : Stamp). stamp_cmp b.stamp s ≡ Less) (sym is.stamp_is) before)

    above : (b : Item) → IsBest heard new.key b → IsDead heard b → b.eff < new.eff
    above b best dead = absurd (subst CanDie (best.about ∙ is.about) dead.can_die)

    wanted_kept : IsKept (heard ++ new ∷ []) new
    wanted_kept = record { best = new_best heard new earlier above; alive = λ dead. subst CanDie is.about dead.can_die }

    tasks : SameTasks heard (heard ++ new ∷ [])
    tasks = tasks_stay heard new (λ task. subst IsTask is.about task)

    governs : Governs (heard ++ new ∷ []) uid id sent.item
    governs =
        question_governs (heard ++ new ∷ []) uid id sent.item
        (question_kept heard (heard ++ new ∷ []) tasks uid id sent.item
        (shows_is heard uid id sent.item sent.asked.shown sent.asked.shows))

    wanted : IsWanted (heard ++ new ∷ []) new
    wanted = record {
      kept = wanted_kept;
      refresh = subst reports.IsRefresh (sym is.about) tt;
      governing = sent.item;
      governs = subst (λ (k : Key). Governs (heard ++ new ∷ []) (uid_of k) (instance_of k) sent.item) (sym is.about) governs;
      older = subst (λ (s : Stamp). stamp_cmp sent.item.stamp s ≡ Less) (sym is.stamp_is)
          (after_each (IsBefore heard wanted_key sent.item) at sent.stamp sent.stamp_is sent.item.stamp (inr refl));
    }

pub refresh_wanted : (heard : List Item) (uid : List ℕ) (id : Option Moment) (address : List ℕ) (at : Stamp) (parts : Parts) →
    IsRefreshOf heard uid id address at parts → NoneSequenced heard uid id address → (items : List Item) →
    AreItemsOf (drafts method.Refresh (parts ∷ [])) items → (item : Item) × (items ≡ item ∷ []) × IsWanted (heard ++ items) item
refresh_wanted heard uid id address at parts sent none items are =
    let one : IsOneRefresh (refresh_key uid id sent.named) sent.stamp items =
    one_refresh uid id sent.stamp sent.item.todo.organizer sent.named items
    (subst (λ (p : Parts). AreItemsOf (drafts method.Refresh (p ∷ [])) items) sent.parts_are are) in (
      one.item,
      one.items_are,
      subst (λ (all : List Item). IsWanted (heard ++ all) one.item) (sym one.items_are)
          (wanted heard uid id address at parts sent none one.item one.is),
    )
