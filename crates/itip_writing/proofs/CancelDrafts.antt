-- What the to-dos of a CANCEL give: each one item that cancels what its RECURRENCE-ID names, or one for each attendee that it removes.
use Rattle.std.proofs.Common.{◌≡◌, ◌∙◌, ℕ, List, [], ◌∷◌, ◌++◌, map, refl, sym, ap, subst, arith, Bool, true, false, Option, Some, None}
use Rattle.std.proofs.Common.{append-nil}
use Rattle.std.specs.Prelude.{max, cond, nat_eq, unwrap_or, ◌&&◌}
use Rattle.std.specs.Cmp.Lexicographic.{pointwise}
use Rattle.std.specs.List.{AllZip, Contains}
use Rattle.std.specs.Option.{is_none}
use Rattle.itip_moment.specs.declared.moment.Moment.{Moment}
use Rattle.itip_moment.specs.declared.stamp.Stamp.{Stamp}
use Rattle.itip_todo.specs.Parts.{Parts}
use Rattle.itip_todo.specs.Properties.{Property}
use Rattle.itip_items.specs.Given.{AreItemsOf, IsItemOf}
use Rattle.itip_items.specs.Items.{ItemDraft, drafts, drafts_of, task_draft, instance_draft, attendee_draft, instance_key, kind_of, is_task}
use Rattle.itip_items.specs.Items.{effective_sequence, series_sequence}
use Rattle.itip_items.specs.declared.item.Item.{Item}
use Rattle.itip_items.specs.declared.key.Key.{Key}
use Rattle.itip_items.specs.declared.key.Key.TheVariants as key
use Rattle.itip_items.specs.declared.kind.Kind.{Kind}
use Rattle.itip_items.specs.declared.kind.Kind.TheVariants as kind
use Rattle.itip_items.specs.declared.kind.Method.TheVariants as method
use Rattle.itip_items.proofs.Adding.{drafts_among}
use Rattle.itip_state.proofs.Members.{cons_first, cons_later}
use Rattle.itip_view.specs.Answers.{answer_key}
use Rattle.itip_writing.specs.Cancelling.{IsEnding, cancelled, cancelled_key, notice}

-- the item cancels what this key is of, and has this sequence
pub record IsNew (n : ℕ) (k : Key) (i : Item) : Type 0 where
  pub about : i.key ≡ k
  pub kind_is : i.kind ≡ kind.Cancel
  pub eff_is : i.eff ≡ n

nought : (n : ℕ) → max n (max 0 0) ≡ n
nought n = omega arith

-- ---- one to-do

pub record IsOneNew (n : ℕ) (k : Key) (items : List Item) : Type 0 where
  pub item : Item
  pub items_are : items ≡ item ∷ []
  pub new : IsNew n k item

pub one_new : (uid : List ℕ) (item : Item) (id : Option Moment) (n : ℕ) (stamp : Stamp) (items : List Item) →
    AreItemsOf (drafts method.Cancel (cancelled uid item id false n stamp ∷ [])) items → IsOneNew n (cancelled_key uid id false) items
one_new uid item None n stamp [] are = absurd are
one_new uid item None n stamp (c ∷ []) are =
    record { item = c; items_are = refl; new = record { about = are.0.key_is; kind_is = are.0.kind_is; eff_is = are.0.eff_is } }
one_new uid item None n stamp (c ∷ d ∷ rest) are = absurd are.1
one_new uid item (Some id) n stamp [] are = absurd are
one_new uid item (Some id) n stamp (c ∷ []) are = record {
  item = c;
  items_are = refl;
  new = record { about = are.0.key_is; kind_is = are.0.kind_is; eff_is = are.0.eff_is ∙ nought n };
}
one_new uid item (Some id) n stamp (c ∷ d ∷ rest) are = absurd are.1

-- ---- an instance and all after it

-- a to-do that cancels an instance, or it and all after it
pub record IsShaped (uid : List ℕ) (n : ℕ) (parts : Parts) : Type 0 where
  pub id : Moment
  pub rid_is : parts.rid ≡ Some id
  pub uid_is : parts.uid ≡ uid
  pub seq_is : parts.seq ≡ n
  pub base_is : parts.base ≡ None
  pub kind_is : kind_of method.Cancel parts ≡ kind.Cancel

pub shaped : (heard : List Item) (uid : List ℕ) (from : Moment) (n : ℕ) (stamp : Stamp) (parts : Parts) →
    IsEnding heard uid from n stamp parts → IsShaped uid n parts
shaped heard uid from n stamp parts is = record {
  id = is.id;
  rid_is = ap (λ (p : Parts). p.rid) is.parts_are;
  uid_is = ap (λ (p : Parts). p.uid) is.parts_are;
  seq_is = ap (λ (p : Parts). p.seq) is.parts_are;
  base_is = ap (λ (p : Parts). p.base) is.parts_are;
  kind_is = ap (kind_of method.Cancel) is.parts_are;
}

abbrev AreShaped : List ℕ → ℕ → List Parts → Type 0
AreShaped uid n all = (p : Parts) → Contains all p → IsShaped uid n p

-- none of them is of a to-do as a whole
no_series : (uid other : List ℕ) (n : ℕ) (all : List Parts) → AreShaped uid n all → series_sequence method.Cancel other all ≡ 0
no_series uid other n [] are = refl
no_series uid other n (p ∷ all) are =
    let here : IsShaped uid n p = are p (cons_first p all) in
    let rest : series_sequence method.Cancel other all ≡ 0 = no_series uid other n all (λ q h. are q (cons_later p all q h)) in
    λ i. max (cond ((is_none (here.rid_is i) && is_task (kind_of method.Cancel p)) && pointwise nat_eq p.uid other) p.seq 0) (rest i)

module _ (uid : List ℕ) (n : ℕ) (all : List Parts) (are : AreShaped uid n all) (p : Parts) (is : IsShaped uid n p) where
  one_draft : drafts_of (kind_of method.Cancel p) (effective_sequence method.Cancel all p) p
      ≡ instance_draft kind.Cancel (effective_sequence method.Cancel all p) (instance_key p.range p.uid is.id) p ∷ []
  one_draft =
      ap (λ (k : Kind). drafts_of k (effective_sequence method.Cancel all p) p) is.kind_is ∙
      ap (λ (id : Option Moment). task_draft kind.Cancel (effective_sequence method.Cancel all p) id p ∷ []) is.rid_is

  eff_is : effective_sequence method.Cancel all p ≡ n
  eff_is =
      let whole : max p.seq (max (unwrap_or p.base 0) (series_sequence method.Cancel p.uid all)) ≡ max n (max 0 0) =
      λ i. max (is.seq_is i) (max (unwrap_or (is.base_is i) 0) (no_series uid p.uid n all are i)) in
      whole ∙ nought n

  key_is : instance_key p.range p.uid is.id ≡ cancelled_key uid p.rid p.range
  key_is =
      ap (λ (u : List ℕ). instance_key p.range u is.id) is.uid_is ∙
      ap (λ (id : Option Moment). cancelled_key uid id p.range) (sym is.rid_is)

  item_new : (i : Item) →
      IsItemOf (instance_draft kind.Cancel (effective_sequence method.Cancel all p) (instance_key p.range p.uid is.id) p) i →
      IsNew n (cancelled_key uid p.rid p.range) i
  item_new i of = record { about = of.key_is ∙ key_is; kind_is = of.kind_is; eff_is = of.eff_is ∙ eff_is }

-- the item of a to-do
abbrev pub IsNewOf : List ℕ → ℕ → Parts → Item → Type 0
IsNewOf uid n p i = IsNew n (cancelled_key uid p.rid p.range) i

pub each_new : (uid : List ℕ) (n : ℕ) (all rest : List Parts) → AreShaped uid n all → AreShaped uid n rest → (items : List Item) →
    AreItemsOf (drafts_among method.Cancel all rest) items → AllZip (IsNewOf uid n) rest items
each_new uid n all [] are rest_are [] of = tt
each_new uid n all [] are rest_are (i ∷ items) of = absurd of
each_new uid n all (p ∷ rest) are rest_are [] of =
    absurd (subst (λ (ds : List ItemDraft). AreItemsOf (ds ++ drafts_among method.Cancel all rest) [])
    (one_draft uid n all are p (rest_are p (cons_first p rest))) of)
each_new uid n all (p ∷ rest) are rest_are (i ∷ items) of =
    let is : IsShaped uid n p = rest_are p (cons_first p rest) in
    let both = subst (λ (ds : List ItemDraft). AreItemsOf (ds ++ drafts_among method.Cancel all rest) (i ∷ items))
    (one_draft uid n all are p is) of in (
      item_new uid n all are p is i both.0,
      each_new uid n all rest are (λ q h. rest_are q (cons_later p rest q h)) items both.1,
    )

-- the key of an instance, or of it and all after it, is of no to-do as a whole
pub not_series : (range : Bool) (uid other : List ℕ) (id : Moment) → instance_key range uid id ≡ key.Series other → ⊥
not_series true uid other id e = cc
not_series false uid other id e = cc

-- ---- attendees are removed

-- the item removes the attendee of a line, and has this sequence and this stamp
pub record IsRemoved (uid : List ℕ) (id : Option Moment) (n : ℕ) (stamp : Stamp) (line : Property) (i : Item) : Type 0 where
  pub about : i.key ≡ answer_key uid id line
  pub kind_is : i.kind ≡ kind.Remove
  pub own_is : i.own ≡ n
  pub eff_is : i.eff ≡ n
  pub stamp_is : i.stamp ≡ stamp

module _ (uid : List ℕ) (item : Item) (id : Option Moment) (n : ℕ) (stamp : Stamp) (told : List Property) where
  lines_removed : (lines : List Property) (items : List Item) →
      AreItemsOf (map (attendee_draft kind.Remove (notice uid item id false None told n stamp)) lines) items →
      AllZip (IsRemoved uid id n stamp) lines items
  lines_removed [] [] are = tt
  lines_removed [] (i ∷ items) are = absurd are
  lines_removed (line ∷ lines) [] are = absurd are
  lines_removed (line ∷ lines) (i ∷ items) are = (
    record {
      about = are.0.key_is;
      kind_is = are.0.kind_is;
      own_is = are.0.own_is ∙ ap (λ (p : Parts). p.seq) are.0.parts_are;
      eff_is = are.0.eff_is;
      stamp_is = are.0.stamp_is ∙ ap (λ (p : Parts). p.stamp) are.0.parts_are;
    },
    lines_removed lines items are.1,
  )

pub each_removed : (uid : List ℕ) (item : Item) (id : Option Moment) (n : ℕ) (stamp : Stamp) (line : Property) (lines : List Property)
    (items : List Item) → AreItemsOf (drafts method.Cancel (notice uid item id false None (line ∷ lines) n stamp ∷ [])) items →
    AllZip (IsRemoved uid id n stamp) (line ∷ lines) items
each_removed uid item id n stamp line lines items are =
    lines_removed uid item id n stamp (line ∷ lines) (line ∷ lines) items
    (subst (λ (ds : List ItemDraft). AreItemsOf ds items)
    (append-nil (map (attendee_draft kind.Remove (notice uid item id false None (line ∷ lines) n stamp)) (line ∷ lines))) are)
