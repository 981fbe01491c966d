-- The to-dos of the items that a draft gives: they are its own, but for X-DESK-BASE, which is in canonical form.
use Rattle.std.proofs.Common.{◌≡◌, ◌∙◌, sym, ap, refl, ℕ, ◌<◌, true, false, cond, List, [], ◌∷◌, map, subst, Option, Some, None}
use Rattle.std.specs.Prelude.{IsTrue, nat_lt, codes}
use Rattle.std.specs.List.{AllByRecursion, AllZip, list_all}
use Rattle.std.specs.Option.{is_some}
use Rattle.std.proofs.lemmas.Bool.{ltb-true}
use Rattle.std.proofs.lemmas.Option.{same_Some}
use Rattle.itip_moment.specs.Spelling.{IsStampText}
use Rattle.itip_moment.specs.declared.moment.Moment.{Moment}
use Rattle.itip_moment.specs.declared.stamp.Stamp.{Stamp}
use Rattle.itip_todo.specs.Parts.{Parts}
use Rattle.itip_todo.specs.PartsOf.{parts_of}
use Rattle.itip_todo.specs.declared.todo.Todo.{Todo}
use Rattle.itip_items.specs.Given.{AreItemsOf, IsItemOf}
use Rattle.itip_items.specs.Items.{canonical_base, effective_sequence, task_draft, with_base}
use Rattle.itip_items.specs.MethodNeeds.{Suits, is_property}
use Rattle.itip_items.specs.declared.item.Item.{Item}
use Rattle.itip_items.specs.declared.kind.Kind.TheVariants as kind
use Rattle.itip_items.specs.declared.kind.Method.TheVariants as method
use Rattle.itip_items.proofs.Adding.{drafts_among}
use Rattle.itip_message.specs.Drafts.{IsUndated, HasCanonicalBase, HasDraftTodos, ReadsDraft}
use Rattle.itip_message.proofs.Dating.{all_undated, draft_suits}

-- the X-DESK-BASE of an item, where its to-do has this SEQUENCE and RECURRENCE-ID
abbrev base_of : ℕ → ℕ → Option Moment → Option ℕ
base_of own eff None = None
base_of own eff (Some id) = canonical_base own eff

-- a to-do is this one with its X-DESK-BASE in canonical form
record IsGiven (todo given : Todo) : Type 0 where
  eff : ℕ
  parts_are : parts_of given ≡ with_base (parts_of todo) (base_of todo.seq eff todo.rid)

draft_parts : (eff : ℕ) (rid : Option Moment) (p : Parts) → (task_draft kind.Request eff rid p).parts ≡ with_base p (base_of p.seq eff rid)
draft_parts eff None p = refl
draft_parts eff (Some id) p = refl

one_given : (whole : List Parts) (todo : Todo) (item : Item) →
    IsItemOf (task_draft kind.Request (effective_sequence method.Request whole (parts_of todo)) todo.rid (parts_of todo)) item →
    IsGiven todo item.todo
one_given whole todo item is = record {
  eff = effective_sequence method.Request whole (parts_of todo);
  parts_are = is.parts_are ∙ draft_parts (effective_sequence method.Request whole (parts_of todo)) todo.rid (parts_of todo);
}

each_given : (whole : List Parts) (all : List Todo) (items : List Item) →
    AreItemsOf (drafts_among method.Request whole (map parts_of all)) items →
    AllZip IsGiven all (map (λ (item : Item). item.todo) items)
each_given whole [] [] are = tt
each_given whole [] (item ∷ items) are = absurd are
each_given whole (todo ∷ all) [] are = absurd are
each_given whole (todo ∷ all) (item ∷ items) are = (one_given whole todo item are.0, each_given whole all items are.1)

given_todos : (bytes : List ℕ) (todos : List Todo) → (reads : ReadsDraft bytes todos) → AllZip IsGiven reads.all todos
given_todos bytes todos reads =
    subst (λ (ts : List Todo). AllZip IsGiven reads.all ts) (sym reads.todos_are)
    (each_given (map parts_of reads.all) reads.all reads.items reads.gives.items_are)

-- ---- nothing is said of when and as which revision they were sent

undated_one : (todo given : Todo) → IsGiven todo given → IsUndated todo → IsUndated given
undated_one todo given is undated = record {
  stamp = subst (λ (s : Stamp). IsStampText (codes "19700101T000000Z") s) (ap (λ (p : Parts). p.stamp) (sym is.parts_are)) undated.stamp;
  sequence = ap (λ (p : Parts). p.seq) is.parts_are ∙ undated.sequence;
}

each_undated : (all todos : List Todo) → AllZip IsGiven all todos → AllByRecursion IsUndated all → AllByRecursion IsUndated todos
each_undated [] [] zip undated = tt
each_undated [] (given ∷ todos) zip undated = absurd zip
each_undated (todo ∷ all) [] zip undated = tt
each_undated (todo ∷ all) (given ∷ todos) zip undated =
    (undated_one todo given zip.0 undated.0, each_undated all todos zip.1 undated.1)

pub draft_undated : (bytes : List ℕ) (todos : List Todo) → ReadsDraft bytes todos → AllByRecursion IsUndated todos
draft_undated bytes todos reads =
    let begins : HasDraftTodos bytes reads.all = reads.begins in
    each_undated reads.all todos (given_todos bytes todos reads)
    (all_undated begins.components begins.with_stamps reads.all begins.dated_are begins.read)

-- ---- X-DESK-BASE

base_named : (own eff n : ℕ) (rid : Option Moment) → base_of own eff rid ≡ Some n → IsTrue (is_some rid)
base_named own eff n None e = absurd cc
base_named own eff n (Some id) e = refl

canonical_above : (own eff n : ℕ) → canonical_base own eff ≡ Some n → own < n
canonical_above own eff n = elim (nat_lt own eff) as
    (λ b. nat_lt own eff ≡ b → cond b (Some eff) None ≡ Some n → own < n) [
      | true ↦ λ less e. subst (λ (m : ℕ). own < m) (same_Some eff n e) (ltb-true own eff less)
      | false ↦ λ _ e. absurd cc
    ] refl

base_above : (own eff n : ℕ) (rid : Option Moment) → base_of own eff rid ≡ Some n → own < n
base_above own eff n None e = absurd cc
base_above own eff n (Some id) e = canonical_above own eff n e

base_one : (todo given : Todo) → IsGiven todo given → IsUndated todo → HasCanonicalBase given
base_one todo given is undated =
    let base : given.base ≡ base_of todo.seq is.eff todo.rid = ap (λ (p : Parts). p.base) is.parts_are in
    let rid : given.rid ≡ todo.rid = ap (λ (p : Parts). p.rid) is.parts_are in
    record {
      named = λ n e. subst (λ (r : Option Moment). IsTrue (is_some r)) (sym rid)
          (base_named todo.seq is.eff n todo.rid (sym base ∙ e));
      above = λ n e. subst (λ (m : ℕ). m < n) undated.sequence (base_above todo.seq is.eff n todo.rid (sym base ∙ e));
    }

each_base : (all todos : List Todo) → AllZip IsGiven all todos → AllByRecursion IsUndated all → AllByRecursion HasCanonicalBase todos
each_base [] [] zip undated = tt
each_base [] (given ∷ todos) zip undated = absurd zip
each_base (todo ∷ all) [] zip undated = tt
each_base (todo ∷ all) (given ∷ todos) zip undated = (base_one todo given zip.0 undated.0, each_base all todos zip.1 undated.1)

pub draft_base : (bytes : List ℕ) (todos : List Todo) → ReadsDraft bytes todos → AllByRecursion HasCanonicalBase todos
draft_base bytes todos reads =
    let begins : HasDraftTodos bytes reads.all = reads.begins in
    each_base reads.all todos (given_todos bytes todos reads)
    (all_undated begins.components begins.with_stamps reads.all begins.dated_are begins.read)

-- ---- they may be sent

suits_one : (todo given : Todo) → IsGiven todo given → Suits method.Request (parts_of todo) → Suits method.Request (parts_of given)
suits_one todo given is suits = record {
  fits = refl;
  others = subst (λ (p : Parts). IsTrue (list_all is_property p.others)) (sym is.parts_are) suits.others;
}

each_suits : (all todos : List Todo) → AllZip IsGiven all todos → AllByRecursion (Suits method.Request) (map parts_of all) →
    AllByRecursion (Suits method.Request) (map parts_of todos)
each_suits [] [] zip suit = tt
each_suits [] (given ∷ todos) zip suit = absurd zip
each_suits (todo ∷ all) [] zip suit = tt
each_suits (todo ∷ all) (given ∷ todos) zip suit = (suits_one todo given zip.0 suit.0, each_suits all todos zip.1 suit.1)

pub todos_suit : (bytes : List ℕ) (todos : List Todo) → ReadsDraft bytes todos →
    AllByRecursion (Suits method.Request) (map parts_of todos)
todos_suit bytes todos reads =
    each_suits reads.all todos (given_todos bytes todos reads) (draft_suits bytes reads.all reads.begins)
