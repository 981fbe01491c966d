-- The file of a desk, written and compared a message at a time.
use Rattle.std.proofs.Common.{◌≡◌, ◌∙◌, sym, ap, refl, subst, ℕ, ◌+◌, ◌<◌, ◌≤◌, ◌^◌, List}
use Rattle.std.proofs.Common.{[], ◌++◌, length, get_or, drop, append_assoc, append-nil}
use Rattle.std.proofs.Common.{Option, Some, None, Result, Ok, Err, OnErr, ◌↔◌}
use Rattle.std.proofs.lemmas.List.{append_cancel_left, at_drop_more, at_drop_all}
use Rattle.itip_items.specs.declared.item.Item.{Item}
use Rattle.itip_state.specs.Kept.{IsItemsOf}
use Rattle.std.specs.Io.KnownBytes.{Appends}
use Rattle.itip_streams.specs.Written.{AppendsFront, MovesOut}
use Rattle.itip_streams.proofs.Writing.{front_longer, front_moved, front_none, moves_none, moves_more, moves_on, all_moved}
use Rattle.itip_desk.specs.Desk.{Shown}
use Rattle.itip_desk.specs.DeskFile.{message_text, messages_text, moved_at, head_of, IsFileOf, WritesFile}
use Rattle.itip_desk.specs.declared.file_text.FileHead.{FileHead}
use Rattle.itip_desk.proofs.ReadDeltas.{one_order}
use Rattle.itip_desk.proofs.Ticking.{Carried}

-- the file of a desk is the messages of its items in order
pub one_file : (desk : Shown) (items : List Item) (octets : List ℕ) → IsItemsOf items desk.kept → IsFileOf desk octets →
    octets ≡ messages_text desk.changed (head_of desk.tick items) items
one_file desk items octets are file =
    let same : file.items ≡ items = one_order file.items items file.items_are.ascend are.ascend
    (λ item. (λ h. (are.same item).1 ((file.items_are.same item).0 h), λ h. (file.items_are.same item).1 ((are.same item).0 h))) in
    file.octets_are ∙ ap (λ (is : List Item). messages_text desk.changed (head_of desk.tick is) is) same

-- shared items of what a desk keeps, seen as a slice
pub items_seen : (seen items held kept : List Item) → seen ≡ items → held ≡ kept → IsItemsOf items held → IsItemsOf seen kept
items_seen seen items held kept same of are =
    subst (λ (is : List Item). IsItemsOf is kept) (sym same) (subst (λ (k : List Item). IsItemsOf items k) of are)

-- and what their file begins with
pub head_seen : (tick : ℕ) (seen items given : List Item) → seen ≡ items → given ≡ items → {head : Option FileHead} →
    head ≡ head_of tick given → head_of tick seen ≡ head
head_seen tick seen items given same also is = ap (λ (is : List Item). head_of tick is) (same ∙ sym also) ∙ sym is

-- the messages from one item on, the first of them with the head
module _ (changed : Carried) (items : List Item) (i : ℕ) (item : Item) (within : i < length items) (is : item ≡ get_or items i item)
    (head : Option FileHead) where
  pub next_message : messages_text changed head (drop i items) ≡ message_text head (moved_at changed item) item.bytes ++
      messages_text changed None (drop (i + 1) items)
  unfolding messages_text
  next_message =
      at_drop_more (λ (its : List Item). messages_text changed head its) items i item within
      ∙ ap (λ (it : Item). message_text head (moved_at changed it) it.bytes ++ messages_text changed None (drop (i + 1) items)) (sym is)

pub no_message_left : (changed : Carried) (items : List Item) (i : ℕ) (head : Option FileHead) → length items ≤ i →
    messages_text changed head (drop i items) ≡ []
unfolding messages_text
no_message_left changed items i head past = at_drop_all (λ (its : List Item). messages_text changed head its) items i past

-- ---- writing

-- Some messages were written, and the others are left.
pub record WritesSoFar (changed : Carried) (first head : Option FileHead) (items : List Item) (i : ℕ) (old new : Option (List ℕ))
    (kept : List ℕ) : Type 0 where
  pub done : List ℕ
  pub whole : done ++ messages_text changed head (drop i items) ≡ messages_text changed first items
  pub moved : MovesOut old new done kept

pub none_written : (changed : Carried) (first : Option FileHead) (items : List Item) (o : Option (List ℕ)) (kept : List ℕ) → kept ≡ [] →
    WritesSoFar changed first first items 0 o o kept
none_written changed first items o kept none = record {
  done = [];
  whole = refl;
  moved = subst (λ (k : List ℕ). MovesOut o o [] k) (sym none) (moves_none o []);
}

module _ (changed : Carried) (first head : Option FileHead) (items : List Item) (i : ℕ) (old mid : Option (List ℕ)) (kept : List ℕ)
    (so_far : WritesSoFar changed first head items i old mid kept) where
  -- a prefix of all is written, whatever happens to what is kept
  pub front_so_far : (new : Option (List ℕ)) → AppendsFront mid new kept → AppendsFront old new (messages_text changed first items)
  front_so_far new front =
      subst (λ (t : List ℕ). AppendsFront old new t) so_far.whole
      (front_longer old new so_far.done (messages_text changed head (drop i items))
      (front_moved old mid so_far.done kept so_far.moved new front))

  pub still_front : AppendsFront old mid (messages_text changed first items)
  still_front = front_so_far mid (front_none mid kept)

  pub written_all : length items ≤ i → (new : Option (List ℕ)) → Appends mid new kept → Appends old new (messages_text changed first items)
  written_all past new appended =
      subst (λ (t : List ℕ). Appends old new t)
      (sym (append-nil so_far.done) ∙ ap (λ (t : List ℕ). so_far.done ++ t) (sym (no_message_left changed items i head past))
      ∙ so_far.whole)
      (all_moved old mid so_far.done kept so_far.moved new appended)

  module _ (item : Item) (within : i < length items) (is : item ≡ get_or items i item) (grown : List ℕ)
      (more : grown ≡ kept ++ message_text head (moved_at changed item) item.bytes) where
    -- one more message is kept
    pub one_kept : WritesSoFar changed first None items (i + 1) old mid grown
    one_kept = record {
      done = so_far.done ++ message_text head (moved_at changed item) item.bytes;
      whole =
          append_assoc so_far.done (message_text head (moved_at changed item) item.bytes) (messages_text changed None (drop (i + 1) items))
          ∙ ap (λ (t : List ℕ). so_far.done ++ t) (sym (next_message changed items i item within is head)) ∙ so_far.whole;
      moved = moves_more old mid so_far.done kept so_far.moved (message_text head (moved_at changed item) item.bytes) grown more;
    }

pub one_written : (changed : Carried) (first head : Option FileHead) (items : List Item) (i : ℕ) (old mid new : Option (List ℕ))
    (kept left : List ℕ) → WritesSoFar changed first head items i old mid kept → MovesOut mid new kept left →
    WritesSoFar changed first head items i old new left
one_written changed first head items i old mid new kept left so_far moves = record {
  done = so_far.done;
  whole = so_far.whole;
  moved = moves_on old mid so_far.done kept so_far.moved new left moves;
}

-- ---- comparing

-- These bytes are the messages of all items if, and only if, the rest is those of the others.
abbrev pub Completes : Carried → Option FileHead → Option FileHead → List Item → ℕ → List ℕ → List ℕ → Type 0
Completes changed first head items i octets rest =
    (octets ≡ messages_text changed first items) ↔ (rest ≡ messages_text changed head (drop i items))

pub none_compared : (changed : Carried) (first : Option FileHead) (items : List Item) (octets : List ℕ) →
    Completes changed first first items 0 octets octets
none_compared changed first items octets = (λ same. same, λ same. same)

module _ (changed : Carried) (first head : Option FileHead) (items : List Item) (i : ℕ) (octets rest : List ℕ)
    (so_far : Completes changed first head items i octets rest) where
  module _ (item : Item) (within : i < length items) (is : item ≡ get_or items i item) where
    -- the rest begins with the next message
    pub one_compared : (after : List ℕ) → rest ≡ message_text head (moved_at changed item) item.bytes ++ after →
        Completes changed first None items (i + 1) octets after
    one_compared after cut = (
      λ same. append_cancel_left (message_text head (moved_at changed item) item.bytes) after
          (messages_text changed None (drop (i + 1) items))
          (sym cut ∙ so_far.0 same ∙ next_message changed items i item within is head),
      λ same. so_far.1 (cut ∙ ap (λ (t : List ℕ). message_text head (moved_at changed item) item.bytes ++ t) same
          ∙ sym (next_message changed items i item within is head)),
    )

    -- it doesn't
    pub none_same : ((after : List ℕ) → rest ≡ message_text head (moved_at changed item) item.bytes ++ after → ⊥) →
        octets ≡ messages_text changed first items → ⊥
    none_same none same =
        none (messages_text changed None (drop (i + 1) items)) (so_far.0 same ∙ next_message changed items i item within is head)

  -- nothing is left to compare
  pub all_compared : length items ≤ i → (octets ≡ messages_text changed first items) ↔ (rest ≡ [])
  all_compared past = (
    λ same. so_far.0 same ∙ no_message_left changed items i head past,
    λ none. so_far.1 (none ∙ sym (no_message_left changed items i head past)),
  )

-- bytes are the file of a desk exactly if they are the messages of its items
pub file_where : (desk : Shown) (items : List Item) (octets : List ℕ) → IsItemsOf items desk.kept → length items < 2 ^ 64 →
    (octets ≡ messages_text desk.changed (head_of desk.tick items) items) ↔ IsFileOf desk octets
file_where desk items octets are few = (
  λ same. record { items = items; items_are = are; few = few; octets_are = same },
  λ file. one_file desk items octets are file,
)

pub writes_file : (desk : Shown) (items : List Item) → IsItemsOf items desk.kept → length items < 2 ^ 64 → (old new : Option (List ℕ)) →
    Appends old new (messages_text desk.changed (head_of desk.tick items) items) → WritesFile desk old new
writes_file desk items are few old new appended = record {
  octets = messages_text desk.changed (head_of desk.tick items) items;
  file = record { items = items; items_are = are; few = few; octets_are = refl };
  appended = appended;
}

pub on_err_then : {A E P Q : Type 0} (r : Result A E) → (P → Q) → OnErr r P → OnErr r Q
on_err_then (Ok x) f p = tt
on_err_then (Err e) f p = f p

-- three parts appended to what was there
pub in_three : (old a b c one two new : List ℕ) → one ≡ old ++ a → two ≡ one ++ b → new ≡ two ++ c → new ≡ old ++ ((a ++ b) ++ c)
in_three old a b c one two new first second third =
    third ∙ ap (λ (t : List ℕ). t ++ c) (second ∙ ap (λ (t : List ℕ). t ++ b) first)
    ∙ ap (λ (t : List ℕ). t ++ c) (append_assoc old a b) ∙ append_assoc old (a ++ b) c
