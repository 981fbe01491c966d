-- A text is either one draft or refused for one cause.
use Rattle.std.proofs.Common.{◌≡◌, ◌∙◌, sym, ap, refl, ℕ, true, false, cond, List, length}
use Rattle.std.proofs.Common.{drop, map, subst, inl, inr, ◌⊎◌, Some, None, Ok, Err}
use Rattle.std.specs.Prelude.{Result, nat_lt, codes}
use Rattle.itip_lines.specs.Reading as lines
use Rattle.itip_lines.specs.declared.error.LineRefusal.{LineRefusal}
use Rattle.itip_lines.specs.declared.line.NumberedLine.{NumberedLine}
use Rattle.itip_lines.proofs.Decided.{reads_or_refused}
use Rattle.itip_lines.proofs.OneReading as one_lines
use Rattle.itip_todo.specs.declared.todo.Todo.{Todo}
use Rattle.itip_items.specs.declared.item.Item.{Item}
use Rattle.itip_items.specs.declared.kind.Method.{Method}
use Rattle.itip_items.specs.declared.kind.Method.TheVariants as method
use Rattle.itip_message.specs.CauseLines.{NamesPlace}
use Rattle.itip_message.specs.Drafts.{draft_head, HasDraftHead, HasDraftTodos, AreDated, ReadsDraft, RefusesDraft, at_lines, at_frame}
use Rattle.itip_message.specs.Drafts.{at_head, at_component, at_canonical_form}
use Rattle.itip_message.specs.Frame.{frame, calendar_lines, todos}
use Rattle.itip_message.specs.Head.{is_version, only_value, odd_line, named, counted, first_begins}
use Rattle.itip_message.specs.Refusals.{of_lines, at_line, large_form}
use Rattle.itip_message.specs.declared.error.MessageCause.TheVariants as causes
use Rattle.itip_message.specs.declared.error.MessageRefusal.{MessageRefusal}
use Rattle.itip_message.specs.declared.frame.Placed.{Placed}
use Rattle.itip_message.specs.declared.sort.Component.{Component}
use Rattle.itip_message.proofs.Dating.{some_dating, one_dating, draft_suits}
use Rattle.itip_message.proofs.OneMessage.{LastRefusal, LastItems, one_last, same_last, last_apart, ok_same, err_same, ok_apart}
use Rattle.itip_message.proofs.RefusalPlaces.{GivesPlace, cond_placed, err_placed, frame_placed, counted_placed, first_placed}
use Rattle.itip_message.proofs.SomeMessage.{decide_components, some_items}

-- ---- the stages after the lines, from the last to the first: why they give no to-dos, and which to-dos they give

record DatedRefusal (components : List Component) (f : MessageRefusal) : Type 0 where
  with_stamps : List Component
  dated_are : AreDated components with_stamps
  last : LastRefusal method.Request with_stamps f

abbrev HeadRefusal : List Placed → MessageRefusal → Type 0
HeadRefusal placed f = (draft_head placed ≡ Err f) ⊎ ((draft_head placed ≡ Ok method.Request) × DatedRefusal (todos placed) f)

abbrev FrameRefusal : List NumberedLine → MessageRefusal → Type 0
FrameRefusal content f = (frame content ≡ Err f) ⊎ ((placed : List Placed) × (frame content ≡ Ok placed) × HeadRefusal placed f)

abbrev Cause : List ℕ → MessageRefusal → Type 0
Cause bytes f = ((of : LineRefusal) × lines.Refused bytes of × (f ≡ of_lines of)) ⊎
    ((content : List NumberedLine) × lines.Reads bytes content × FrameRefusal content f)

record Found (content : List NumberedLine) (items : List Item) : Type 0 where
  placed : List Placed
  framed : frame content ≡ Ok placed
  headed : draft_head placed ≡ Ok method.Request
  with_stamps : List Component
  dated_are : AreDated (todos placed) with_stamps
  last : LastItems method.Request with_stamps items

dated_cause : (bytes : List ℕ) (components with_stamps : List Component) (f : MessageRefusal) → HasDraftHead bytes components →
    AreDated components with_stamps → LastRefusal method.Request with_stamps f → Cause bytes f
dated_cause bytes components with_stamps f h are k =
    let last : DatedRefusal (todos h.placed) f = subst (λ (cs : List Component). DatedRefusal cs f) h.components_are
    (record { with_stamps = with_stamps; dated_are = are; last = k }) in
    inr (h.content, h.reads, inr (h.placed, h.framed, inr (h.headed, last)))

cause : (bytes : List ℕ) (f : MessageRefusal) → RefusesDraft bytes f → Cause bytes f
cause bytes g (at_lines of h) = inl (of, h, refl)
cause bytes g (at_frame content f h k) = inr (content, h, inl k)
cause bytes g (at_head content placed f h k l) = inr (content, h, inr (placed, k, inl l))
cause bytes g (at_component components with_stamps f h are k) = dated_cause bytes components with_stamps f h are (inl k)
cause bytes g (at_canonical_form all todo h over) =
    dated_cause bytes h.components h.with_stamps (large_form todo) h.begins h.dated_are (inr (all, todo, h.read, over, refl))

found : (bytes : List ℕ) (all : List Todo) (h : ReadsDraft bytes all) → Found h.begins.begins.content h.items
found bytes all h =
    let begins : HasDraftTodos bytes h.all = h.begins in
    record {
      placed = begins.begins.placed;
      framed = begins.begins.framed;
      headed = begins.begins.headed;
      with_stamps = begins.with_stamps;
      dated_are = subst (λ (cs : List Component). AreDated cs begins.with_stamps) begins.begins.components_are begins.dated_are;
      last = record { all = h.all; read = begins.read; within = h.gives.within; items_are = h.gives.items_are };
    }

-- ---- a text is refused for one cause

one_dated : (components : List Component) (f g : MessageRefusal) → DatedRefusal components f → DatedRefusal components g → f ≡ g
one_dated components f g h k =
    one_last method.Request k.with_stamps f g
    (subst (λ (cs : List Component). LastRefusal method.Request cs f)
    (one_dating components h.with_stamps k.with_stamps h.dated_are k.dated_are) h.last) k.last

one_head : (placed : List Placed) (f g : MessageRefusal) → HeadRefusal placed f → HeadRefusal placed g → f ≡ g
one_head placed f g (inl h) (inl k) = err_same (draft_head placed) f g h k
one_head placed f g (inl h) (inr k) = absurd (ok_apart (draft_head placed) method.Request f k.0 h)
one_head placed f g (inr h) (inl k) = absurd (ok_apart (draft_head placed) method.Request g h.0 k)
one_head placed f g (inr h) (inr k) = one_dated (todos placed) f g h.1 k.1

one_frame : (content : List NumberedLine) (f g : MessageRefusal) → FrameRefusal content f → FrameRefusal content g → f ≡ g
one_frame content f g (inl h) (inl k) = err_same (frame content) f g h k
one_frame content f g (inl h) (inr k) = absurd (ok_apart (frame content) k.0 f k.1 h)
one_frame content f g (inr h) (inl k) = absurd (ok_apart (frame content) h.0 g h.1 k)
one_frame content f g (inr h) (inr k) =
    one_head k.0 f g (subst (λ (p : List Placed). HeadRefusal p f) (ok_same (frame content) h.0 k.0 h.1 k.1) h.2) k.2

both_causes : (bytes : List ℕ) (f g : MessageRefusal) → Cause bytes f → Cause bytes g → f ≡ g
both_causes bytes f g (inl h) (inl k) = h.2 ∙ ap of_lines (one_lines.one_refusal bytes h.0 k.0 h.1 k.1) ∙ sym k.2
both_causes bytes f g (inl h) (inr k) = absurd (one_lines.reading_apart bytes k.0 h.0 k.1 h.1)
both_causes bytes f g (inr h) (inl k) = absurd (one_lines.reading_apart bytes h.0 k.0 h.1 k.1)
both_causes bytes f g (inr h) (inr k) =
    one_frame k.0 f g (subst (λ (ls : List NumberedLine). FrameRefusal ls f) (one_lines.one_reading bytes h.0 k.0 h.1 k.1) h.2) k.2

pub one_draft_cause : (bytes : List ℕ) (f g : MessageRefusal) → RefusesDraft bytes f → RefusesDraft bytes g → f ≡ g
one_draft_cause bytes f g h k = both_causes bytes f g (cause bytes f h) (cause bytes g k)

-- ---- a text is one draft

same_found : (content : List NumberedLine) (a b : List Item) → Found content a → Found content b → a ≡ b
same_found content a b h k =
    let placed : h.placed ≡ k.placed = ok_same (frame content) h.placed k.placed h.framed k.framed in
    let dated : AreDated (todos k.placed) h.with_stamps =
    subst (λ (p : List Placed). AreDated (todos p) h.with_stamps) placed h.dated_are in
    let stamped : h.with_stamps ≡ k.with_stamps = one_dating (todos k.placed) h.with_stamps k.with_stamps dated k.dated_are in
    same_last method.Request k.with_stamps a b (subst (λ (cs : List Component). LastItems method.Request cs a) stamped h.last) k.last

pub one_draft : (bytes : List ℕ) (all others : List Todo) → ReadsDraft bytes all → ReadsDraft bytes others → all ≡ others
one_draft bytes all others h k =
    let contents : h.begins.begins.content ≡ k.begins.begins.content =
    one_lines.one_reading bytes h.begins.begins.content k.begins.begins.content h.begins.begins.reads k.begins.begins.reads in
    let items : h.items ≡ k.items = same_found k.begins.begins.content h.items k.items
    (subst (λ (ls : List NumberedLine). Found ls h.items) contents (found bytes all h)) (found bytes others k) in
    h.todos_are ∙ ap (λ (is : List Item). map (λ (item : Item). item.todo) is) items ∙ sym k.todos_are

-- ---- a draft is not refused

dated_apart : (components with_stamps : List Component) (items : List Item) (f : MessageRefusal) → AreDated components with_stamps →
    LastItems method.Request with_stamps items → DatedRefusal components f → ⊥
dated_apart components with_stamps items f are last k =
    last_apart method.Request with_stamps items f last
    (subst (λ (cs : List Component). LastRefusal method.Request cs f)
    (one_dating components k.with_stamps with_stamps k.dated_are are) k.last)

frame_apart : (content : List NumberedLine) (items : List Item) (f : MessageRefusal) → Found content items → FrameRefusal content f → ⊥
frame_apart content items f h (inl k) = ok_apart (frame content) h.placed f h.framed k
frame_apart content items f h (inr k) =
    elim (subst (λ (p : List Placed). HeadRefusal p f) (ok_same (frame content) k.0 h.placed k.1 h.framed) k.2) [
      | inl wrong ↦ ok_apart (draft_head h.placed) method.Request f h.headed wrong
      | inr last ↦ dated_apart (todos h.placed) h.with_stamps items f h.dated_are h.last last.1
    ]

reads_apart : (bytes : List ℕ) (all : List Todo) (f : MessageRefusal) → ReadsDraft bytes all → Cause bytes f → ⊥
reads_apart bytes all f h (inl k) =
    one_lines.reading_apart bytes h.begins.begins.content k.0 h.begins.begins.reads k.1
reads_apart bytes all f h (inr k) =
    frame_apart h.begins.begins.content h.items f (found bytes all h)
    (subst (λ (ls : List NumberedLine). FrameRefusal ls f)
    (one_lines.one_reading bytes k.0 h.begins.begins.content k.1 h.begins.begins.reads) k.2)

pub draft_apart : (bytes : List ℕ) (all : List Todo) (f : MessageRefusal) → ReadsDraft bytes all → RefusesDraft bytes f → ⊥
draft_apart bytes all f h k = reads_apart bytes all f h (cause bytes f k)

-- ---- bytes are read as a draft, or they are refused

abbrev ReadOrRefused : List ℕ → Type 0
ReadOrRefused bytes = ((all : List Todo) × ReadsDraft bytes all) ⊎ ((f : MessageRefusal) × RefusesDraft bytes f)

-- the head of a draft is that of a REQUEST, or there is none
abbrev IsOfRequest : Result Method MessageRefusal → Type 0
IsOfRequest (Ok m) = m ≡ method.Request
IsOfRequest (Err f) = Unit {0}

of_request : (placed : List Placed) → IsOfRequest (draft_head placed)
of_request placed =
    elim (is_version (only_value (named (codes "VERSION") (calendar_lines placed)))) as
    (λ b. IsOfRequest (cond b (counted (todos placed) None (Some method.Request))
    (Err (at_line causes.Version (odd_line (named (codes "VERSION") (calendar_lines placed))))))) [
      | true ↦ elim (nat_lt 1000 (length (todos placed))) as
          (λ b. IsOfRequest (cond b (Err (at_line causes.ManyTodos (first_begins (drop 1000 (todos placed)))))
          (cond (nat_lt 0 (length (todos placed))) (Ok method.Request) (Err (at_line causes.NoTodo None))))) [
            | true ↦ tt
            | false ↦ elim (nat_lt 0 (length (todos placed))) as
                (λ b. IsOfRequest (cond b (Ok method.Request) (Err (at_line causes.NoTodo None)))) [ true ↦ refl | false ↦ tt ]
          ]
      | false ↦ tt
    ]

module _ (bytes : List ℕ) (content : List NumberedLine) (reads : lines.Reads bytes content) where
  with_todos : (all : List Todo) → HasDraftTodos bytes all → ReadOrRefused bytes
  with_todos all has =
      elim (some_items method.Request all (draft_suits bytes all has)) [
        | inr over ↦ inr (large_form over.0, at_canonical_form all over.0 has over.1)
        | inl given ↦ inl (
          map (λ (item : Item). item.todo) given.0,
          record { all = all; begins = has; items = given.0; gives = given.1; todos_are = refl },
        )
      ]

  with_head : (placed : List Placed) → frame content ≡ Ok placed → (r : Result Method MessageRefusal) → draft_head placed ≡ r →
      IsOfRequest r → ReadOrRefused bytes
  with_head placed framed (Err f) e is = inr (f, at_head content placed f reads framed e)
  with_head placed framed (Ok m) e is =
      let headed : draft_head placed ≡ Ok method.Request = e ∙ ap Ok is in
      let has : HasDraftHead bytes (todos placed) =
      record { content = content; placed = placed; reads = reads; framed = framed; headed = headed; components_are = refl } in
      let stamped = some_dating (todos placed) in
      elim (decide_components method.Request 1 stamped.0) [
        | inr refused ↦ inr (refused.0, at_component (todos placed) stamped.0 refused.0 has stamped.1 refused.1)
        | inl read ↦ with_todos read.0
            (record { components = todos placed; begins = has; with_stamps = stamped.0; dated_are = stamped.1; read = read.1 })
      ]

  with_frame : (r : Result (List Placed) MessageRefusal) → frame content ≡ r → ReadOrRefused bytes
  with_frame (Err f) e = inr (f, at_frame content f reads e)
  with_frame (Ok placed) e = with_head placed e (draft_head placed) refl (of_request placed)

pub some_draft : (bytes : List ℕ) → ((all : List Todo) × ReadsDraft bytes all) ⊎ ((f : MessageRefusal) × RefusesDraft bytes f)
some_draft bytes =
    elim (reads_or_refused bytes) [
      | inr refused ↦ inr (of_lines refused.0, at_lines refused.0 refused.1)
      | inl read ↦ with_frame bytes read.0 read.1 (frame read.0) refl
    ]

-- ---- places

head_placed : (placed : List Placed) → GivesPlace Method (draft_head placed)
head_placed placed =
    cond_placed Method (is_version (only_value (named (codes "VERSION") (calendar_lines placed)))) _ _
    (λ right. counted_placed (todos placed) None (Some method.Request))
    (λ wrong. err_placed Method (at_line causes.Version (odd_line (named (codes "VERSION") (calendar_lines placed)))) (refl, tt))

pub draft_refusal_placed : (bytes : List ℕ) (f : MessageRefusal) → RefusesDraft bytes f → NamesPlace f
draft_refusal_placed bytes g (at_lines of h) = (refl, one_lines.refusal_place bytes of h)
draft_refusal_placed bytes g (at_frame content f h k) = frame_placed content f k
draft_refusal_placed bytes g (at_head content placed f h k l) = head_placed placed f l
draft_refusal_placed bytes g (at_component components with_stamps f h are k) = first_placed method.Request 1 with_stamps f k
draft_refusal_placed bytes g (at_canonical_form all todo h over) = (refl, refl)
