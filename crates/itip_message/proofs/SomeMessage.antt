-- A text is a message, or it is refused.
use Rattle.std.proofs.Common.{◌≡◌, refl, ℕ, suc, ◌+◌, ◌≤◌, List, [], ◌∷◌, ◌++◌, length, map, arith, inl, inr, ◌⊎◌, true, Option, Some, None}
use Rattle.std.proofs.Common.{Ok, Err}
use Rattle.std.specs.Prelude.{Result}
use Rattle.std.specs.List.{AllByRecursion, Any}
use Rattle.std.proofs.lemmas.Bool.Decides.{leb_tells}
use Rattle.itip_lines.specs.Reading as lines
use Rattle.itip_lines.specs.Reading.{plain_lines}
use Rattle.itip_lines.specs.declared.line.NumberedLine.{NumberedLine}
use Rattle.itip_lines.proofs.Decided.{reads_or_refused}
use Rattle.itip_moment.specs.declared.moment.Moment.{Moment}
use Rattle.itip_todo.specs.Lawful.{IsLawful}
use Rattle.itip_todo.specs.Parts.{Parts}
use Rattle.itip_todo.specs.PartsOf.{parts_of}
use Rattle.itip_todo.specs.Reading.{ReadsTodo}
use Rattle.itip_todo.specs.Properties.{Property}
use Rattle.itip_todo.specs.declared.todo.Todo.{Todo}
use Rattle.itip_todo.proofs.SameTodo.{todo_of}
use Rattle.itip_todo.proofs.SomeTodo.{some_todo}
use Rattle.itip_message.specs.Refusals.{of_lines, of_todo, in_todo, large_form}
use Rattle.itip_message.specs.CauseLines.{line_of_cause}
use Rattle.itip_message.specs.Frame.{frame, todos}
use Rattle.itip_message.specs.Head.{head}
use Rattle.itip_items.specs.Items.{ItemDraft, drafts, drafts_of, task_draft, add_drafts, attendee_draft, only_of, kind_of, raised}
use Rattle.itip_items.specs.Items.{series_sequence, is_task, canonical_base, canonical_contents, canonical_octets, Sends, IsCanonical}
use Rattle.itip_items.specs.Items.{IsWithinLimits}
use Rattle.itip_items.specs.MethodNeeds.{method_cause, Suits}
use Rattle.itip_items.specs.declared.error.MethodCause.{MethodCause}
use Rattle.itip_message.specs.Message.{ReadsComponent, RefusesComponent, AreComponents, FirstRefused, HasHead, ReadsMessage, RefusesMessage}
use Rattle.itip_message.specs.Message.{at_lines, at_frame, at_head, at_component, at_canonical_form}
use Rattle.itip_items.specs.Given.{IsItemOf, AreItemsOf, GivesItems, IsOver, FirstOver, drafts_each}
use Rattle.itip_message.specs.declared.sort.Component.{Component}
use Rattle.itip_message.specs.declared.frame.Placed.{Placed}
use Rattle.itip_items.specs.declared.item.Item.{Item}
use Rattle.itip_items.specs.declared.kind.Kind.{Kind}
use Rattle.itip_items.specs.declared.kind.Kind.TheVariants as kind
use Rattle.itip_items.specs.declared.kind.Method.{Method}
use Rattle.itip_items.specs.declared.kind.Method.TheVariants as method
use Rattle.itip_message.specs.declared.error.MessageRefusal.{MessageRefusal}
use Rattle.itip_message.specs.declared.error.MessageCause.TheVariants as causes
use Rattle.itip_items.proofs.Adding.{drafts_among, within_both}
use Rattle.itip_items.proofs.Drafting.{sends, series_canonical, instance_canonical, add_canonical, attendee_canonical}
use Rattle.itip_items.proofs.Lawfulness.{base_lawful, raised_small, canonical_small, series_small, only_each}
use Rattle.itip_message.proofs.Properties.{framed_suit}

-- ---- components

decide_component : (m : Method) (n : ℕ) (c : Component) → ((todo : Todo) × ReadsComponent m c todo) ⊎
    ((f : MessageRefusal) × RefusesComponent m n c f)
decide_component m n c =
    elim (some_todo c.lines) [
      | inr refused ↦ inr (of_todo n refused.0, inl (refused.0, refused.1, refl))
      | inl read ↦ fitting read.0 read.1 (method_cause m (parts_of read.0)) refl
    ]
  where
    fitting : (todo : Todo) → ReadsTodo (plain_lines c.lines) todo → (o : Option MethodCause) → method_cause m (parts_of todo) ≡ o →
        ((t : Todo) × ReadsComponent m c t) ⊎ ((f : MessageRefusal) × RefusesComponent m n c f)
    fitting todo reads None e = inl (todo, record { reads = reads; fits = e })
    fitting todo reads (Some cause) e =
        inr (in_todo n (causes.Misfit cause) (line_of_cause cause c.lines), inr (todo, cause, reads, e, refl))

pub decide_components : (m : Method) (n : ℕ) (all : List Component) → ((todos : List Todo) × AreComponents m all todos) ⊎
    ((f : MessageRefusal) × FirstRefused m n all f)
decide_components m n [] = inl ([], tt)
decide_components m n (c ∷ all) =
    elim (decide_component m n c) [
      | inr refused ↦ inr (refused.0, inl refused.1)
      | inl first ↦ elim (decide_components m (n + 1) all) [
        | inr refused ↦ inr (refused.0, inr (first, refused.1))
        | inl more ↦ inl (first.0 ∷ more.0, (first.1, more.1))
      ]
    ]

-- ---- limits

decide_draft : (draft : ItemDraft) → IsWithinLimits draft ⊎ (IsWithinLimits draft → ⊥)
decide_draft draft =
    elim (leb_tells (length (canonical_octets draft.kind draft.parts)) 262144) [
      | inr long ↦ inr (λ h. omega (arith, long.1, h.octets))
      | inl short ↦ elim (leb_tells (length (canonical_contents draft.kind draft.parts)) 20000) [
        | inr many ↦ inr (λ h. omega (arith, many.1, h.lines))
        | inl few ↦ inl (record { octets = short.1; lines = few.1 })
      ]
    ]

some_drafts : (ds : List ItemDraft) → AllByRecursion IsWithinLimits ds ⊎ Any (λ draft. ¬ IsWithinLimits draft) ds
some_drafts [] = inl tt
some_drafts (d ∷ ds) =
    elim (decide_draft d) [
      | inr over ↦ inr (0, d, omega arith, refl, over)
      | inl within ↦ elim (some_drafts ds) [
        | inl more ↦ inl (within, more)
        | inr (k, x, less, at, over) ↦ inr (suc k, x, omega arith, at, over)
      ]
    ]

decide_drafts : (ds : List ItemDraft) → AllByRecursion IsWithinLimits ds ⊎ IsOver ds
decide_drafts ds = elim (some_drafts ds) [ inl within ↦ inl within | inr over ↦ inr (record { over = over }) ]

decide_each : (n : ℕ) (m : Method) (all rest : List Parts) → AllByRecursion IsWithinLimits (drafts_among m all rest) ⊎
    ((todo : ℕ) × FirstOver n (drafts_each m all rest) todo)
decide_each n m all [] = inl tt
decide_each n m all (parts ∷ rest) =
    elim (decide_drafts _) [
      | inr over ↦ inr (n, inl (refl, over))
      | inl within ↦ elim (decide_each (n + 1) m all rest) [
        | inr more ↦ inr (more.0, inr (within, more.1))
        | inl more ↦ inl (within_both _ (drafts_among m all rest) within more)
      ]
    ]

-- ---- each draft is that of an item

record IsSound (d : ItemDraft) : Type 0 where
  canonical : IsCanonical d
  lawful : IsLawful d.parts

abbrev AreSound : List ItemDraft → Type 0
AreSound ds = AllByRecursion IsSound ds

sound_both : (ds es : List ItemDraft) → AreSound ds → AreSound es → AreSound (ds ++ es)
sound_both [] es h k = k
sound_both (d ∷ ds) es h k = (h.0, sound_both ds es h.1 k)

module _ (p : Parts) (above : ℕ) (small : above ≤ 2147483647) (lawful : IsLawful p) where
  based : IsLawful (record p { base = canonical_base p.seq (raised p above) })
  based = base_lawful p (canonical_base p.seq (raised p above)) lawful
      (canonical_small p.seq (raised p above) (raised_small p above lawful small))

  task_sound : (k : Kind) → Sends k p → is_task k ≡ true → (r : Option Moment) → p.rid ≡ r →
      AreSound (task_draft k (raised p above) r p ∷ [])
  task_sound k h task None e =
      (record { canonical = series_canonical k p h task e; lawful = base_lawful p None lawful (λ n same. absurd cc) }, tt)
  task_sound k h task (Some id) e = (record { canonical = instance_canonical k p id above h task e; lawful = based }, tt)

  add_sound : Suits (method.Add) p → (s : Option Moment) → p.start ≡ s → AreSound (add_drafts (raised p above) s p)
  add_sound h None e = tt
  add_sound h (Some id) e = (record { canonical = add_canonical p id above h e; lawful = based }, tt)

  attendees_sound : (k : Kind) → ((a : Property) → IsCanonical (attendee_draft k p a)) → (list : List Property) →
      AllByRecursion (λ a. IsLawful (only_of a p)) list → AreSound (map (attendee_draft k p) list)
  attendees_sound k canonical [] h = tt
  attendees_sound k canonical (a ∷ list) h = (record { canonical = canonical a; lawful = h.0 }, attendees_sound k canonical list h.1)

  drafts_sound : (k : Kind) → Sends k p → AreSound (drafts_of k (raised p above) p)
  drafts_sound kind.Request h = task_sound kind.Request h refl p.rid refl
  drafts_sound kind.Cancel h = task_sound kind.Cancel h refl p.rid refl
  drafts_sound kind.Add h = add_sound h.suits p.start refl
  drafts_sound kind.Remove h =
      attendees_sound kind.Remove (λ a. attendee_canonical kind.Remove p a h refl (λ e. cc)) p.attendees (only_each p lawful)
  drafts_sound kind.Reply h =
      attendees_sound kind.Reply (λ a. attendee_canonical kind.Reply p a h refl (λ e. cc)) p.attendees (only_each p lawful)
  drafts_sound kind.Refresh h =
      attendees_sound kind.Refresh (λ a. attendee_canonical kind.Refresh p a h refl (λ e. cc)) p.attendees (only_each p lawful)

among_sound : (m : Method) (all rest : List Todo) → AllByRecursion (Suits m) (map parts_of rest) →
    AreSound (drafts_among m (map parts_of all) (map parts_of rest))
among_sound m all [] h = tt
among_sound m all (todo ∷ rest) h =
    let above : ℕ = series_sequence m todo.uid (map parts_of all) in
    sound_both (drafts_of (kind_of m (parts_of todo)) (raised (parts_of todo) above) (parts_of todo))
    (drafts_among m (map parts_of all) (map parts_of rest))
    (drafts_sound (parts_of todo) above (series_small m todo.uid all) todo.lawful (kind_of m (parts_of todo))
    (sends m (parts_of todo) h.0)) (among_sound m all rest h.1)

item_of : (d : ItemDraft) → IsSound d → IsWithinLimits d → (item : Item) × IsItemOf d item
item_of d h within = (
  record {
    key = d.key;
    own = d.parts.seq;
    eff = d.eff;
    stamp = d.parts.stamp;
    bytes = canonical_octets d.kind d.parts;
    todo = todo_of d.parts h.lawful;
    kind = d.kind;
    canonical = ∣ record { is_canonical = h.canonical; within = within; own_is = refl; stamp_is = refl; bytes_are = refl } ∣₁;
  },
  record { key_is = refl; kind_is = refl; eff_is = refl; parts_are = refl; own_is = refl; stamp_is = refl; bytes_are = refl },
)

items_of : (ds : List ItemDraft) → AreSound ds → AllByRecursion IsWithinLimits ds → (items : List Item) × AreItemsOf ds items
items_of [] h within = ([], tt)
items_of (d ∷ ds) h within =
    let first = item_of d h.0 within.0 in let more = items_of ds h.1 within.1 in (first.0 ∷ more.0, (first.1, more.1))

-- to-dos give items, or a canonical form of some to-do is too large
pub some_items : (m : Method) (all : List Todo) → AllByRecursion (Suits m) (map parts_of all) →
    ((items : List Item) × GivesItems (drafts m (map parts_of all)) items)
    ⊎ ((todo : ℕ) × FirstOver 1 (drafts_each m (map parts_of all) (map parts_of all)) todo)
some_items m all suit =
    elim (decide_each 1 m (map parts_of all) (map parts_of all)) [
      | inr over ↦ inr over
      | inl within ↦
          let items = items_of (drafts m (map parts_of all)) (among_sound m all all suit) within in
          inl (items.0, record { within = within; items_are = items.1 })
    ]

-- ---- the stages, from the last to the first

abbrev ReadOrRefused : List ℕ → Type 0
ReadOrRefused bytes = ((items : List Item) × ReadsMessage bytes items) ⊎ ((f : MessageRefusal) × RefusesMessage bytes f)

module _ (bytes : List ℕ) (content : List NumberedLine) (reads : lines.Reads bytes content) where
  with_components : (placed : List Placed) (m : Method) (all : List Todo) → frame content ≡ Ok placed → HasHead bytes m (todos placed) →
      AreComponents m (todos placed) all → ReadOrRefused bytes
  with_components placed m all framed has are =
      elim (some_items m all (framed_suit m content placed all framed are)) [
        | inr over ↦ inr (
          large_form over.0,
          at_canonical_form over.0
              (record { method_is = m; components = todos placed; all = all; begins = has; read = are; over = over.1 }),
        )
        | inl given ↦ inl (
          given.0,
          record {
            method_is = m;
            components = todos placed;
            all = all;
            begins = has;
            read = are;
            within = given.1.within;
            items_are = given.1.items_are;
          },
        )
      ]

  with_head : (placed : List Placed) → frame content ≡ Ok placed → (r : Result Method MessageRefusal) → head placed ≡ r →
      ReadOrRefused bytes
  with_head placed framed (Err f) e = inr (f, at_head content placed f reads framed e)
  with_head placed framed (Ok m) e =
      let has : HasHead bytes m (todos placed) =
      record { content = content; placed = placed; reads = reads; framed = framed; headed = e; components_are = refl } in
      elim (decide_components m 1 (todos placed)) [
        | inr refused ↦ inr (refused.0, at_component m (todos placed) refused.0 has refused.1)
        | inl read ↦ with_components placed m read.0 framed has read.1
      ]

  with_frame : (r : Result (List Placed) MessageRefusal) → frame content ≡ r → ReadOrRefused bytes
  with_frame (Err f) e = inr (f, at_frame content f reads e)
  with_frame (Ok placed) e = with_head placed e (head placed) refl

-- bytes are read as items, or they are refused
pub some_message : (bytes : List ℕ) → ((items : List Item) × ReadsMessage bytes items) ⊎ ((f : MessageRefusal) × RefusesMessage bytes f)
some_message bytes =
    elim (reads_or_refused bytes) [
      | inr refused ↦ inr (of_lines refused.0, at_lines refused.0 refused.1)
      | inl read ↦ with_frame bytes read.0 read.1 (frame read.0) refl
    ]
