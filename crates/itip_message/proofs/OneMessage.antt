-- A text is either one message or refused for one cause.
use Rattle.std.proofs.Common.{◌≡◌, ◌∙◌, sym, ap, refl, ℕ, ◌+◌, ◌<◌, List, [], ◌∷◌, ◌++◌, map, length, get_or, suc, zero, arith, subst, inl}
use Rattle.std.proofs.Common.{inr, ◌⊎◌, Some, None, Ok, Err}
use Rattle.std.specs.Prelude.{Result}
use Rattle.std.specs.List.{AllByRecursion, Any}
use Rattle.std.proofs.lemmas.Option.{same_Some}
use Rattle.itip_lines.specs.Reading as lines
use Rattle.itip_lines.specs.Reading.{plain_lines}
use Rattle.itip_lines.specs.declared.error.LineRefusal.{LineRefusal}
use Rattle.itip_lines.specs.declared.line.NumberedLine.{NumberedLine}
use Rattle.itip_lines.proofs.OneReading as one_lines
use Rattle.itip_todo.specs.Parts.{Parts}
use Rattle.itip_todo.specs.PartsOf.{parts_of}
use Rattle.itip_todo.specs.declared.todo.Todo.{Todo}
use Rattle.itip_message.specs.Refusals.{of_lines, of_todo, in_todo, large_form}
use Rattle.itip_message.specs.CauseLines.{line_of_cause}
use Rattle.itip_message.specs.Frame.{frame, todos}
use Rattle.itip_message.specs.Head.{head}
use Rattle.itip_items.specs.Items.{ItemDraft, drafts, IsWithinLimits, canonical_octets}
use Rattle.itip_items.specs.MethodNeeds.{method_cause}
use Rattle.itip_items.specs.declared.error.MethodCause.{MethodCause}
use Rattle.itip_message.specs.Message.{ReadsComponent, RefusesComponent, AreComponents, FirstRefused, HasHead, ReadsMessage, RefusesMessage}
use Rattle.itip_message.specs.Message.{at_lines, at_frame, at_head, at_component, at_canonical_form}
use Rattle.itip_items.specs.Given.{IsItemOf, AreItemsOf, IsOver, FirstOver, drafts_each}
use Rattle.itip_message.specs.declared.sort.Component.{Component}
use Rattle.itip_message.specs.declared.frame.Placed.{Placed}
use Rattle.itip_items.specs.declared.item.Item.{Item}
use Rattle.itip_items.specs.declared.kind.Method.{Method}
use Rattle.itip_message.specs.declared.error.MessageRefusal.{MessageRefusal}
use Rattle.itip_message.specs.declared.error.MessageCause.TheVariants as causes
use Rattle.itip_todo.proofs.ReadingLaws.{one_todo, one_refusal as one_todo_refusal, read_or_refused}
use Rattle.itip_items.proofs.Adding.{drafts_among}
use Rattle.itip_items.proofs.SameItem.{same_item}

-- components

one_component : (m : Method) (c : Component) (a b : Todo) → ReadsComponent m c a → ReadsComponent m c b → a ≡ b
one_component m c a b h k = one_todo (plain_lines c.lines) a b h.reads k.reads

component_apart : (m : Method) (n : ℕ) (c : Component) (todo : Todo) (f : MessageRefusal) → ReadsComponent m c todo →
    RefusesComponent m n c f → ⊥
component_apart m n c todo f h (inl k) = read_or_refused c.lines todo k.0 h.reads k.1
component_apart m n c todo f h (inr k) =
    let same : todo ≡ k.0 = one_todo (plain_lines c.lines) todo k.0 h.reads k.2 in
    let two : None ≡ Some k.1 = sym h.fits ∙ ap (λ (t : Todo). method_cause m (parts_of t)) same ∙ k.3 in
    cc

one_component_refusal : (m : Method) (n : ℕ) (c : Component) (f g : MessageRefusal) → RefusesComponent m n c f → RefusesComponent m n c g →
    f ≡ g
one_component_refusal m n c f g (inl h) (inl k) = h.2 ∙ ap (of_todo n) (one_todo_refusal c.lines h.0 k.0 h.1 k.1) ∙ sym k.2
one_component_refusal m n c f g (inl h) (inr k) = absurd (read_or_refused c.lines k.0 h.0 k.2 h.1)
one_component_refusal m n c f g (inr h) (inl k) = absurd (read_or_refused c.lines h.0 k.0 h.2 k.1)
one_component_refusal m n c f g (inr h) (inr k) =
    let same : h.1 ≡ k.1 =
    same_Some h.1 k.1 (sym h.3 ∙ ap (λ (t : Todo). method_cause m (parts_of t)) (one_todo (plain_lines c.lines) h.0 k.0 h.2 k.2) ∙ k.3)
    in
    h.4 ∙ ap (λ (cause : MethodCause). in_todo n (causes.Misfit cause) (line_of_cause cause c.lines)) same ∙ sym k.4

pub one_list : (m : Method) (all : List Component) (a b : List Todo) → AreComponents m all a → AreComponents m all b → a ≡ b
one_list m [] [] [] h k = refl
one_list m [] [] (y ∷ b) h k = absurd k
one_list m [] (x ∷ a) b h k = absurd h
one_list m (c ∷ all) [] b h k = absurd h
one_list m (c ∷ all) (x ∷ a) [] h k = absurd k
one_list m (c ∷ all) (x ∷ a) (y ∷ b) h k = λ i. one_component m c x y h.0 k.0 i ∷ one_list m all a b h.1 k.1 i

pub list_apart : (m : Method) (n : ℕ) (all : List Component) (a : List Todo) (f : MessageRefusal) → AreComponents m all a →
    FirstRefused m n all f → ⊥
list_apart m n [] a f h k = k
list_apart m n (c ∷ all) [] f h k = h
list_apart m n (c ∷ all) (x ∷ a) f h (inl k) = component_apart m n c x f h.0 k
list_apart m n (c ∷ all) (x ∷ a) f h (inr k) = list_apart m (n + 1) all a f h.1 k.1

pub one_refused : (m : Method) (n : ℕ) (all : List Component) (f g : MessageRefusal) → FirstRefused m n all f → FirstRefused m n all g →
    f ≡ g
one_refused m n [] f g h k = absurd h
one_refused m n (c ∷ all) f g (inl h) (inl k) = one_component_refusal m n c f g h k
one_refused m n (c ∷ all) f g (inl h) (inr k) = absurd (component_apart m n c k.0.0 f k.0.1 h)
one_refused m n (c ∷ all) f g (inr h) (inl k) = absurd (component_apart m n c h.0.0 g h.0.1 k)
one_refused m n (c ∷ all) f g (inr h) (inr k) = one_refused m (n + 1) all f g h.1 k.1

-- items

one_item : (draft : ItemDraft) (i j : Item) → IsItemOf draft i → IsItemOf draft j → i ≡ j
one_item draft i j h k =
    same_item i j (h.bytes_are ∙ (λ x. canonical_octets ((h.kind_is ∙ sym k.kind_is) x) ((h.parts_are ∙ sym k.parts_are) x)) ∙
    sym k.bytes_are)

one_items : (ds : List ItemDraft) (a b : List Item) → AreItemsOf ds a → AreItemsOf ds b → a ≡ b
one_items [] [] [] h k = refl
one_items [] [] (y ∷ b) h k = absurd k
one_items [] (x ∷ a) b h k = absurd h
one_items (d ∷ ds) [] b h k = absurd h
one_items (d ∷ ds) (x ∷ a) [] h k = absurd k
one_items (d ∷ ds) (x ∷ a) (y ∷ b) h k = λ i. one_item d x y h.0 k.0 i ∷ one_items ds a b h.1 k.1 i

within_at : (ds : List ItemDraft) (k : ℕ) (x : ItemDraft) → AllByRecursion IsWithinLimits ds → k < length ds → get_or ds k x ≡ x →
    IsWithinLimits x
within_at [] k x h less at = absurd (omega arith)
within_at (d ∷ ds) zero x h less at = subst IsWithinLimits at h.0
within_at (d ∷ ds) (suc k) x h less at = within_at ds k x h.1 (omega arith) at

limits_apart : (ds : List ItemDraft) → AllByRecursion IsWithinLimits ds → IsOver ds → ⊥
limits_apart ds h over = past ds h over.over
  where
    past : (ds : List ItemDraft) → AllByRecursion IsWithinLimits ds → Any (λ draft. ¬ IsWithinLimits draft) ds → ⊥
    past ds h (k, x, less, at, not) = not (within_at ds k x h less at)

one_over : (n : ℕ) (dss : List (List ItemDraft)) (a b : ℕ) → FirstOver n dss a → FirstOver n dss b → a ≡ b
one_over n [] a b h k = absurd h
one_over n (ds ∷ dss) a b (inl h) (inl k) = h.0 ∙ sym k.0
one_over n (ds ∷ dss) a b (inl h) (inr k) = absurd (limits_apart ds k.0 h.1)
one_over n (ds ∷ dss) a b (inr h) (inl k) = absurd (limits_apart ds h.0 k.1)
one_over n (ds ∷ dss) a b (inr h) (inr k) = one_over (n + 1) dss a b h.1 k.1

within_front : (ds es : List ItemDraft) → AllByRecursion IsWithinLimits (ds ++ es) → AllByRecursion IsWithinLimits ds ×
    AllByRecursion IsWithinLimits es
within_front [] es h = (tt, h)
within_front (d ∷ ds) es h = let rest = within_front ds es h.1 in ((h.0, rest.0), rest.1)

each_apart : (n : ℕ) (m : Method) (all rest : List Parts) (todo : ℕ) → AllByRecursion IsWithinLimits (drafts_among m all rest) →
    FirstOver n (drafts_each m all rest) todo → ⊥
each_apart n m all [] todo h k = k
each_apart n m all (parts ∷ rest) todo h (inl k) = limits_apart _ (within_front _ (drafts_among m all rest) h).0 k.1
each_apart n m all (parts ∷ rest) todo h (inr k) = each_apart (n + 1) m all rest todo (within_front _ (drafts_among m all rest) h).1 k.1

-- stages: each gives a value or a refusal

pub ok_same : {A : Type 0} (r : Result A MessageRefusal) (a b : A) → r ≡ Ok a → r ≡ Ok b → a ≡ b
ok_same r a b h k = let e : Ok a ≡ Ok b = sym h ∙ k in cc

pub err_same : {A : Type 0} (r : Result A MessageRefusal) (f g : MessageRefusal) → r ≡ Err f → r ≡ Err g → f ≡ g
err_same r f g h k = let e : Err f ≡ Err g = sym h ∙ k in cc

pub ok_apart : {A : Type 0} (r : Result A MessageRefusal) (a : A) (f : MessageRefusal) → r ≡ Ok a → r ≡ Err f → ⊥
ok_apart r a f h k = let e : Ok a ≡ Err f = sym h ∙ k in cc

-- the stages after the lines, from the last to the first: why they give no items, and which items they give

abbrev pub LastRefusal : Method → List Component → MessageRefusal → Type 0
LastRefusal m components f =
    FirstRefused m 1 components f
    ⊎ ((all : List Todo) × (todo : ℕ) × AreComponents m components all ×
    FirstOver 1 (drafts_each m (map parts_of all) (map parts_of all)) todo × (f ≡ large_form todo))

abbrev HeadRefusal : List Placed → MessageRefusal → Type 0
HeadRefusal placed f = (head placed ≡ Err f) ⊎ ((m : Method) × (head placed ≡ Ok m) × LastRefusal m (todos placed) f)

abbrev FrameRefusal : List NumberedLine → MessageRefusal → Type 0
FrameRefusal content f = (frame content ≡ Err f) ⊎ ((placed : List Placed) × (frame content ≡ Ok placed) × HeadRefusal placed f)

abbrev Cause : List ℕ → MessageRefusal → Type 0
Cause bytes f = ((of : LineRefusal) × lines.Refused bytes of × (f ≡ of_lines of)) ⊎
    ((content : List NumberedLine) × lines.Reads bytes content × FrameRefusal content f)

pub record LastItems (m : Method) (components : List Component) (items : List Item) : Type 0 where
  pub all : List Todo
  pub read : AreComponents m components all
  pub within : AllByRecursion IsWithinLimits (drafts m (map parts_of all))
  pub items_are : AreItemsOf (drafts m (map parts_of all)) items

record Items (content : List NumberedLine) (items : List Item) : Type 0 where
  placed : List Placed
  method_is : Method
  framed : frame content ≡ Ok placed
  headed : head placed ≡ Ok method_is
  last : LastItems method_is (todos placed) items

last_of_head : (bytes : List ℕ) (m : Method) (components : List Component) (f : MessageRefusal) → (h : HasHead bytes m components) →
    LastRefusal m components f → Cause bytes f
last_of_head bytes m components f h k =
    inr (
      h.content,
      h.reads,
      inr (
        h.placed,
        h.framed,
        inr (m, h.headed, subst (λ (ls : List Component). LastRefusal m ls f) h.components_are k),
      ),
    )

cause : (bytes : List ℕ) (f : MessageRefusal) → RefusesMessage bytes f → Cause bytes f
cause bytes g (at_lines of h) = inl (of, h, refl)
cause bytes g (at_frame content f h k) = inr (content, h, inl k)
cause bytes g (at_head content placed f h k l) = inr (content, h, inr (placed, k, inl l))
cause bytes g (at_component m components f h k) = last_of_head bytes m components f h (inl k)
cause bytes g (at_canonical_form todo h) =
    last_of_head bytes h.method_is h.components (large_form todo) h.begins (inr (h.all, todo, h.read, h.over, refl))

items_of : (bytes : List ℕ) (items : List Item) (h : ReadsMessage bytes items) → Items h.begins.content items
items_of bytes items h = record {
  placed = h.begins.placed;
  method_is = h.method_is;
  framed = h.begins.framed;
  headed = h.begins.headed;
  last = subst (λ (ls : List Component). LastItems h.method_is ls items) h.begins.components_are
      (record { all = h.all; read = h.read; within = h.within; items_are = h.items_are });
}

pub one_last : (m : Method) (components : List Component) (f g : MessageRefusal) → LastRefusal m components f → LastRefusal m components g →
    f ≡ g
one_last m components f g (inl h) (inl k) = one_refused m 1 components f g h k
one_last m components f g (inl h) (inr k) = absurd (list_apart m 1 components k.0 f k.2 h)
one_last m components f g (inr h) (inl k) = absurd (list_apart m 1 components h.0 g h.2 k)
one_last m components f g (inr h) (inr k) =
    let same : h.0 ≡ k.0 = one_list m components h.0 k.0 h.2 k.2 in
    let over = subst (λ (ts : List Todo). FirstOver 1 (drafts_each m (map parts_of ts) (map parts_of ts)) h.1) same h.3 in
    h.4 ∙ ap large_form (one_over 1 (drafts_each m (map parts_of k.0) (map parts_of k.0)) h.1 k.1 over k.3) ∙ sym k.4

one_head : (placed : List Placed) (f g : MessageRefusal) → HeadRefusal placed f → HeadRefusal placed g → f ≡ g
one_head placed f g (inl h) (inl k) = err_same (head placed) f g h k
one_head placed f g (inl h) (inr k) = absurd (ok_apart (head placed) k.0 f k.1 h)
one_head placed f g (inr h) (inl k) = absurd (ok_apart (head placed) h.0 g h.1 k)
one_head placed f g (inr h) (inr k) =
    one_last k.0 (todos placed) f g (subst (λ (m : Method). LastRefusal m (todos placed) f) (ok_same (head placed) h.0 k.0 h.1 k.1) h.2) k.2

one_frame : (content : List NumberedLine) (f g : MessageRefusal) → FrameRefusal content f → FrameRefusal content g → f ≡ g
one_frame content f g (inl h) (inl k) = err_same (frame content) f g h k
one_frame content f g (inl h) (inr k) = absurd (ok_apart (frame content) k.0 f k.1 h)
one_frame content f g (inr h) (inl k) = absurd (ok_apart (frame content) h.0 g h.1 k)
one_frame content f g (inr h) (inr k) =
    one_head k.0 f g (subst (λ (p : List Placed). HeadRefusal p f) (ok_same (frame content) h.0 k.0 h.1 k.1) h.2) k.2

both_causes : (bytes : List ℕ) (f g : MessageRefusal) → Cause bytes f → Cause bytes g → f ≡ g
both_causes bytes f g (inl h) (inl k) = h.2 ∙ ap of_lines (one_lines.one_refusal bytes h.0 k.0 h.1 k.1) ∙ sym k.2
both_causes bytes f g (inl h) (inr k) = absurd (one_lines.reading_apart bytes k.0 h.0 k.1 h.1)
both_causes bytes f g (inr h) (inl k) = absurd (one_lines.reading_apart bytes h.0 k.0 h.1 k.1)
both_causes bytes f g (inr h) (inr k) =
    one_frame k.0 f g (subst (λ (ls : List NumberedLine). FrameRefusal ls f) (one_lines.one_reading bytes h.0 k.0 h.1 k.1) h.2) k.2

-- a text is refused for one cause
pub one_cause : (bytes : List ℕ) (f g : MessageRefusal) → RefusesMessage bytes f → RefusesMessage bytes g → f ≡ g
one_cause bytes f g h k = both_causes bytes f g (cause bytes f h) (cause bytes g k)

pub same_last : (m : Method) (components : List Component) (a b : List Item) → LastItems m components a → LastItems m components b → a ≡ b
same_last m components a b h k =
    let same : h.all ≡ k.all = one_list m components h.all k.all h.read k.read in
    one_items (drafts m (map parts_of k.all)) a b (subst (λ (ts : List Todo). AreItemsOf (drafts m (map parts_of ts)) a) same h.items_are)
    k.items_are

same_items : (content : List NumberedLine) (a b : List Item) → Items content a → Items content b → a ≡ b
same_items content a b h k =
    let placed : h.placed ≡ k.placed = ok_same (frame content) h.placed k.placed h.framed k.framed in
    let methods : h.method_is ≡ k.method_is = ok_same (head k.placed) h.method_is k.method_is (ap head (sym placed) ∙ h.headed) k.headed in
    same_last k.method_is (todos k.placed) a b
    (subst (λ (m : Method). LastItems m (todos k.placed) a) methods
    (subst (λ (p : List Placed). LastItems h.method_is (todos p) a) placed h.last)) k.last

-- a text is one message
pub one_message : (bytes : List ℕ) (items others : List Item) → ReadsMessage bytes items → ReadsMessage bytes others → items ≡ others
one_message bytes items others h k =
    let contents : h.begins.content ≡ k.begins.content =
    one_lines.one_reading bytes h.begins.content k.begins.content h.begins.reads k.begins.reads in
    same_items k.begins.content items others (subst (λ (ls : List NumberedLine). Items ls items) contents (items_of bytes items h))
    (items_of bytes others k)

pub last_apart : (m : Method) (components : List Component) (items : List Item) (f : MessageRefusal) → LastItems m components items →
    LastRefusal m components f → ⊥
last_apart m components items f h (inl k) = list_apart m 1 components h.all f h.read k
last_apart m components items f h (inr k) =
    let same : k.0 ≡ h.all = one_list m components k.0 h.all k.2 h.read in
    each_apart 1 m (map parts_of h.all) (map parts_of h.all) k.1 h.within
    (subst (λ (ts : List Todo). FirstOver 1 (drafts_each m (map parts_of ts) (map parts_of ts)) k.1) same k.3)

head_apart : (placed : List Placed) (m : Method) (items : List Item) (f : MessageRefusal) → head placed ≡ Ok m →
    LastItems m (todos placed) items → HeadRefusal placed f → ⊥
head_apart placed m items f h last (inl k) = ok_apart (head placed) m f h k
head_apart placed m items f h last (inr k) =
    last_apart m (todos placed) items f last (subst (λ (n : Method). LastRefusal n (todos placed) f) (ok_same (head placed) k.0 m k.1 h)
    k.2)

frame_apart : (content : List NumberedLine) (items : List Item) (f : MessageRefusal) → Items content items → FrameRefusal content f → ⊥
frame_apart content items f h (inl k) = ok_apart (frame content) h.placed f h.framed k
frame_apart content items f h (inr k) =
    head_apart h.placed h.method_is items f h.headed h.last
    (subst (λ (p : List Placed). HeadRefusal p f) (ok_same (frame content) k.0 h.placed k.1 h.framed) k.2)

reads_apart : (bytes : List ℕ) (items : List Item) (f : MessageRefusal) → ReadsMessage bytes items → Cause bytes f → ⊥
reads_apart bytes items f h (inl k) = one_lines.reading_apart bytes h.begins.content k.0 h.begins.reads k.1
reads_apart bytes items f h (inr k) =
    frame_apart h.begins.content items f (items_of bytes items h)
    (subst (λ (ls : List NumberedLine). FrameRefusal ls f) (one_lines.one_reading bytes k.0 h.begins.content k.1 h.begins.reads) k.2)

-- a message is not refused
pub message_apart : (bytes : List ℕ) (items : List Item) (f : MessageRefusal) → ReadsMessage bytes items → RefusesMessage bytes f → ⊥
message_apart bytes items f h k = reads_apart bytes items f h (cause bytes f k)
