-- Items with equal canonical octets are equal.
use Rattle.std.proofs.Common.{append-nil, ◌≡◌, ◌∙◌, sym, ap, refl, ℕ, ◌≤◌, List, [], ◌∷◌, length, map, arith, subst, inl, inr, Option, Some}
use Rattle.std.proofs.Common.{None}
use Rattle.std.specs.Prelude.{nat_eq, cond, codes}
use Rattle.std.proofs.Math.Logic.{∥∥₁_elim, ∥∥₁_map, ∥∥₁_prop}
use Rattle.std.proofs.Props.{props}
use Rattle.std.proofs.lemmas.Cmp.{nat_cmp_total}
use Rattle.std.proofs.lemmas.List.{append_cancel_right}
use Rattle.std.proofs.lemmas.Option.{same_Some}
use Rattle.std.proofs.lemmas.Map.Lookups.{exact_unsigned}
use mathlib.Core.HLevel.{is_prop→PathP}
use Rattle.itip_lines.specs.declared.line.Line.{Line}
use Rattle.itip_moment.specs.OrderLaws.{stamp_total}
use Rattle.itip_moment.specs.declared.stamp.Stamp.{Stamp}
use Rattle.itip_moment.proofs.Same.{stamp_equal}
use Rattle.itip_todo.specs.Lawful.{IsLawful, IsLawful-prop}
use Rattle.itip_todo.specs.Parts.{Parts}
use Rattle.itip_todo.specs.Written.{Content, content_of, contents_octets, parts_contents}
use Rattle.itip_todo.specs.Properties.{Property}
use Rattle.itip_moment.specs.declared.moment.Moment.{Moment}
use Rattle.std.specs.List.{AllByRecursion}
use Rattle.itip_todo.specs.PartsOf.{parts_of}
use Rattle.itip_todo.specs.declared.todo.Todo.{Todo}
use Rattle.itip_todo.proofs.ReadingLaws.{one_todo}
use Rattle.itip_todo.proofs.SameTodo.{todo_of}
use Rattle.itip_todo.proofs.WritingLaws as todo_laws
use Rattle.itip_items.specs.Items.{ItemDraft, draft_of, drafts, drafts_of, task_draft, add_drafts, attendee_draft, effective_sequence}
use Rattle.itip_items.specs.Items.{kind_of, IsItem, canonical_contents, canonical_octets, method_of, method_text, bare}
use Rattle.itip_items.specs.Items.{method_named}
use Rattle.itip_items.specs.declared.item.Item.{Item}
use Rattle.itip_items.specs.declared.kind.Kind.{Kind}
use Rattle.itip_items.specs.declared.kind.Kind.TheVariants as kind
use Rattle.itip_items.specs.declared.kind.Method.{Method}
use Rattle.itip_items.specs.declared.kind.Method.TheVariants as method
use Rattle.itip_items.proofs.Keys.{Told, told_by_cmp, told_bytes, told_keys}
use Rattle.itip_todo.proofs.ContentLines.{lines_from, contents_of}
use Rattle.itip_items.proofs.Contents.{same_contents, canonical_lawful}

-- what can be told is known where it is merely so
pub stable : {A : Type 0} {a b : A} → Told a b → ∥ a ≡ b ∥₁ → a ≡ b
stable (inl same) h = same
stable (inr other) h = absurd (∥∥₁_elim h (λ (x y : ⊥). absurd x) other)

pub told_numbers : (a b : ℕ) → Told a b
told_numbers = told_by_cmp nat_cmp_total exact_unsigned

pub told_stamps : (a b : Stamp) → Told a b
told_stamps = told_by_cmp stamp_total stamp_equal

abbrev number : Kind → ℕ
number kind.Request = 0
number kind.Add = 1
number kind.Remove = 2
number kind.Cancel = 3
number kind.Reply = 4
number kind.Refresh = 5

abbrev numbered : ℕ → Kind
numbered n = cond (nat_eq n 0) kind.Request (cond (nat_eq n 1) kind.Add
    (cond (nat_eq n 2) kind.Remove (cond (nat_eq n 3) kind.Cancel (cond (nat_eq n 4) kind.Reply kind.Refresh))))

number_back : (k : Kind) → numbered (number k) ≡ k
number_back kind.Request = refl
number_back kind.Add = refl
number_back kind.Remove = refl
number_back kind.Cancel = refl
number_back kind.Reply = refl
number_back kind.Refresh = refl

pub told_kinds : (k l : Kind) → Told k l
told_kinds k l =
    elim (told_numbers (number k) (number l)) [
      | inl same ↦ inl (sym (number_back k) ∙ ap numbered same ∙ number_back l)
      | inr other ↦ inr (λ same. other (ap number same))
    ]

method_back : (m : Method) → method_named (method_text m) ≡ Some m
method_back method.Request = refl
method_back method.Add = refl
method_back method.Cancel = refl
method_back method.Reply = refl
method_back method.Refresh = refl

same_method : (m n : Method) → method_text m ≡ method_text n → m ≡ n
same_method m n e = same_Some m n (sym (method_back m) ∙ ap method_named e ∙ method_back n)

-- what an item is, without a choice

abbrev pub Is : Item → Type 0
Is item = IsItem item.key item.own item.eff item.stamp item.bytes item.todo item.kind

abbrev pub contents : Item → List Content
contents item = canonical_contents item.kind (parts_of item.todo)

abbrev pub draft : Item → ItemDraft
draft item = draft_of item.key item.eff item.todo item.kind

abbrev drafts_alone : Item → List ItemDraft
drafts_alone item = drafts (method_of item.kind) (parts_of item.todo ∷ [])

pub few_lines : (item : Item) → length (contents item) ≤ 20000
few_lines item =
    let prop : IsProp (length (contents item) ≤ 20000) = hlevel props in
    ∥∥₁_elim item.canonical prop (λ is. is.within.lines)

pub few_octets : (item : Item) → length (contents_octets (contents item)) ≤ 262144
few_octets item =
    let prop : IsProp (length (contents_octets (contents item)) ≤ 262144) = hlevel props in
    ∥∥₁_elim item.canonical prop (λ is. is.within.octets)

pub bytes_are : (item : Item) → item.bytes ≡ contents_octets (contents item)
bytes_are item = stable (told_bytes _ _) (∥∥₁_map item.canonical (λ is. is.bytes_are))

pub own_is : (item : Item) → item.own ≡ item.todo.seq
own_is item = stable (told_numbers _ _) (∥∥₁_map item.canonical (λ is. is.own_is))

pub stamp_is : (item : Item) → item.stamp ≡ item.todo.stamp
stamp_is item = stable (told_stamps _ _) (∥∥₁_map item.canonical (λ is. is.stamp_is))

-- lawful parts are known by their canonical octets

abbrev behind : List Content → List Content
behind [] = []
behind (c ∷ cs) = cs

abbrev value_of : List Content → List ℕ
value_of [] = []
value_of (c ∷ cs) = c.value

abbrev ends : List Content
ends = bare (codes "END") (codes "VTODO") ∷ bare (codes "END") (codes "VCALENDAR") ∷ []

same_inner : (k l : Kind) (p q : Parts) → canonical_contents k p ≡ canonical_contents l q → parts_contents p ≡ parts_contents q
same_inner k l p q e =
    append_cancel_right (parts_contents p) (parts_contents q) ends
    (ap (λ (cs : List Content). behind (behind (behind (behind (behind cs))))) e)

same_method_text : (k l : Kind) (p q : Parts) → canonical_contents k p ≡ canonical_contents l q →
    method_text (method_of k) ≡ method_text (method_of l)
same_method_text k l p q e = ap (λ (cs : List Content). value_of (behind (behind (behind cs)))) e

-- to-dos are known by their lines
same_lines : (a b : Todo) → parts_contents (parts_of a) ≡ parts_contents (parts_of b) → a ≡ b
same_lines a b e =
    let lines : List Line = lines_from (parts_contents (parts_of a)) a.lawful.lines in
    let is : map content_of lines ≡ parts_contents (parts_of a) = contents_of (parts_contents (parts_of a)) a.lawful.lines in
    one_todo lines a b (todo_laws.read_again lines a is) (todo_laws.read_again lines b (is ∙ e))

same_parts : (p q : Parts) → IsLawful p → IsLawful q → parts_contents p ≡ parts_contents q → p ≡ q
same_parts p q h k e = ap parts_of (same_lines (todo_of p h) (todo_of q k) e)

parts_known : (k : Kind) (p q : Parts) → IsLawful p → IsLawful q → length (canonical_contents k p) ≤ 20000 →
    length (canonical_contents k q) ≤ 20000 → length (canonical_octets k p) ≤ 262144
    → canonical_octets k p ≡ canonical_octets k q → p ≡ q
parts_known k p q h j few less short e =
    same_parts p q h j (same_inner k k p q (same_contents (canonical_contents k p) (canonical_contents k q) (canonical_lawful k p h.lines)
    (canonical_lawful k q j.lines) few less short e))

-- the drafts of an item's to-do are its own draft

abbrev first_or : ItemDraft → List ItemDraft → ItemDraft
first_or d [] = d
first_or d (e ∷ es) = e

single : (d : ItemDraft) (all : List ItemDraft) → length all ≡ 1 → all ≡ first_or d all ∷ []
single d [] h = absurd (omega (arith, h))
single d (e ∷ []) h = refl
single d (e ∷ (f ∷ all)) h = absurd (omega (arith, h))

known_parts : (item : Item) (p : Parts) → ∥ p ≡ parts_of item.todo ∥₁ → p ≡ parts_of item.todo
known_parts item p h =
    let lawful : IsLawful p = ∥∥₁_elim h (IsLawful-prop p) (λ same. subst IsLawful (sym same) item.todo.lawful) in
    let few_prop : IsProp (length (canonical_contents item.kind p) ≤ 20000) = hlevel props in
    let few : length (canonical_contents item.kind p) ≤ 20000 =
    ∥∥₁_elim h few_prop (λ same. subst (λ (q : Parts). length (canonical_contents item.kind q) ≤ 20000) (sym same) (few_lines item)) in
    let short_prop : IsProp (length (canonical_octets item.kind p) ≤ 262144) = hlevel props in
    let short : length (canonical_octets item.kind p) ≤ 262144 =
    ∥∥₁_elim h short_prop (λ same. subst (λ (q : Parts). length (canonical_octets item.kind q) ≤ 262144) (sym same) (few_octets item))
    in
    let octets : canonical_octets item.kind p ≡ canonical_octets item.kind (parts_of item.todo) =
    stable (told_bytes _ _) (∥∥₁_map h (λ same. ap (canonical_octets item.kind) same)) in
    parts_known item.kind p (parts_of item.todo) lawful item.todo.lawful few (few_lines item) short octets

known_draft : (item : Item) (d : ItemDraft) → ∥ d ≡ draft item ∥₁ → d ≡ draft item
known_draft item d h =
    let keys : d.key ≡ item.key = stable (told_keys _ _) (∥∥₁_map h (λ same. ap (λ (e : ItemDraft). e.key) same)) in
    let kinds : d.kind ≡ item.kind = stable (told_kinds _ _) (∥∥₁_map h (λ same. ap (λ (e : ItemDraft). e.kind) same)) in
    let effs : d.eff ≡ item.eff = stable (told_numbers _ _) (∥∥₁_map h (λ same. ap (λ (e : ItemDraft). e.eff) same)) in
    let all : d.parts ≡ parts_of item.todo = known_parts item d.parts (∥∥₁_map h (λ same. ap (λ (e : ItemDraft). e.parts) same)) in
    λ i. record { key = keys i; kind = kinds i; eff = effs i; parts = all i }

pub alone : (item : Item) → drafts_alone item ≡ draft item ∷ []
alone item =
    let count : length (drafts_alone item) ≡ 1 =
    stable (told_numbers _ _) (∥∥₁_map item.canonical (λ (is : Is item). ap length is.is_canonical.alone)) in
    let first : ∥ first_or (draft item) (drafts_alone item) ≡ draft item ∥₁ =
    ∥∥₁_map item.canonical (λ (is : Is item). ap (first_or (draft item)) is.is_canonical.alone) in
    single (draft item) (drafts_alone item) count ∙ ap (λ (d : ItemDraft). d ∷ []) (known_draft item _ first)

-- the drafts of one to-do are of the kind that its method gives
abbrev OfKind : Kind → List ItemDraft → Type 0
OfKind k all = AllByRecursion (λ (draft : ItemDraft). draft.kind ≡ k) all

task_kind : (k : Kind) (eff : ℕ) (rid : Option Moment) (parts : Parts) → (task_draft k eff rid parts).kind ≡ k
task_kind k eff None parts = refl
task_kind k eff (Some id) parts = refl

add_kind : (eff : ℕ) (start : Option Moment) (parts : Parts) → OfKind kind.Add (add_drafts eff start parts)
add_kind eff None parts = tt
add_kind eff (Some id) parts = (refl, tt)

attendee_kinds : (k : Kind) (parts : Parts) (list : List Property) → OfKind k (map (attendee_draft k parts) list)
attendee_kinds k parts [] = tt
attendee_kinds k parts (a ∷ rest) = (refl, attendee_kinds k parts rest)

draft_kinds : (k : Kind) (eff : ℕ) (parts : Parts) → OfKind k (drafts_of k eff parts)
draft_kinds kind.Request eff parts = (task_kind kind.Request eff parts.rid parts, tt)
draft_kinds kind.Cancel eff parts = (task_kind kind.Cancel eff parts.rid parts, tt)
draft_kinds kind.Add eff parts = add_kind eff parts.start parts
draft_kinds kind.Remove eff parts = attendee_kinds kind.Remove parts parts.attendees
draft_kinds kind.Reply eff parts = attendee_kinds kind.Reply parts parts.attendees
draft_kinds kind.Refresh eff parts = attendee_kinds kind.Refresh parts parts.attendees

kind_is : (item : Item) → item.kind ≡ kind_of (method_of item.kind) (parts_of item.todo)
kind_is item =
    let parts : Parts = parts_of item.todo in
    let eff : ℕ = effective_sequence (method_of item.kind) (parts ∷ []) parts in
    let k : Kind = kind_of (method_of item.kind) parts in
    let one : drafts_of k eff parts ≡ draft item ∷ [] = sym (append-nil (drafts_of k eff parts)) ∙ alone item in
    (subst (OfKind k) one (draft_kinds k eff parts)).0

-- items of one kind with one to-do are of one draft
same_draft : (i j : Item) → i.kind ≡ j.kind → parts_of i.todo ≡ parts_of j.todo → draft i ≡ draft j
same_draft i j k p = ap (first_or (draft i)) (sym (alone i) ∙ (λ x. drafts (method_of (k x)) (p x ∷ [])) ∙ alone j)

-- items with one key, one to-do and so on are one
pub same_fields : (i j : Item) → i.key ≡ j.key → i.own ≡ j.own → i.eff ≡ j.eff → i.stamp ≡ j.stamp → i.bytes ≡ j.bytes → i.todo ≡ j.todo →
    i.kind ≡ j.kind → i ≡ j
same_fields i j key own eff stamp bytes todo kind =
    λ x. record {
      key = key x;
      own = own x;
      eff = eff x;
      stamp = stamp x;
      bytes = bytes x;
      todo = todo x;
      kind = kind x;
      canonical = is_prop→PathP (λ y. ∥ IsItem (key y) (own y) (eff y) (stamp y) (bytes y) (todo y) (kind y) ∥₁) (λ y. ∥∥₁_prop)
          i.canonical j.canonical x;
    }

pub same_item : (i j : Item) → i.bytes ≡ j.bytes → i ≡ j
same_item i j bytes =
    let octets : contents_octets (contents i) ≡ contents_octets (contents j) = sym (bytes_are i) ∙ bytes ∙ bytes_are j in
    let lines : contents i ≡ contents j =
    same_contents (contents i) (contents j) (canonical_lawful i.kind (parts_of i.todo) i.todo.lawful.lines)
    (canonical_lawful j.kind (parts_of j.todo) j.todo.lawful.lines) (few_lines i) (few_lines j) (few_octets i) octets in
    let todos : i.todo ≡ j.todo = same_lines i.todo j.todo (same_inner i.kind j.kind (parts_of i.todo) (parts_of j.todo) lines) in
    let parts : parts_of i.todo ≡ parts_of j.todo = ap parts_of todos in
    let methods : method_of i.kind ≡ method_of j.kind =
    same_method _ _ (same_method_text i.kind j.kind (parts_of i.todo) (parts_of j.todo) lines) in
    let kinds : i.kind ≡ j.kind = kind_is i ∙ (λ x. kind_of (methods x) (parts x)) ∙ sym (kind_is j) in
    let drafts_same : draft i ≡ draft j = same_draft i j kinds parts in
    same_fields i j (ap (λ (d : ItemDraft). d.key) drafts_same) (own_is i ∙ ap (λ (t : Todo). t.seq) todos ∙ sym (own_is j))
    (ap (λ (d : ItemDraft). d.eff) drafts_same)
    (stamp_is i ∙ ap (λ (t : Todo). t.stamp) todos ∙ sym (stamp_is j)) bytes todos kinds
