-- The canonical bytes of an item are a message that gives this item.
use Rattle.std.proofs.Common.{◌≡◌, ◌≤◌, ℕ, sym, refl, true, List, [], ◌∷◌, length, subst, arith, inl, inr, Option, Some, None}
use Rattle.std.specs.Prelude.{IsTrue}
use mathlib.Core.Bool.{Bool-set}
use Rattle.std.specs.List.{AllByRecursion, list_all}
use Rattle.std.proofs.Math.Logic.{∥∥₁_elim, ∥∥₁_map}
use Rattle.itip_lines.specs.Reading.{ReadsLines, plain_lines}
use Rattle.itip_todo.specs.Lawful.{IsLawfulContent}
use Rattle.itip_todo.specs.Parts.{Parts}
use Rattle.itip_todo.specs.PartsOf.{parts_of}
use Rattle.itip_todo.proofs.WritingLaws as todo_laws
use Rattle.itip_message.specs.Frame.{todos}
use Rattle.itip_items.specs.Items.{ItemDraft, method_of, IsWithinLimits}
use Rattle.itip_items.specs.MethodNeeds.{method_cause, is_property}
use Rattle.itip_message.specs.Message.{AreComponents, ReadsMessage}
use Rattle.itip_items.specs.Given.{IsItemOf, AreItemsOf}
use Rattle.itip_items.specs.declared.item.Item.{Item}
use Rattle.itip_items.specs.declared.error.MethodCause.{MethodCause}
use Rattle.itip_message.specs.declared.sort.Component.{Component}
use Rattle.itip_items.proofs.Keys.{Told}
use Rattle.itip_todo.specs.Written.{Content, contents_octets}
use Rattle.itip_lines.specs.declared.line.Param.{Param}
use Rattle.itip_todo.proofs.ContentLines.{lines_from, reads_from}
use Rattle.itip_items.proofs.Contents.{canonical_lawful}
use Rattle.itip_message.proofs.Placing.{IsFramed, marked_framed, marked_contents, product, version}
use Rattle.itip_items.proofs.SameItem.{Is, stable, contents, draft, few_lines, few_octets, bytes_are, own_is, stamp_is, alone}

told_none : (o : Option MethodCause) → Told o None
told_none None = inl refl
told_none (Some f) = inr (λ same. cc)

fits : (item : Item) → method_cause (method_of item.kind) (parts_of item.todo) ≡ None
fits item = stable (told_none _) (∥∥₁_map item.canonical (λ (is : Is item). is.is_canonical.suits.fits))

others : (item : Item) → IsTrue (list_all is_property item.todo.others)
others item = ∥∥₁_elim item.canonical (Bool-set (list_all is_property item.todo.others) true)
    (λ (is : Is item). is.is_canonical.suits.others)

item_of_draft : (item : Item) → IsItemOf (draft item) item
item_of_draft item = record {
  key_is = refl;
  kind_is = refl;
  eff_is = refl;
  parts_are = refl;
  own_is = own_is item;
  stamp_is = stamp_is item;
  bytes_are = bytes_are item;
}

-- the canonical form of an item, with these parameters of PRODID and VERSION
abbrev pub marked : List Param → List Param → Item → List Content
marked ps vs item = marked_contents ps vs item.kind (parts_of item.todo)

-- it is a message that gives this item, whatever the parameters are
pub reads_marked : (ps vs : List Param) → IsLawfulContent (product ps) → IsLawfulContent (version vs) → (item : Item) →
    length (contents_octets (marked ps vs item)) ≤ 1048576 → ReadsMessage (contents_octets (marked ps vs item)) (item ∷ [])
reads_marked ps vs product_lawful version_lawful item short =
    let parts : Parts = parts_of item.todo in
    let bare_lawful : AllByRecursion IsLawfulContent (contents item) = canonical_lawful item.kind parts item.todo.lawful.lines in
    let lawful : AllByRecursion IsLawfulContent (marked ps vs item) =
    (bare_lawful.0, (product_lawful, (version_lawful, bare_lawful.1.1.1))) in
    let numbered : ReadsLines (contents_octets (marked ps vs item)) (lines_from (marked ps vs item) lawful) =
    reads_from (marked ps vs item) lawful (few_lines item) short in
    let is : IsFramed item.kind parts numbered.0 = marked_framed ps vs item.kind parts lawful (others item) numbered.0 numbered.1 in
    let within : IsWithinLimits (draft item) = record { octets = few_octets item; lines = few_lines item } in
    record {
      method_is = method_of item.kind;
      components = todos is.placed;
      all = item.todo ∷ [];
      begins = record {
        content = numbered.0;
        placed = is.placed;
        reads = numbered.2;
        framed = is.framed;
        headed = is.headed;
        components_are = refl;
      };
      read = subst (λ (cs : List Component). AreComponents (method_of item.kind) cs (item.todo ∷ [])) (sym is.todos_are)
          (record { reads = todo_laws.read_again (plain_lines is.inner.lines) item.todo is.contents; fits = fits item }, tt);
      within = subst (λ (ds : List ItemDraft). AllByRecursion IsWithinLimits ds) (sym (alone item)) (within, tt);
      items_are = subst (λ (ds : List ItemDraft). AreItemsOf ds (item ∷ [])) (sym (alone item)) (item_of_draft item, tt);
    }

pub reads_again : (item : Item) → ReadsMessage item.bytes (item ∷ [])
reads_again item =
    let lawful : AllByRecursion IsLawfulContent (contents item) =
    canonical_lawful item.kind (parts_of item.todo) item.todo.lawful.lines in
    subst (λ (bytes : List ℕ). ReadsMessage bytes (item ∷ [])) (sym (bytes_are item))
    (reads_marked [] [] lawful.1.0 lawful.1.1.0 item (let few = few_octets item in omega (arith, few)))
