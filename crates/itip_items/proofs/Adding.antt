-- Items that are added, one draft after another.
use Rattle.std.proofs.Common.{◌≡◌, ◌∙◌, sym, ap, refl, ℕ, List, [], ◌∷◌, ◌++◌, append_assoc, append-nil, subst, zero, suc, arith}
use Rattle.std.specs.List.{AllByRecursion, Any, flat_map}
use Rattle.itip_todo.specs.Parts.{Parts}
use Rattle.itip_items.specs.Items.{ItemDraft, drafts_of, kind_of, effective_sequence, IsWithinLimits}
use Rattle.itip_items.specs.Given.{AreItemsOf, GivesItems, IsOver, IfLarge, IfTooLarge, error_of_todo, Gives, Adds}
use Rattle.itip_items.specs.declared.item.Item.{Item}
use Rattle.itip_items.specs.declared.kind.Method.{Method}
use Rattle.itip_items.specs.declared.error.ItemError.{ItemError}
use Rattle.itip_items.specs.declared.error.ItemError.TheVariants as error

-- what these to-dos give in a message with all of these
abbrev pub drafts_among : Method → List Parts → List Parts → List ItemDraft
drafts_among m all rest = flat_map (λ parts. drafts_of (kind_of m parts) (effective_sequence m all parts) parts) rest

pub within_both : (ds es : List ItemDraft) → AllByRecursion IsWithinLimits ds → AllByRecursion IsWithinLimits es →
    AllByRecursion IsWithinLimits (ds ++ es)
within_both [] es h k = k
within_both (d ∷ ds) es h k = (h.0, within_both ds es h.1 k)

items_both : (ds es : List ItemDraft) (a b : List Item) → AreItemsOf ds a → AreItemsOf es b → AreItemsOf (ds ++ es) (a ++ b)
items_both [] es [] b h k = k
items_both [] es (x ∷ a) b h k = absurd h
items_both (d ∷ ds) es [] b h k = absurd h
items_both (d ∷ ds) es (x ∷ a) b h k = (h.0, items_both ds es a b h.1 k)

pub adds_both : (ds es : List ItemDraft) (old mid new : List Item) → Adds ds old mid → Adds es mid new → Adds (ds ++ es) old new
adds_both ds es old mid new h k = record {
  added = h.added ++ k.added;
  whole = k.whole ∙ ap (λ (items : List Item). items ++ k.added) h.whole ∙ append_assoc old h.added k.added;
  gives = record {
    within = within_both ds es h.gives.within k.gives.within;
    items_are = items_both ds es h.added k.added h.gives.items_are k.gives.items_are;
  };
}

pub adds_none : (old : List Item) → Adds [] old old
adds_none old = record { added = []; whole = sym (append-nil old); gives = record { within = tt; items_are = tt } }

pub adds_one : (d : ItemDraft) (item : Item) (old new : List Item) → Gives d item → new ≡ old ++ item ∷ [] → Adds (d ∷ []) old new
adds_one d item old new h e = record { added = item ∷ []; whole = e; gives = record { within = (h.1, tt); items_are = (h.0, tt) } }

pub adds_all : (ds : List ItemDraft) (items : List Item) → Adds ds [] items → GivesItems ds items
adds_all ds items h = subst (λ (all : List Item). GivesItems ds all) (sym h.whole) h.gives

any_left : (ds es : List ItemDraft) → Any (λ draft. ¬ IsWithinLimits draft) ds → Any (λ draft. ¬ IsWithinLimits draft) (ds ++ es)
any_left [] es (k, x, less, at, h) = absurd (omega arith)
any_left (d ∷ ds) es (zero, x, less, at, h) = (zero, x, omega arith, at, h)
any_left (d ∷ ds) es (suc k, x, less, at, h) = any_more d (ds ++ es) (any_left ds es (k, x, omega arith, at, h))
  where
    any_more : (d : ItemDraft) (es : List ItemDraft) → Any (λ draft. ¬ IsWithinLimits draft) es →
        Any (λ draft. ¬ IsWithinLimits draft) (d ∷ es)
    any_more d es (k, x, less, at, h) = (suc k, x, omega arith, at, h)

any_right : (ds es : List ItemDraft) → Any (λ draft. ¬ IsWithinLimits draft) es → Any (λ draft. ¬ IsWithinLimits draft) (ds ++ es)
any_right [] es h = h
any_right (d ∷ ds) es h = any_more d (ds ++ es) (any_right ds es h)
  where
    any_more : (d : ItemDraft) (es : List ItemDraft) → Any (λ draft. ¬ IsWithinLimits draft) es →
        Any (λ draft. ¬ IsWithinLimits draft) (d ∷ es)
    any_more d es (k, x, less, at, h) = (suc k, x, omega arith, at, h)

pub over_here : (ds es : List ItemDraft) → IsOver ds → IsOver (ds ++ es)
over_here ds es h = record { over = any_left ds es h.over }

pub over_later : (ds es : List ItemDraft) → IsOver es → IsOver (ds ++ es)
over_later ds es h = record { over = any_right ds es h.over }

pub over_one : (d : ItemDraft) → (IsWithinLimits d → ⊥) → IsOver (d ∷ [])
over_one d h = record { over = (0, d, omega arith, refl, h) }

-- of an error, from one fact of a form that is too large to another
pub if_large : {P Q : Type 0} (e : ItemError) → (P → Q) → IfLarge e P → IfLarge e Q
if_large error.NoMemory way h = tt
if_large error.TooLarge way h = way h

-- of an error of the to-do of a number, through a way from a form that is too large
pub large_of : {P : Type 0} (Q : ℕ → Type 0) (e : ItemError) (number : ℕ) → (P → Q number) → IfLarge e P →
    IfTooLarge (error_of_todo e number) Q
large_of Q error.NoMemory number way h = tt
large_of Q error.TooLarge number way h = way h
