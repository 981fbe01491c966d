use Rattle.std.proofs.Common.{◌≡◌, ◌∙◌, sym, ap, ℕ, Bool, true, false, cond, List, [], ◌∷◌, append-nil, refl, inl, subst, arith}
use Rattle.std.specs.Prelude.{◌&&◌, max, nat_eq, unwrap_or}
use Rattle.std.specs.Cmp.Lexicographic.{pointwise}
use Rattle.itip_todo.specs.Parts.{Parts}
use Rattle.itip_todo.specs.PartsOf.{parts_of}
use Rattle.itip_items.specs.Items.{ItemDraft, drafts, drafts_of, effective_sequence, is_series, kind_of, raised}
use Rattle.itip_items.specs.Given.{Adds, FirstOver, IfTooLarge, IsOver, drafts_each}
use Rattle.itip_items.specs.declared.error.FormError.{FormError}
use Rattle.itip_items.specs.declared.item.Item.{Item}
use Rattle.itip_items.specs.declared.kind.Method.{Method}
use Rattle.itip_items.proofs.Adding.{adds_all, large_of}
use Rattle.itip_items.proofs.make.make_alone.Goals as goal

-- a to-do's own SEQUENCE counts already
counts_once : (series : Bool) (seq base : ℕ) → max seq (max base (max (cond series seq 0) 0)) ≡ max seq (max base 0)
counts_once true seq base = omega arith
counts_once false seq base = omega arith

abbrev given : Method → ℕ → Parts → List ItemDraft
given m eff parts = drafts_of (kind_of m parts) eff parts

given_alone : (m : Method) (parts : Parts) → given m (effective_sequence m (parts ∷ []) parts) parts ≡ given m (raised parts 0) parts
given_alone m parts =
    ap (λ (eff : ℕ). given m eff parts)
    (counts_once (is_series m parts && pointwise nat_eq parts.uid parts.uid) parts.seq (unwrap_or parts.base 0))

adds_alone : (m : Method) (parts : Parts) (old new : List Item) → old ≡ [] → Adds (given m (raised parts 0) parts) old new →
    Adds (drafts m (parts ∷ [])) [] new
adds_alone m parts old new none adds =
    subst (λ (ds : List ItemDraft). Adds ds [] new) (sym (append-nil _ ∙ given_alone m parts))
    (subst (λ (items : List Item). Adds (given m (raised parts 0) parts) items new) none adds)

over_alone : (m : Method) (parts : Parts) → IsOver (given m (raised parts 0) parts) →
    FirstOver 1 (drafts_each m (parts ∷ []) (parts ∷ [])) 1
over_alone m parts over = inl (refl, subst (λ (ds : List ItemDraft). IsOver ds) (sym (given_alone m parts)) over)

pub add_items-requires : goal.add_items-requires
add_items-requires c = (c.requires.suits, omega arith)

pub returns-in-Ok-clause-found : goal.returns-in-Ok-clause-found
returns-in-Ok-clause-found c =
    adds_all _ _ (adds_alone c.args.method (parts_of c.args.todo) _ _ c.requires.empty c.in-Ok.ensures.found)

pub returns-in-Err-clause-large : goal.returns-in-Err-clause-large
returns-in-Err-clause-large c =
    let parts : Parts = parts_of c.args.todo in
    subst (λ (e : FormError). IfTooLarge e (FirstOver 1 (drafts_each c.args.method (parts ∷ []) (parts ∷ [])))) (sym c.of_todo.ensures)
    (large_of _ c.in-Err.error 1 (over_alone c.args.method parts) c.in-Err.ensures.large)
