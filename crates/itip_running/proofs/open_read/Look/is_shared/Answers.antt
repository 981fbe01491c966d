use Rattle.std.proofs.Common.{◌≡◌, ◌∙◌, ℕ, List, [], ap, nat_lt, sym, subst}
use Rattle.itip_items.specs.declared.item.Item.{Item}
use Rattle.itip_state.specs.Kept.{AreKept, AreUidsOf}
use Rattle.itip_state.proofs.Nothing.{uids_of_nothing}
use Rattle.itip_running.proofs.Seeing.{none_kept}
use Rattle.itip_running.proofs.open_read.Look.is_shared.Goals as goal

pub returns-then-self : goal.returns-then-self
returns-then-self c = λ none.
    let kept : List Item = c.desk.result.now.kept in
    let nothing : kept ≡ [] = none_kept kept (subst (AreKept kept) none c.desk.ensures.kept) in
    let empty : c.state.result.now ≡ [] = c.state.ensures ∙ nothing in
    let zero : 0 ≡ c.uid_count.result = c.uid_count.ensures [] (subst (AreUidsOf []) (sym empty) uids_of_nothing) in
    ap (λ (n : ℕ). nat_lt 0 n) (sym zero)
