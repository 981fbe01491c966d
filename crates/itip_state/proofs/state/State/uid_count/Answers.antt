use Rattle.std.proofs.Common.{◌≡◌, ◌∙◌, ℕ, List, length, sym, ap, subst}
use Rattle.std.specs.List.{Contains}
use Rattle.std.specs.Map.{keys_of}
use Rattle.std.specs.Ordering.{nat_cmp}
use Rattle.std.specs.Cmp.Lexicographic.{slice_cmp}
use Rattle.std.specs.declared.cmp.Ordering.TheVariants.{Less}
use Rattle.std.proofs.lemmas.Cmp.{nat_list_cmp_total}
use Rattle.itip_items.specs.declared.item.Item.{Item}
use Rattle.itip_state.specs.Kept.{AreUidsOf}
use Rattle.itip_state.proofs.OneOrder.{less_one_way, same_ascending}
use Rattle.itip_state.proofs.Ordered.{uids_of}
use Rattle.itip_state.proofs.Reading.{keys_long}
use Rattle.itip_state.proofs.state.State.uid_count.Goals as goal

pub returns : goal.returns
returns c = λ uids are.
    let keys : List (List ℕ) = keys_of c.self.inside.held in
    let own : AreUidsOf keys c.args.self.now =
    subst (λ (v : List Item). AreUidsOf keys v) c.self.view_is (uids_of c.self.inside.held c.self.invariant) in
    let same : uids ≡ keys =
    same_ascending (λ (a b : List ℕ). slice_cmp nat_cmp a b ≡ Less) (less_one_way nat_list_cmp_total) uids keys are.ascend own.ascend
    (λ uid. (
      λ h. let one = are.each uid h in subst (Contains keys) one.2 (own.all one.0 one.1),
      λ h. let one = own.each uid h in subst (Contains uids) one.2 (are.all one.0 one.1),
    )) in
    ap length same ∙ keys_long c.self.inside.held ∙ sym c.len.ensures
