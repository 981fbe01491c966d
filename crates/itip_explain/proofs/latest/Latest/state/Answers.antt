use Rattle.std.proofs.Common.{subst, List, Bor}
use Rattle.itip_state.specs.Kept.{AreKept}
use Rattle.itip_state.proofs.Members.{if_ok_then}
use Rattle.itip_explain.specs.Latest.{ArePicked, items_in}
use Rattle.itip_explain.specs.Told.{heard_of}
use Rattle.itip_explain.specs.declared.told.ToldItem.{ToldItem}
use Rattle.itip_explain.proofs.Picking.{kept_of_picked}
use Rattle.itip_explain.proofs.latest.Latest.state.Goals as goal

pub returns : goal.returns
returns c =
    let told : List ToldItem = c.args.self.now.told.now in
    let sorted : List (Bor ToldItem) = c.args.self.now.sorted.items in
    let picked : List (Bor ToldItem) = c.in_ok-latest.latest.items in
    let are : ArePicked sorted picked =
    subst (λ (xs : List (Bor ToldItem)). ArePicked xs picked) c.deref.ensures.value c.in_ok-latest.ensures in
    if_ok_then (λ state. AreKept state (items_in c.deref-2.result.now)) (λ state. AreKept state (heard_of told)) c.kept_of.result
    (λ state kept. kept_of_picked told c.requires.given sorted c.requires.given_are c.requires.order picked are state
    (subst (λ (xs : List (Bor ToldItem)). AreKept state (items_in xs)) c.deref-2.ensures.value kept)) c.kept_of.ensures
