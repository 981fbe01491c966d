use Rattle.std.proofs.Common.{◌≡◌, ℕ, List, map, subst, ap}
use Rattle.std.specs.List.{Contains}
use Rattle.itip_items.specs.declared.item.Item.{Item}
use Rattle.itip_view.specs.RowDays.{HasRowsIn}
use Rattle.itip_desk.specs.Desk.{Shown}
use Rattle.itip_desk.proofs.Outside.{row_in}
use Rattle.itip_desk.proofs.desk.Desk.uids_in.Goals as goal

pub returns : goal.returns
returns c = λ heard row are is.
    let uids : List (List ℕ) = map (λ u. u.now) c.in_ok-found.found.items in
    let same : c.self.inside.kept ≡ c.args.self.now.kept = ap (λ (d : Shown). d.kept) c.self.view_is in
    row_in c.args.self.now.kept heard are c.args.window row is uids
    (subst (λ (k : List Item). (uid : List ℕ) → HasRowsIn k c.args.window uid → Contains uids uid) same c.in_ok-found.ensures.uids)
