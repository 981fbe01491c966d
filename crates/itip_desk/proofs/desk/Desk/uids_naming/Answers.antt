use Rattle.std.proofs.Common.{◌≡◌, ℕ, List, map, subst, ap}
use Rattle.std.specs.List.{Contains}
use Rattle.itip_todo.specs.Table.{attendee_key}
use Rattle.itip_items.specs.declared.item.Item.{Item}
use Rattle.itip_view.specs.RowDays.{NamesIn}
use Rattle.itip_desk.specs.Desk.{Shown}
use Rattle.itip_desk.proofs.Outside.{row_naming}
use Rattle.itip_desk.proofs.desk.Desk.uids_naming.Goals as goal

pub returns : goal.returns
returns c = λ heard window row are is shows.
    let uids : List (List ℕ) = map (λ u. u.now) c.in_ok-found.found.items in
    let key : List ℕ = attendee_key c.args.address.now in
    let same : c.self.inside.kept ≡ c.args.self.now.kept = ap (λ (d : Shown). d.kept) c.self.view_is in
    row_naming c.args.self.now.kept heard are window row is uids c.args.address.now
    (subst (λ (k : List Item). (uid : List ℕ) → NamesIn k key uid → Contains uids uid) same c.in_ok-found.ensures.uids) shows
