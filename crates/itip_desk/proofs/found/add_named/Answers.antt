use Rattle.std.proofs.Common.{◌≡◌, ◌∙◌, ℕ, ap, sym, subst, true}
use Rattle.std.specs.BTreeMap.Range.{IsLeBy, range_contains}
use Rattle.std.specs.declared.ops.Bound.TheVariants.{Included, Excluded}
use Rattle.itip_items.specs.declared.item.Item.{Item}
use Rattle.itip_state.proofs.Members.{on_ok_then}
use Rattle.itip_desk.specs.Entries.{name_cmp, name_exact, name_entry, name_bound, address_number}
use Rattle.itip_desk.specs.declared.entry.NameEntry.{NameEntry}
use Rattle.itip_desk.proofs.Between.{found_between, name_inside, names_forward}
use Rattle.itip_desk.proofs.found.add_named.Goals as goal

pub find_naming-requires : goal.find_naming-requires
find_naming-requires c =
    let any : Item = c.args.any.now.item in
    let n : ℕ = address_number c.args.address.now in
    let from : c.in_ok-from.from ≡ name_bound n 0 any = c.in_ok-from.ensures ∙
    ap (λ (m : ℕ). name_bound m 0 any) c.attendee_number-attendee.ensures in
    let to : c.in_ok-to.to ≡ name_bound n 4294967295 any = c.in_ok-to.ensures ∙
    ap (λ (m : ℕ). name_bound m 4294967295 any) c.attendee_number-attendee.ensures in
    subst (λ (low : NameEntry). IsLeBy name_cmp low c.in_ok-to.to) (sym from)
    (subst (λ (high : NameEntry). IsLeBy name_cmp (name_bound n 0 any) high) (sym to) (names_forward any n))

pub returns : goal.returns
returns c = on_ok_then c.find_naming.result
    (λ found item names there.
    let any : Item = c.args.any.now.item in
    let n : ℕ = address_number c.args.address.now in
    let from : c.in_ok-from.from ≡ name_bound n 0 any = c.in_ok-from.ensures ∙
    ap (λ (m : ℕ). name_bound m 0 any) c.attendee_number-attendee.ensures in
    let to : c.in_ok-to.to ≡ name_bound n 4294967295 any = c.in_ok-to.ensures ∙
    ap (λ (m : ℕ). name_bound m 4294967295 any) c.attendee_number-attendee.ensures in
    let e : NameEntry = name_entry item n in
    let inside : range_contains name_cmp (Included c.in_ok-from.from) (Excluded c.in_ok-to.to) e ≡ true =
    subst (λ (l : NameEntry). range_contains name_cmp (Included l) (Excluded c.in_ok-to.to) e ≡ true) (sym from)
    (subst (λ (h : NameEntry). range_contains name_cmp (Included (name_bound n 0 any)) (Excluded h) e ≡ true) (sym to)
    (name_inside any n item)) in
    found.adds e (found_between name_cmp name_exact c.args.names.now c.in_ok-from.from c.in_ok-to.to e there inside) names)
    c.find_naming.ensures
