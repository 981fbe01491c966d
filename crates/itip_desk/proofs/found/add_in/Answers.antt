use Rattle.std.proofs.Common.{◌≡◌, sym, subst, true, rules, w32}
use Rattle.std.specs.BTreeMap.Range.{IsLeBy, range_contains}
use Rattle.std.specs.declared.ops.Bound.TheVariants.{Included, Excluded}
use Rattle.std.proofs.lemmas.Int.{to_z-of_z}
use mir.Val.{SFits}
use Rattle.itip_items.specs.KeyParts.{uid_of}
use Rattle.itip_items.specs.declared.item.Item.{Item}
use Rattle.itip_state.proofs.Members.{on_ok_then}
use Rattle.itip_desk.specs.Entries.{day_cmp, day_exact, day_entry, day_bound}
use Rattle.itip_desk.specs.declared.entry.DayEntry.{DayEntry}
use Rattle.itip_desk.specs.declared.entry.Mark.TheVariants.{Day, Always}
use Rattle.itip_desk.proofs.Between.{found_between, window_forward, day_inside, mark_inside, mark_forward}
use Rattle.itip_desk.proofs.found.add_in.Goals as goal

-- ---- the days of the window
pub find_between-requires : goal.find_between-requires
find_between-requires c =
    let any : Item = c.args.any.now.owner.item in
    let first : SFits w32 c.args.window.from = search rules in
    let last : SFits w32 c.args.window.to = search rules in
    let from : c.in_ok-from.from ≡ day_bound (Day c.args.window.from) 0 any = simp to_z-of_z at c.in_ok-from.ensures in
    let to : c.in_ok-to.to ≡ day_bound (Day c.args.window.to) 0 any = simp to_z-of_z at c.in_ok-to.ensures in
    subst (λ (low : DayEntry). IsLeBy day_cmp low c.in_ok-to.to) (sym from)
    (subst (λ (high : DayEntry). IsLeBy day_cmp (day_bound (Day c.args.window.from) 0 any) high) (sym to)
    (window_forward any c.args.window.from c.args.window.to c.args.window.lawful.some))

pub find_between-requires-2 : goal.find_between-requires-2
find_between-requires-2 c =
    let any : Item = c.args.any.now.owner.item in
    subst (λ (low : DayEntry). IsLeBy day_cmp low c.in_ok-to-2.to) (sym c.in_ok-from-2.ensures)
    (subst (λ (high : DayEntry). IsLeBy day_cmp (day_bound Always 0 any) high) (sym c.in_ok-to-2.ensures) (mark_forward any Always))

pub returns-clause-days : goal.returns-clause-days
returns-clause-days c =
    let any : Item = c.args.any.now.owner.item in
    let first : SFits w32 c.args.window.from = search rules in
    let last : SFits w32 c.args.window.to = search rules in
    let from : c.in_ok-from.from ≡ day_bound (Day c.args.window.from) 0 any = simp to_z-of_z at c.in_ok-from.ensures in
    let to : c.in_ok-to.to ≡ day_bound (Day c.args.window.to) 0 any = simp to_z-of_z at c.in_ok-to.ensures in
    on_ok_then c.find_between-2.result
    (λ found item day low high there.
    let e : DayEntry = day_entry item (Day day) in
    let inside : range_contains day_cmp (Included c.in_ok-from.from) (Excluded c.in_ok-to.to) e ≡ true =
    subst (λ (l : DayEntry). range_contains day_cmp (Included l) (Excluded c.in_ok-to.to) e ≡ true) (sym from)
    (subst (λ (h : DayEntry). range_contains day_cmp (Included (day_bound (Day c.args.window.from) 0 any)) (Excluded h) e ≡ true) (sym to)
    (day_inside any c.args.window.from c.args.window.to day item low high)) in
    found.keeps (uid_of item.key) (c.in_ok-find_between.ensures.adds e
    (found_between day_cmp day_exact c.args.days.now c.in_ok-from.from c.in_ok-to.to e there inside) tt))
    c.find_between-2.ensures

-- ---- each window
pub returns-clause-always : goal.returns-clause-always
returns-clause-always c = on_ok_then c.find_between-2.result
    (λ found item there.
    let any : Item = c.args.any.now.owner.item in
    let e : DayEntry = day_entry item Always in
    let inside : range_contains day_cmp (Included c.in_ok-from-2.from) (Excluded c.in_ok-to-2.to) e ≡ true =
    subst (λ (l : DayEntry). range_contains day_cmp (Included l) (Excluded c.in_ok-to-2.to) e ≡ true) (sym c.in_ok-from-2.ensures)
    (subst (λ (h : DayEntry). range_contains day_cmp (Included (day_bound Always 0 any)) (Excluded h) e ≡ true)
    (sym c.in_ok-to-2.ensures) (mark_inside any Always item)) in
    found.adds e (found_between day_cmp day_exact c.args.days.now c.in_ok-from-2.from c.in_ok-to-2.to e there inside) tt)
    c.find_between-2.ensures
