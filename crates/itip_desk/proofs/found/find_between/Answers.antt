use Rattle.std.proofs.Common.{◌≡◌, ◌∷◌, ◌++◌, ◌∙◌, ℕ, List, [], map, ap, rules}
use Rattle.std.specs.BTreeSet.{keys_between}
use Rattle.std.specs.declared.ops.Bound.TheVariants.{Included, Excluded}
use Rattle.std.proofs.lemmas.List.{map-append}
use Rattle.itip_items.specs.KeyParts.{uid_of}
use Rattle.itip_items.specs.declared.item.Item.{Item}
use Rattle.itip_desk.specs.Entries.{day_cmp}
use Rattle.itip_desk.specs.declared.entry.DayEntry.{DayEntry}
use Rattle.itip_desk.proofs.Finding.{found_one, found_end}
use Rattle.itip_desk.proofs.found.find_between.Goals as goal

pub loop-entry-preserved : goal.loop-entry-preserved
loop-entry-preserved c =
    let cut : c.loop-entry.entry-iterator ≡ c.in-Some.entry.now ∷ c.next.new.self = c.in-Some.ensures.steps in
    found_one (λ (e : DayEntry). e.owner.item) (λ (i : Item). Unit {0})
    (keys_between day_cmp (Included c.args.from) (Excluded c.args.to) c.args.days.now)
    (map (λ u. u.now) c.args.uids.now.items) (map (λ u. u.now) c.loop-entry.uids.items) c.loop-entry.entry-iterator c.next.new.self
    c.in-Some.entry.now cut c.loop-entry.invariant (map (λ u. u.now) c.push.new.self.items)
    (ap (map (λ u. u.now)) c.in_ok-push.ensures.items ∙ map-append (λ u. u.now) c.loop-entry.uids.items (c.uid.result ∷ []) ∙
    ap (λ (x : List ℕ). map (λ u. u.now) c.loop-entry.uids.items ++ x ∷ [])
    (c.uid.ensures ∙ ap (λ (i : Item). uid_of i.key) c.item.ensures))

pub returns : goal.returns
returns c =
    let none : c.loop-entry.entry-iterator ≡ [] = search rules in
    found_end (λ (e : DayEntry). e.owner.item) (λ (i : Item). Unit {0})
    (keys_between day_cmp (Included c.args.from) (Excluded c.args.to) c.args.days.now)
    (map (λ u. u.now) c.args.uids.now.items) (map (λ u. u.now) c.loop-entry.uids.items) c.loop-entry.entry-iterator none
    c.loop-entry.invariant
