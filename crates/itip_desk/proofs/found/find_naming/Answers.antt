use Rattle.std.proofs.Common.{◌≡◌, ◌∷◌, ◌++◌, ◌∙◌, ℕ, List, [], Bool, map, ap, sym, subst, rules, true, false}
use Rattle.std.specs.BTreeSet.{keys_between}
use Rattle.std.specs.declared.ops.Bound.TheVariants.{Included, Excluded}
use Rattle.std.proofs.lemmas.List.{map-append}
use Rattle.itip_items.specs.KeyParts.{uid_of}
use Rattle.itip_items.specs.declared.item.Item.{Item}
use Rattle.itip_desk.specs.Entries.{name_cmp}
use Rattle.itip_desk.specs.Found.{NamesLine}
use Rattle.itip_desk.specs.declared.entry.NameEntry.{NameEntry}
use Rattle.itip_desk.proofs.Finding.{found_one, found_none, found_end}
use Rattle.itip_desk.proofs.found.find_naming.Goals as goal

differ : (b : Bool) → b ≡ false → b ≡ true → ⊥
differ b e h = let x : true ≡ false = sym h ∙ e in absurd (cc)

pub loop-entry-preserved-in-Continue-1 : goal.loop-entry-preserved-in-Continue-1
loop-entry-preserved-in-Continue-1 c =
    let cut : c.loop-entry.entry-iterator ≡ c.in-Some.entry.now ∷ c.next.new.self = c.in-Some.ensures.steps in
    found_one (λ (e : NameEntry). e.item) (NamesLine c.args.address.now)
    (keys_between name_cmp (Included c.args.from) (Excluded c.args.to) c.args.names.now)
    (map (λ u. u.now) c.args.uids.now.items) (map (λ u. u.now) c.loop-entry.uids.items) c.loop-entry.entry-iterator c.next.new.self
    c.in-Some.entry.now cut c.loop-entry.invariant (map (λ u. u.now) c.push.new.self.items)
    (ap (map (λ u. u.now)) c.in_ok-push.ensures.items ∙ map-append (λ u. u.now) c.loop-entry.uids.items (c.uid.result ∷ []) ∙
    ap (λ (x : List ℕ). map (λ u. u.now) c.loop-entry.uids.items ++ x ∷ [])
    (c.uid.ensures ∙ ap (λ (i : Item). uid_of i.key) c.item-item.ensures))

pub loop-entry-preserved : goal.loop-entry-preserved
loop-entry-preserved c =
    let cut : c.loop-entry.entry-iterator ≡ c.in-Some.entry.now ∷ c.next.new.self = c.in-Some.ensures.steps in
    found_none (λ (e : NameEntry). e.item) (NamesLine c.args.address.now)
    (keys_between name_cmp (Included c.args.from) (Excluded c.args.to) c.args.names.now)
    (map (λ u. u.now) c.args.uids.now.items) (map (λ u. u.now) c.loop-entry.uids.items) c.loop-entry.entry-iterator c.next.new.self
    c.in-Some.entry.now cut c.loop-entry.invariant
    (λ names. differ c.names_attendee.result c.if-names_attendee.false (c.names_attendee.ensures.1
    (subst (NamesLine c.args.address.now) (sym c.item-item.ensures) names)))

pub returns : goal.returns
returns c =
    let none : c.loop-entry.entry-iterator ≡ [] = search rules in
    found_end (λ (e : NameEntry). e.item) (NamesLine c.args.address.now)
    (keys_between name_cmp (Included c.args.from) (Excluded c.args.to) c.args.names.now)
    (map (λ u. u.now) c.args.uids.now.items) (map (λ u. u.now) c.loop-entry.uids.items) c.loop-entry.entry-iterator none
    c.loop-entry.invariant
