use Rattle.std.proofs.Common.{◌≡◌, ◌<◌, ◌∷◌, ◌++◌, ℕ, Bool, true, false, not, List, [], length, refl, sym, ap, subst, ◌∙◌, arith}
use Rattle.std.proofs.lemmas.Grind.{common_steps}
use Rattle.std.specs.BTreeSet.{contains, Updates}
use Rattle.std.specs.Cmp.Lexicographic.{slice_cmp}
use Rattle.std.specs.Ordering.{nat_cmp}
use Rattle.itip_todo.specs.Reading.{key_of, whole_property}
use Rattle.itip_todo.specs.Table.{attendee_key}
use Rattle.itip_todo.proofs.Listing.{takes_attendee}
use Rattle.itip_todo.proofs.list.add_attendee.Goals as goal

was_new : (had added : Bool) → added ≡ not had → added ≡ true → had ≡ false
was_new false added e h = refl
was_new true added e h = let never : false ≡ true = sym e ∙ h in absurd cc

pub returns-clause-taken : goal.returns-clause-taken
returns-clause-taken c =
    let key : c.in_ok-key.key ≡ key_of c.args.line.now = c.in_ok-key.ensures.key ∙ ap attendee_key c.value-2.ensures in
    let free : contains (slice_cmp nat_cmp) c.args.draft.now.keys (key_of c.args.line.now) ≡ false =
    subst (λ (k : List ℕ). contains (slice_cmp nat_cmp) c.args.draft.now.keys k ≡ false) key
    (was_new (contains (slice_cmp nat_cmp) c.args.draft.now.keys c.in_ok-key.key) c.in_ok-insert.field-0 c.in_ok-insert.ensures.added
    c.if-not-branch.false) in
    let updates : Updates (slice_cmp nat_cmp) c.args.draft.now.keys c.insert.new.self (key_of c.args.line.now) true =
    subst (λ (k : List ℕ). Updates (slice_cmp nat_cmp) c.args.draft.now.keys c.insert.new.self k true) key
    c.in_ok-insert.ensures.updates in
    let pushed : c.push.new.self ≡ c.args.draft.now.attendees ++ whole_property c.args.line.now ∷ [] =
    c.in_ok-push.ensures in
    let some : 0 < length c.args.line.now.value = grind (arith, common_steps) in
    let few : length c.args.draft.now.attendees < 2000 = omega (arith, c.if-len-ge-ATTENDEE_LIMIT.false, c.len.ensures) in
    takes_attendee c.args.line.now c.args.draft.now _ some few free updates pushed refl
