use Rattle.std.proofs.Common.{rules, ◌≡◌, ◌<◌, ◌∙◌, ℕ, List, length, take, ap, subst, arith, Result}
use Rattle.std.specs.Prelude.{slice_index_or}
use Rattle.std.proofs.lemmas.List.{length-take-le}
use Rattle.std.proofs.lemmas.Result.{err_from_is_err_and}
use Rattle.itip_items.specs.declared.item.Item.{Item}
use Rattle.itip_desk.specs.Desk.{Shown}
use Rattle.itip_office.specs.declared.error.OfficeError.{OfficeError}
use Rattle.itip_office.specs.Exchanged.{GivesDelta, TakesAll}
use Rattle.itip_office.proofs.Sharing.{AreDeltasOf, some_desks, alone_kept}
use Rattle.itip_office.proofs.Beside.{are_deltas, all_kept_alike, all_some, as_many, delta_errors, take_errors}
use Rattle.itip_office.proofs.exchange.exchange.Goals as goal
use Rattle.itip_office.proofs.exchange.exchange.Goals.{In_ok-given, In_ok-taken}

-- the second test is whether there is a single desk
pub returns-then-len-desks-2-clause-kept : goal.returns-then-len-desks-2-clause-kept
returns-then-len-desks-2-clause-kept g c = λ hs are.
    let long = c.args.parts.ok.0 in
    let few : length c.args.parts.items < 2 = omega (arith, long, c.len-2.ensures, c.if-len-lt2.true) in
    alone_kept hs c.args.parts.items few are

pub returns-then-len-desks-2-clause-each : goal.returns-then-len-desks-2-clause-each
returns-then-len-desks-2-clause-each g c = λ hs are. some_desks hs c.args.parts.items are

-- what is known of the deltas, each of which may still be an error
each_given : (g : _) (c : In_ok-given g) → (i : ℕ) (d : Shown) (r : Result (List Item) OfficeError) → i < length c.args.parts.items →
    GivesDelta (slice_index_or c.args.parts.items i d) (slice_index_or c.in_ok-given.given.items i r)
each_given g c =
    subst (λ (l : List Shown). (i : ℕ) (d : Shown) (r : Result (List Item) OfficeError) → i < length l →
    GivesDelta (slice_index_or l i d) (slice_index_or c.in_ok-given.given.items i r)) (search rules) c.in_ok-given.ensures.each

given_count : (g : _) (c : In_ok-given g) → length c.in_ok-given.given.items ≡ length c.args.parts.items
given_count g c = search rules

pub returns-in_err-deltas-clause-causes : goal.returns-in_err-deltas-clause-causes
returns-in_err-deltas-clause-causes g c =
    let before = (goal.at.returns-in_err-deltas-clause-causes g c).In_ok-given in
    let p = err_from_is_err_and c.from_residual-in_err-deltas.result c.from_residual-in_err-deltas.ensures.1 in
    rw (p.1, p.2)
    (c.in_err-deltas.ensures.cause (delta_errors c.args.parts.items c.in_ok-given.given.items (given_count g before) (each_given g before)))

-- the same for the desks
each_taken : (g : _) (c : In_ok-taken g) → (i : ℕ) (d : Shown) (r : Result Shown OfficeError) → i < length c.truncate.new.self.items →
    TakesAll c.in_ok-deltas.deltas.items (slice_index_or c.truncate.new.self.items i d) (slice_index_or c.in_ok-taken.taken.items i r)
each_taken g c =
    subst (λ (deltas : List (List Item)). (i : ℕ) (d : Shown) (r : Result Shown OfficeError) → i < length c.truncate.new.self.items →
    TakesAll deltas (slice_index_or c.truncate.new.self.items i d) (slice_index_or c.in_ok-taken.taken.items i r)) (search rules)
    c.in_ok-taken.ensures.each

pub returns-in_err-ended-clause-causes : goal.returns-in_err-ended-clause-causes
returns-in_err-ended-clause-causes g c =
    let after = (goal.at.returns-in_err-ended-clause-causes g c).In_ok-taken in
    let p = err_from_is_err_and c.from_residual-in_err-ended.result c.from_residual-in_err-ended.ensures.1 in
    rw (p.1, p.2)
    (c.in_err-ended.ensures.cause (take_errors c.in_ok-deltas.deltas.items c.truncate.new.self.items c.in_ok-taken.taken.items
    c.in_ok-taken.ensures.count (each_taken g after)))

pub returns-clause-count : goal.returns-clause-count
returns-clause-count g c =
    let first : c.truncate.new.self.items ≡ take c.args.desks c.args.parts.items = search rules in
    let some : length (take c.args.desks c.args.parts.items) ≡ c.args.desks =
    length-take-le c.args.desks c.args.parts.items (search (rules, arith)) in
    as_many c.args.desks c.in_ok-taken.taken.items c.in_ok-ended.ended.items (c.in_ok-taken.ensures.count ∙ (ap length first ∙ some))
    c.in_ok-ended.ensures.all

pub returns-clause-kept : goal.returns-clause-kept
returns-clause-kept g c = λ hs are.
    let before = (goal.at.returns-clause-kept g c).In_ok-given in
    let after = (goal.at.returns-clause-kept g c).In_ok-taken in
    let parts = c.args.parts.items in
    let deltas = c.in_ok-deltas.deltas.items in
    let first : c.truncate.new.self.items ≡ take c.args.desks parts = search rules in
    let gives : AreDeltasOf parts deltas =
    are_deltas parts c.in_ok-given.given.items deltas (given_count g before) (each_given g before) c.in_ok-deltas.ensures.all in
    all_kept_alike hs parts deltas are gives c.args.desks c.truncate.new.self.items c.in_ok-taken.taken.items
    c.in_ok-ended.ended.items first
    c.in_ok-taken.ensures.count (each_taken g after) c.in_ok-ended.ensures.all

pub returns-clause-each : goal.returns-clause-each
returns-clause-each g c = λ hs are.
    let after = (goal.at.returns-clause-each g c).In_ok-taken in
    let parts = c.args.parts.items in
    let first : c.truncate.new.self.items ≡ take c.args.desks parts = search rules in
    all_some hs c.in_ok-deltas.deltas.items parts are c.args.desks c.truncate.new.self.items c.in_ok-taken.taken.items
    c.in_ok-ended.ended.items first c.in_ok-taken.ensures.count (each_taken g after) c.in_ok-ended.ensures.all
