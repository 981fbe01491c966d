use Rattle.std.proofs.Common.{◌∙◌, ℕ, List, Some, sym, ap}
use Rattle.std.specs.Prelude.{cond}
use Rattle.std.specs.Ordering.{is_eq}
use Rattle.std.proofs.lemmas.Map.Lookups.{exact_bytes}
use Rattle.itip_desk.specs.MovedSince.{tick_at}
use Rattle.itip_desk.proofs.Ticking.{uid_cmp, place_made, places_stay}
use Rattle.itip_desk.proofs.moved_since.place.Goals as goal

pub returns-in-Some-clause-own : goal.returns-in-Some-clause-own
returns-in-Some-clause-own c = c.in_ok-clone.ensures.cases ∙ sym (exact_bytes c.args.uid.now c.in-Some.own.now c.in-Some.ensures.same_key)

pub returns-clause-places : goal.returns-clause-places
returns-clause-places c = λ uids was listed have.
    place_made uids c.args.uid.now was c.args.ticks.now.entries c.insert.new.self.entries listed have (sym c.in_default.ensures.value)
    (λ q. c.in_ok-insert.ensures.updates.0 q ∙
    ap (λ (v : List ℕ). cond (is_eq (uid_cmp v q)) (Some 0) (tick_at c.args.ticks.now.entries q)) c.in_ok-clone-2.ensures.cases)

pub returns-clause-stay : goal.returns-clause-stay
returns-clause-stay c = places_stay c.args.uid.now c.args.ticks.now.entries c.insert.new.self.entries
    (λ q. c.in_ok-insert.ensures.updates.0 q ∙
    ap (λ (v : List ℕ). cond (is_eq (uid_cmp v q)) (Some 0) (tick_at c.args.ticks.now.entries q)) c.in_ok-clone-2.ensures.cases)

pub returns-in_err-clone-3-clause-places : goal.returns-in_err-clone-3-clause-places
returns-in_err-clone-3-clause-places c = λ uids was listed have.
    place_made uids c.args.uid.now was c.args.ticks.now.entries c.insert.new.self.entries listed have (sym c.in_default.ensures.value)
    (λ q. c.in_ok-insert.ensures.updates.0 q ∙
    ap (λ (v : List ℕ). cond (is_eq (uid_cmp v q)) (Some 0) (tick_at c.args.ticks.now.entries q)) c.in_ok-clone-2.ensures.cases)

pub returns-in_err-clone-3-clause-stay : goal.returns-in_err-clone-3-clause-stay
returns-in_err-clone-3-clause-stay c = places_stay c.args.uid.now c.args.ticks.now.entries c.insert.new.self.entries
    (λ q. c.in_ok-insert.ensures.updates.0 q ∙
    ap (λ (v : List ℕ). cond (is_eq (uid_cmp v q)) (Some 0) (tick_at c.args.ticks.now.entries q)) c.in_ok-clone-2.ensures.cases)
