use Rattle.std.proofs.Common.{◌↔◌, ℕ, List, Option, sym, subst, IsTrue, rules}
use Rattle.std.specs.Ordering.{is_lt}
use Rattle.std.specs.Option.{option_copied}
use Rattle.std.specs.List.Sorted.{IsSortedBy}
use Rattle.std.proofs.lemmas.Fn.{always_returns_same}
use Rattle.itip_items.specs.declared.key.Key.{Key}
use Rattle.itip_explain.specs.Asking.{pair_of, pair_cmp, IsFoundBy}
use Rattle.itip_explain.specs.declared.asked.Asking.{Asking}
use Rattle.itip_explain.proofs.Askings.{found_by_halves, found_asks}
use Rattle.itip_explain.proofs.asked.Asked.has.Goals as goal

pub returns : goal.returns
returns c = λ items order.
    let by : Option Key = option_copied c.args.by in
    let attendee : List ℕ = c.args.attendee.now in
    let found : List Asking = c.deref.result.now in
    let up : IsSortedBy (λ a b. is_lt (pair_cmp (pair_of a) (pair_of b))) found =
    subst (IsSortedBy (λ a b. is_lt (pair_cmp (pair_of a) (pair_of b)))) (sym c.deref.ensures.value) order.up in
    let there : IsTrue c.is_ok.result ↔ IsFoundBy found by attendee =
    rw c.is_ok.ensures.value (found_by_halves found by attendee up c.binary_search_by.result c.binary_search_by.ensures.bound
    (c.binary_search_by.ensures.position (λ asking. pair_cmp (pair_of asking) (by, attendee))
    (always_returns_same _ _ _ (λ a r f k. search rules)))) in
    let asks = found_asks items c.args.self.now.askings.items order.are by attendee in
    let same : IsTrue c.is_ok.result ↔ IsFoundBy c.args.self.now.askings.items by attendee =
    subst (λ (xs : List Asking). IsTrue c.is_ok.result ↔ IsFoundBy xs by attendee) c.deref.ensures.value there in
    (λ t. asks.0 (same.0 t), λ p. same.1 (asks.1 p))
