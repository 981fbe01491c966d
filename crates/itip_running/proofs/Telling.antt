-- Telling the name of a history keeps the rule.
use Rattle.std.proofs.Common.{◌≡◌, ℕ, ◌≢◌, List, true, set, subst, ⊎_elim}
use mathlib.Core.Option.{some}
use lib.ListN.{get_elem?}
use Rattle.left_right.specs.Register.{Forks, Merges}
use Rattle.atomic_table.proofs.Lists.{at_set, at_snoc}
use Rattle.itip_running.specs.declared.published.Published.{Published}
use Rattle.itip_running.specs.declared.published.KnownHistory.{KnownHistory}
use Rattle.itip_running.specs.Pair.{name_of, Tied}
use Rattle.itip_running.proofs.Ties.{newcomer}

set_tied : (x : Published) (views : List KnownHistory) (seat : ℕ) (v : KnownHistory) → Tied x views →
    (v.known ≡ true → v ≡ name_of x.front.seen.book) → Tied x (set views seat v)
set_tied x views seat v h fine = (
  h.0,
  λ j u e known. ⊎_elim (λ (t : (j ≡ seat) × (v ≡ u)). subst (λ (z : KnownHistory). z.known ≡ true → z ≡ name_of x.front.seen.book)
      t.1 fine known) (λ (t : (j ≢ seat) × (get_elem? views j ≡ some u)). h.1 j u t.1 known) (at_set views seat j v u e),
)

pub forks : (seat : ℕ) (v : KnownHistory) → Forks Tied seat v v v
forks seat v x views h at = let fine = h.1 seat v at in let kept = set_tied x views seat v h fine in (
  h.0,
  λ j u e known. ⊎_elim (λ (t : get_elem? (set views seat v) j ≡ some u). kept.1 j u t known)
      (λ (same : v ≡ u). subst (λ (z : KnownHistory). z.known ≡ true → z ≡ name_of x.front.seen.book) same fine known)
      (at_snoc (set views seat v) v u j e),
)

pub merges : (seat : ℕ) (v : KnownHistory) (other : ℕ) (w : KnownHistory) → Merges Tied seat v other w w newcomer
merges seat v other w x views h at apart there =
    let fine : w.known ≡ true → w ≡ name_of x.front.seen.book =
    ⊎_elim (λ (t : (other ≡ seat) × (w ≡ w)). absurd (apart t.0))
    (λ (t : (other ≢ seat) × (get_elem? views other ≡ some w)). h.1 other w t.1) (at_set views seat other w w there) in
    set_tied x (set views seat w) other newcomer (set_tied x views seat w h fine) (λ known. absurd (cc known))
