-- Values that carry a proof are equal if they are equal without it; and a fact that holds, at an error.
use Rattle.std.proofs.Common.{◌≡◌, Ok, Err, Result}
use Rattle.std.specs.Prelude.{OnErr, OnOk}
use Rattle.std.specs.Map.{keys_of}
use Rattle.std.specs.List.Sorted.{IsStrictlySortedBy}
use Rattle.std.specs.declared.cmp.Ord as ord
use Rattle.std.specs.declared.cmp.PartialEq as eq
use Rattle.std.specs.declared.cmp.PartialOrd as partial
use Rattle.std.proofs.lemmas.Map.Keys.{IsStrictlySortedBy-prop}
use mathlib.Core.HLevel.{is_prop→PathP}
use Rattle.itip_join.specs.Alive.{passes_along}
use Rattle.itip_join.specs.declared.guarded.Guarded.{Guarded}
use Rattle.itip_join.specs.declared.keyed.Keyed.{Keyed}
use Rattle.itip_join.specs.declared.join.Join as join
use Rattle.itip_join.specs.declared.under_guard.UnderGuard as under

pub guarded_equal : {S M : Type 0} {g : join.Ghosts S} {h : under.Ghosts M S} {j : join.Ghosts M} (x y : Guarded S M g h j) →
    x.guard ≡ y.guard → x.entries ≡ y.entries → x ≡ y
guarded_equal {h = h} x y p q =
    λ i. record { guard = p i; entries = q i; no_dead_entry = passes_along h.are_alive p q x.no_dead_entry y.no_dead_entry i }

pub keyed_equal : {K V : Type 0} {g : ord.Ghosts K} {h : eq.Ghosts K} {j : partial.Ghosts K} (x y : Keyed K V g h j) → x.map ≡ y.map → x ≡ y
keyed_equal {g = g} x y e = λ i. record {
  map = e i;
  ordered = is_prop→PathP (λ j. IsStrictlySortedBy g.cmp (keys_of (e j))) (λ j. IsStrictlySortedBy-prop g.cmp (keys_of (e j))) x.ordered
      y.ordered i;
}

pub on_err : {T E P : Type 0} (r : Result T E) → P → OnErr r P
on_err (Ok x) p = tt
on_err (Err e) p = p

pub on_err_then : {T E P Q : Type 0} (r : Result T E) → (P → Q) → OnErr r P → OnErr r Q
on_err_then (Ok x) f p = tt
on_err_then (Err e) f p = f p

pub on_ok_then : {T E P Q : Type 0} (r : Result T E) → (P → Q) → OnOk r P → OnOk r Q
on_ok_then (Ok x) f p = f p
on_ok_then (Err e) f p = tt
