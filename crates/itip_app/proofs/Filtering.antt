-- What comes of a filter, from the result of its call.
use Rattle.std.proofs.Common.{◌≡◌, ℕ, Bool, List, [], Option, None, Result, Ok, Err, sym, subst}
use Rattle.std.specs.Prelude.{IfOk, OnErr}
use Rattle.itip_streams.specs.Written.{WritesOutput}
use Rattle.itip_app.specs.Filtered.{Writes}
use Rattle.itip_app.specs.declared.filters.Outcome.{Outcome}

-- an output that is written
pub written : (Is : List ℕ → Bool → Type 0) (old new : Option (List ℕ)) (is_refused : Bool) (outcome : Outcome) →
    outcome.is_refused ≡ is_refused → outcome.lacking.items ≡ [] → outcome.undone ≡ None → WritesOutput Is old new is_refused →
    Writes Is old new outcome
written Is old new is_refused outcome refused whole done output = record {
  output = subst (λ (b : Bool). WritesOutput Is old new b) (sym refused) output;
  whole = whole;
  is_done = done;
}

-- an output that is written to a writer of which nothing is known
pub unknown_written : (Is : List ℕ → Bool → Type 0) (old new : Option (List ℕ)) (is_refused : Bool) → WritesOutput Is old new is_refused →
    WritesOutput Is None None is_refused
unknown_written Is old new is_refused wrote = record { output = wrote.output; is_output = wrote.is_output; appended = tt }

-- what holds of a case holds of what is asked for
pub as_asked : {X E : Type 0} (P : X → Outcome → Type 0) (x asked : X) (r : Result Outcome E) → asked ≡ x → IfOk r (P x) → IfOk r (P asked)
as_asked P x asked r e h = subst (λ (y : _). IfOk r (P y)) (sym e) h

-- more that holds of an outcome
pub outcome_more : {E : Type 0} (P Q : Outcome → Type 0) (r : Result Outcome E) → ((outcome : Outcome) → P outcome → Q outcome) →
    IfOk r P → IfOk r Q
outcome_more P Q (Ok outcome) more h = more outcome h
outcome_more P Q (Err fault) more h = tt

-- ---- after a fault

-- what holds anyway holds after a fault
pub on_err : {T E P : Type 0} (r : Result T E) → P → OnErr r P
on_err (Ok x) p = tt
on_err (Err e) p = p

-- what holds of a case holds of what is asked for
pub front_asked : {X E : Type 0} (P : X → Type 0) (x asked : X) (r : Result Outcome E) → asked ≡ x → OnErr r (P x) → OnErr r (P asked)
front_asked P x asked r e h = subst (λ (y : _). OnErr r (P y)) (sym e) h

-- more that holds after a fault
pub front_more : {E : Type 0} (P Q : Type 0) (r : Result Outcome E) → (P → Q) → OnErr r P → OnErr r Q
front_more P Q (Ok outcome) more h = tt
front_more P Q (Err fault) more h = more h
