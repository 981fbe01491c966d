-- The greatest sequence of the series to-dos of a UID, one to-do after another.
use Rattle.std.proofs.Common.{◌≡◌, ◌∙◌, ap, refl, ℕ, Bool, true, false, cond, List, [], ◌∷◌, map, arith, subst, Option, Some, None}
use Rattle.std.specs.Prelude.{max, nat_eq, unwrap_or, ◌&&◌}
use Rattle.std.specs.Cmp.Lexicographic.{pointwise, slice_cmp, texts_ties}
use Rattle.std.specs.Ordering.{nat_cmp}
use Rattle.std.specs.declared.cmp.Ordering.{Ordering}
use Rattle.std.specs.declared.cmp.Ordering.TheVariants.{Less, Equal, Greater}
use Rattle.std.specs.BTreeMap.{is_at}
use Rattle.std.proofs.lemmas.Map.Lookups.{exact_bytes}
use Rattle.itip_todo.specs.PartsOf.{parts_of}
use Rattle.itip_todo.specs.declared.todo.Todo.{Todo}
use Rattle.itip_items.specs.Items.{is_series, series_sequence}
use Rattle.itip_items.specs.declared.kind.Method.{Method}

-- a map as a function, where the sequence of one UID has risen

raised_at : (found : List ℕ → Option ℕ) (k uid : List ℕ) (v seq : ℕ) (o : Ordering) → slice_cmp nat_cmp k uid ≡ o →
    v ≡ max (unwrap_or (found k) 0) seq
    → unwrap_or (cond (is_at (slice_cmp nat_cmp k) uid) (Some v) (found uid)) 0 ≡ max (unwrap_or (found uid) 0)
    (cond (pointwise nat_eq k uid) seq 0)
raised_at found k uid v seq Less e is = rw (texts_ties k uid, e) (omega arith)
raised_at found k uid v seq Greater e is = rw (texts_ties k uid, e) (omega arith)
raised_at found k uid v seq Equal e is =
    let same : k ≡ uid = exact_bytes k uid e in
    let value : v ≡ max (unwrap_or (found uid) 0) seq = is ∙ ap (λ (u : List ℕ). max (unwrap_or (found u) 0) seq) same in
    rw (texts_ties k uid, e) value

pub raised : (old new : List ℕ → Option ℕ) (k uid : List ℕ) (v seq : ℕ) → v ≡ max (unwrap_or (old k) 0) seq →
    new uid ≡ cond (is_at (slice_cmp nat_cmp k) uid) (Some v) (old uid)
    → unwrap_or (new uid) 0 ≡ max (unwrap_or (old uid) 0) (cond (pointwise nat_eq k uid) seq 0)
raised old new k uid v seq is e = ap (λ (o : Option ℕ). unwrap_or o 0) e ∙ raised_at old k uid v seq (slice_cmp nat_cmp k uid) refl is

-- one to-do more

series_step : (m : Method) (uid : List ℕ) (todo : Todo) (rest : List Todo) (before after whole : ℕ) → is_series m (parts_of todo) ≡ true
    → after ≡ max before (cond (pointwise nat_eq todo.uid uid) todo.seq 0) →
    max before (series_sequence m uid (map parts_of (todo ∷ rest))) ≡ whole →
    max after (series_sequence m uid (map parts_of rest)) ≡ whole
series_step m uid todo rest before after whole is e was =
    let front : series_sequence m uid (map parts_of (todo ∷ rest)) ≡ max (cond (pointwise nat_eq todo.uid uid) todo.seq 0)
    (series_sequence m uid (map parts_of rest)) =
    ap (λ (b : Bool). max (cond (b && pointwise nat_eq todo.uid uid) todo.seq 0) (series_sequence m uid (map parts_of rest))) is in
    omega (arith, e, was, front)

other_step : (m : Method) (uid : List ℕ) (todo : Todo) (rest : List Todo) (before whole : ℕ) → is_series m (parts_of todo) ≡ false
    → max before (series_sequence m uid (map parts_of (todo ∷ rest))) ≡ whole →
    max before (series_sequence m uid (map parts_of rest)) ≡ whole
other_step m uid todo rest before whole is was =
    let front : series_sequence m uid (map parts_of (todo ∷ rest)) ≡ max 0 (series_sequence m uid (map parts_of rest)) =
    ap (λ (b : Bool). max (cond (b && pointwise nat_eq todo.uid uid) todo.seq 0) (series_sequence m uid (map parts_of rest))) is in
    omega (arith, was, front)

-- the invariant: what is in the map, and the rest, give the whole
abbrev pub Completes : Method → List Todo → List Todo → (List ℕ → Option ℕ) → Type 0
Completes m all rest found =
    (uid : List ℕ) → max (unwrap_or (found uid) 0) (series_sequence m uid (map parts_of rest)) ≡ series_sequence m uid (map parts_of all)

pub completes_series : (m : Method) (all left rest : List Todo) (todo : Todo) (old new : List ℕ → Option ℕ) → Completes m all left old →
    left ≡ todo ∷ rest → is_series m (parts_of todo) ≡ true
    → ((uid : List ℕ) → unwrap_or (new uid) 0 ≡ max (unwrap_or (old uid) 0) (cond (pointwise nat_eq todo.uid uid) todo.seq 0)) →
    Completes m all rest new
completes_series m all left rest todo old new was e is after uid =
    series_step m uid todo rest (unwrap_or (old uid) 0) (unwrap_or (new uid) 0) (series_sequence m uid (map parts_of all)) is (after uid)
    (subst (λ (ts : List Todo). max (unwrap_or (old uid) 0) (series_sequence m uid (map parts_of ts)) ≡ series_sequence m uid
    (map parts_of all)) e (was uid))

pub completes_other : (m : Method) (all left rest : List Todo) (todo : Todo) (old : List ℕ → Option ℕ) → Completes m all left old →
    left ≡ todo ∷ rest → is_series m (parts_of todo) ≡ false → Completes m all rest old
completes_other m all left rest todo old was e is uid =
    other_step m uid todo rest (unwrap_or (old uid) 0) (series_sequence m uid (map parts_of all)) is
    (subst (λ (ts : List Todo). max (unwrap_or (old uid) 0) (series_sequence m uid (map parts_of ts)) ≡ series_sequence m uid
    (map parts_of all)) e (was uid))

pub completed : (m : Method) (all left : List Todo) (found : List ℕ → Option ℕ) → Completes m all left found → left ≡ [] → (uid : List ℕ) →
    unwrap_or (found uid) 0 ≡ series_sequence m uid (map parts_of all)
completed m all left found was e uid =
    let none : series_sequence m uid (map parts_of left) ≡ 0 = ap (λ (ts : List Todo). series_sequence m uid (map parts_of ts)) e in
    let is = was uid in
    omega (arith, none, is)

pub begun : (m : Method) (all : List Todo) (found : List ℕ → Option ℕ) → ((uid : List ℕ) → found uid ≡ None) → Completes m all all found
begun m all found none uid = let zero : unwrap_or (found uid) 0 ≡ 0 = ap (λ (o : Option ℕ). unwrap_or o 0) (none uid) in omega (arith, zero)
