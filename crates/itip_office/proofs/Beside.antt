-- Desks that were made side by side.
use Rattle.std.proofs.Common.{◌≡◌, ℕ, zero, suc, ◌<◌, List, [], ◌∷◌, ◌++◌, length, take}
use Rattle.std.proofs.Common.{map, All, refl, ap, sym, subst, ◌∙◌, arith, Result, Ok, Err}
use Rattle.std.specs.Prelude.{IfErr, slice_index_or}
use Rattle.std.specs.List.{AllZip}
use Rattle.std.proofs.lemmas.List.{length-map}
use Rattle.std.proofs.lemmas.List.Elements.{All-nil, All-cons, All-head, All-tail}
use Rattle.itip_items.specs.declared.item.Item.{Item}
use Rattle.itip_state.specs.Kept.{AreKept}
use Rattle.itip_desk.specs.Desk.{Shown}
use Rattle.itip_office.specs.declared.error.OfficeError.{OfficeError}
use Rattle.itip_office.specs.Ended.{all_heard, IsSomeDesk}
use Rattle.itip_office.specs.Exchanged.{AreNoLoops, GivesDelta, TakesAll}
use Rattle.itip_office.proofs.Sharing.{History, AreDesksOf, AreDeltasOf, AreLeft, IsNext, left_some, left_next, shared}

-- what holds at each place of two lists holds for the lists
pub zip_at : {A B : Type 0} (R : A → B → Type 0) (xs : List A) (ys : List B) → length ys ≡ length xs →
    ((i : ℕ) (a : A) (b : B) → i < length xs → R (slice_index_or xs i a) (slice_index_or ys i b)) → AllZip R xs ys
zip_at R [] [] same at = tt
zip_at R [] (y ∷ ys) same at = absurd (omega (arith, same))
zip_at R (x ∷ xs) [] same at = absurd (omega (arith, same))
zip_at R (x ∷ xs) (y ∷ ys) same at = (
  at zero x y (omega arith),
  zip_at R xs ys (omega (arith, same)) (λ i a b low. at (suc i) a b (omega (arith, low))),
)

-- if no delta is an error, they are the deltas of the desks
deltas_ok : (desks : List Shown) (deltas : List (List Item)) → AllZip GivesDelta desks (map Ok deltas) → AreDeltasOf desks deltas
deltas_ok [] [] are = tt
deltas_ok [] (b ∷ deltas) are = absurd are
deltas_ok (d ∷ desks) [] are = absurd are
deltas_ok (d ∷ desks) (b ∷ deltas) are = (are.0, deltas_ok desks deltas are.1)

pub are_deltas : (desks : List Shown) (all : List (Result (List Item) OfficeError)) (deltas : List (List Item)) →
    length all ≡ length desks →
    ((i : ℕ) (d : Shown) (r : Result (List Item) OfficeError) → i < length desks
    → GivesDelta (slice_index_or desks i d) (slice_index_or all i r)) → all ≡ map Ok deltas → AreDeltasOf desks deltas
are_deltas desks all deltas count each ok =
    deltas_ok desks deltas (subst (λ (l : List (Result (List Item) OfficeError)). AllZip GivesDelta desks l) ok
    (zip_at GivesDelta desks all count each))

-- each desk that took all deltas keeps what is kept of all that was heard
module _ (hs : List History) (desks : List Shown) (deltas : List (List Item)) (are : AreDesksOf hs desks) (gives : AreDeltasOf desks deltas)
  where
    abbrev P : Shown → Type 0
    P d = AreKept d.kept (all_heard hs)

    each_kept : (left ended : List Shown) → AreLeft hs left → AllZip (TakesAll deltas) left (map Ok ended) → All P ended
    each_kept [] [] l took = All-nil P
    each_kept [] (r ∷ ended) l took = absurd took
    each_kept (d ∷ left) [] l took = absurd took
    each_kept (d ∷ left) (r ∷ ended) l took =
        let next : IsNext hs d left = left_next hs d left l in
        All-cons P r ended (shared hs desks deltas are gives next.history next.there r.kept (took.0 next.history 0 next.is).kept)
        (each_kept left ended next.rest took.1)

    -- the first `n` of the desks
    pub all_kept_alike : (n : ℕ) (left : List Shown) (all : List (Result Shown OfficeError)) (ended : List Shown) → left ≡ take n desks →
        length all ≡ length left
        → ((i : ℕ) (d : Shown) (r : Result Shown OfficeError) → i < length left
        → TakesAll deltas (slice_index_or left i d) (slice_index_or all i r)) → all ≡ map Ok ended →
        All (λ (d : Shown). AreKept d.kept (all_heard hs)) ended
    all_kept_alike n left all ended first count each ok =
        each_kept left ended (subst (AreLeft hs) (sym first) (left_some hs desks n are))
        (subst (λ (l : List (Result Shown OfficeError)). AllZip (TakesAll deltas) left l) ok (zip_at (TakesAll deltas) left all count each))

-- each of them is the desk of what it heard followed by all deltas
module _ (hs : List History) (deltas : List (List Item)) where
  each_some : (left ended : List Shown) → AreLeft hs left → AllZip (TakesAll deltas) left (map Ok ended) → All IsSomeDesk ended
  each_some [] [] l took = All-nil IsSomeDesk
  each_some [] (r ∷ ended) l took = absurd took
  each_some (d ∷ left) [] l took = absurd took
  each_some (d ∷ left) (r ∷ ended) l took =
      let next : IsNext hs d left = left_next hs d left l in
      All-cons IsSomeDesk r ended (record { batches = next.history ++ deltas; is = took.0 next.history 0 next.is })
      (each_some left ended next.rest took.1)

  -- the first `n` of some desks
  pub all_some : (desks : List Shown) → AreDesksOf hs desks → (n : ℕ) (left : List Shown) (all : List (Result Shown OfficeError))
      (ended : List Shown) → left ≡ take n desks → length all ≡ length left
      → ((i : ℕ) (d : Shown) (r : Result Shown OfficeError) → i < length left
      → TakesAll deltas (slice_index_or left i d) (slice_index_or all i r)) → all ≡ map Ok ended → All IsSomeDesk ended
  all_some desks are n left all ended first count each ok =
      each_some left ended (subst (AreLeft hs) (sym first) (left_some hs desks n are))
      (subst (λ (l : List (Result Shown OfficeError)). AllZip (TakesAll deltas) left l) ok (zip_at (TakesAll deltas) left all count each))

pub as_many : {A : Type 0} (n : ℕ) (all : List (Result A OfficeError)) (values : List A) → length all ≡ n → all ≡ map Ok values →
    length values ≡ n
as_many n all values count ok = sym (length-map values Ok) ∙ (sym (ap length ok) ∙ count)

-- an error of what was made side by side is not one of the loops
gives_error : (d : Shown) (r : Result (List Item) OfficeError) → GivesDelta d r → IfErr r AreNoLoops
gives_error d (Ok delta) gives = tt
gives_error d (Err error) gives = gives

takes_error : (deltas : List (List Item)) (d : Shown) (r : Result Shown OfficeError) → TakesAll deltas d r → IfErr r AreNoLoops
takes_error deltas d (Ok new) takes = tt
takes_error deltas d (Err error) takes = takes

zip_errors : {A B : Type 0} (R : A → Result B OfficeError → Type 0) → ((a : A) (r : Result B OfficeError) → R a r → IfErr r AreNoLoops)
    → (xs : List A) (ys : List (Result B OfficeError)) → AllZip R xs ys → All (λ (r : Result B OfficeError). IfErr r AreNoLoops) ys
zip_errors R each [] [] zip = All-nil (λ r. IfErr r AreNoLoops)
zip_errors R each [] (y ∷ ys) zip = absurd zip
zip_errors R each (x ∷ xs) [] zip = absurd zip
zip_errors R each (x ∷ xs) (y ∷ ys) zip = All-cons (λ r. IfErr r AreNoLoops) y ys (each x y zip.0) (zip_errors R each xs ys zip.1)

pub delta_errors : (desks : List Shown) (all : List (Result (List Item) OfficeError)) → length all ≡ length desks →
    ((i : ℕ) (d : Shown) (r : Result (List Item) OfficeError) → i < length desks
    → GivesDelta (slice_index_or desks i d) (slice_index_or all i r))
    → All (λ (r : Result (List Item) OfficeError). IfErr r AreNoLoops) all
delta_errors desks all count each = zip_errors GivesDelta gives_error desks all (zip_at GivesDelta desks all count each)

pub take_errors : (deltas : List (List Item)) (desks : List Shown) (all : List (Result Shown OfficeError)) → length all ≡ length desks →
    ((i : ℕ) (d : Shown) (r : Result Shown OfficeError) → i < length desks
    → TakesAll deltas (slice_index_or desks i d) (slice_index_or all i r))
    → All (λ (r : Result Shown OfficeError). IfErr r AreNoLoops) all
take_errors deltas desks all count each =
    zip_errors (TakesAll deltas) (takes_error deltas) desks all (zip_at (TakesAll deltas) desks all count each)

-- the first error of what is left is among all errors
pub error_among : {A : Type 0} (done left all : List (Result A OfficeError)) (error : OfficeError) → done ++ Err error ∷ left ≡ all →
    All (λ (r : Result A OfficeError). IfErr r AreNoLoops) all → AreNoLoops error
error_among [] left all error whole are =
    All-head (λ r. IfErr r AreNoLoops) (Err error) left (subst (All (λ r. IfErr r AreNoLoops)) (sym whole) are)
error_among (d ∷ done) left all error whole are =
    error_among done left (done ++ Err error ∷ left) error refl
    (All-tail (λ r. IfErr r AreNoLoops) d (done ++ Err error ∷ left) (subst (All (λ r. IfErr r AreNoLoops)) (sym whole) are))
