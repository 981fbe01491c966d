-- The desks with which a stream begins.
use Rattle.std.proofs.Common.{◌≡◌, ℕ, ◌+◌, ◌<◌, List, [], ◌∷◌, ◌++◌, length, take, get_or, inl, inr, refl, sym, ap, subst, ◌∙◌, arith}
use Rattle.std.proofs.Common.{Option, Some, None, Result, Err}
use Rattle.std.specs.String.{string_bytes}
use Rattle.std.specs.List.{Contains}
use Rattle.std.proofs.lemmas.List.{take_more, map-append, get_or-map, length-map}
use Rattle.std.proofs.lemmas.List.Elements.{Contains-push_cases, Contains-get_or}
use Rattle.itip_desk.specs.Desk.{Shown}
use Rattle.itip_words.specs.Streams.{names_of}
use Rattle.itip_words.specs.declared.streamed.Load.{Load}
use Rattle.itip_desk.specs.DeskFile.{RefusesFile}
use Rattle.itip_desk.specs.declared.refusal.FileRefusal.{FileRefusal}
use Rattle.itip_words.specs.declared.streamed.Streamed.{Streamed}
use Rattle.itip_app.specs.Streamed.{Begins, AreBegun, IsLoadFault, BeginsUpTo, IsUnserved}
use Rattle.itip_app.specs.declared.stream.LoadFault.{LoadFault}
use Rattle.itip_app.specs.declared.stream.LoadFault.TheVariants as cause
use Rattle.itip_app.specs.declared.stream.Unserved.{Unserved}
use Rattle.itip_app.specs.declared.stream.Unserved.TheVariants as unserved

-- one more desk
pub begun_more : (holds : List ℕ → Option (List ℕ) → Type 0) (loads : List (ℕ × List ℕ)) (number : ℕ) (desks : List Shown) (desk : Shown) →
    AreBegun holds loads number desks → Begins holds loads (number + length desks) desk → AreBegun holds loads number (desks ++ desk ∷ [])
begun_more holds loads number [] desk are begins =
    let e : number + 0 ≡ number = omega arith in
    (subst (λ (n : ℕ). Begins holds loads n desk) e begins, tt)
begun_more holds loads number (d ∷ desks) desk are begins =
    let e : number + length (d ∷ desks) ≡ (number + 1) + length desks = omega arith in
    (are.0, begun_more holds loads (number + 1) desks desk are.1 (subst (λ (n : ℕ). Begins holds loads n desk) e begins))

-- none of the loads so far names the desk, and the next doesn't
pub none_more : (loads : List Load) (i : ℕ) (load : Load) (number : ℕ) → i < length loads → load ≡ get_or loads i load →
    (load.desk ≡ number → ⊥) → ((file : List ℕ) → Contains (names_of (take i loads)) (number, file) → ⊥)
    → (file : List ℕ) → Contains (names_of (take (i + 1) loads)) (number, file) → ⊥
none_more loads i load number within is other none file there =
    let f : Load → ℕ × List ℕ = λ l. (l.desk, string_bytes l.file) in
    let more : take (i + 1) loads ≡ take i loads ++ load ∷ [] = take_more loads i load within ∙
    ap (λ (l : Load). take i loads ++ l ∷ []) (sym is) in
    let both : names_of (take (i + 1) loads) ≡ names_of (take i loads) ++ f load ∷ [] = ap names_of more ∙
    map-append f (take i loads) (load ∷ [])
    in
    elim (Contains-push_cases (names_of (take i loads)) (f load) (number, file)
    (subst (λ (l : List (ℕ × List ℕ)). Contains l (number, file)) both there)) [
      | inl before ↦ none file before
      | inr same ↦ other (ap (λ (p : ℕ × List ℕ). p.0) same)
    ]

-- a load names the file of its desk
pub named_at : (loads : List Load) (i : ℕ) (load : Load) (number : ℕ) (file : List ℕ) → i < length loads → load ≡ get_or loads i load →
    load.desk ≡ number → file ≡ string_bytes load.file → Contains (names_of loads) (number, file)
named_at loads i load number file within is desk file_is =
    let f : Load → ℕ × List ℕ = λ l. (l.desk, string_bytes l.file) in
    let count : length (names_of loads) ≡ length loads = length-map loads f in
    let at : get_or (names_of loads) i (f load) ≡ f load = get_or-map f loads i load (f load) within ∙ ap f (sym is) in
    let same : f load ≡ (number, file) = ap (λ (n : ℕ). (n, string_bytes load.file)) desk ∙
    ap (λ (b : List ℕ). (number, b)) (sym file_is) in
    subst (λ (p : ℕ × List ℕ). Contains (names_of loads) p) (at ∙ same)
    (Contains-get_or (names_of loads) i (f load) (omega (arith, within, count)))

-- why a desk can't be loaded from a file
pub load_fault : {T : Type 0} (holds : List ℕ → Option (List ℕ) → Type 0) (file : List ℕ) (r : Result T LoadFault) (fault : LoadFault) →
    r ≡ Err fault →
    (r ≡ Err cause.Read → holds file None)
    → ((refusal : FileRefusal) → r ≡ Err (cause.Refused refusal) → (octets : List ℕ) × holds file
    (Some octets) × RefusesFile octets refusal)
    → IsLoadFault holds file fault
load_fault holds file r cause.Read is unread known = unread is
load_fault holds file r (cause.Refused refusal) is unread known = known refusal is
load_fault holds file r cause.NoMemory is unread known = tt

-- if a desk doesn't begin, nothing is read or written
pub unserved_of : (holds : List ℕ → Option (List ℕ) → Type 0) (streamed : Streamed) (input output : Option (List ℕ)) (why : Unserved) →
    BeginsUpTo holds streamed why → IsUnserved holds streamed input input output output why
unserved_of holds streamed input output (unserved.Load file fault) up_to = ((refl, refl), up_to)
unserved_of holds streamed input output (unserved.Stream fault) up_to = inl ((refl, refl), up_to.next)
