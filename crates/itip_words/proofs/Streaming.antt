-- Desks that can't be loaded from the files that words name.
use Rattle.std.proofs.Common.{◌≡◌, ◌≢◌, ◌∙◌, refl, sym, ap, subst, ℕ, ◌<◌, ◌≤◌, ◌==◌, true, Option, Some, None}
use Rattle.std.proofs.Common.{List, [], ◌∷◌, map, take, length, get_or, codes, unwrap_or, eqb-true, arith}
use Rattle.std.proofs.Common.{length-take-le}
use Rattle.std.specs.Borrow.{Bor}
use Rattle.std.specs.List.{All, AllPairs, list_any}
use Rattle.std.proofs.lemmas.List.{get_or-map, get_or-take, length-map, take-map}
use Rattle.std.proofs.lemmas.List.Elements.{All-get_or}
use Rattle.std.proofs.lemmas.List.Folds.{Any-from_list_any}
use Rattle.std.proofs.lemmas.Option.{same_Some}
use Rattle.itip_words.specs.Asking.{AsksScript}
use Rattle.itip_words.specs.Calls.{IsStreamOf}
use Rattle.itip_words.specs.Finding.{Never}
use Rattle.itip_words.specs.Options.{Options, value_of, values_of}
use Rattle.itip_words.specs.Streams.{IsNextLoad, load_of, names_of}
use Rattle.itip_words.specs.Words.{desks_of}
use Rattle.itip_words.specs.declared.streamed.Load.{Load}
use Rattle.itip_words.specs.declared.words.Scripted.{Scripted}
use Rattle.itip_words.proofs.Finding.{one_given}
use Rattle.itip_words.proofs.Loading.{AreRead, name_of}

-- ---- a text that names no load

module _ (text : List ℕ) (desks : ℕ) (before : List Load) (named : ℕ × List ℕ) (is : Some named ≡ load_of text) where
  same_load : (load : ℕ × List ℕ) → IsNextLoad text desks before load → named ≡ load
  same_load load next = same_Some named load (is ∙ next.named)

  -- of a desk that isn't there
  pub never_past : desks ≤ named.0 → (load : ℕ × List ℕ) → IsNextLoad text desks before load → ⊥
  never_past past load next =
      let low : named.0 < desks = subst (λ (l : ℕ × List ℕ). l.0 < desks) (sym (same_load load next)) next.there in
      absurd (omega (arith, low, past))

  -- of a desk that another names
  pub never_twice : list_any (λ (load : Load). load.desk == named.0) before ≡ true → (load : ℕ × List ℕ) →
      IsNextLoad text desks before load → ⊥
  never_twice there load next =
      let other = Any-from_list_any (λ (l : Load). l.desk == named.0) before there in
      next.once other.0 other.1 other.2
      (ap (λ (l : Load). l.desk) other.3 ∙ eqb-true _ _ other.4 ∙ ap (λ (l : ℕ × List ℕ). l.0) (same_load load next))

-- ---- a stream that is asked for

unwrapped : (names : List (ℕ × List ℕ)) → map (λ (o : Option (ℕ × List ℕ)). unwrap_or o (0, [])) (map Some names) ≡ names
unwrapped [] = refl
unwrapped (name ∷ names) = ap (λ (rest : List (ℕ × List ℕ)). name ∷ rest) (unwrapped names)

some_lists : (xs ys : List (ℕ × List ℕ)) → map Some xs ≡ map Some ys → xs ≡ ys
some_lists xs ys e =
    sym (unwrapped xs) ∙ ap (map (λ (o : Option (ℕ × List ℕ)). unwrap_or o (0, []))) e ∙ unwrapped ys

abbrev text_of : Bor (List ℕ) → List ℕ
text_of text = text.now

module _ (texts : List (Bor (List ℕ))) (names : List (ℕ × List ℕ)) (all : map load_of (map text_of texts) ≡ map Some names) where
  as_many : length names ≡ length texts
  as_many =
      sym (length-map names (λ (name : ℕ × List ℕ). Some name)) ∙ sym (ap length all) ∙ length-map (map text_of texts) load_of ∙
      length-map texts text_of

  named_here : (i : ℕ) (d : Bor (List ℕ)) → i < length texts → load_of (get_or texts i d).now ≡ Some (get_or names i (0, []))
  named_here i d inside =
      let texts_inside : i < length (map text_of texts) = subst (λ n. i < n) (sym (length-map texts text_of)) inside in
      let names_inside : i < length names = subst (λ n. i < n) (sym as_many) inside in
      sym (ap load_of (get_or-map text_of texts i d (text_of d) inside)) ∙
      sym (get_or-map load_of (map text_of texts) i (text_of d) None texts_inside) ∙
      ap (λ (os : List (Option (ℕ × List ℕ))). get_or os i None) all ∙
      get_or-map (λ (name : ℕ × List ℕ). Some name) names i (0, []) None names_inside

  named_before : (i : ℕ) (loads : List Load) → AreRead (take i texts) loads → names_of loads ≡ take i names
  named_before i loads read =
      some_lists (names_of loads) (take i names) (sym read ∙ ap (map load_of) (sym (take-map text_of i texts)) ∙
      sym (take-map load_of i (map text_of texts)) ∙ ap (take i) all ∙ take-map Some i names)

  -- the loads that were read before one are of other desks
  others_before : (i : ℕ) (loads : List Load) → i < length texts → AreRead (take i texts) loads →
      AllPairs (λ (a b : ℕ × List ℕ). a.0 ≢ b.0) names → All (λ (load : Load). load.desk ≢ (get_or names i (0, [])).0) loads
  others_before i loads inside read once = λ k d below.
      let are : names_of loads ≡ take i names = named_before i loads read in
      let small : i ≤ length names = omega (arith, inside, as_many) in
      let few : length loads ≡ i = sym (length-map loads name_of) ∙ ap length are ∙ length-take-le i names small in
      let here : name_of (get_or loads k d) ≡ get_or names k (0, []) =
      sym (get_or-map name_of loads k d (0, []) below) ∙ ap (λ (ns : List (ℕ × List ℕ)). get_or ns k (0, [])) are ∙
      get_or-take i names k (0, []) (omega (arith, few, below)) in
      λ same.
      once k i (0, []) (omega (arith, few, below)) (subst (λ n. i < n) (sym as_many) inside)
      (sym (ap (λ (name : ℕ × List ℕ). name.0) here) ∙ same)

-- if a word names no load besides those that were read before it, no stream is asked for
pub no_stream : (options : Options) (scripted : Scripted) → AsksScript options scripted → (texts : List (Bor (List ℕ))) →
    map text_of texts ≡ unwrap_or (values_of (codes "load") options) [] → (i : ℕ) (d : Bor (List ℕ)) → i < length texts →
    (loads before : List Load) → before ≡ loads → AreRead (take i texts) loads →
    Never (IsNextLoad (get_or texts i d).now scripted.desks before) → Never (IsStreamOf options)
no_stream options scripted script texts given i d inside loads before same read never = λ streamed is.
    let names : List (ℕ × List ℕ) = names_of streamed.loads.items in
    let all : map load_of (map text_of texts) ≡ map Some names = ap (map load_of) given ∙ is.asked.loads in
    let names_inside : i < length names = subst (λ n. i < n) (sym (as_many texts names all)) inside in
    let desks_are : streamed.scripted.desks ≡ scripted.desks =
    one_given desks_of (value_of (codes "desks") options) streamed.scripted.desks scripted.desks is.asked.script.desks script.desks in
    never (get_or names i (0, [])) (record {
      named = named_here texts names all i d inside;
      there = subst (λ n. (get_or names i (0, [])).0 < n) desks_are
          (All-get_or (λ (name : ℕ × List ℕ). name.0 < streamed.scripted.desks) names i (0, []) names_inside is.possible.loads.there);
      once = subst (λ (ls : List Load). All (λ (load : Load). load.desk ≢ (get_or names i (0, [])).0) ls) (sym same)
          (others_before texts names all i loads inside read is.possible.loads.once);
    })
