-- Desks that are loaded from files, one after another.
use Rattle.std.proofs.Common.{◌≡◌, ◌≢◌, ◌∙◌, sym, ap, ap₂, subst, ℕ, ◌+◌, ◌<◌, ◌≤◌, ◌==◌, Bool, true, false, Option, Some, None}
use Rattle.std.proofs.Common.{List, [], ◌∷◌, ◌++◌, map, take, drop, length, get_or, string_bytes, MatchOption, arith, eq-eqb}
use Rattle.std.specs.Prelude.{if◌then◌else◌, option_map}
use Rattle.std.specs.Borrow.{Bor}
use Rattle.std.specs.List.{All, list_any, before_first, after_first}
use Rattle.std.proofs.lemmas.List.{map-append, map_more, take_all, drop_all}
use Rattle.std.proofs.lemmas.List.Folds.{list_any_at}
use Rattle.std.proofs.lemmas.List.Elements.{All-get_or, All-map, All-nil, All-push}
use Rattle.std.proofs.lemmas.List.Quantifiers.{all_pairs_push}
use Rattle.std.proofs.lemmas.Str.Pattern.{IsSplitOnceResult, split_once_first}
use Rattle.itip_script.specs.Orders.{number_of}
use Rattle.itip_words.specs.Streams.{AreLoads, load_of, names_of}
use Rattle.itip_words.specs.declared.streamed.Load.{Load}

pub no_load : (desks : ℕ) (loads : List Load) → loads ≡ [] → AreLoads desks (names_of loads)
no_load desks loads none = subst (λ (ls : List Load). AreLoads desks (names_of ls)) (sym none) (record {
  there = All-nil (λ (load : ℕ × List ℕ). load.0 < desks);
  once = λ i j d below inside. absurd (omega (arith, inside));
})

abbrev pub name_of : Load → ℕ × List ℕ
name_of load = (load.desk, string_bytes load.file)

pub one_load : (desks : ℕ) (loads grown : List Load) (load : Load) → grown ≡ loads ++ load ∷ [] → load.desk < desks →
    All (λ (l : Load). l.desk ≢ load.desk) loads → AreLoads desks (names_of loads) → AreLoads desks (names_of grown)
one_load desks loads grown load more within others are =
    subst (λ (names : List (ℕ × List ℕ)). AreLoads desks names) (sym (ap names_of more ∙ map-append name_of loads (load ∷ []))) (record {
      there = All-push (λ (name : ℕ × List ℕ). name.0 < desks) (names_of loads) (name_of load) are.there within;
      once = all_pairs_push (λ (a b : ℕ × List ℕ). a.0 ≢ b.0) (names_of loads) (name_of load) are.once
          (λ j d below. All-get_or (λ (name : ℕ × List ℕ). name.0 ≢ load.desk) (names_of loads) j d below
          (All-map (λ (name : ℕ × List ℕ). name.0 ≢ load.desk) name_of loads others));
    })

-- a desk that is not found is named by none
pub none_named : (desk : ℕ) (loads : List Load) → list_any (λ (load : Load). load.desk == desk) loads ≡ false →
    All (λ (load : Load). load.desk ≢ desk) loads
none_named desk loads none = λ k d below e.
    let found = list_any_at (λ (load : Load). load.desk == desk) loads k d below (eq-eqb _ desk e) in
    let bad : false ≡ true = sym none ∙ found in
    absurd cc

-- ---- texts that name desks and files

-- the load that a text names, cut at its `=`
abbrev load_named : List ℕ → List ℕ → Option (ℕ × List ℕ)
load_named before after = if length after == 0 then None else option_map (λ desk. (desk, after)) (number_of before)

pub cut_load : (text : List ℕ) (r : Option (Bor (List ℕ) × Bor (List ℕ))) → IsSplitOnceResult 61 text r →
    MatchOption r (None ≡ load_of text) (λ x. load_of text ≡ load_named x.0.now x.1.now)
cut_load text None is =
    let all = split_once_first 61 text None is (omega arith) in
    let none : after_first (λ b. b == 61) text ≡ [] =
    ap (λ n. drop (n + 1) text) all ∙ drop_all (length text + 1) text (omega arith) in
    sym (ap (λ (after : List ℕ). load_named (before_first (λ b. b == 61) text) after) none)
cut_load text (Some x) is =
    let h = split_once_first 61 text (Some x) is (omega arith) in
    ap₂ load_named (sym h.1) (sym h.2)

pub no_file : (text before after : List ℕ) → load_of text ≡ load_named before after → (length after == 0) ≡ true → None ≡ load_of text
no_file text before after is empty =
    sym (is ∙ ap (λ (b : Bool). if b then None else option_map (λ desk. (desk, after)) (number_of before)) empty)

pub some_file : (text before after : List ℕ) (number : Option ℕ) → load_of text ≡ load_named before after →
    (length after == 0) ≡ false → number ≡ number_of before → option_map (λ desk. (desk, after)) number ≡ load_of text
some_file text before after number is some e =
    ap (option_map (λ (desk : ℕ). (desk, after))) e ∙
    sym (is ∙ ap (λ (b : Bool). if b then None else option_map (λ desk. (desk, after)) (number_of before)) some)

-- the texts are read so far
abbrev pub AreRead : List (Bor (List ℕ)) → List Load → Type 0
AreRead texts loads = map load_of (map (λ (text : Bor (List ℕ)). text.now) texts) ≡ map Some (names_of loads)

pub none_read : (texts : List (Bor (List ℕ))) (loads : List Load) → loads ≡ [] → AreRead (take 0 texts) loads
none_read texts loads none = sym (ap (λ (ls : List Load). map Some (names_of ls)) none)

pub one_read : (texts : List (Bor (List ℕ))) (i : ℕ) (d : Bor (List ℕ)) (loads grown : List Load) (load : Load) → i < length texts →
    load_of (get_or texts i d).now ≡ Some (name_of load) → grown ≡ loads ++ load ∷ [] → AreRead (take i texts) loads →
    AreRead (take (i + 1) texts) grown
one_read texts i d loads grown load inside is more before =
    ap (map load_of) (map_more (λ (text : Bor (List ℕ)). text.now) texts i d inside) ∙
    map-append load_of (map (λ (text : Bor (List ℕ)). text.now) (take i texts)) ((get_or texts i d).now ∷ []) ∙
    ap₂ (λ (front : List (Option (ℕ × List ℕ))) (last : Option (ℕ × List ℕ)). front ++ last ∷ []) before is ∙
    sym (ap (map Some) (ap names_of more ∙ map-append name_of loads (load ∷ [])) ∙ map-append Some (names_of loads) (name_of load ∷ []))

-- and in the end all of them
pub all_read : (texts : List (Bor (List ℕ))) (i : ℕ) (given : List (List ℕ)) (loads : List Load) → length texts ≤ i →
    map (λ (text : Bor (List ℕ)). text.now) texts ≡ given → AreRead (take i texts) loads → map load_of given ≡ map Some (names_of loads)
all_read texts i given loads end is read =
    sym (ap (map load_of) is) ∙ sym (ap (λ (ts : List (Bor (List ℕ))). map load_of (map (λ (text : Bor (List ℕ)). text.now) ts))
    (take_all i texts end)) ∙ read
