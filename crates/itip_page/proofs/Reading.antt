-- Sources that a parser reads one after another.
use Rattle.std.proofs.Common.{◌≡◌, ℕ, true, List, [], ◌∷◌, ◌++◌, refl, ap, sym, subst, ◌∙◌, append_assoc, append-nil}
use Rattle.std.specs.Prelude.{Option, Some, None, option_map}
use Rattle.std.specs.List.{flat_map, list_all}
use Rattle.std.specs.Option.{option_and_then}
use Rattle.std.proofs.lemmas.Bool.{and_from, and_parts, ne_eqb}
use Rattle.std.proofs.lemmas.List.Folds.{list_all-append}
use Rattle.itip_page.specs.Tokens.{State, data_state, rcdata, rawtext, attribute_value, Reached, ran, Token, character, Tag, step, run}
use Rattle.itip_page.specs.Tokens.{given_before, IsReadAs}
use Rattle.itip_page.specs.PageTokens.{characters, is_of_page}
use Rattle.itip_page.proofs.Itself.{is_itself, differs}

-- ---- one source after another

given_none : (o : Option Reached) → option_map (given_before []) o ≡ o
given_none None = refl
given_none (Some last) = refl

given_twice : (front back : List Token) (o : Option Reached) →
    option_map (given_before front) (option_map (given_before back) o) ≡ option_map (given_before (front ++ back)) o
given_twice front back None = refl
given_twice front back (Some last) =
    ap (λ (given : List Token). Some (ran last.state given)) (sym (append_assoc front back last.given))

-- what a source gives after a run
abbrev onwards : List ℕ → Reached → Option Reached
onwards source next = option_map (given_before next.given) (run next.state source)

moved : (given : List Token) (source : List ℕ) (o : Option Reached) →
    option_map (given_before given) (option_and_then (onwards source) o) ≡
    option_and_then (onwards source) (option_map (given_before given) o)
moved given source None = refl
moved given source (Some next) = given_twice given next.given (run next.state source)

stepped : (source more : List ℕ) →
    ((state : State) → run state (source ++ more) ≡ option_and_then (onwards more) (run state source)) → (o : Option Reached) →
    option_and_then (onwards (source ++ more)) o ≡ option_and_then (onwards more) (option_and_then (onwards source) o)
stepped source more so None = refl
stepped source more so (Some next) =
    ap (option_map (given_before next.given)) (so next.state) ∙ moved next.given more (run next.state source)

run-append : (source more : List ℕ) (state : State) → run state (source ++ more) ≡ option_and_then (onwards more) (run state source)
unfolding run
run-append [] more state = sym (given_none (run state more))
run-append (octet ∷ source) more state = stepped source more (λ (s : State). run-append source more s) (step state octet)

-- ---- sources as tokens of a page

-- In this state a source is read as these tokens, whose names are a page's, and after it the state is that one.
pub record Reads (before : State) (source : List ℕ) (given : List Token) (after : State) : Type 0 where
  pub read : IsReadAs before source given after
  pub known : list_all is_of_page given ≡ true

module _ {before mid after : State} {source more : List ℕ} {given others : List Token} where
  pub then_reads : Reads before source given mid → Reads mid more others after →
      Reads before (source ++ more) (given ++ others) after
  then_reads first second =
      record {
        read =
            run-append source more before ∙ ap (option_and_then (onwards more)) first.read ∙
            ap (option_map (given_before given)) second.read;
        known =
            list_all-append is_of_page given others ∙
            and_from (list_all is_of_page given) (list_all is_of_page others) first.known second.known;
      }

module _ {before after : State} {source : List ℕ} {given : List Token} where
  pub of_source : (other : List ℕ) → source ≡ other → Reads before source given after → Reads before other given after
  of_source other same reads = subst (λ (octets : List ℕ). Reads before octets given after) same reads

  pub as_tokens : (others : List Token) → given ≡ others → Reads before source given after → Reads before source others after
  as_tokens others same reads = subst (λ (tokens : List Token). Reads before source tokens after) same reads

pub nothing : (state : State) → Reads state [] [] state
unfolding run
nothing state = record { read = refl; known = refl }

module _ {X : Type 0} (f : X → List ℕ) (g : X → List Token) (state : State) (each : (x : X) → Reads state (f x) (g x) state) where
  pub each_reads : (xs : List X) → Reads state (flat_map f xs) (flat_map g xs) state
  each_reads [] = nothing state
  each_reads (x ∷ xs) = let reads = then_reads (each x) (each_reads xs) in reads

-- ---- octets that are taken as themselves

pub characters_known : (text : List ℕ) → list_all is_of_page (characters text) ≡ true
characters_known [] = refl
characters_known (octet ∷ text) = characters_known text

module _ (state : State)
    (each : (octet : ℕ) → is_itself octet ≡ true → step state octet ≡ Some (ran state (character octet ∷ []))) where
  stays : (text : List ℕ) → list_all is_itself text ≡ true → IsReadAs state text (characters text) state
  unfolding run
  stays [] all = refl
  stays (octet ∷ text) all =
      let parts = and_parts (is_itself octet) (list_all is_itself text) all in
      ap (option_and_then (onwards text)) (each octet parts.0) ∙
      ap (option_map (given_before (character octet ∷ []))) (stays text parts.1)

  text_reads : (text : List ℕ) → list_all is_itself text ≡ true → Reads state text (characters text) state
  text_reads text all = record { read = stays text all; known = characters_known text }

data_takes : (octet : ℕ) → is_itself octet ≡ true → step data_state octet ≡ Some (ran data_state (character octet ∷ []))
data_takes octet so =
    rw (
      ne_eqb octet 38 (differs octet 38 so refl),
      ne_eqb octet 60 (differs octet 60 so refl),
      ne_eqb octet 0 (differs octet 0 so refl),
      ne_eqb octet 13 (differs octet 13 so refl),
    ) refl

rcdata_takes : (name : List ℕ) (octet : ℕ) → is_itself octet ≡ true →
    step (rcdata name) octet ≡ Some (ran (rcdata name) (character octet ∷ []))
rcdata_takes name octet so =
    rw (
      ne_eqb octet 38 (differs octet 38 so refl),
      ne_eqb octet 60 (differs octet 60 so refl),
      ne_eqb octet 0 (differs octet 0 so refl),
      ne_eqb octet 13 (differs octet 13 so refl),
    ) refl

rawtext_takes : (name : List ℕ) (octet : ℕ) → is_itself octet ≡ true →
    step (rawtext name) octet ≡ Some (ran (rawtext name) (character octet ∷ []))
rawtext_takes name octet so =
    rw (
      ne_eqb octet 60 (differs octet 60 so refl),
      ne_eqb octet 0 (differs octet 0 so refl),
      ne_eqb octet 13 (differs octet 13 so refl),
    ) refl

pub in_data : (text : List ℕ) → list_all is_itself text ≡ true → Reads data_state text (characters text) data_state
in_data = text_reads data_state data_takes

pub in_rcdata : (name text : List ℕ) → list_all is_itself text ≡ true → Reads (rcdata name) text (characters text) (rcdata name)
in_rcdata name = text_reads (rcdata name) (rcdata_takes name)

pub in_rawtext : (name text : List ℕ) → list_all is_itself text ≡ true → Reads (rawtext name) text (characters text) (rawtext name)
in_rawtext name = text_reads (rawtext name) (rawtext_takes name)

-- ---- and in an attribute value

module _ (tag : Tag) (name : List ℕ) where
  value_takes : (value : List ℕ) (octet : ℕ) → is_itself octet ≡ true →
      step (attribute_value tag name value) octet ≡ Some (ran (attribute_value tag name (value ++ octet ∷ [])) [])
  value_takes value octet so =
      rw (
        ne_eqb octet 34 (differs octet 34 so refl),
        ne_eqb octet 38 (differs octet 38 so refl),
        ne_eqb octet 0 (differs octet 0 so refl),
        ne_eqb octet 13 (differs octet 13 so refl),
      ) refl

  -- more of the value
  abbrev grown : List ℕ → Option Reached
  grown value = Some (ran (attribute_value tag name value) [])

  value_stays : (text : List ℕ) → list_all is_itself text ≡ true → (value : List ℕ) →
      IsReadAs (attribute_value tag name value) text [] (attribute_value tag name (value ++ text))
  unfolding run
  value_stays [] all value = ap grown (sym (append-nil value))
  value_stays (octet ∷ text) all value =
      let parts = and_parts (is_itself octet) (list_all is_itself text) all in
      ap (option_and_then (onwards text)) (value_takes value octet parts.0) ∙
      given_none (run (attribute_value tag name (value ++ octet ∷ [])) text) ∙
      value_stays text parts.1 (value ++ octet ∷ []) ∙ ap grown (append_assoc value (octet ∷ []) text)

  pub in_value : (value text : List ℕ) → list_all is_itself text ≡ true →
      Reads (attribute_value tag name value) text [] (attribute_value tag name (value ++ text))
  in_value value text all = record { read = value_stays text all value; known = refl }
