-- Properties in a text, and in a longer one.
use Rattle.std.proofs.Common.{◌≡◌, ◌∙◌, ◌≤◌, ◌+◌, ◌-◌, sym, ap, subst, ℕ, List, [], ◌∷◌, ◌++◌, length, map, take, drop, arith}
use Rattle.std.proofs.Common.{append_assoc, length-append, ◌<◌, zero, suc, get_or}
use Rattle.std.proofs.lemmas.List.{take_at, drop_at, take_all, take_more, take-append-le, drop-append-le, length-drop, map-append}
use Rattle.std.specs.List.{AllByRecursion}
use Rattle.std.specs.Prelude.{slice_range, IfOk, Result, Ok, Err}
use Rattle.std.specs.Str.{IsUtf8}
use Rattle.itip_lines.specs.ParamsText.{params_in, IsParamsText}
use Rattle.itip_lines.specs.Writing.{Extends}
use Rattle.itip_todo.specs.Places.{params_at, value_at, octets_at, property_at, IsPlaceIn}
use Rattle.itip_todo.specs.Properties.{Property}
use Rattle.itip_todo.specs.declared.place.Place.{Place}

-- ---- in a longer text

stretch_kept : (text tail : List ℕ) (i j : ℕ) → i ≤ j → j ≤ length text → slice_range (text ++ tail) i j ≡ slice_range text i j
stretch_kept text tail i j order within =
    ap (λ (t : List ℕ). take (j - i) t) (drop-append-le i text tail (omega arith))
    ∙ take-append-le (j - i) (drop i text) tail (omega (arith, length-drop i text))

pub property_kept : (text tail : List ℕ) (place : Place) → IsPlaceIn text place → property_at (text ++ tail) place ≡ property_at text place
property_kept text tail place h =
    let params = stretch_kept text tail place.start place.colon h.begins (omega (arith, h.parted, h.within)) in
    let value = stretch_kept text tail (place.colon + 1) place.end (omega (arith, h.parted)) h.within in
    λ i. record { params = params_in (params i); value = value i }

pub place_kept : (text tail : List ℕ) (place : Place) → IsPlaceIn text place → IsPlaceIn (text ++ tail) place
place_kept text tail place h =
    let params = stretch_kept text tail place.start place.colon h.begins (omega (arith, h.parted, h.within)) in
    let value = stretch_kept text tail (place.colon + 1) place.end (omega (arith, h.parted)) h.within in
    record {
      begins = h.begins;
      parted = h.parted;
      within = omega (arith, h.within, length-append text tail);
      params = subst IsParamsText (sym params) h.params;
      value = subst IsUtf8 (sym value) h.value;
      whole = stretch_kept text tail place.start place.end (omega (arith, h.begins, h.parted)) h.within ∙ h.whole
          ∙ sym (λ i. params i ++ 58 ∷ value i);
    }

pub properties_kept : (text tail : List ℕ) (places : List Place) → AllByRecursion (IsPlaceIn text) places →
    map (property_at (text ++ tail)) places ≡ map (property_at text) places
properties_kept text tail [] h = λ i. []
properties_kept text tail (place ∷ places) h = λ i. property_kept text tail place h.0 i ∷ properties_kept text tail places h.1 i

pub places_kept : (text tail : List ℕ) (places : List Place) → AllByRecursion (IsPlaceIn text) places →
    AllByRecursion (IsPlaceIn (text ++ tail)) places
places_kept text tail [] h = tt
places_kept text tail (place ∷ places) h = (place_kept text tail place h.0, places_kept text tail places h.1)

pub places_more : (text : List ℕ) (places : List Place) (place : Place) → AllByRecursion (IsPlaceIn text) places → IsPlaceIn text place →
    AllByRecursion (IsPlaceIn text) (places ++ place ∷ [])
places_more text [] place h one = (one, tt)
places_more text (p ∷ ps) place h one = (h.0, places_more text ps place h.1 one)

-- ---- after a text

-- parameters, a colon and a value were appended, and this is their place
pub record Appends (old params value text : List ℕ) (place : Place) : Type 0 where
  pub whole : text ≡ old ++ (params ++ 58 ∷ value)
  pub start : place.start ≡ length old
  pub colon : place.colon ≡ place.start + length params
  pub end : place.end ≡ place.colon + 1 + length value

pub appended : (old params value front parted text : List ℕ) → front ≡ old ++ params → parted ≡ front ++ 58 ∷ [] →
    text ≡ parted ++ value → text ≡ old ++ (params ++ 58 ∷ value)
appended old params value front parted text e f g =
    g ∙ ap (λ (t : List ℕ). t ++ value) (f ∙ ap (λ (t : List ℕ). t ++ 58 ∷ []) e)
    ∙ append_assoc (old ++ params) (58 ∷ []) value ∙ append_assoc old params (58 ∷ value)

params_stand : (old params value text : List ℕ) (place : Place) → Appends old params value text place → params_at text place ≡ params
params_stand old params value text place h =
    ap (λ (t : List ℕ). slice_range t place.start place.colon) h.whole
    ∙ ap (λ (t : List ℕ). take (place.colon - place.start) t) (drop_at old (params ++ 58 ∷ value) place.start (sym h.start))
    ∙ take_at params (58 ∷ value) (place.colon - place.start) (omega (arith, h.colon))

value_stands : (old params value text : List ℕ) (place : Place) → Appends old params value text place → value_at text place ≡ value
value_stands old params value text place h =
    let apart : text ≡ (old ++ (params ++ 58 ∷ [])) ++ value =
    h.whole ∙ sym (append_assoc old (params ++ 58 ∷ []) value ∙ ap (λ (t : List ℕ). old ++ t) (append_assoc params (58 ∷ []) value)) in
    ap (λ (t : List ℕ). slice_range t (place.colon + 1) place.end) apart
    ∙ ap (λ (t : List ℕ). take (place.end - (place.colon + 1)) t) (drop_at (old ++ (params ++ 58 ∷ [])) value (place.colon + 1)
    (omega (arith, h.start, h.colon, length-append old (params ++ 58 ∷ []), length-append params (58 ∷ []))))
    ∙ take_all (place.end - (place.colon + 1)) value (omega (arith, h.end))

octets_stand : (old params value text : List ℕ) (place : Place) → Appends old params value text place →
    octets_at text place ≡ params ++ 58 ∷ value
octets_stand old params value text place h =
    ap (λ (t : List ℕ). slice_range t place.start place.end) h.whole
    ∙ ap (λ (t : List ℕ). take (place.end - place.start) t) (drop_at old (params ++ 58 ∷ value) place.start (sym h.start))
    ∙ take_all (place.end - place.start) (params ++ 58 ∷ value) (omega (arith, h.colon, h.end, length-append params (58 ∷ value)))

pub property_stands : (old params value text : List ℕ) (place : Place) → Appends old params value text place →
    property_at text place ≡ record { params = params_in params; value = value }
property_stands old params value text place h = λ i. record {
  params = params_in (params_stand old params value text place h i);
  value = value_stands old params value text place h i;
}

pub place_stands : (old params value text : List ℕ) (place : Place) → Appends old params value text place → IsParamsText params →
    IsUtf8 value → IsPlaceIn text place
place_stands old params value text place h lawful utf8 = record {
  begins = omega (arith, h.colon);
  parted = omega (arith, h.end);
  within = omega (
    arith,
    h.start,
    h.colon,
    h.end,
    ap length h.whole,
    length-append old (params ++ 58 ∷ value),
    length-append params (58 ∷ value),
  );
  params = subst IsParamsText (sym (params_stand old params value text place h)) lawful;
  value = subst IsUtf8 (sym (value_stands old params value text place h)) utf8;
  whole = octets_stand old params value text place h
      ∙ sym (λ i. params_stand old params value text place h i ++ 58 ∷ value_stands old params value text place h i);
}

-- ---- one place after another

pub place_of : (text : List ℕ) (places : List Place) (i : ℕ) (d : Place) → AllByRecursion (IsPlaceIn text) places → i < length places →
    IsPlaceIn text (get_or places i d)
place_of text [] i d h within = absurd (omega arith)
place_of text (p ∷ ps) zero d h within = h.0
place_of text (p ∷ ps) (suc i) d h within = place_of text ps i d h.1 (omega arith)

-- the property of one more place
pub properties_more : (text : List ℕ) (places : List Place) (i : ℕ) (d : Place) (made : List Property) → i < length places →
    made ≡ map (property_at text) (take i places) →
    made ++ property_at text (get_or places i d) ∷ [] ≡ map (property_at text) (take (i + 1) places)
properties_more text places i d made within e =
    ap (λ (ps : List Property). ps ++ property_at text (get_or places i d) ∷ []) e
    ∙ sym (ap (λ (ps : List Place). map (property_at text) ps) (take_more places i d within)
    ∙ map-append (property_at text) (take i places) (get_or places i d ∷ []))

-- ---- where a place is given

pub placed : {E : Type 0} (r : Result Place E) (place : Place) (P : Place → Type 0) → IfOk r (λ given. given ≡ place) → P place → IfOk r P
placed (Ok given) place P same h = subst P (sym same) h
placed (Err e) place P same h = tt

-- ---- in a text that was extended

pub places_extended : (old new : List ℕ) (places : List Place) → Extends old new → AllByRecursion (IsPlaceIn old) places →
    AllByRecursion (IsPlaceIn new) places
places_extended old new places extends h =
    subst (λ (text : List ℕ). AllByRecursion (IsPlaceIn text) places) (sym extends.1) (places_kept old extends.0 places h)

pub properties_extended : (old new : List ℕ) (places : List Place) → Extends old new → AllByRecursion (IsPlaceIn old) places →
    map (property_at new) places ≡ map (property_at old) places
properties_extended old new places extends h =
    ap (λ (text : List ℕ). map (property_at text) places) extends.1 ∙ properties_kept old extends.0 places h

-- one more place, of this property
pub properties_pushed : (old new : List ℕ) (before after : List Place) (place : Place) (property : Property) → Extends old new →
    AllByRecursion (IsPlaceIn old) before → after ≡ before ++ place ∷ [] → property_at new place ≡ property →
    map (property_at new) after ≡ map (property_at old) before ++ property ∷ []
properties_pushed old new before after place property extends h pushed is =
    ap (λ (ps : List Place). map (property_at new) ps) pushed
    ∙ map-append (property_at new) before (place ∷ [])
    ∙ (λ i. properties_extended old new before extends h i ++ is i ∷ [])
