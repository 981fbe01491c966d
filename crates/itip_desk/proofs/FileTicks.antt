-- The tick that the first message of a file tells.
use Rattle.std.proofs.Common.{◌≡◌, ◌≢◌, ◌∙◌, sym, ap, refl, subst, ℕ, ◌<◌, ◌^◌, List, [], ◌++◌, length}
use Rattle.std.proofs.Common.{drop, arith, inl, inr, Option, Some, None}
use Rattle.std.specs.Prelude.{codes}
use Rattle.std.proofs.lemmas.List.{append_cancel_left}
use Rattle.std.specs.Fmt.{decimal}
use Rattle.itip_desk.specs.Desk.{Shown}
use Rattle.itip_desk.specs.DeskFile.{begins_text, message_text, moved_at, HasNumber, NamesOtherForm, TellsDesk, RefusesFile}
use Rattle.itip_desk.specs.FileReading.{IsBehind, first_text, TellsTick}
use Rattle.itip_desk.specs.declared.file_text.FileHead.{FileHead}
use Rattle.itip_desk.specs.declared.refusal.FileRefusal.TheVariants.{Broken}
use Rattle.itip_desk.proofs.FileNumbers.{has_number, one_number}
use Rattle.itip_desk.proofs.FileParsing.{version_end, between, tick_there, form_of_first}
use Rattle.itip_desk.proofs.FileTexts.{empty_or_begins}

abbrev form_name : List ℕ
form_name = begins_text ++ codes ";X-FORM="

not_empty : (head : Option FileHead) (at : ℕ) (bytes rest : List ℕ) → [] ≡ message_text head at bytes ++ rest → ⊥
not_empty head at bytes rest e = cc

no_octets : (form : ℕ) (after : List ℕ) → HasNumber [] form_name form after → ⊥
no_octets form after h = let e : [] ≡ form_name ++ (h.digits ++ after) = h.whole in cc

-- the empty file tells tick 0
pub nothing_told_tick : (octets : List ℕ) → octets ≡ [] → TellsTick octets 0
nothing_told_tick octets none = record {
  empty = λ is. refl;
  first = λ head at bytes rest is same. absurd (not_empty (Some head) at bytes rest (sym none ∙ same));
  fits = omega arith;
  this_form = λ other. no_octets other.0 other.1.after
      (subst (λ (o : List ℕ). HasNumber o form_name other.0 other.1.after) none other.1.named);
}

-- bytes that tell a desk name the form, and after it the tick
abbrev Named : List ℕ → List ℕ → Type 0
Named octets after = HasNumber octets form_name 1 after

pub first_named : (octets : List ℕ) (desk : Shown) → TellsDesk octets desk → (octets ≡ [] → ⊥) →
    (items : ℕ) × (tick : ℕ) × (rest : List ℕ) × (items < 2 ^ 64) × (tick < 2 ^ 64) × Named octets (first_text items tick rest)
first_named octets desk tells some = elim (empty_or_begins octets desk tells) [
  | inl none ↦ absurd (some none.0)
  | inr begins ↦ (
    length tells.file.items,
    desk.tick,
    decimal (moved_at desk.changed begins.0) ++ (version_end ++ (drop 57 begins.0.bytes ++ begins.1)),
    tells.file.few,
    tells.told.fits,
    form_of_first octets (record { items = length tells.file.items; tick = desk.tick }) (moved_at desk.changed begins.0) begins.0.bytes
        begins.1 begins.2,
  )
]

-- bytes that name no form are refused
pub no_form_named : (octets : List ℕ) → (octets ≡ [] → ⊥) → ((form : ℕ) (after : List ℕ) → HasNumber octets form_name form after → ⊥) →
    (number : Option ℕ) → RefusesFile octets (Broken number)
no_form_named octets some none number = (
  λ other. none other.0 other.1.after other.1.named,
  λ desk tells. let named = first_named octets desk tells some in
      none 1 (first_text named.0 named.1 named.2) named.5,
)

-- and so are those that name another
pub other_form_named : (octets : List ℕ) (form : ℕ) (after : List ℕ) → HasNumber octets form_name form after → form ≢ 1 →
    NamesOtherForm octets
other_form_named octets form after named other = (form, record { after = after; named = named }, other)

module _ (octets : List ℕ) (form : ℕ) (after : List ℕ) (named : HasNumber octets form_name form after) (is : form ≡ 1)
    (found : Option ℕ) (reads : (items tick : ℕ) (rest : List ℕ) → items < 2 ^ 64 → tick < 2 ^ 64 → after ≡ first_text items tick rest →
    found ≡ Some tick) where
  this_form : ¬ NamesOtherForm octets
  this_form other = other.2 ((one_number octets form_name other.0 form other.1.after after other.1.named named).0 ∙ is)

  some_octet : octets ≡ [] → ⊥
  some_octet none = no_octets form after (subst (λ (o : List ℕ). HasNumber o form_name form after) none named)

  some_same : (t u : ℕ) → Some t ≡ Some u → t ≡ u
  some_same t u e = cc

  none_some : (t : ℕ) → None ≡ Some t → ⊥
  none_some t e = cc

  pub tick_found : (tick : ℕ) → found ≡ Some tick → tick < 2 ^ 64 → TellsTick octets tick
  tick_found tick is_found fits = record {
    empty = λ none. absurd (some_octet none);
    first = λ head at bytes rest is_head same.
        let first = form_of_first octets head at bytes rest same in
        let here : after ≡ first_text head.items head.tick (decimal at ++ (version_end ++ (drop 57 bytes ++ rest))) =
        (one_number octets form_name form 1 after
        (first_text head.items head.tick (decimal at ++ (version_end ++ (drop 57 bytes ++ rest)))) named first).1 in
        some_same tick head.tick (sym is_found ∙ reads head.items head.tick (decimal at ++ (version_end ++ (drop 57 bytes ++ rest)))
        is_head.items is_head.tick here);
    fits = fits;
    this_form = this_form;
  }

  pub no_tick_found : found ≡ None → (number : Option ℕ) → RefusesFile octets (Broken number)
  no_tick_found none number = (
    this_form,
    λ desk tells.
        let first = first_named octets desk tells some_octet in
        let here : after ≡ first_text first.0 first.1 first.2 =
        (one_number octets form_name form 1 after (first_text first.0 first.1 first.2) named first.5).1 in
        none_some first.1 (sym none ∙ reads first.0 first.1 first.2 first.3 first.4 here),
  )

-- ---- after the form

-- a first message without a tick is not one of a file
module _ (after a : List ℕ) (behind : IsBehind after (codes ";X-ITEMS=") a) where
  pub tick_read : (parameters : List ℕ) (number : ℕ) (left : List ℕ) → a ≡ between ++ parameters →
      HasNumber parameters (codes ";X-TICK=") number left → (items tick : ℕ) (rest : List ℕ) → items < 2 ^ 64 → tick < 2 ^ 64 →
      after ≡ first_text items tick rest → Some number ≡ Some tick
  tick_read parameters number left cut h items tick rest items_fit fits same =
      ap Some (one_number parameters (codes ";X-TICK=") number tick left (codes ";X-MOVED=" ++ rest) h
      (tick_number parameters cut items tick rest items_fit fits same)).0
    where
      tick_number : (parameters : List ℕ) → a ≡ between ++ parameters → (items tick : ℕ) (rest : List ℕ) → items < 2 ^ 64 → tick < 2 ^ 64 →
          after ≡ first_text items tick rest → HasNumber parameters (codes ";X-TICK=") tick (codes ";X-MOVED=" ++ rest)
      tick_number parameters cut items tick rest items_fit fits same =
          let whole : parameters ≡ codes ";X-TICK=" ++ (decimal tick ++ (codes ";X-MOVED=" ++ rest)) =
          append_cancel_left between parameters (codes ";X-TICK=" ++ (decimal tick ++ (codes ";X-MOVED=" ++ rest)))
          (sym cut ∙ tick_there after a behind items tick rest items_fit same) in
          let h = has_number (codes ";X-TICK=") (codes ";X-MOVED=" ++ rest) tick fits refl in
          record { digits = h.digits; whole = whole ∙ h.whole; all = h.all; some = h.some; value = h.value; fits = h.fits }

  pub no_product : ((parameters : List ℕ) → a ≡ between ++ parameters → ⊥) → (items tick : ℕ) (rest : List ℕ) → items < 2 ^ 64 →
      tick < 2 ^ 64 → after ≡ first_text items tick rest → None ≡ Some tick
  no_product none items tick rest items_fit fits same =
      absurd (none (codes ";X-TICK=" ++ (decimal tick ++ (codes ";X-MOVED=" ++ rest)))
      (tick_there after a behind items tick rest items_fit same))

  pub no_tick_number : (parameters : List ℕ) → a ≡ between ++ parameters →
      ((number : ℕ) (left : List ℕ) → HasNumber parameters (codes ";X-TICK=") number left → ⊥) → (items tick : ℕ) (rest : List ℕ) →
      items < 2 ^ 64 → tick < 2 ^ 64 → after ≡ first_text items tick rest → None ≡ Some tick
  no_tick_number parameters cut none items tick rest items_fit fits same =
      let whole : parameters ≡ codes ";X-TICK=" ++ (decimal tick ++ (codes ";X-MOVED=" ++ rest)) =
      append_cancel_left between parameters (codes ";X-TICK=" ++ (decimal tick ++ (codes ";X-MOVED=" ++ rest)))
      (sym cut ∙ tick_there after a behind items tick rest items_fit same) in
      let h = has_number (codes ";X-TICK=") (codes ";X-MOVED=" ++ rest) tick fits refl in
      absurd (none tick (codes ";X-MOVED=" ++ rest)
      (record { digits = h.digits; whole = whole ∙ h.whole; all = h.all; some = h.some; value = h.value; fits = h.fits }))
