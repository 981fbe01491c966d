-- The answers to messages: their items, or a refusal.
use Rattle.std.proofs.Common.{◌≡◌, ◌∙◌, sym, ap, refl, ℕ, List, [], ◌∷◌, ◌++◌, append_assoc, append-nil, Option, Result, Ok, Err}
use Rattle.itip_explain.specs.declared.told.ToldItem.{ToldItem}
use Rattle.itip_items.specs.declared.item.Item.{Item}
use Rattle.itip_message.specs.Message.{ReadsMessage, RefusesMessage}
use Rattle.itip_message.specs.declared.error.MessageRefusal.{MessageRefusal}
use Rattle.itip_inbox.specs.declared.refused.RefusedMessage.{RefusedMessage}
use Rattle.itip_inbox.specs.Following.{items_about, told_in, place_of, told_at, AreTold}
use Rattle.itip_inbox.specs.Inbox.{Placed, AreAnswers, heard_of, refusals_at, Hears}

pub answers_both : (ms ns : List Placed) (xs ys : List (Result (List Item) MessageRefusal)) → AreAnswers ms xs → AreAnswers ns ys →
    AreAnswers (ms ++ ns) (xs ++ ys)
answers_both [] ns [] ys each more = more
answers_both [] ns (x ∷ xs) ys each more = absurd each
answers_both (m ∷ ms) ns [] ys each more = absurd each
answers_both (m ∷ ms) ns (x ∷ xs) ys each more = (each.0, answers_both ms ns xs ys each.1 more)

pub heard_both : (xs ys : List (Result (List Item) MessageRefusal)) → heard_of (xs ++ ys) ≡ heard_of xs ++ heard_of ys
heard_both [] ys = refl
heard_both (Ok items ∷ xs) ys = ap (λ (t : List Item). items ++ t) (heard_both xs ys) ∙ sym (append_assoc items (heard_of xs) (heard_of ys))
heard_both (Err cause ∷ xs) ys = heard_both xs ys

pub refusals_both : (ms ns : List Placed) (xs ys : List (Result (List Item) MessageRefusal)) → AreAnswers ms xs →
    refusals_at (ms ++ ns) (xs ++ ys) ≡ refusals_at ms xs ++ refusals_at ns ys
refusals_both [] ns [] ys each = refl
refusals_both [] ns (x ∷ xs) ys each = absurd each
refusals_both (m ∷ ms) ns [] ys each = absurd each
refusals_both (m ∷ ms) ns (Ok items ∷ xs) ys each = refusals_both ms ns xs ys each.1
refusals_both (m ∷ ms) ns (Err cause ∷ xs) ys each =
    ap (λ (t : List RefusedMessage). (record { source = m.source; message = m.message; refusal = cause }) ∷ t)
    (refusals_both ms ns xs ys each.1)

told_both : (about : Option (List ℕ)) (ms ns : List Placed) (xs ys : List (Result (List Item) MessageRefusal)) → AreAnswers ms xs →
    told_at about (ms ++ ns) (xs ++ ys) ≡ told_at about ms xs ++ told_at about ns ys
told_both about [] ns [] ys each = refl
told_both about [] ns (x ∷ xs) ys each = absurd each
told_both about (m ∷ ms) ns [] ys each = absurd each
told_both about (m ∷ ms) ns (Ok items ∷ xs) ys each =
    ap (λ (t : List ToldItem). told_in (place_of m) (items_about about items) ++ t) (told_both about ms ns xs ys each.1) ∙
    sym (append_assoc (told_in (place_of m) (items_about about items)) (told_at about ms xs) (told_at about ns ys))
told_both about (m ∷ ms) ns (Err cause ∷ xs) ys each = told_both about ms ns xs ys each.1

-- ---- messages after others

pub hears_both : (ms ns : List Placed) (xs ys : List Item) (rs qs : List RefusedMessage) → Hears ms xs rs → Hears ns ys qs →
    Hears (ms ++ ns) (xs ++ ys) (rs ++ qs)
hears_both ms ns xs ys rs qs one two = record {
  answers = one.answers ++ two.answers;
  each = answers_both ms ns one.answers two.answers one.each two.each;
  heard_are = ap (λ (t : List Item). t ++ ys) one.heard_are ∙ ap (λ (t : List Item). heard_of one.answers ++ t) two.heard_are ∙
      sym (heard_both one.answers two.answers);
  refusals_are = ap (λ (t : List RefusedMessage). t ++ qs) one.refusals_are ∙
      ap (λ (t : List RefusedMessage). refusals_at ms one.answers ++ t) two.refusals_are ∙
      sym (refusals_both ms ns one.answers two.answers one.each);
}

pub tells_both : (about : Option (List ℕ)) (ms ns : List Placed) (ts us : List ToldItem) → AreTold about ms ts → AreTold about ns us →
    AreTold about (ms ++ ns) (ts ++ us)
tells_both about ms ns ts us one two = record {
  answers = one.answers ++ two.answers;
  each = answers_both ms ns one.answers two.answers one.each two.each;
  told_are = ap (λ (t : List ToldItem). t ++ us) one.told_are ∙ ap (λ (t : List ToldItem). told_at about ms one.answers ++ t) two.told_are ∙
      sym (told_both about ms ns one.answers two.answers one.each);
}

-- ---- one message more

module _ (messages : List Placed) (heard : List Item) (refusals : List RefusedMessage) (so_far : Hears messages heard refusals)
    (one : Placed) where
  pub hears_items : (items : List Item) → ReadsMessage one.text items → Hears (messages ++ one ∷ []) (heard ++ items) refusals
  hears_items items reads = record {
    answers = so_far.answers ++ Ok items ∷ [];
    each = answers_both messages (one ∷ []) so_far.answers (Ok items ∷ []) so_far.each (reads, tt);
    heard_are = ap (λ (t : List Item). t ++ items) so_far.heard_are ∙
        ap (λ (t : List Item). heard_of so_far.answers ++ t) (sym (append-nil items)) ∙ sym (heard_both so_far.answers (Ok items ∷ []));
    refusals_are = so_far.refusals_are ∙ sym (append-nil (refusals_at messages so_far.answers)) ∙
        sym (refusals_both messages (one ∷ []) so_far.answers (Ok items ∷ []) so_far.each);
  }

  pub hears_refusal : (cause : MessageRefusal) → RefusesMessage one.text cause → Hears (messages ++ one ∷ []) heard
      (refusals ++ (record { source = one.source; message = one.message; refusal = cause }) ∷ [])
  hears_refusal cause refuses = record {
    answers = so_far.answers ++ Err cause ∷ [];
    each = answers_both messages (one ∷ []) so_far.answers (Err cause ∷ []) so_far.each (refuses, tt);
    heard_are = so_far.heard_are ∙ sym (append-nil (heard_of so_far.answers)) ∙ sym (heard_both so_far.answers (Err cause ∷ []));
    refusals_are = ap (λ (t : List RefusedMessage). t ++
        (record { source = one.source; message = one.message; refusal = cause }) ∷ []) so_far.refusals_are ∙
        sym (refusals_both messages (one ∷ []) so_far.answers (Err cause ∷ []) so_far.each);
  }

pub hears_none : Hears [] [] []
hears_none = record { answers = []; each = tt; heard_are = refl; refusals_are = refl }

-- ---- what is followed

module _ (about : Option (List ℕ)) (messages : List Placed) (told : List ToldItem) (so_far : AreTold about messages told)
    (one : Placed) where
  pub tells_items : (items : List Item) → ReadsMessage one.text items →
      AreTold about (messages ++ one ∷ []) (told ++ told_in (place_of one) (items_about about items))
  tells_items items reads =
      let here : List ToldItem = told_in (place_of one) (items_about about items) in
      record {
        answers = so_far.answers ++ Ok items ∷ [];
        each = answers_both messages (one ∷ []) so_far.answers (Ok items ∷ []) so_far.each (reads, tt);
        told_are = ap (λ (t : List ToldItem). t ++ here) so_far.told_are ∙
            ap (λ (t : List ToldItem). told_at about messages so_far.answers ++ t) (sym (append-nil here)) ∙
            sym (told_both about messages (one ∷ []) so_far.answers (Ok items ∷ []) so_far.each);
      }

  pub tells_refusal : (cause : MessageRefusal) → RefusesMessage one.text cause → AreTold about (messages ++ one ∷ []) told
  tells_refusal cause refuses = record {
    answers = so_far.answers ++ Err cause ∷ [];
    each = answers_both messages (one ∷ []) so_far.answers (Err cause ∷ []) so_far.each (refuses, tt);
    told_are = so_far.told_are ∙ sym (append-nil (told_at about messages so_far.answers)) ∙
        sym (told_both about messages (one ∷ []) so_far.answers (Err cause ∷ []) so_far.each);
  }

pub tells_none : (about : Option (List ℕ)) → AreTold about [] []
tells_none about = record { answers = []; each = tt; told_are = refl }
