-- Messages that come after others of their input.
use Rattle.std.proofs.Common.{◌≡◌, ◌∙◌, sym, ap, refl, ℕ, ◌+◌, List, [], ◌∷◌, ◌++◌, map, subst, arith, Option, Result, Ok, Err}
use Rattle.std.proofs.lemmas.List.{map-append}
use Rattle.itip_explain.specs.declared.told.ToldItem.{ToldItem}
use Rattle.itip_items.specs.declared.item.Item.{Item}
use Rattle.itip_message.specs.declared.error.MessageRefusal.{MessageRefusal}
use Rattle.itip_inbox.specs.declared.refused.RefusedMessage.{RefusedMessage}
use Rattle.itip_inbox.specs.Following.{items_about, told_in, told_item, told_at}
use Rattle.itip_inbox.specs.Inbox.{placed_from, AreAnswers, refusals_at}
use Rattle.itip_inbox.specs.Placing.{later_refusal, later_told}
use Rattle.itip_inbox.specs.Streaming.{TellBeside}

-- the number of the next message
next_later : (first count : ℕ) → (first + count) + 1 ≡ (first + 1) + count
next_later first count = omega arith

-- what a message is does not depend on its number
answers_behind : (source first count : ℕ) (texts : List (List ℕ)) (answers : List (Result (List Item) MessageRefusal)) →
    AreAnswers (placed_from source first texts) answers → AreAnswers (placed_from source (first + count) texts) answers
answers_behind source first count [] [] each = tt
answers_behind source first count [] (answer ∷ answers) each = absurd each
answers_behind source first count (text ∷ texts) [] each = absurd each
answers_behind source first count (text ∷ texts) (answer ∷ answers) each = (
  each.0,
  subst (λ (n : ℕ). AreAnswers (placed_from source n texts) answers) (sym (next_later first count))
      (answers_behind source (first + 1) count texts answers each.1),
)

refusals_behind : (source first count : ℕ) (texts : List (List ℕ)) (answers : List (Result (List Item) MessageRefusal)) →
    refusals_at (placed_from source (first + count) texts) answers ≡
    map (later_refusal count) (refusals_at (placed_from source first texts) answers)
refusals_behind source first count [] answers = refl
refusals_behind source first count (text ∷ texts) [] = refl
refusals_behind source first count (text ∷ texts) (Ok items ∷ answers) =
    ap (λ (n : ℕ). refusals_at (placed_from source n texts) answers) (next_later first count) ∙
    refusals_behind source (first + 1) count texts answers
refusals_behind source first count (text ∷ texts) (Err cause ∷ answers) =
    ap (λ (rs : List RefusedMessage). (record { source = source; message = first + count; refusal = cause }) ∷ rs)
    (ap (λ (n : ℕ). refusals_at (placed_from source n texts) answers) (next_later first count) ∙
    refusals_behind source (first + 1) count texts answers)

told_in_behind : (source number count : ℕ) (items : List Item) →
    told_in (record { source = source; message = number + count }) items ≡
    map (later_told count) (told_in (record { source = source; message = number }) items)
told_in_behind source number count [] = refl
told_in_behind source number count (item ∷ items) =
    ap (λ (ts : List ToldItem). told_item (record { source = source; message = number + count }) item ∷ ts)
    (told_in_behind source number count items)

told_behind : (about : Option (List ℕ)) (source first count : ℕ) (texts : List (List ℕ))
    (answers : List (Result (List Item) MessageRefusal)) → told_at about (placed_from source (first + count) texts) answers ≡
    map (later_told count) (told_at about (placed_from source first texts) answers)
told_behind about source first count [] answers = refl
told_behind about source first count (text ∷ texts) [] = refl
told_behind about source first count (text ∷ texts) (Ok items ∷ answers) =
    let here : List ToldItem = told_in (record { source = source; message = first }) (items_about about items) in
    let rest : List ToldItem = told_at about (placed_from source (first + 1) texts) answers in
    ap (λ (ts : List ToldItem). ts ++ told_at about (placed_from source ((first + count) + 1) texts) answers)
    (told_in_behind source first count (items_about about items)) ∙
    ap (λ (n : ℕ). map (later_told count) here ++ told_at about (placed_from source n texts) answers) (next_later first count) ∙
    ap (λ (ts : List ToldItem). map (later_told count) here ++ ts) (told_behind about source (first + 1) count texts answers) ∙
    sym (map-append (later_told count) here rest)
told_behind about source first count (text ∷ texts) (Err cause ∷ answers) =
    ap (λ (n : ℕ). told_at about (placed_from source n texts) answers) (next_later first count) ∙
    told_behind about source (first + 1) count texts answers

pub beside_behind : (about : Option (List ℕ)) (kept : List Item) (source first count : ℕ) (texts : List (List ℕ)) (news : List Item)
    (refusals later : List RefusedMessage) (told followed : List ToldItem) → later ≡ map (later_refusal count) refusals →
    followed ≡ map (later_told count) told → TellBeside about kept (placed_from source first texts) news refusals told →
    TellBeside about kept (placed_from source (first + count) texts) news later followed
beside_behind about kept source first count texts news refusals later told followed later_is followed_is beside = record {
  items = beside.items;
  hears = record {
    answers = beside.hears.answers;
    each = answers_behind source first count texts beside.hears.answers beside.hears.each;
    heard_are = beside.hears.heard_are;
    refusals_are = later_is ∙ ap (map (later_refusal count)) beside.hears.refusals_are ∙
        sym (refusals_behind source first count texts beside.hears.answers);
  };
  tells = record {
    answers = beside.tells.answers;
    each = answers_behind source first count texts beside.tells.answers beside.tells.each;
    told_are = followed_is ∙ ap (map (later_told count)) beside.tells.told_are ∙
        sym (told_behind about source first count texts beside.tells.answers);
  };
  news_are = beside.news_are;
}
