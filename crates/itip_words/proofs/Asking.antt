-- What options ask for, from what their values are read as.
use Rattle.std.proofs.Common.{◌≡◌, ℕ, List, Bool, true, false, Option, Some, None, Result, Ok, Err, refl, sym, ap, subst, ◌∙◌}
use Rattle.std.specs.Prelude.{IfOk, IfSome, IfNone, MatchBool, codes, is_some, nat_eq}
use Rattle.std.specs.Borrow.{Bor}
use Rattle.std.specs.Option.{option_copied, option_map}
use Rattle.std.specs.Cmp.Lexicographic.{pointwise}
use Rattle.std.proofs.lemmas.Option.{none-some}
use Rattle.std.proofs.lemmas.Slice.Eq.{bytes_eq-Decides}
use Rattle.itip_moment.specs.Spelling.{IsDateText}
use Rattle.itip_moment.specs.declared.day.Day.{Day}
use Rattle.itip_moment.specs.declared.stamp.Stamp.{Stamp}
use Rattle.itip_view.specs.declared.window.Window.{Window}
use Rattle.itip_words.specs.Asking.{IsDueDay, AsksScript, AsksRun, AsksWritten, AsksMessage, AsksWho, NoMessage}
use Rattle.itip_words.specs.Days.{numbered, is_today}
use Rattle.itip_words.specs.Finding.{Never, Finds}
use Rattle.itip_words.specs.Options.{Options, value_of, values_of, is_set}
use Rattle.itip_words.specs.Words.{IsScriptedOf}
use Rattle.itip_words.specs.Values.{address_of}
use Rattle.itip_words.specs.declared.asked.Asked.{Asked}
use Rattle.itip_words.specs.declared.filter.Written.{Written}
use Rattle.itip_words.specs.declared.words.Scripted.{Scripted}
use Rattle.itip_words.proofs.Finding.{found_some, found_none, finds_both}
use Rattle.itip_words.proofs.Given.{given, of_given}

-- what a test of a word tells
pub named : (word name : List ℕ) (test : Bool) → test ≡ pointwise nat_eq word name → test ≡ true → word ≡ name
named word name test is holds = (bytes_eq-Decides word name).0 (sym is ∙ holds)

pub some_copied : {T : Type 0} (o : Option (Bor T)) → is_some o ≡ is_some (option_copied o)
some_copied None = refl
some_copied (Some x) = refl

-- the two parts of what is found
pub ok_some : {T E : Type 0} (P : T → Type 0) (r : Result (Option T) E) → IfOk r (Finds P) → IfOk r (λ found. IfSome found P)
ok_some P (Ok found) h = found_some P found h
ok_some P (Err e) h = tt

pub ok_none : {T E : Type 0} (P : T → Type 0) (r : Result (Option T) E) → IfOk r (Finds P) → IfOk r (λ found. IfNone found (Never P))
ok_none P (Ok found) h = found_none P found h
ok_none P (Err e) h = tt

pub ok_both : {T E : Type 0} (P : T → Type 0) (r : Result (Option T) E) → IfOk r (λ found. IfSome found P) →
    IfOk r (λ found. IfNone found (Never P)) → IfOk r (Finds P)
ok_both P (Ok found) some none = finds_both P found some none
ok_both P (Err e) some none = tt

-- ---- scripts

module _ (options : Options) (desks from to : List ℕ) (desks_is : Some desks ≡ value_of (codes "desks") options)
    (from_is : Some from ≡ value_of (codes "from") options) (to_is : Some to ≡ value_of (codes "to") options) where
  pub script_asked : (why : Bool) → why ≡ is_set (codes "why") options → (r : Option Scripted) →
      IfSome r (λ scripted. IsScriptedOf desks from to scripted.desks scripted.window) → IfSome r (λ scripted. scripted.why ≡ why) →
      IfSome r (AsksScript options)
  script_asked why why_is None is same = tt
  script_asked why why_is (Some scripted) is same = record {
    desks = given _ desks _ desks_is is.number;
    first = given _ from _ from_is is.days.first;
    after = given _ to _ to_is is.days.last;
    why = same ∙ why_is;
  }

  pub no_script : (r : Option Scripted) → IfNone r ((count : ℕ) (window : Window) → IsScriptedOf desks from to count window → ⊥) →
      IfNone r ((scripted : Scripted) → AsksScript options scripted → ⊥)
  no_script None never = λ scripted asks. never scripted.desks scripted.window (record {
    number = of_given _ desks _ desks_is asks.desks;
    days = record { first = of_given _ from _ from_is asks.first; last = of_given _ to _ to_is asks.after };
  })
  no_script (Some scripted) never = tt

-- the same if no desk is loaded from a file
pub script_run : (options : Options) (r : Option Scripted) → values_of (codes "load") options ≡ None → IfSome r (AsksScript options) →
    IfNone r (Never (AsksScript options)) → Finds (AsksRun options) r
script_run options None none asks never = λ scripted is. never scripted is.script
script_run options (Some scripted) none asks never = record { script = asks; no_loads = none }

-- ---- days

-- the day that rows are due before
pub due_day_is : (today : Option Day) (text : List ℕ) (day : Day) →
    MatchBool (is_today text) (Some day ≡ today) (IsDateText text day.number) → IsDueDay (numbered today) text day.number
due_day_is today text day is =
    elim (is_today text) as (λ (b : Bool). MatchBool b (Some day ≡ today) (IsDateText text day.number) →
    MatchBool b (numbered today ≡ Some day.number) (IsDateText text day.number)) [
      | true ↦ λ e. sym (ap numbered e)
      | false ↦ λ h. h
    ] is

-- ---- what is written

module _ (options : Options) (clock : Option Stamp) where
  -- what is found for a word of this name
  pub written_by : (name word : List ℕ) (r : Option Written) → word ≡ name → Finds (AsksWritten name options clock) r →
      Finds (AsksWritten word options clock) r
  written_by name word r e h = subst (λ (w : List ℕ). Finds (AsksWritten w options clock) r) (sym e) h

  pub ok_written_by : {E : Type 0} (name word : List ℕ) (r : Result (Option Written) E) → word ≡ name →
      IfOk r (Finds (AsksWritten name options clock)) → IfOk r (Finds (AsksWritten word options clock))
  ok_written_by name word r e h = subst (λ (w : List ℕ). IfOk r (Finds (AsksWritten w options clock))) (sym e) h

  -- and what is found of messages, for a word of another name
  pub ok_message : {E : Type 0} (word : List ℕ) (r : Result (Option Written) E) →
      ((one : Written) → NoMessage word options clock → AsksWritten word options clock one → ⊥) →
      IfOk r (λ found. IfSome found (AsksWritten word options clock)) → IfOk r (λ found. IfNone found (NoMessage word options clock)) →
      IfOk r (Finds (AsksWritten word options clock))
  ok_message word (Ok None) others some none = λ one is. others one none is
  ok_message word (Ok (Some found)) others some none = some
  ok_message word (Err e) others some none = tt

-- ---- messages

module _ (options : Options) where
  -- the message that is asked for by a word of this name
  pub message_for : {E : Type 0} (name word : List ℕ) (r : Result (Option Asked) E) → word ≡ name →
      IfOk r (Finds (AsksMessage name options)) → IfOk r (Finds (AsksMessage word options))
  message_for name word r e h = subst (λ (w : List ℕ). IfOk r (Finds (AsksMessage w options))) (sym e) h

  -- the attendee whose address was read of a text
  pub who_asked : (text found : Option (List ℕ)) (one : List ℕ) → text ≡ value_of (codes "attendee") options →
      found ≡ option_map address_of text → found ≡ Some one → AsksWho options one
  who_asked text found one given is some = ap (option_map address_of) (sym given) ∙ sym is ∙ some

  pub nobody_asked : (text found : Option (List ℕ)) → text ≡ value_of (codes "attendee") options → found ≡ option_map address_of text →
      found ≡ None → (one : List ℕ) → AsksWho options one → ⊥
  nobody_asked text found given is none one who = none-some one (sym none ∙ is ∙ ap (option_map address_of) given ∙ who)
