-- Messages that no word asks for.
use Rattle.std.proofs.Common.{◌≡◌, ◌≢◌, ℕ, List, true, false, Option, Some, None, refl, sym, ◌∙◌, codes}
use Rattle.std.proofs.lemmas.Option.{none-some}
use Rattle.itip_moment.specs.declared.moment.Moment.{Moment}
use Rattle.itip_todo.specs.declared.attendee.PartStat.{PartStat}
use Rattle.itip_words.specs.Asking.{IsRead, AsksAbout, AsksReply, AsksWho, AsksMessage}
use Rattle.itip_words.specs.AskedValues.{IsMomentName}
use Rattle.itip_words.specs.Finding.{Never}
use Rattle.itip_words.specs.Options.{Options, value_of, values_of, is_set}
use Rattle.itip_words.specs.declared.asked.Asked.{Asked}
use Rattle.itip_words.specs.declared.asked.Asked.TheVariants as asked
use Rattle.itip_words.proofs.Finding.{apart}

module _ (options : Options) where
  pub never_request : None ≡ value_of (codes "draft") options → (one : Asked) → AsksMessage (codes "request") options one → ⊥
  never_request none (asked.Resend uid) is = apart (codes "request") (codes "resend") refl is.0
  never_request none (asked.Request draft) is = none-some _ (none ∙ is.1)
  never_request none (asked.Reply uid id attendee status percent) is = apart (codes "request") (codes "reply") refl is.0
  never_request none (asked.Refresh uid id attendee) is = apart (codes "request") (codes "refresh") refl is.0
  never_request none (asked.Cancel uid id) is = apart (codes "request") (codes "cancel") refl is.0
  never_request none (asked.CancelOnward uid id) is = apart (codes "request") (codes "cancel") refl is.0
  never_request none (asked.Remove uid id attendees) is = apart (codes "request") (codes "cancel") refl is.0

  -- all but a request name a to-do
  pub never_unnamed : (word : List ℕ) → word ≢ codes "request" → None ≡ value_of (codes "uid") options → (one : Asked) →
      AsksMessage word options one → ⊥
  never_unnamed word other none (asked.Resend uid) is = none-some _ (none ∙ is.1)
  never_unnamed word other none (asked.Request draft) is = other is.0
  never_unnamed word other none (asked.Reply uid id attendee status percent) is = none-some _ (none ∙ is.1.about.uid_is)
  never_unnamed word other none (asked.Refresh uid id attendee) is = none-some _ (none ∙ is.1.uid_is)
  never_unnamed word other none (asked.Cancel uid id) is = none-some _ (none ∙ is.1.uid_is)
  never_unnamed word other none (asked.CancelOnward uid id) is = none-some _ (none ∙ is.1.uid_is)
  never_unnamed word other none (asked.Remove uid id attendees) is = none-some _ (none ∙ is.1.uid_is)

  -- the others are about an instance if one is named
  pub never_placed : (word : List ℕ) → word ≢ codes "request" → word ≢ codes "resend" →
      Never (IsRead IsMomentName (value_of (codes "id") options)) → (one : Asked) → AsksMessage word options one → ⊥
  never_placed word other not_resend never (asked.Resend uid) is = not_resend is.0
  never_placed word other not_resend never (asked.Request draft) is = other is.0
  never_placed word other not_resend never (asked.Reply uid id attendee status percent) is = never id is.1.about.id_is
  never_placed word other not_resend never (asked.Refresh uid id attendee) is = never id is.1.id_is
  never_placed word other not_resend never (asked.Cancel uid id) is = never id is.1.id_is
  never_placed word other not_resend never (asked.CancelOnward uid id) is = never (Some id) is.1.id_is
  never_placed word other not_resend never (asked.Remove uid id attendees) is = never id is.1.id_is

  pub never_reply : ((uid : List ℕ) (id : Option Moment) (attendee : List ℕ) (status : PartStat) (percent : Option ℕ) →
      AsksReply options uid id attendee status percent → ⊥) → (one : Asked) → AsksMessage (codes "reply") options one → ⊥
  never_reply never (asked.Resend uid) is = apart (codes "reply") (codes "resend") refl is.0
  never_reply never (asked.Request draft) is = apart (codes "reply") (codes "request") refl is.0
  never_reply never (asked.Reply uid id attendee status percent) is = never _ _ _ _ _ is.1
  never_reply never (asked.Refresh uid id attendee) is = apart (codes "reply") (codes "refresh") refl is.0
  never_reply never (asked.Cancel uid id) is = apart (codes "reply") (codes "cancel") refl is.0
  never_reply never (asked.CancelOnward uid id) is = apart (codes "reply") (codes "cancel") refl is.0
  never_reply never (asked.Remove uid id attendees) is = apart (codes "reply") (codes "cancel") refl is.0

  pub never_refresh : Never (AsksWho options) → (one : Asked) → AsksMessage (codes "refresh") options one → ⊥
  never_refresh never (asked.Resend uid) is = apart (codes "refresh") (codes "resend") refl is.0
  never_refresh never (asked.Request draft) is = apart (codes "refresh") (codes "request") refl is.0
  never_refresh never (asked.Reply uid id attendee status percent) is = apart (codes "refresh") (codes "reply") refl is.0
  never_refresh never (asked.Refresh uid id attendee) is = never _ is.2
  never_refresh never (asked.Cancel uid id) is = apart (codes "refresh") (codes "cancel") refl is.0
  never_refresh never (asked.CancelOnward uid id) is = apart (codes "refresh") (codes "cancel") refl is.0
  never_refresh never (asked.Remove uid id attendees) is = apart (codes "refresh") (codes "cancel") refl is.0

  -- what is cancelled onward is an instance, and nobody is removed
  pub never_onward : is_set (codes "onward") options ≡ true →
      ((uid : List ℕ) (id : Moment) → AsksAbout options uid (Some id) → values_of (codes "attendee") options ≡ None → ⊥) → (one : Asked) →
      AsksMessage (codes "cancel") options one → ⊥
  never_onward onward never (asked.Resend uid) is = apart (codes "cancel") (codes "resend") refl is.0
  never_onward onward never (asked.Request draft) is = apart (codes "cancel") (codes "request") refl is.0
  never_onward onward never (asked.Reply uid id attendee status percent) is = apart (codes "cancel") (codes "reply") refl is.0
  never_onward onward never (asked.Refresh uid id attendee) is = apart (codes "cancel") (codes "refresh") refl is.0
  never_onward onward never (asked.Cancel uid id) is = let bad : true ≡ false = sym onward ∙ is.3 in absurd cc
  never_onward onward never (asked.CancelOnward uid id) is = never _ id is.1 is.2
  never_onward onward never (asked.Remove uid id attendees) is = let bad : true ≡ false = sym onward ∙ is.3 in absurd cc

  -- other words ask for no message
  pub never_message : (word : List ℕ) → word ≢ codes "request" → word ≢ codes "resend" → word ≢ codes "reply" →
      word ≢ codes "refresh" → word ≢ codes "cancel" → (one : Asked) → AsksMessage word options one → ⊥
  never_message word a b c d e (asked.Resend uid) is = b is.0
  never_message word a b c d e (asked.Request draft) is = a is.0
  never_message word a b c d e (asked.Reply uid id attendee status percent) is = c is.0
  never_message word a b c d e (asked.Refresh uid id attendee) is = d is.0
  never_message word a b c d e (asked.Cancel uid id) is = e is.0
  never_message word a b c d e (asked.CancelOnward uid id) is = e is.0
  never_message word a b c d e (asked.Remove uid id attendees) is = e is.0

-- an instance that isn't named is none
pub no_instance : (o : Option (List ℕ)) (id : Moment) → IsRead IsMomentName o None → IsRead IsMomentName o (Some id) → ⊥
no_instance None id none some = some
no_instance (Some text) id none some = none
