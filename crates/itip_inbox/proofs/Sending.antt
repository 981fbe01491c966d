-- Messages to send, given what inputs tell.
use Rattle.std.proofs.Common.{◌≡◌, ◌≢◌, sym, subst, refl, ℕ, List, inr, Option, Result, Ok, Err, Vec, Global}
use Rattle.std.specs.Prelude.{OnOk, IfOk}
use Rattle.std.specs.Io.KnownBytes.{Appends}
use Rattle.std.proofs.KnownBytes.{Keeps-refl}
use Rattle.itip_items.specs.declared.item.Item.{Item}
use Rattle.itip_moment.specs.declared.stamp.Stamp.{Stamp}
use Rattle.itip_todo.specs.declared.property_name.PropertyName.{PropertyName}
use Rattle.itip_streams.specs.Written.{AppendsFront}
use Rattle.itip_writing.specs.Errands.{IsWritten, CannotBeWritten, LacksOf}
use Rattle.itip_writing.specs.declared.errand.Errand.{Errand}
use Rattle.itip_writing.specs.declared.error.WritingError.{WritingError}
use Rattle.itip_writing.specs.declared.error.WritingError.TheVariants.{NoMemory}
use Rattle.itip_writing.proofs.ErrandLaws.{written_of_kept, lacks_of_kept, cannot_of_kept}
use Rattle.itip_inbox.specs.declared.refused.RefusedMessage.{RefusedMessage}
use Rattle.itip_inbox.specs.declared.sent.Sent.{Sent}
use Rattle.itip_inbox.specs.declared.sent.Sent.TheVariants.{Done, Undone}
use Rattle.itip_inbox.specs.Inbox.{AreInputs, Holds, is_some_refused}
use Rattle.itip_inbox.specs.OfInbox.{WritesFront}
use Rattle.itip_inbox.specs.Sending.{IsMessage, Sends}

module _ (errand : Errand) (at : Stamp) (kept : List Item) (refusals : List RefusedMessage) {R : Type 0} (remaining : R → Option (List ℕ))
    (sources : List R) (holds : (inputs : List (List ℕ)) → AreInputs remaining sources inputs → Holds inputs kept refusals) where
  is_message : (octets : List ℕ) → IsWritten errand kept at octets → (inputs : List (List ℕ)) → AreInputs remaining sources inputs →
      IsMessage errand at inputs octets (is_some_refused refusals)
  is_message octets written inputs are =
      let here : Holds inputs kept refusals = holds inputs are in
      record {
        heard = here.heard;
        refusals = refusals;
        inbox = here.inbox;
        written = written_of_kept kept here.heard here.keeps errand at octets written;
        refused_is = refl;
      }

  pub message_front : (octets : List ℕ) → IsWritten errand kept at octets → (old new : Option (List ℕ)) → AppendsFront old new octets →
      (inputs : List (List ℕ)) → AreInputs remaining sources inputs → WritesFront (IsMessage errand at inputs) old new
  message_front octets written old new front inputs are =
      inr (octets, is_some_refused refusals, is_message octets written inputs are, front)

  -- it was written
  pub all_sent : {E : Type 0} (octets : List ℕ) (lacking : Vec PropertyName Global) → IsWritten errand kept at octets →
      LacksOf errand kept lacking.items → (old new : Option (List ℕ)) (r : Result Sent E) → OnOk r (Appends old new octets) →
      IfOk r (λ sent. sent ≡ Done (is_some_refused refusals) lacking) →
      IfOk r (λ sent. (inputs : List (List ℕ)) → AreInputs remaining sources inputs → Sends errand at inputs old new sent)
  all_sent octets lacking written lacks old new (Ok sent) appended is = λ inputs are.
      let here : Holds inputs kept refusals = holds inputs are in
      subst (λ (s : Sent). Sends errand at inputs old new s) (sym is) (
        record { output = octets; is_output = is_message octets written inputs are; appended = appended },
        record {
          heard = here.heard;
          refusals = refusals;
          inbox = here.inbox;
          lacks = lacks_of_kept kept here.heard here.keeps errand lacking.items lacks;
        },
      )
  all_sent octets lacking written lacks old new (Err e) appended is = tt

  -- it can't be written
  pub none_sent : (error cause : WritingError) → CannotBeWritten errand kept at error → cause ≡ error → cause ≢ NoMemory →
      (o : Option (List ℕ)) (inputs : List (List ℕ)) → AreInputs remaining sources inputs → Sends errand at inputs o o (Undone cause)
  none_sent error cause why same not_memory o inputs are =
      let here : Holds inputs kept refusals = holds inputs are in (
        record {
          heard = here.heard;
          refusals = refusals;
          inbox = here.inbox;
          why = cannot_of_kept kept here.heard here.keeps errand at cause
              (subst (λ (e : WritingError). CannotBeWritten errand kept at e) (sym same) why);
          not_memory = not_memory;
        },
        Keeps-refl o,
      )
