-- All inputs are an inbox, and have a compaction.
use Rattle.std.proofs.Common.{refl, ℕ, Bool, List, [], ◌∷◌, map, inl, inr, Result, Ok, Err}
use Rattle.std.specs.List.{AllZip}
use Rattle.itip_message.specs.Cutting.{IsCutInto}
use Rattle.itip_message.specs.declared.error.MessageRefusal.{MessageRefusal}
use Rattle.itip_items.specs.declared.item.Item.{Item}
use Rattle.itip_message.proofs.SomeMessage.{some_message}
use Rattle.itip_message.specs.Scanned.{messages_of}
use Rattle.itip_message.proofs.Cuts.{cut_by_scan}
use Rattle.itip_inbox.specs.declared.refused.RefusedMessage.{RefusedMessage}
use Rattle.itip_inbox.specs.Inbox.{Placed, placed_of, IsAnswer, AreAnswers, heard_of, refusals_at, IsInbox, is_some_refused}
use Rattle.itip_inbox.specs.Compaction.{IsCompaction}
use Rattle.itip_inbox.proofs.ByOctets.{some_kept_octets}

some_answer : (text : List ℕ) → (answer : Result (List Item) MessageRefusal) × IsAnswer text answer
some_answer text = elim (some_message text) [ inl read ↦ (Ok read.0, read.1) | inr refused ↦ (Err refused.0, refused.1) ]

some_answers : (messages : List Placed) → (answers : List (Result (List Item) MessageRefusal)) × AreAnswers messages answers
some_answers [] = ([], tt)
some_answers (placed ∷ messages) =
    let first = some_answer placed.text in
    let rest = some_answers messages in
    (first.0 ∷ rest.0, (first.1, rest.1))

cuts_by_scan : (inputs : List (List ℕ)) → AllZip IsCutInto inputs (map messages_of inputs)
cuts_by_scan [] = tt
cuts_by_scan (input ∷ inputs) = (cut_by_scan input, cuts_by_scan inputs)

pub some_inbox : (inputs : List (List ℕ)) → (heard : List Item) × (refusals : List RefusedMessage) × IsInbox inputs heard refusals
some_inbox inputs =
    let given = some_answers (placed_of 0 (map messages_of inputs)) in (
      heard_of given.0,
      refusals_at (placed_of 0 (map messages_of inputs)) given.0,
      record {
        messages = map messages_of inputs;
        cut = cuts_by_scan inputs;
        hears =
            record { answers = given.0; each = given.1; heard_are = refl; refusals_are = refl };
      },
    )

pub some_compaction : (inputs : List (List ℕ)) → (octets : List ℕ) × (refused : Bool) × IsCompaction inputs octets refused
some_compaction inputs =
    let inbox = some_inbox inputs in
    let kept = some_kept_octets inbox.0 in
    (kept.0, is_some_refused inbox.1, record { heard = inbox.0; refusals = inbox.1; inbox = inbox.2; kept = kept.1; refused_is = refl })
