-- Inputs are one inbox, and have one compaction.
use Rattle.std.proofs.Common.{◌≡◌, ◌∙◌, sym, ap, refl, subst, ℕ, Bool, List, [], ◌∷◌, Result, Ok, Err}
use Rattle.std.specs.List.{AllZip}
use Rattle.itip_message.specs.Cutting.{IsCutInto}
use Rattle.itip_message.specs.declared.error.MessageRefusal.{MessageRefusal}
use Rattle.itip_items.specs.declared.item.Item.{Item}
use Rattle.itip_message.proofs.OneMessage.{one_message, one_cause, message_apart}
use Rattle.itip_state.specs.Kept.{SameItems}
use Rattle.itip_desk.specs.DeltaFormat.{delta_octets}
use Rattle.itip_desk.proofs.ReadDeltas.{one_order}
use Rattle.itip_message.proofs.OneCut.{one_cut}
use Rattle.itip_inbox.specs.declared.refused.RefusedMessage.{RefusedMessage}
use Rattle.itip_inbox.specs.Inbox.{Placed, placed_of, IsAnswer, AreAnswers, heard_of, refusals_at, IsInbox, is_some_refused}
use Rattle.itip_inbox.specs.Compaction.{AreKeptOctets, IsCompaction}

-- a text is one thing
one_answer : (text : List ℕ) (a b : Result (List Item) MessageRefusal) → IsAnswer text a → IsAnswer text b → a ≡ b
one_answer text (Ok xs) (Ok ys) h k = ap Ok (one_message text xs ys h k)
one_answer text (Ok xs) (Err g) h k = absurd (message_apart text xs g h k)
one_answer text (Err f) (Ok ys) h k = absurd (message_apart text ys f k h)
one_answer text (Err f) (Err g) h k = ap Err (one_cause text f g h k)

one_answers : (messages : List Placed) (xs ys : List (Result (List Item) MessageRefusal)) → AreAnswers messages xs →
    AreAnswers messages ys → xs ≡ ys
one_answers [] [] [] h k = refl
one_answers [] [] (y ∷ ys) h k = absurd k
one_answers [] (x ∷ xs) ys h k = absurd h
one_answers (m ∷ ms) [] ys h k = absurd h
one_answers (m ∷ ms) (x ∷ xs) [] h k = absurd k
one_answers (m ∷ ms) (x ∷ xs) (y ∷ ys) h k = λ i. one_answer m.text x y h.0 k.0 i ∷ one_answers ms xs ys h.1 k.1 i

one_cuts : (inputs : List (List ℕ)) (xs ys : List (List (List ℕ))) → AllZip IsCutInto inputs xs → AllZip IsCutInto inputs ys → xs ≡ ys
one_cuts [] [] [] h k = refl
one_cuts [] [] (y ∷ ys) h k = absurd k
one_cuts [] (x ∷ xs) ys h k = absurd h
one_cuts (t ∷ ts) [] ys h k = absurd h
one_cuts (t ∷ ts) (x ∷ xs) [] h k = absurd k
one_cuts (t ∷ ts) (x ∷ xs) (y ∷ ys) h k = λ i. one_cut t x y h.0 k.0 i ∷ one_cuts ts xs ys h.1 k.1 i

pub one_inbox : (inputs : List (List ℕ)) (heard others : List Item) (refusals more : List RefusedMessage) → IsInbox inputs heard refusals →
    IsInbox inputs others more → (heard ≡ others) × (refusals ≡ more)
one_inbox inputs heard others refusals more a b =
    let cut : a.messages ≡ b.messages = one_cuts inputs a.messages b.messages a.cut b.cut in
    let same : a.hears.answers ≡ b.hears.answers =
    one_answers (placed_of 0 b.messages) a.hears.answers b.hears.answers
    (subst (λ (ts : List (List (List ℕ))). AreAnswers (placed_of 0 ts) a.hears.answers) cut a.hears.each) b.hears.each in
    let refused : refusals_at (placed_of 0 a.messages) a.hears.answers ≡ refusals_at (placed_of 0 b.messages) b.hears.answers =
    λ i. refusals_at (placed_of 0 (cut i)) (same i) in (
      a.hears.heard_are ∙ ap heard_of same ∙ sym b.hears.heard_are,
      a.hears.refusals_are ∙ refused ∙ sym b.hears.refusals_are,
    )

one_octets : (heard : List Item) (octets others : List ℕ) → AreKeptOctets heard octets → AreKeptOctets heard others → octets ≡ others
one_octets heard octets others a b =
    let same : SameItems a.batch b.batch = λ i. (λ h. (b.kept i).1 ((a.kept i).0 h), λ h. (a.kept i).1 ((b.kept i).0 h)) in
    a.octets_are ∙ ap delta_octets (one_order a.batch b.batch a.ascend b.ascend same) ∙ sym b.octets_are

pub compaction_once : (inputs : List (List ℕ)) (octets others : List ℕ) (refused other : Bool) → IsCompaction inputs octets refused →
    IsCompaction inputs others other → octets ≡ others
compaction_once inputs octets others refused other a b =
    let one = one_inbox inputs a.heard b.heard a.refusals b.refusals a.inbox b.inbox in
    one_octets b.heard octets others (subst (λ (h : List Item). AreKeptOctets h octets) one.0 a.kept) b.kept

pub refused_once : (inputs : List (List ℕ)) (octets others : List ℕ) (refused other : Bool) → IsCompaction inputs octets refused →
    IsCompaction inputs others other → refused ≡ other
refused_once inputs octets others refused other a b = a.refused_is ∙
    ap is_some_refused (one_inbox inputs a.heard b.heard a.refusals b.refusals a.inbox b.inbox).1 ∙ sym b.refused_is
