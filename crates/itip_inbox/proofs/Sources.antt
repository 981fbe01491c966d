-- Inputs that are heard one after another, each by its reader.
use Rattle.std.proofs.Common.{◌≡◌, ◌∙◌, sym, ap, ℕ, suc, ◌+◌, List, [], ◌∷◌, ◌++◌, length, subst, arith, append_assoc, append-nil}
use Rattle.std.proofs.Common.{refl, Option}
use Rattle.std.specs.Prelude.{IfSome}
use Rattle.std.specs.List.{AllZip}
use Rattle.std.proofs.lemmas.List.{length-append}
use Rattle.itip_message.specs.Cutting.{IsCutInto}
use Rattle.itip_message.specs.Scanned.{messages_of}
use Rattle.itip_message.proofs.Cuts.{cut_by_scan}
use Rattle.itip_items.specs.declared.item.Item.{Item}
use Rattle.itip_state.specs.Kept.{AreKept}
use Rattle.itip_state.proofs.Keeping.{are_kept_by, kept_again}
use Rattle.itip_explain.specs.declared.told.ToldItem.{ToldItem}
use Rattle.itip_inbox.specs.declared.open_inbox.OpenInbox.{OpenInbox}
use Rattle.itip_inbox.specs.declared.refused.RefusedMessage.{RefusedMessage}
use Rattle.itip_inbox.specs.Following.{AreTold, TellAbout, HasHeard}
use Rattle.itip_inbox.specs.Inbox.{AreInputs, Placed, placed_from, placed_of, Hears, Holds}
use Rattle.itip_inbox.specs.Streaming.{KeepsMessages, HasGot, HearsInTurn}

-- one input more is cut
pub cuts_push : (inputs : List (List ℕ)) (all : List (List (List ℕ))) (input : List ℕ) (texts : List (List ℕ)) →
    AllZip IsCutInto inputs all → IsCutInto input texts → AllZip IsCutInto (inputs ++ input ∷ []) (all ++ texts ∷ [])
cuts_push [] [] input texts cut one = (one, tt)
cuts_push [] (x ∷ all) input texts cut one = absurd cut
cuts_push (i ∷ inputs) [] input texts cut one = absurd cut
cuts_push (i ∷ inputs) (x ∷ all) input texts cut one = (cut.0, cuts_push inputs all input texts cut.1 one)

pub placed_push : (source : ℕ) (all : List (List (List ℕ))) (texts : List (List ℕ)) →
    placed_of source (all ++ texts ∷ []) ≡ placed_of source all ++ placed_from (source + length all) 1 texts
placed_push source [] texts =
    let e : source ≡ source + 0 = omega arith in
    append-nil (placed_from source 1 texts) ∙ ap (λ (s : ℕ). placed_from s 1 texts) e
placed_push source (first ∷ all) texts =
    let e : (source + 1) + length all ≡ source + suc (length all) = omega arith in
    ap (λ (ms : List Placed). placed_from source 1 first ++ ms)
    (placed_push (source + 1) all texts ∙ ap (λ (s : ℕ). placed_of (source + 1) all ++ placed_from s 1 texts) e) ∙
    sym (append_assoc (placed_from source 1 first) (placed_of (source + 1) all) (placed_from (source + suc (length all)) 1 texts))

module _ {R : Type 0} (remaining : R → Option (List ℕ)) (about : Option (List ℕ)) where
  -- no input is heard yet
  pub turn_begins : (sources left : List R) (inputs : List (List ℕ)) (inbox : OpenInbox) → left ≡ sources →
      AreInputs remaining sources inputs →
      HasGot about [] inbox → inbox.source ≡ 0 → HearsInTurn remaining about inputs left inbox
  turn_begins sources left inputs inbox same are keeps is = record {
    done = [];
    rest = inputs;
    messages = [];
    whole = refl;
    are_left = subst (λ (l : List R). AreInputs remaining l inputs) (sym same) are;
    cut = tt;
    got = keeps;
    source_is = is;
  }

  module _ (inputs : List (List ℕ)) (one : R) (after : List R) (inbox now next : OpenInbox) (fresh : inbox.messages ≡ 0)
      (place : next.source ≡ inbox.source + 1) (same : (messages : List Placed) → HasGot about messages now →
      HasGot about messages next) (hears : (before : List Placed) → HasGot about before inbox →
      IfSome (remaining one) (λ input. HasGot about (before ++ placed_from inbox.source (inbox.messages + 1) (messages_of input))
      now)) where
    one_more : (done rest : List (List ℕ)) (messages : List (List (List ℕ))) → inputs ≡ done ++ rest →
        AreInputs remaining (one ∷ after) rest → AllZip IsCutInto done messages → HasGot about (placed_of 0 messages) inbox →
        inbox.source ≡ length messages → HearsInTurn remaining about inputs after next
    one_more done [] messages whole are cut keeps is = absurd are
    one_more done (input ∷ rest) messages whole are cut keeps is =
        let texts : List (List ℕ) = messages_of input in
        let heard : HasGot about (placed_of 0 messages ++ placed_from inbox.source (inbox.messages + 1) texts) now =
        subst (λ (o : Option (List ℕ)). IfSome o (λ input.
        HasGot about (placed_of 0 messages ++ placed_from inbox.source (inbox.messages + 1) (messages_of input)) now)) are.0
        (hears (placed_of 0 messages) keeps) in
        let nth : inbox.source ≡ 0 + length messages = omega (arith, is) in
        let to : placed_of 0 messages ++ placed_from inbox.source (inbox.messages + 1) texts ≡ placed_of 0 (messages ++ texts ∷ []) =
        ap (λ (b : ℕ). placed_of 0 messages ++ placed_from inbox.source (b + 1) texts) fresh ∙
        ap (λ (s : ℕ). placed_of 0 messages ++ placed_from s 1 texts) nth ∙ sym (placed_push 0 messages texts) in
        let longer : length (messages ++ texts ∷ []) ≡ length messages + 1 = length-append messages (texts ∷ []) in
        record {
          done = done ++ input ∷ [];
          rest = rest;
          messages = messages ++ texts ∷ [];
          whole = whole ∙ sym (append_assoc done (input ∷ []) rest);
          are_left = are.1;
          cut = cuts_push done messages input texts cut (cut_by_scan input);
          got = subst (λ (ms : List Placed). HasGot about ms next) to
              (same (placed_of 0 messages ++ placed_from inbox.source (inbox.messages + 1) texts) heard);
          source_is = omega (arith, place, is, longer);
        }

    -- the input of the next reader is heard
    pub turn_more : (left : List R) → HearsInTurn remaining about inputs left inbox → left ≡ one ∷ after →
        HearsInTurn remaining about inputs after next
    turn_more left so_far step =
        one_more so_far.done so_far.rest so_far.messages so_far.whole
        (subst (λ (l : List R). AreInputs remaining l so_far.rest) step so_far.are_left) so_far.cut so_far.got so_far.source_is

  no_more : (rest : List (List ℕ)) → AreInputs remaining [] rest → rest ≡ []
  no_more [] are = refl
  no_more (input ∷ rest) are = absurd are

  -- all inputs are heard
  module _ (inputs : List (List ℕ)) (left : List R) (inbox : OpenInbox) (so_far : HearsInTurn remaining about inputs left inbox)
      (none : left ≡ []) where
    all_cut : AllZip IsCutInto inputs so_far.messages
    all_cut =
        let over : so_far.rest ≡ [] =
        no_more so_far.rest (subst (λ (l : List R). AreInputs remaining l so_far.rest) none so_far.are_left) in
        let all : so_far.done ≡ inputs = sym (append-nil so_far.done) ∙ ap (λ (t : List (List ℕ)). so_far.done ++ t) (sym over) ∙
        sym so_far.whole in
        subst (λ (done : List (List ℕ)). AllZip IsCutInto done so_far.messages) all so_far.cut

    -- and once those that wait are, the inbox has all of them
    module _ (now : OpenInbox) (all : (messages : List Placed) → HasGot about messages inbox → KeepsMessages about messages now) where
      kept : KeepsMessages about (placed_of 0 so_far.messages) now
      kept = all (placed_of 0 so_far.messages) so_far.got

      pub turn_ends : Holds inputs now.state now.refusals
      turn_ends = record {
        heard = kept.heard;
        inbox = record { messages = so_far.messages; cut = all_cut; hears = kept.hears };
        keeps = kept.keeps;
      }

      pub turn_tells : TellAbout about inputs now.told.items
      turn_tells = record { messages = so_far.messages; cut = all_cut; tell = kept.tells }

-- what is kept, and then put together, is kept of the same
pub holds_closed : (inputs : List (List ℕ)) (kept whole : List Item) (refusals same : List RefusedMessage) → Holds inputs kept refusals →
    AreKept whole kept → same ≡ refusals → Holds inputs whole same
holds_closed inputs kept whole refusals same holds all is =
    subst (λ (noted : List RefusedMessage). Holds inputs whole noted) (sym is) (record {
      heard = holds.heard;
      inbox = holds.inbox;
      keeps = are_kept_by whole kept holds.heard (kept_again kept holds.heard holds.keeps) all;
    })

-- and so are the messages, whatever they are
pub heard_closed : (about : Option (List ℕ)) (kept whole : List Item) (refusals same : List RefusedMessage)
    (told followed : List ToldItem) →
    HasHeard about kept refusals told → AreKept whole kept → same ≡ refusals → followed ≡ told → HasHeard about whole same followed
heard_closed about kept whole refusals same told followed has all refusals_are told_are = record {
  messages = has.messages;
  heard = has.heard;
  hears = subst (λ (noted : List RefusedMessage). Hears has.messages has.heard noted) (sym refusals_are) has.hears;
  tells = subst (λ (more : List ToldItem). AreTold about has.messages more) (sym told_are) has.tells;
  keeps = are_kept_by whole kept has.heard (kept_again kept has.heard has.keeps) all;
}

-- messages that were heard are some
pub some_heard : (about : Option (List ℕ)) (messages : List Placed) (inbox : OpenInbox) → KeepsMessages about messages inbox →
    HasHeard about inbox.state inbox.refusals inbox.told.items
some_heard about messages inbox keeps = record {
  messages = messages;
  heard = keeps.heard;
  hears = keeps.hears;
  tells = keeps.tells;
  keeps = keeps.keeps;
}
