-- What is written of inputs.
use Rattle.std.proofs.Common.{◌≡◌, ◌∙◌, sym, ap, refl, subst, true, false, ℕ, ◌+◌, ◌<◌, ◌≤◌, Bool, List, [], ◌∷◌, ◌++◌, length, take}
use Rattle.std.proofs.Common.{drop, get_or}
use Rattle.std.proofs.Common.{inl, inr, append_assoc, take-append-drop, Option, Result, Ok, Err}
use Rattle.std.specs.Prelude.{OnErr}
use Rattle.std.specs.Io.KnownBytes.{Appends}
use Rattle.std.proofs.KnownBytes.{Appends-nil, Appends-trans}
use Rattle.std.proofs.lemmas.List.{take_more, take_all}
use Rattle.itip_items.specs.declared.item.Item.{Item}
use Rattle.itip_state.specs.Kept.{AreKept, IsItemsOf}
use Rattle.itip_view.specs.ByUid.{AreAsked, AreFewLeft, AreTooManyLeft}
use Rattle.itip_view.specs.Rows.{row_limit}
use Rattle.itip_view.specs.Showing.{AreRowsWhere}
use Rattle.itip_view.specs.declared.by_uid.RowsByUid.{RowsByUid}
use Rattle.itip_view.specs.declared.row.Row.{Row}
use Rattle.itip_view.specs.declared.window.Window.{Window}
use Rattle.itip_view.proofs.OneList.{one_where, few_or_too_many}
use Rattle.itip_view.proofs.Left.{left_where, too_many_where}
use Rattle.itip_view.proofs.OfKept.{rows_where_of_kept, many_where_of_kept}
use Rattle.itip_desk.specs.DeltaFormat.{delta_octets}
use Rattle.itip_desk.specs.Refusals.{refused_text}
use Rattle.itip_desk.proofs.ReadDeltas.{one_order}
use Rattle.itip_streams.specs.Written.{AppendsFront, MovesOut, WritesOutput}
use Rattle.itip_inbox.specs.declared.refused.RefusedMessage.{RefusedMessage}
use Rattle.itip_inbox.specs.Inbox.{AreInputs, Holds, is_some_refused}
use Rattle.itip_inbox.specs.Compaction.{IsCompaction, WritesSoFar}
use Rattle.itip_inbox.specs.OfInbox.{WritesKept, WritesKeptFront}
use Rattle.itip_inbox.specs.TaskList.{IsTextWhere, IsListed}
use Rattle.itip_inbox.proofs.Octets.{octets_none, octets_both, octets_push}
use Rattle.itip_inbox.proofs.OneInbox.{one_inbox}

-- a fact that holds, at a fault
pub on_err : {T E P : Type 0} (r : Result T E) → P → OnErr r P
on_err (Ok x) p = tt
on_err (Err e) p = p

-- ---- items, one after another

pub items_none : (o : Option (List ℕ)) (kept : List ℕ) → kept ≡ [] → WritesSoFar o o [] kept
items_none o kept none = record { written = []; octets_are = octets_none ∙ sym none; appended = Appends-nil o }

items_push : (old mid : Option (List ℕ)) (done : List Item) (item : Item) (kept grown : List ℕ) → WritesSoFar old mid done kept →
    grown ≡ kept ++ item.bytes → WritesSoFar old mid (done ++ item ∷ []) grown
items_push old mid done item kept grown so_far is = record {
  written = so_far.written;
  octets_are = octets_push done item ∙ ap (λ (t : List ℕ). t ++ item.bytes) so_far.octets_are ∙
      append_assoc so_far.written kept item.bytes ∙ ap (λ (t : List ℕ). so_far.written ++ t) (sym is);
  appended = so_far.appended;
}

-- one item more is kept
pub items_more : (old mid : Option (List ℕ)) (items : List Item) (i : ℕ) (item : Item) (kept grown bytes : List ℕ) →
    WritesSoFar old mid (take i items) kept → i < length items → item ≡ get_or items i item
    → bytes ≡ item.bytes → grown ≡ kept ++ bytes → WritesSoFar old mid (take (i + 1) items) grown
items_more old mid items i item kept grown bytes so_far within is its grown_is =
    let one_more : take (i + 1) items ≡ take i items ++ item ∷ [] = take_more items i item within ∙
    ap (λ (x : Item). take i items ++ x ∷ []) (sym is) in
    subst (λ (done : List Item). WritesSoFar old mid done grown) (sym one_more)
    (items_push old mid (take i items) item kept grown so_far (grown_is ∙ ap (λ (t : List ℕ). kept ++ t) its))

-- a prefix of what is kept is written
pub items_moved : (old mid new : Option (List ℕ)) (done : List Item) (kept rest : List ℕ) → WritesSoFar old mid done kept →
    MovesOut mid new kept rest → WritesSoFar old new done rest
items_moved old mid new done kept rest so_far moved = record {
  written = so_far.written ++ moved.front;
  octets_are = so_far.octets_are ∙ ap (λ (t : List ℕ). so_far.written ++ t) moved.whole ∙
      sym (append_assoc so_far.written moved.front rest);
  appended = Appends-trans old mid new so_far.written moved.front so_far.appended moved.appended;
}

-- if a part of what is kept is written, a prefix of all is
pub items_front : (old mid new : Option (List ℕ)) (items : List Item) (i : ℕ) (kept : List ℕ) → WritesSoFar old mid (take i items) kept →
    AppendsFront mid new kept → AppendsFront old new (delta_octets items)
items_front old mid new items i kept so_far front =
    let all : delta_octets items ≡ delta_octets (take i items) ++ delta_octets (drop i items) =
    ap delta_octets (sym (take-append-drop i items)) ∙ octets_both (take i items) (drop i items) in
    record {
      front = so_far.written ++ front.front;
      rest = front.rest ++ delta_octets (drop i items);
      whole = all ∙ ap (λ (t : List ℕ). t ++ delta_octets (drop i items)) (so_far.octets_are ∙
          ap (λ (t : List ℕ). so_far.written ++ t) front.whole ∙ sym (append_assoc so_far.written front.front front.rest))
          ∙ append_assoc (so_far.written ++ front.front) front.rest (delta_octets (drop i items));
      appended = Appends-trans old mid new so_far.written front.front so_far.appended front.appended;
    }

-- all is written
pub items_end : (old mid new : Option (List ℕ)) (items : List Item) (i : ℕ) (kept : List ℕ) → WritesSoFar old mid (take i items) kept →
    length items ≤ i → Appends mid new kept → Appends old new (delta_octets items)
items_end old mid new items i kept so_far past appended =
    subst (λ (t : List ℕ). Appends old new t) (sym so_far.octets_are ∙ ap delta_octets (take_all i items past))
    (Appends-trans old mid new so_far.written kept so_far.appended appended)

-- ---- compaction

-- the items of what is kept are the kept items of what was heard
kept_items : (batch kept heard : List Item) → IsItemsOf batch kept → AreKept kept heard → AreKept batch heard
kept_items batch kept heard is keeps i = (λ h. (keeps i).0 ((is.same i).0 h), λ k. (is.same i).1 ((keeps i).1 k))

pub compaction_written : (old new : Option (List ℕ)) (inputs : List (List ℕ)) (kept batch : List Item) (refusals : List RefusedMessage)
    (refused : Bool) → Holds inputs kept refusals → IsItemsOf batch kept
    → Appends old new (delta_octets batch) → refused ≡ is_some_refused refusals → WritesOutput (IsCompaction inputs) old new refused
compaction_written old new inputs kept batch refusals refused holds items appended is = record {
  output = delta_octets batch;
  is_output = record {
    heard = holds.heard;
    refusals = refusals;
    inbox = holds.inbox;
    kept = record { batch = batch; ascend = items.ascend; kept = kept_items batch kept holds.heard items holds.keeps; octets_are = refl };
    refused_is = is;
  };
  appended = appended;
}

-- items of a set are the same list
pub same_items : (items batch set : List Item) → IsItemsOf items set → IsItemsOf batch set → items ≡ batch
same_items items batch set a b =
    one_order items batch a.ascend b.ascend (λ i. (λ h. (b.same i).1 ((a.same i).0 h), λ h. (a.same i).1 ((b.same i).0 h)))

-- the batch of a compaction is that of what is kept
its_batch : (inputs : List (List ℕ)) (octets : List ℕ) (kept : List Item) (refusals : List RefusedMessage) (refused : Bool) →
    Holds inputs kept refusals → (is : IsCompaction inputs octets refused) → IsItemsOf is.kept.batch kept
its_batch inputs octets kept refusals refused holds is =
    let one : is.heard ≡ holds.heard = (one_inbox inputs is.heard holds.heard is.refusals refusals is.inbox holds.inbox).0 in
    let are : AreKept is.kept.batch holds.heard = subst (λ (heard : List Item). AreKept is.kept.batch heard) one is.kept.kept in
    record { ascend = is.kept.ascend; same = λ i. (λ h. (holds.keeps i).1 ((are i).0 h), λ h. (are i).1 ((holds.keeps i).0 h)) }

-- ---- the task list

-- the bytes of the rows of what is kept are those of what was heard
pub text_of_rows : (octets : List Row → List ℕ) (P : Row → Type 0) (kept heard : List Item) (window : Window) (rows : List Row)
    (text : List ℕ) → AreKept kept heard → AreRowsWhere P kept window rows → length rows ≤ row_limit → text ≡ octets rows →
    IsTextWhere octets P heard window text
text_of_rows octets P kept heard window rows text are rows_are few is =
    record { rows = rows; are_rows = rows_where_of_kept P kept heard are window rows rows_are; few = few; text_is = is }

pub listed_once : (octets : List Row → List ℕ) (P : Row → Type 0) (heard : List Item) (window : Window) (text other : List ℕ)
    (refusal more : Bool) → IsListed octets P heard window text refusal → IsListed octets P heard window other more → text ≡ other
listed_once octets P heard window text other refusal more (inl a) (inl b) =
    a.0.text_is ∙ ap octets (one_where P heard window a.0.rows b.0.rows a.0.are_rows b.0.are_rows) ∙ sym b.0.text_is
listed_once octets P heard window text other refusal more (inl a) (inr b) =
    absurd (few_or_too_many P heard window a.0.rows a.0.are_rows a.0.few b.0)
listed_once octets P heard window text other refusal more (inr a) (inl b) =
    absurd (few_or_too_many P heard window b.0.rows b.0.are_rows b.0.few a.0)
listed_once octets P heard window text other refusal more (inr a) (inr b) = a.1 ∙ sym b.1

module _ (octets : List Row → List ℕ) (P : Row → Type 0) (kept : List Item) (window : Window) (asked : RowsByUid)
    (are_asked : AreAsked P kept window asked) where
  few_listed : (number : ℕ) (few : AreFewLeft asked number) (heard : List Item) → AreKept kept heard →
      IsListed octets P heard window (octets few.rows) false
  few_listed number few heard are =
      inl (
        text_of_rows octets P kept heard window few.rows (octets few.rows) are
            ((left_where P kept window asked are_asked few.rows).0 few.are_left)
            (subst (λ (n : ℕ). n ≤ row_limit) (sym few.number_is) few.few) refl,
        refl,
      )

  many_listed : AreTooManyLeft asked → (heard : List Item) → AreKept kept heard → IsListed octets P heard window (refused_text 31) true
  many_listed many heard are =
      inr (
        many_where_of_kept P kept heard are window (too_many_where P kept window asked are_asked many),
        refl,
        refl,
      )

  module _ (old new : Option (List ℕ)) where
    pub writes_list : (number : ℕ) (few : AreFewLeft asked number) → Appends old new (octets few.rows) →
        WritesKept (λ heard. IsListed octets P heard window) kept old new false
    writes_list number few appended = record { text = octets few.rows; is_text = few_listed number few; appended = appended }

    pub list_front : (number : ℕ) (few : AreFewLeft asked number) → AppendsFront old new (octets few.rows) →
        WritesKeptFront (λ heard. IsListed octets P heard window) kept old new
    list_front number few front =
        inr (record { text = octets few.rows; refusal = false; is_text = few_listed number few; appended = front })

    pub refuses_list : AreTooManyLeft asked → Appends old new (refused_text 31) →
        WritesKept (λ heard. IsListed octets P heard window) kept old new true
    refuses_list many appended = record { text = refused_text 31; is_text = many_listed many; appended = appended }

    pub refusal_front : AreTooManyLeft asked → AppendsFront old new (refused_text 31) →
        WritesKeptFront (λ heard. IsListed octets P heard window) kept old new
    refusal_front many front =
        inr (record { text = refused_text 31; refusal = true; is_text = many_listed many; appended = front })

-- ---- if a fault ends it

module _ {R : Type 0} (remaining : R → Option (List ℕ)) (sources : List R) (old new : Option (List ℕ)) (kept : List Item)
    (refusals : List RefusedMessage)
    (holds : (inputs : List (List ℕ)) → AreInputs remaining sources inputs → Holds inputs kept refusals) where
  pub compaction_front : (batch : List Item) → IsItemsOf batch kept → AppendsFront old new (delta_octets batch) →
      (inputs : List (List ℕ)) → AreInputs remaining sources inputs → (octets : List ℕ) (refused : Bool) →
      IsCompaction inputs octets refused → AppendsFront old new octets
  compaction_front batch items front inputs are octets refused is =
      let same : batch ≡ is.kept.batch =
      same_items batch is.kept.batch kept items (its_batch inputs octets kept refusals refused (holds inputs are) is) in
      subst (λ (t : List ℕ). AppendsFront old new t) (ap delta_octets same ∙ sym is.kept.octets_are) front
