-- Parts of inputs that tell of no UID in common: their lists and compactions, merged, are those of the whole.
use Rattle.std.proofs.Common.{◌≡◌, ◌↔◌, ◌≤◌, ◌∙◌, ℕ, Bool, List, [], ◌∷◌, ◌++◌, length, refl, sym, ap, subst, inl, inr}
use Rattle.std.specs.List.{Contains, AllPairs, AllZip, flat_map}
use Rattle.std.proofs.lemmas.List.Concat.{flat_map-append}
use Rattle.std.proofs.lemmas.List.Elements.{Contains-append_cases, Contains-append_left, Contains-append_right}
use Rattle.std.proofs.lemmas.List.Kept.{AllPairs-cons}
use Rattle.itip_items.specs.declared.item.Item.{Item}
use Rattle.itip_state.specs.Kept.{IsKept, SameItems}
use Rattle.itip_state.proofs.Keeping.{kept_iff}
use Rattle.itip_state.proofs.Members.{all_each, cons_cases, cons_first, cons_later, no_pairs, none_in}
use Rattle.itip_state.proofs.OfKey.{head_pair, tail_pairs}
use Rattle.itip_view.specs.Blocks.{Block, AreBlocksWhere, AreMerged, ShareNoUid, joined, rows_of_blocks}
use Rattle.itip_view.specs.ListText.{list_text, row_text}
use Rattle.itip_view.specs.Rows.{row_limit}
use Rattle.itip_view.specs.declared.row.Row.{Row}
use Rattle.itip_view.specs.declared.window.Window.{Window}
use Rattle.itip_view.proofs.Apart.{kept_of_two, apart_from_all}
use Rattle.itip_view.proofs.Merging.{merged_blocks}
use Rattle.itip_view.proofs.OneList.{one_where, rows_over}
use Rattle.itip_desk.specs.DeltaFormat.{delta_octets}
use Rattle.itip_desk.proofs.ReadDeltas.{one_order}
use Rattle.itip_inbox.specs.Compaction.{HaveSameCompaction, IsCompaction, TellsItem, all_inputs}
use Rattle.itip_inbox.specs.Inbox.{IsInbox, is_some_refused}
use Rattle.itip_inbox.specs.PartsByUid.{TellOfNoSameUid, ArePartedByUid, IsOfHeard, AreOfHeard, block_text, IsTextOfBlocks}
use Rattle.itip_inbox.specs.PartsByUid.{IsKeptBatch, AreMergedBatches}
use Rattle.itip_inbox.specs.TaskList.{IsListed, IsTaskList}
use Rattle.itip_inbox.specs.declared.refused.RefusedMessage.{RefusedMessage}
use Rattle.itip_inbox.proofs.ByOctets.{some_kept_octets}
use Rattle.itip_inbox.proofs.OneInbox.{one_inbox}
use Rattle.itip_inbox.proofs.Parts.{batch_inbox}
use Rattle.itip_inbox.proofs.SomeInbox.{some_inbox}
use Rattle.itip_inbox.proofs.Telling.{heard_told, tells_none, tells_among, tells_either}

-- ---- the text of blocks

text_joined : (blocks : List Block) → list_text (rows_of_blocks blocks) ≡ flat_map block_text blocks
text_joined [] = refl
text_joined (block ∷ blocks) = flat_map-append row_text block.rows (rows_of_blocks blocks) ∙
    ap (λ (text : List ℕ). block_text block ++ text) (text_joined blocks)

module _ (P : Row → Type 0) (window : Window) (heard : List Item) (blocks : List Block) (are : AreBlocksWhere P window heard blocks) where
  listed_blocks : (text : List ℕ) (refusal : Bool) → IsListed list_text P heard window text refusal → IsTextOfBlocks blocks text
  listed_blocks text refusal (inl is) =
      let same : is.0.rows ≡ rows_of_blocks blocks =
      one_where P heard window is.0.rows (rows_of_blocks blocks) is.0.are_rows are.are_rows in
      inl (
        subst (λ (rows : List Row). length rows ≤ row_limit) same is.0.few,
        is.0.text_is ∙ ap list_text same ∙ text_joined blocks,
      )
  listed_blocks text refusal (inr many) = inr (rows_over P heard window (rows_of_blocks blocks) are.are_rows many.0, many.1)

pub text_of_blocks : (P : Row → Type 0) (inputs : List (List ℕ)) (window : Window) (blocks : List Block) (text : List ℕ) (refused : Bool) →
    IsOfHeard (AreBlocksWhere P window) inputs blocks → IsTaskList (λ w rows. list_text rows) P inputs window text refused →
    IsTextOfBlocks blocks text
text_of_blocks P inputs window blocks text refused a b =
    let one = one_inbox inputs a.heard b.heard a.refusals b.refusals a.inbox b.inbox in
    listed_blocks P window b.heard blocks (subst (λ (heard : List Item). AreBlocksWhere P window heard blocks) one.0 a.is) text b.refusal
    b.is_text

-- ---- what the parts tell

-- what each part tells, and that no UID is told of in two
record Told {X : Type 0} (Is : List Item → X → Type 0) (parts : List (List (List ℕ))) (xs : List X) : Type 0 where
  heards : List (List Item)
  each : AllZip Is heards xs
  tells : (item : Item) → Contains (joined heards) item ↔ TellsItem (all_inputs parts) item
  apart : AllPairs ShareNoUid heards

apart_inputs : (part : List (List ℕ)) (others : List (List (List ℕ))) → ((other : List (List ℕ)) → Contains others other →
    TellOfNoSameUid part other) → TellOfNoSameUid part (all_inputs others)
apart_inputs part [] apart a b h g = absurd (tells_none b g)
apart_inputs part (other ∷ others) apart a b h g = elim (tells_either other (all_inputs others) b g) [
  | inl here ↦ apart other (cons_first other others) a b h here
  | inr later ↦ apart_inputs part others (λ one there. apart one (cons_later other others one there)) a b h later
]

in_joined : (lists : List (List Item)) (list : List Item) (item : Item) → Contains lists list → Contains list item →
    Contains (joined lists) item
in_joined [] list item h there = absurd (none_in list h)
in_joined (first ∷ lists) list item h there = elim (cons_cases first lists list h) [
  | inl same ↦ Contains-append_left first (joined lists) item (subst (λ (items : List Item). Contains items item) (sym same) there)
  | inr later ↦ Contains-append_right first (joined lists) item (in_joined lists list item later there)
]

module _ {X : Type 0} (Is : List Item → X → Type 0) where
  told_more : (part : List (List ℕ)) (x : X) (parts : List (List (List ℕ))) (xs : List X) → IsOfHeard Is part x →
      ((other : List (List ℕ)) → Contains parts other → TellOfNoSameUid part other) → Told Is parts xs → Told Is (part ∷ parts) (x ∷ xs)
  told_more part x parts xs is apart rest = record {
    heards = is.heard ∷ rest.heards;
    each = (is.is, rest.each);
    tells = λ item. (
      λ h. elim (Contains-append_cases is.heard (joined rest.heards) item h) [
        | inl here ↦ tells_among part (part ++ all_inputs parts) (Contains-append_left part (all_inputs parts)) item
            ((heard_told part is.heard is.refusals is.inbox item).0 here)
        | inr later ↦ tells_among (all_inputs parts) (part ++ all_inputs parts) (Contains-append_right part (all_inputs parts)) item
            ((rest.tells item).0 later)
      ],
      λ t. elim (tells_either part (all_inputs parts) item t) [
        | inl here ↦ Contains-append_left is.heard (joined rest.heards) item ((heard_told part is.heard is.refusals is.inbox item).1 here)
        | inr later ↦ Contains-append_right is.heard (joined rest.heards) item ((rest.tells item).1 later)
      ],
    );
    apart = AllPairs-cons ShareNoUid is.heard rest.heards
        (all_each (ShareNoUid is.heard) rest.heards (λ other given a b h g. apart_inputs part parts apart a b
        ((heard_told part is.heard is.refusals is.inbox a).0 h) ((rest.tells b).0 (in_joined rest.heards other b given g)))) rest.apart;
  }

  all_told : (parts : List (List (List ℕ))) (xs : List X) → AreOfHeard Is parts xs → AllPairs TellOfNoSameUid parts → Told Is parts xs
  all_told [] [] each apart = record {
    heards = [];
    each = tt;
    tells = λ item. (λ h. absurd (none_in item h), λ t. absurd (tells_none item t));
    apart = no_pairs ShareNoUid;
  }
  all_told [] (x ∷ xs) each apart = absurd each
  all_told (part ∷ parts) [] each apart = absurd each
  all_told (part ∷ parts) (x ∷ xs) each apart = told_more part x parts xs each.0 (head_pair TellOfNoSameUid part parts apart)
      (all_told parts xs each.1 (tail_pairs TellOfNoSameUid part parts apart))

-- ---- what is kept of inputs that have one compaction

module _ (inputs others : List (List ℕ)) (same : HaveSameCompaction inputs others) (heard more : List Item)
    (refusals noted : List RefusedMessage) (a : IsInbox inputs heard refusals) (b : IsInbox others more noted) where
  same_kept : (item : Item) → IsKept heard item ↔ IsKept more item
  same_kept item =
      let x = some_kept_octets heard in
      let y = some_kept_octets more in
      let octets : y.0 ≡ x.0 = same x.0 y.0 (is_some_refused refusals) (is_some_refused noted)
      (record { heard = heard; refusals = refusals; inbox = a; kept = x.1; refused_is = refl })
      (record { heard = more; refusals = noted; inbox = b; kept = y.1; refused_is = refl }) in
      let bytes : delta_octets y.1.batch ≡ delta_octets x.1.batch = sym y.1.octets_are ∙ octets ∙ x.1.octets_are in
      let batch : y.1.batch ≡ x.1.batch =
      (one_inbox (delta_octets x.1.batch ∷ []) y.1.batch x.1.batch [] []
      (subst (λ (text : List ℕ). IsInbox (text ∷ []) y.1.batch []) bytes (batch_inbox y.1.batch)) (batch_inbox x.1.batch)).0 in (
        λ kept. (y.1.kept item).0 (subst (λ (items : List Item). Contains items item) (sym batch) ((x.1.kept item).1 kept)),
        λ kept. (x.1.kept item).0 (subst (λ (items : List Item). Contains items item) batch ((y.1.kept item).1 kept)),
      )

-- what is kept of the whole is kept of what the parts tell
kept_of_told : {X : Type 0} (Is : List Item → X → Type 0) (parts : List (List (List ℕ))) (xs : List X) (told : Told Is parts xs)
    (whole : List (List ℕ)) → HaveSameCompaction whole (all_inputs parts) → (heard : List Item) (refusals : List RefusedMessage) →
    IsInbox whole heard refusals → (item : Item) → IsKept heard item ↔ IsKept (joined told.heards) item
kept_of_told Is parts xs told whole same heard refusals inbox item =
    let all = some_inbox (all_inputs parts) in
    let first = same_kept whole (all_inputs parts) same heard all.0 refusals all.1 inbox all.2 item in
    let items : SameItems all.0 (joined told.heards) = λ i. (
      λ h. (told.tells i).1 ((heard_told (all_inputs parts) all.0 all.1 all.2 i).0 h),
      λ h. (heard_told (all_inputs parts) all.0 all.1 all.2 i).1 ((told.tells i).0 h),
    ) in
    let later = kept_iff all.0 (joined told.heards) items item in
    (λ kept. later.0 (first.0 kept), λ kept. first.1 (later.1 kept))

-- ---- lists

pub list_merged : (parts : List (List (List ℕ))) (whole : List (List ℕ)) → ArePartedByUid parts whole → (P : Row → Type 0)
    (window : Window) (lists : List (List Block)) (merged : List Block) → AreOfHeard (AreBlocksWhere P window) parts lists →
    AreMerged lists merged → IsOfHeard (AreBlocksWhere P window) whole merged
list_merged parts whole are P window lists merged each merge =
    let told = all_told (AreBlocksWhere P window) parts lists each are.apart in
    let of_whole = some_inbox whole in
    let kept = kept_of_told (AreBlocksWhere P window) parts lists told whole are.same of_whole.0 of_whole.1 of_whole.2 in
    record {
      heard = of_whole.0;
      refusals = of_whole.1;
      inbox = of_whole.2;
      is = merged_blocks P window told.heards of_whole.0 (record { same = kept; apart = told.apart }) lists merged told.each merge;
    }

-- ---- compactions

kept_of_batches : (heards batches : List (List Item)) → AllPairs ShareNoUid heards → AllZip IsKeptBatch heards batches → (item : Item) →
    Contains (joined batches) item ↔ IsKept (joined heards) item
kept_of_batches [] [] apart each item = (λ h. absurd (none_in item h), λ kept. absurd (none_in item kept.best.is_heard))
kept_of_batches [] (batch ∷ batches) apart each item = absurd each
kept_of_batches (heard ∷ heards) [] apart each item = absurd each
kept_of_batches (heard ∷ heards) (batch ∷ batches) apart each item =
    let two = kept_of_two heard (joined heards) (apart_from_all heard heards (head_pair ShareNoUid heard heards apart)) item in
    let rest = kept_of_batches heards batches (tail_pairs ShareNoUid heard heards apart) each.1 item in (
      λ h. elim (Contains-append_cases batch (joined batches) item h) [
        | inl here ↦ two.1 (inl ((each.0.kept item).0 here))
        | inr later ↦ two.1 (inr (rest.0 later))
      ],
      λ kept. elim (two.0 kept) [
        | inl here ↦ Contains-append_left batch (joined batches) item ((each.0.kept item).1 here)
        | inr later ↦ Contains-append_right batch (joined batches) item (rest.1 later)
      ],
    )

pub compaction_merged : (parts : List (List (List ℕ))) (whole : List (List ℕ)) → ArePartedByUid parts whole →
    (batches : List (List Item)) (merged : List Item) (octets : List ℕ) (refused : Bool) → AreOfHeard IsKeptBatch parts batches →
    AreMergedBatches batches merged → IsCompaction whole octets refused → octets ≡ delta_octets merged
compaction_merged parts whole are batches merged octets refused each merge is =
    let told = all_told IsKeptBatch parts batches each are.apart in
    let kept = kept_of_told IsKeptBatch parts batches told whole are.same is.heard is.refusals is.inbox in
    let of = kept_of_batches told.heards batches told.apart told.each in
    let same : SameItems is.kept.batch merged = λ i. (
      λ h. (merge.same i).1 ((of i).1 ((kept i).0 ((is.kept.kept i).0 h))),
      λ h. (is.kept.kept i).1 ((kept i).1 ((of i).0 ((merge.same i).0 h))),
    ) in
    is.kept.octets_are ∙ ap delta_octets (one_order is.kept.batch merged is.kept.ascend merge.ascend same)
