-- Parts of some inputs that were compacted apart.
use Rattle.std.proofs.Common.{◌≡◌, ◌∙◌, sym, ap, refl, subst, ℕ, ◌+◌, ◌↔◌, Bool, false, List, [], ◌∷◌, ◌++◌, map, inl, inr, append-nil}
use Rattle.std.proofs.Common.{Result, Ok}
use Rattle.std.specs.List.{Contains, AllZip, concat}
use Rattle.std.proofs.lemmas.List.{map-append}
use Rattle.std.proofs.lemmas.List.Elements.{Contains-append_cases, Contains-append_left, Contains-append_right}
use Rattle.itip_message.specs.declared.error.MessageRefusal.{MessageRefusal}
use Rattle.itip_items.specs.declared.item.Item.{Item}
use Rattle.itip_message.proofs.ReadAgain.{reads_again}
use Rattle.itip_state.specs.Kept.{IsKept, SameItems}
use Rattle.itip_state.proofs.Keeping.{Covers, covers_kept, covers_itself, kept_of_parts, kept_iff, kept_part}
use Rattle.itip_state.proofs.Members.{none_in}
use Rattle.itip_view.specs.Blocks.{joined}
use Rattle.itip_message.specs.Cutting.{IsCutInto}
use Rattle.itip_message.proofs.Cuts.{cut_by_scan}
use Rattle.itip_desk.specs.DeltaFormat.{delta_octets}
use Rattle.itip_desk.proofs.ReadDeltas.{messages_written, one_order}
use Rattle.itip_inbox.specs.Inbox.{Placed, placed_from, placed_of, AreAnswers, heard_of, refusals_at, IsInbox, is_some_refused}
use Rattle.itip_inbox.specs.Compaction.{AreKeptOctets, IsCompaction, AreCompactions, TellsItem, TellSameItems, all_inputs}
use Rattle.itip_inbox.proofs.Answered.{answers_both}
use Rattle.itip_inbox.proofs.Octets.{octets_none, octets_both}
use Rattle.itip_inbox.proofs.OneInbox.{one_inbox}
use Rattle.itip_inbox.proofs.Telling.{heard_told, tells_none, tells_among, tells_either}

-- ---- what was written is heard again

-- what the message of an item gives
abbrev pub alone : Item → Result (List Item) MessageRefusal
alone item = Ok (item ∷ [])

abbrev pub bytes_of : List Item → List (List ℕ)
bytes_of items = map (λ (i : Item). i.bytes) items

pub are_alone : (source n : ℕ) (items : List Item) → AreAnswers (placed_from source n (bytes_of items)) (map alone items)
are_alone source n [] = tt
are_alone source n (item ∷ items) = (reads_again item, are_alone source (n + 1) items)

all_alone : (source : ℕ) (batches : List (List Item)) → AreAnswers (placed_of source (map bytes_of batches)) (map alone (joined batches))
all_alone source [] = tt
all_alone source (batch ∷ batches) =
    subst (λ (given : List (Result (List Item) MessageRefusal)). AreAnswers (placed_of source (map bytes_of (batch ∷ batches))) given)
    (sym (map-append alone batch (joined batches)))
    (answers_both (placed_from source 1 (bytes_of batch)) (placed_of (source + 1) (map bytes_of batches)) (map alone batch)
    (map alone (joined batches)) (are_alone source 1 batch) (all_alone (source + 1) batches))

pub heard_alone : (items : List Item) → items ≡ heard_of (map alone items)
heard_alone [] = refl
heard_alone (item ∷ items) = ap (λ (rest : List Item). item ∷ rest) (heard_alone items)

pub none_refused : (messages : List Placed) (items : List Item) → [] ≡ refusals_at messages (map alone items)
none_refused [] items = refl
none_refused (m ∷ ms) [] = refl
none_refused (m ∷ ms) (item ∷ items) = none_refused ms items

pub cut_written : (batch : List Item) → IsCutInto (delta_octets batch) (bytes_of batch)
cut_written batch =
    subst (λ (ts : List (List ℕ)). IsCutInto (delta_octets batch) ts) (messages_written batch) (cut_by_scan (delta_octets batch))

cuts_written : (batches : List (List Item)) → AllZip IsCutInto (map delta_octets batches) (map bytes_of batches)
cuts_written [] = tt
cuts_written (batch ∷ batches) = (cut_written batch, cuts_written batches)

written_inbox : (batches : List (List Item)) → IsInbox (map delta_octets batches) (joined batches) []
written_inbox batches = record {
  messages = map bytes_of batches;
  cut = cuts_written batches;
  hears = record {
    answers = map alone (joined batches);
    each = all_alone 0 batches;
    heard_are = heard_alone (joined batches);
    refusals_are = none_refused (placed_of 0 (map bytes_of batches)) (joined batches);
  };
}

-- one batch that was written
pub batch_inbox : (batch : List Item) → IsInbox (delta_octets batch ∷ []) batch []
batch_inbox batch =
    subst (λ (items : List Item). IsInbox (delta_octets batch ∷ []) items []) (append-nil batch) (written_inbox (batch ∷ []))

joined_octets : (batches : List (List Item)) → concat (map delta_octets batches) ≡ delta_octets (joined batches)
joined_octets [] = sym octets_none
joined_octets (batch ∷ batches) = ap (λ (t : List ℕ). delta_octets batch ++ t) (joined_octets batches) ∙
    sym (octets_both batch (joined batches))

-- ---- the parts

-- what is left of the parts, and all that they tell
record Parted (parts : List (List (List ℕ))) (compacted : List (List ℕ)) : Type 0 where
  batches : List (List Item)
  heard : List Item
  octets_are : compacted ≡ map delta_octets batches
  covers : Covers (joined batches) heard
  tells : (item : Item) → Contains heard item ↔ TellsItem (all_inputs parts) item

covers_both : (x y part_x part_y : List Item) → Covers part_x x → Covers part_y y → Covers (part_x ++ part_y) (x ++ y)
covers_both x y part_x part_y hx hy i = (
  λ h. elim (Contains-append_cases part_x part_y i h)
      [ inl l ↦ Contains-append_left x y i ((hx i).0 l) | inr r ↦ Contains-append_right x y i ((hy i).0 r) ],
  λ kept. elim (Contains-append_cases x y i kept.best.is_heard) [
    | inl l ↦ Contains-append_left part_x part_y i ((hx i).1 (kept_part (x ++ y) x i (Contains-append_left x y) kept l))
    | inr r ↦ Contains-append_right part_x part_y i ((hy i).1 (kept_part (x ++ y) y i (Contains-append_right x y) kept r))
  ],
)

no_parts : Parted [] []
no_parts = record {
  batches = [];
  heard = [];
  octets_are = refl;
  covers = covers_itself [];
  tells = λ item. (λ h. absurd (none_in item h), λ t. absurd (tells_none item t));
}

part_more : (part : List (List ℕ)) (octets : List ℕ) (parts : List (List (List ℕ))) (compacted : List (List ℕ)) (refused : Bool) →
    IsCompaction part octets refused → Parted parts compacted → Parted (part ∷ parts) (octets ∷ compacted)
part_more part octets parts compacted refused is rest = record {
  batches = is.kept.batch ∷ rest.batches;
  heard = is.heard ++ rest.heard;
  octets_are = λ i. is.kept.octets_are i ∷ rest.octets_are i;
  covers = covers_both is.heard rest.heard is.kept.batch (joined rest.batches) (covers_kept is.kept.batch is.heard is.kept.kept)
      rest.covers;
  tells = λ item. (
    λ h. elim (Contains-append_cases is.heard rest.heard item h) [
      | inl l ↦ tells_among part (part ++ all_inputs parts) (Contains-append_left part (all_inputs parts)) item
          ((heard_told part is.heard is.refusals is.inbox item).0 l)
      | inr r ↦ tells_among (all_inputs parts) (part ++ all_inputs parts) (Contains-append_right part (all_inputs parts)) item
          ((rest.tells item).0 r)
    ],
    λ t. elim (tells_either part (all_inputs parts) item t) [
      | inl first ↦ Contains-append_left is.heard rest.heard item ((heard_told part is.heard is.refusals is.inbox item).1 first)
      | inr later ↦ Contains-append_right is.heard rest.heard item ((rest.tells item).1 later)
    ],
  );
}

all_parts : (parts : List (List (List ℕ))) (compacted : List (List ℕ)) → AreCompactions parts compacted → Parted parts compacted
all_parts [] [] each = no_parts
all_parts [] (o ∷ os) each = absurd each
all_parts (p ∷ ps) [] each = absurd each
all_parts (p ∷ ps) (o ∷ os) each = part_more p o ps os each.0.0 each.0.1 (all_parts ps os each.1)

-- a set and what covers it keep the same
pub covers_same : (left heard : List Item) → Covers left heard → (i : Item) → IsKept left i ↔ IsKept heard i
covers_same left heard covers i =
    let iff = kept_of_parts heard [] left [] covers (covers_itself []) i in
    let back = λ (list : List Item). append-nil list in (
      λ h. subst (λ (xs : List Item). IsKept xs i) (back heard) (iff.0 (subst (λ (xs : List Item). IsKept xs i) (sym (back left)) h)),
      λ h. subst (λ (xs : List Item). IsKept xs i) (back left) (iff.1 (subst (λ (xs : List Item). IsKept xs i) (sym (back heard)) h)),
    )

pub octets_of_same : (heard others : List Item) (octets again : List ℕ) → ((i : Item) → IsKept heard i ↔ IsKept others i) →
    AreKeptOctets heard octets → AreKeptOctets others again → octets ≡ again
octets_of_same heard others octets again iff a b =
    let same : SameItems a.batch b.batch =
    λ i. (λ h. (b.kept i).1 ((iff i).0 ((a.kept i).0 h)), λ h. (a.kept i).1 ((iff i).1 ((b.kept i).0 h))) in
    a.octets_are ∙ ap delta_octets (one_order a.batch b.batch a.ascend b.ascend same) ∙ sym b.octets_are

-- ---- the compactions, compacted once more

-- what the parts left is heard when the bytes are heard again, and none is refused: each as an input
again_inbox : (parts : List (List (List ℕ))) (compacted : List (List ℕ)) (parted : Parted parts compacted) →
    IsInbox compacted (joined parted.batches) []
again_inbox parts compacted parted =
    subst (λ (ts : List (List ℕ)). IsInbox ts (joined parted.batches) []) (sym parted.octets_are) (written_inbox parted.batches)

-- or one after another in one input
joined_inbox : (parts : List (List (List ℕ))) (compacted : List (List ℕ)) (parted : Parted parts compacted) →
    IsInbox (concat compacted ∷ []) (joined parted.batches) []
joined_inbox parts compacted parted =
    let one : List Item = joined parted.batches in
    let octets : concat compacted ≡ delta_octets one = ap concat parted.octets_are ∙ joined_octets parted.batches in
    subst (λ (t : List ℕ). IsInbox (t ∷ []) one []) (sym octets) (batch_inbox one)

module _ (parts : List (List (List ℕ))) (compacted : List (List ℕ)) (parted : Parted parts compacted) (sources : List (List ℕ))
    (inbox : IsInbox sources (joined parted.batches) []) (again : List ℕ) (other : Bool) (of_parts : IsCompaction sources again other) where
  again_octets : (whole : List (List ℕ)) (octets : List ℕ) (refused : Bool) → TellSameItems whole (all_inputs parts) →
      IsCompaction whole octets refused → again ≡ octets
  again_octets whole octets refused same_items of_whole =
      let left : of_parts.heard ≡ joined parted.batches =
      (one_inbox sources of_parts.heard (joined parted.batches) of_parts.refusals [] of_parts.inbox inbox).0 in
      let same : SameItems of_whole.heard parted.heard = λ i. (
        λ h. (parted.tells i).1 ((same_items i).0 ((heard_told whole of_whole.heard of_whole.refusals of_whole.inbox i).0 h)),
        λ h. (heard_told whole of_whole.heard of_whole.refusals of_whole.inbox i).1 ((same_items i).1 ((parted.tells i).0 h)),
      ) in
      let iff : (i : Item) → IsKept (joined parted.batches) i ↔ IsKept of_whole.heard i = λ i. (
        λ h. (kept_iff of_whole.heard parted.heard same i).1 ((covers_same (joined parted.batches) parted.heard parted.covers i).0 h),
        λ h. (covers_same (joined parted.batches) parted.heard parted.covers i).1 ((kept_iff of_whole.heard parted.heard same i).0 h),
      ) in
      octets_of_same (joined parted.batches) of_whole.heard again
      octets iff (subst (λ (heard : List Item). AreKeptOctets heard again) left of_parts.kept) of_whole.kept

  again_refuses_none : other ≡ false
  again_refuses_none = of_parts.refused_is ∙
      ap is_some_refused (one_inbox sources of_parts.heard (joined parted.batches) of_parts.refusals [] of_parts.inbox inbox).1

pub parts_compacted : (parts : List (List (List ℕ))) (compacted whole : List (List ℕ)) (octets again : List ℕ) (refused other : Bool) →
    TellSameItems whole (all_inputs parts) → AreCompactions parts compacted
    → IsCompaction whole octets refused → IsCompaction compacted again other → again ≡ octets
parts_compacted parts compacted whole octets again refused other same each of_whole of_parts =
    let parted : Parted parts compacted = all_parts parts compacted each in
    again_octets parts compacted parted compacted (again_inbox parts compacted parted) again other of_parts
    whole octets refused same of_whole

pub parts_joined : (parts : List (List (List ℕ))) (compacted whole : List (List ℕ)) (octets again : List ℕ) (refused other : Bool) →
    TellSameItems whole (all_inputs parts) → AreCompactions parts compacted
    → IsCompaction whole octets refused → IsCompaction (concat compacted ∷ []) again other → again ≡ octets
parts_joined parts compacted whole octets again refused other same each of_whole of_parts =
    let parted : Parted parts compacted = all_parts parts compacted each in
    again_octets parts compacted parted (concat compacted ∷ []) (joined_inbox parts compacted parted) again other of_parts
    whole octets refused same of_whole

pub parts_refuse_none : (parts : List (List (List ℕ))) (compacted : List (List ℕ)) (again : List ℕ) (other : Bool) →
    AreCompactions parts compacted → IsCompaction compacted again other → other ≡ false
parts_refuse_none parts compacted again other each is =
    let parted : Parted parts compacted = all_parts parts compacted each in
    again_refuses_none parts compacted parted compacted (again_inbox parts compacted parted) again other is

pub joined_refuse_none : (parts : List (List (List ℕ))) (compacted : List (List ℕ)) (again : List ℕ) (other : Bool) →
    AreCompactions parts compacted → IsCompaction (concat compacted ∷ []) again other → other ≡ false
joined_refuse_none parts compacted again other each is =
    let parted : Parted parts compacted = all_parts parts compacted each in
    again_refuses_none parts compacted parted (concat compacted ∷ []) (joined_inbox parts compacted parted) again other is
