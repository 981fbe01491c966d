-- The file of a desk, message by message: it is read as that desk, and no other text is.
use Rattle.std.proofs.Common.{◌≡◌, ◌∙◌, sym, ap, refl, subst, ℕ, ◌+◌, ◌<◌, ◌≤◌, ◌^◌, false, List, [], ◌∷◌, ◌++◌, length, map, arith}
use Rattle.std.proofs.Common.{append_assoc, append-nil, Option, Some, None, inl, inr}
use Rattle.std.specs.Prelude.{IfSome, unwrap_or, codes, ◌⊎◌, drop}
use Rattle.std.specs.Fmt.{decimal}
use Rattle.std.specs.List.{Contains}
use Rattle.std.proofs.lemmas.List.Elements.{Contains-append_cases}
use Rattle.itip_items.specs.KeyParts.{uid_of}
use Rattle.itip_items.specs.declared.item.Item.{Item}
use Rattle.itip_message.specs.Message.{ReadsMessage, RefusesMessage}
use Rattle.itip_message.specs.Scanned.{begins_blank, messages_of, CutsMessage}
use Rattle.itip_message.proofs.Cuts.{cut_by_scan}
use Rattle.itip_message.proofs.OneMessage.{one_message, message_apart}
use Rattle.itip_message.specs.declared.error.MessageRefusal.{MessageRefusal}
use Rattle.itip_state.specs.Kept.{AreKept, IsKept, SameItems, IsItemsOf}
use Rattle.itip_state.proofs.Keeping.{kept_again, kept_same}
use Rattle.itip_state.proofs.Members.{none_in, cons_cases, cons_first, cons_later, all_each}
use Rattle.itip_desk.specs.DeltaFormat.{AreMessages, ReadsDelta}
use Rattle.itip_desk.specs.Desk.{Shown, IsDeskOf, IsDeltaOf}
use Rattle.itip_desk.specs.Ticks.{Ticks}
use Rattle.itip_desk.specs.DeskFile.{message_text, messages_text, moved_at, head_of, begins_text, HasNumber}
use Rattle.itip_desk.specs.DeskFile.{NamesOtherForm, IsFileOf, IsTold, TellsDesk, AreAlike, RefusesFile, IfFileRefused}
use Rattle.itip_desk.specs.FileReading.{IsHead, IsNoPart, moves_at, ReadsParts, TellsTick, TellsMove, FileSoFar, ReadsFile, IsDeskOfParts}
use Rattle.itip_desk.specs.FileReading.{AddsPart, ReachTick, first_text}
use Rattle.itip_desk.specs.MovedSince.{tick_at, last_move, AreMovesTo}
use Rattle.itip_desk.specs.Octets.{AscendOctets}
use Rattle.itip_desk.specs.declared.error.FileError.{FileError}
use Rattle.itip_desk.specs.declared.error.FileError.TheVariants as error
use Rattle.itip_desk.specs.declared.file_text.FileHead.{FileHead}
use Rattle.itip_desk.specs.declared.file_reading.FileParts.{FileParts}
use Rattle.itip_desk.specs.declared.refusal.FileRefusal.{FileRefusal}
use Rattle.itip_desk.specs.declared.refusal.FileRefusal.TheVariants.{OtherForm, Broken, Unwritten}
use Rattle.itip_desk.proofs.FileMessages.{message_read, message_cut}
use Rattle.itip_desk.proofs.FileNumbers.{one_number}
use Rattle.itip_desk.proofs.FileParsing.{moved_once, tick_once, form_of_first, version_end}
use Rattle.itip_desk.proofs.LastMoves.{last_in, last_there}
use Rattle.itip_desk.proofs.ReadDeltas.{alone, concat_alone}
use Rattle.itip_desk.proofs.Ticking.{Carried}

some_same : (t u : ℕ) → Some t ≡ Some u → t ≡ u
some_same t u e = cc

none_some : (t : ℕ) → None ≡ Some t → ⊥
none_some t e = cc

-- ---- the messages of a file

abbrev pub file_texts : Carried → Option FileHead → List Item → List (List ℕ)
file_texts changed head [] = []
file_texts changed head (item ∷ items) = message_text head (moved_at changed item) item.bytes ∷ file_texts changed None items

-- what they tell about moves
abbrev pub file_moves : Carried → List Item → Carried
file_moves changed items = map (λ (item : Item). (uid_of item.key, moved_at changed item)) items

-- each tick has 64 bits
abbrev pub Fit : Carried → Type 0
Fit changed = (uid : List ℕ) (tick : ℕ) → tick_at changed uid ≡ Some tick → tick < 2 ^ 64

pub moved_fits : (changed : Carried) → Fit changed → (item : Item) → moved_at changed item < 2 ^ 64
moved_fits changed fit item = at (tick_at changed (uid_of item.key)) refl
  where
    at : (o : Option ℕ) → tick_at changed (uid_of item.key) ≡ o → unwrap_or o 0 < 2 ^ 64
    at None e = omega arith
    at (Some t) e = fit (uid_of item.key) t e

texts_begin : (changed : Carried) (head : Option FileHead) (items : List Item) → begins_blank (messages_text changed head items) ≡ false
unfolding messages_text
texts_begin changed head [] = refl
texts_begin changed head (item ∷ items) = refl

pub file_cut : (changed : Carried) → Fit changed → (head : Option FileHead) → IfSome head IsHead → (items : List Item) →
    messages_of (messages_text changed head items) ≡ file_texts changed head items
unfolding messages_text messages_of
file_cut changed fit head is [] = refl
file_cut changed fit head is (item ∷ items) =
    message_cut head (moved_at changed item) item is (moved_fits changed fit item) (messages_text changed None items)
    (texts_begin changed None items)
    ∙ ap (λ (ts : List (List ℕ)). message_text head (moved_at changed item) item.bytes ∷ ts) (file_cut changed fit None tt items)

-- what is read from them is the items and the moves
pub parts_are : (tick : ℕ) (changed : Carried) → Fit changed → (head : Option FileHead) → IfSome head IsHead → (items its : List Item)
    (moves : Carried) → ReadsParts tick (file_texts changed head items) its moves → (its ≡ items) × (moves ≡ file_moves changed items)
parts_are tick changed fit head is [] its moves reads = reads
parts_are tick changed fit head is (item ∷ items) its moves (moved, given, others, rest, part, its_are, moves_are, more) =
    let at : ℕ = moved_at changed item in
    let small : at < 2 ^ 64 = moved_fits changed fit item in
    let one : given ≡ item ∷ [] =
    one_message (message_text head at item.bytes) given (item ∷ []) part.reads (message_read head at item is small) in
    let same : moved ≡ at = some_same moved at (part.told head at item.bytes small is refl) in
    let next = parts_are tick changed fit None tt items others rest more in (
      its_are ∙ ap (λ (g : List Item). g ++ others) one ∙ ap (λ (os : List Item). item ∷ os) next.0,
      moves_are ∙ ap (λ (g : List Item). moves_at moved g ++ rest) one
          ∙ ap (λ (m : ℕ). (uid_of item.key, m) ∷ rest) same ∙ ap (λ (ms : Carried). (uid_of item.key, at) ∷ ms) next.1,
    )

-- ---- a file that tells a desk

abbrev first_of : (desk : Shown) (octets : List ℕ) → IsFileOf desk octets → Option FileHead
first_of desk octets file = head_of desk.tick file.items

module _ (octets : List ℕ) (desk : Shown) (tells : TellsDesk octets desk) where
  fit : Fit desk.changed
  fit uid tick at =
      let within = tells.told.ticks uid tick at in
      let fits = tells.told.fits in
      omega (arith, within.1, fits)

  is_head : IfSome (first_of desk octets tells.file) IsHead
  is_head = record { items = tells.file.few; tick = tells.told.fits }

  pub told_cut : messages_of octets ≡ file_texts desk.changed (head_of desk.tick tells.file.items) tells.file.items
  told_cut = ap messages_of tells.file.octets_are ∙
      file_cut desk.changed fit (head_of desk.tick tells.file.items) is_head tells.file.items

  -- when the UID of a kept item moved
  pub told_move : (item : Item) → Contains tells.file.items item → (0 < moved_at desk.changed item) ×
      (moved_at desk.changed item ≤ desk.tick)
  told_move item there =
      let kept : Contains desk.kept item = (tells.file.items_are.same item).0 there in
      let moved = tells.told.moved item kept in
      let is : moved_at desk.changed item ≡ moved.0 = ap (λ (o : Option ℕ). unwrap_or o 0) moved.1 in
      let within = tells.told.ticks (uid_of item.key) moved.0 moved.1 in
      (omega (arith, is, within.0), omega (arith, is, within.1))

  each_read : (head : Option FileHead) → IfSome head IsHead → (items : List Item) →
      ((item : Item) → Contains items item → (0 < moved_at desk.changed item) × (moved_at desk.changed item ≤ desk.tick)) →
      ReadsParts desk.tick (file_texts desk.changed head items) items (file_moves desk.changed items)
  each_read head is [] each = (refl, refl)
  each_read head is (item ∷ items) each =
      let at : ℕ = moved_at desk.changed item in
      let small : at < 2 ^ 64 = moved_fits desk.changed fit item in
      let here = each item (cons_first item items) in (
        at,
        item ∷ [],
        items,
        file_moves desk.changed items,
        record {
          reads = message_read head at item is small;
          told = moved_once head at item.bytes small is;
          some = here.0;
          within = here.1;
        },
        refl,
        refl,
        each_read None tt items (λ other there. each other (cons_later item items other there)),
      )

  -- its messages are read as its items and moves
  pub told_parts : ReadsParts desk.tick (messages_of octets) tells.file.items (file_moves desk.changed tells.file.items)
  told_parts = subst (λ (ts : List (List ℕ)). ReadsParts desk.tick ts tells.file.items (file_moves desk.changed tells.file.items))
      (sym told_cut) (each_read (head_of desk.tick tells.file.items) is_head tells.file.items told_move)

  -- and only these can be read from them
  pub parts_told : (tick : ℕ) (its : List Item) (moves : Carried) → ReadsParts tick (messages_of octets) its moves →
      (its ≡ tells.file.items) × (moves ≡ file_moves desk.changed tells.file.items)
  parts_told tick its moves reads =
      parts_are tick desk.changed fit (head_of desk.tick tells.file.items) is_head tells.file.items its moves
      (subst (λ (ts : List (List ℕ)). ReadsParts tick ts its moves) told_cut reads)

  -- each of them is a part
  text_there : (head : Option FileHead) (items : List Item) (text : List ℕ) → IfSome head IsHead →
      Contains (file_texts desk.changed head items) text → (h : Option FileHead) × (item : Item) × Contains items item × IfSome h IsHead
      × (text ≡ message_text h (moved_at desk.changed item) item.bytes)
  text_there head [] text is c = absurd (none_in text c)
  text_there head (item ∷ items) text is c =
      elim (cons_cases (message_text head (moved_at desk.changed item) item.bytes) (file_texts desk.changed None items) text c) [
        | inl same ↦ (head, item, cons_first item items, is, sym same)
        | inr later ↦
            let found = text_there None items text tt later in
            (found.0, found.1, cons_later item items found.1 found.2, found.3, found.4)
      ]

  pub no_part : (text : List ℕ) → Contains (messages_of octets) text → IsNoPart desk.tick text → ⊥
  no_part text there not =
      let found = text_there (head_of desk.tick tells.file.items) tells.file.items text is_head
      (subst (λ (ts : List (List ℕ)). Contains ts text) told_cut there) in
      let move = told_move found.1 found.2 in
      not found.0 (moved_at desk.changed found.1) found.1 (moved_fits desk.changed fit found.1) move.0 move.1 found.3 found.4

  -- a first message, if there is any
  abbrev Begins : Type 0
  Begins = (item : Item) × (rest : List ℕ) × (octets ≡ message_text (head_of desk.tick tells.file.items) (moved_at desk.changed item)
      item.bytes ++ rest)

  pub empty_or_begins : ((octets ≡ []) × (desk.tick ≡ 0)) ⊎ Begins
  unfolding messages_text
  empty_or_begins = at tells.file.items refl
    where
      nothing_kept : (kept : List Item) → SameItems [] kept → kept ≡ []
      nothing_kept [] same = refl
      nothing_kept (item ∷ kept) same = absurd (none_in item ((same item).1 (cons_first item kept)))

      at : (items : List Item) → tells.file.items ≡ items → ((octets ≡ []) × (desk.tick ≡ 0)) ⊎ Begins
      at [] none = inl (
        tells.file.octets_are ∙ ap (λ (is : List Item). messages_text desk.changed (head_of desk.tick tells.file.items) is) none,
        tells.told.empty (nothing_kept desk.kept (subst (λ (is : List Item). SameItems is desk.kept) none tells.file.items_are.same)),
      )
      at (item ∷ items) some = inr (
        item,
        messages_text desk.changed None items,
        tells.file.octets_are ∙ ap (λ (is : List Item). messages_text desk.changed (head_of desk.tick tells.file.items) is) some,
      )

  -- it tells the tick, and no other form
  pub tick_told : (tick : ℕ) → TellsTick octets tick → tick ≡ desk.tick
  tick_told tick is = elim empty_or_begins [
    | inl none ↦ is.empty none.0 ∙ sym none.1
    | inr begins ↦ is.first (record { items = length tells.file.items; tick = desk.tick }) (moved_at desk.changed begins.0) begins.0.bytes
        begins.1 is_head begins.2
  ]

  pub form_told : ¬ NamesOtherForm octets
  form_told other = elim empty_or_begins [
    | inl none ↦
        let named : HasNumber octets (begins_text ++ codes ";X-FORM=") other.0 other.1.after = other.1.named in
        let e : [] ≡ (begins_text ++ codes ";X-FORM=") ++ (named.digits ++ other.1.after) = sym none.0 ∙ named.whole in
        absurd cc
    | inr begins ↦
        let head : FileHead = record { items = length tells.file.items; tick = desk.tick } in
        other.2 (one_number octets (begins_text ++ codes ";X-FORM=") other.0 1 other.1.after
        (first_text head.items head.tick (decimal (moved_at desk.changed begins.0) ++
        (version_end ++ (drop 57 begins.0.bytes ++ begins.1))))
        other.1.named
        (form_of_first octets head (moved_at desk.changed begins.0) begins.0.bytes begins.1 begins.2)).0
  ]

-- ---- reading on

pub none_read : (octets : List ℕ) (tick : ℕ) → FileSoFar octets octets tick [] []
none_read octets tick = record { read = λ others more reads. reads; there = λ text h. h }

pub one_read : (octets rest message after : List ℕ) (old new : FileParts) → FileSoFar octets rest old.tick old.items.items old.moves.items →
    CutsMessage rest message after → AddsPart message old new → FileSoFar octets after new.tick new.items.items new.moves.items
one_read octets rest message after old new so_far cut adds =
    subst (λ (t : ℕ). FileSoFar octets after t new.items.items new.moves.items) (sym adds.tick_is)
    (subst (λ (is : List Item). FileSoFar octets after old.tick is new.moves.items) (sym adds.items_are)
    (subst (λ (ms : Carried). FileSoFar octets after old.tick (old.items.items ++ adds.given) ms) (sym adds.moves_are) (record {
      read = λ others more reads.
          subst (λ (is : List Item). ReadsParts old.tick (messages_of octets) is
          ((old.moves.items ++ moves_at adds.moved adds.given) ++ more)) (sym (append_assoc old.items.items adds.given others))
          (subst (λ (ms : Carried). ReadsParts old.tick (messages_of octets) (old.items.items ++ (adds.given ++ others)) ms)
          (sym (append_assoc old.moves.items (moves_at adds.moved adds.given) more))
          (so_far.read (adds.given ++ others) (moves_at adds.moved adds.given ++ more)
          (subst (λ (ts : List (List ℕ)). ReadsParts old.tick ts (adds.given ++ others) (moves_at adds.moved adds.given ++ more))
          (sym cut.messages) (adds.moved, adds.given, others, more, adds.part, refl, refl, reads))));
      there = λ text h. so_far.there text (subst (λ (ts : List (List ℕ)). Contains ts text) (sym cut.messages)
          (cons_later message (messages_of after) text h));
    })))

pub all_read : (octets rest : List ℕ) (parts : FileParts) → FileSoFar octets rest parts.tick parts.items.items parts.moves.items →
    TellsTick octets parts.tick → messages_of rest ≡ [] → ReadsFile octets parts
all_read octets rest parts so_far tick none = record {
  tick = tick;
  all = subst (λ (is : List Item). ReadsParts parts.tick (messages_of octets) is parts.moves.items) (append-nil parts.items.items)
      (subst (λ (ms : Carried). ReadsParts parts.tick (messages_of octets) (parts.items.items ++ []) ms) (append-nil parts.moves.items)
      (so_far.read [] [] (subst (λ (ts : List (List ℕ)). ReadsParts parts.tick ts [] []) (sym none) (refl, refl))));
}

-- a message that is not one of a file makes the bytes refused
pub refuses_part : (octets rest message after : List ℕ) (tick : ℕ) (items : List Item) (moves : Carried) → FileSoFar octets rest tick
    items moves →
    TellsTick octets tick → CutsMessage rest message after → IsNoPart tick message → (number : Option ℕ) → RefusesFile octets
    (Broken number)
refuses_part octets rest message after tick items moves so_far told cut not number = (
  told.this_form,
  λ desk tells. no_part octets desk tells message
      (so_far.there message (subst (λ (ts : List (List ℕ)). Contains ts message) (sym cut.messages)
      (cons_first message (messages_of after))))
      (subst (λ (t : ℕ). IsNoPart t message) (tick_told octets desk tells tick told) not),
)

pub refuses_if : (e : FileError) (number : ℕ) (octets rest message after : List ℕ) (tick : ℕ) (items : List Item) (moves : Carried) →
    FileSoFar octets rest tick items moves → TellsTick octets tick → CutsMessage rest message after →
    IfFileRefused e (λ (refusal : FileRefusal). (refusal ≡ Broken (Some number)) × IsNoPart tick message) →
    IfFileRefused e (RefusesFile octets)
refuses_if error.NoMemory number octets rest message after tick items moves so_far told cut is = tt
refuses_if (error.Refused refusal) number octets rest message after tick items moves so_far told cut is =
    subst (RefusesFile octets) (sym is.0) (refuses_part octets rest message after tick items moves so_far told cut is.1 (Some number))

-- ---- the moves that were read

abbrev IsMoveOf : ℕ → List ℕ × ℕ → Type 0
IsMoveOf tick move = (0 < move.1) × (move.1 ≤ tick)

given_moves : (tick moved : ℕ) → 0 < moved → moved ≤ tick → (given : List Item) (move : List ℕ × ℕ) → Contains (moves_at moved given) move →
    IsMoveOf tick move
given_moves tick moved some within [] move h = absurd (none_in move h)
given_moves tick moved some within (item ∷ given) move h = elim (cons_cases (uid_of item.key, moved) (moves_at moved given) move h) [
  | inl same ↦ subst (IsMoveOf tick) same (some, within)
  | inr later ↦ given_moves tick moved some within given move later
]

pub moves_within : (tick : ℕ) (texts : List (List ℕ)) (items : List Item) (moves : Carried) → ReadsParts tick texts items moves →
    (move : List ℕ × ℕ) → Contains moves move → IsMoveOf tick move
moves_within tick [] items moves reads move h =
    absurd (none_in move (subst (λ (ms : Carried). Contains ms move) reads.1 h))
moves_within tick (text ∷ texts) items moves (moved, given, others, rest, part, items_are, moves_are, more) move h =
    elim (Contains-append_cases (moves_at moved given) rest move (subst (λ (ms : Carried). Contains ms move) moves_are h)) [
      | inl here ↦ given_moves tick moved part.some part.within given move here
      | inr later ↦ moves_within tick texts others rest more move later
    ]

pub moves_are : (octets : List ℕ) (parts : FileParts) → ReadsFile octets parts → AreMovesTo parts.tick parts.moves.items
moves_are octets parts reads = all_each (IsMoveOf parts.tick) parts.moves.items
    (λ move h. moves_within parts.tick (messages_of octets) parts.items.items parts.moves.items reads.all move h)

-- a move of a file is that of an item
move_there : (changed : Carried) (items : List Item) (item : Item) → Contains items item →
    Contains (file_moves changed items) (uid_of item.key, moved_at changed item)
move_there changed [] item h = absurd (none_in item h)
move_there changed (first ∷ items) item h = elim (cons_cases first items item h) [
  | inl same ↦ subst (λ (i : Item). Contains (file_moves changed (first ∷ items)) (uid_of i.key, moved_at changed i)) same
      (cons_first (uid_of first.key, moved_at changed first) (file_moves changed items))
  | inr later ↦ cons_later (uid_of first.key, moved_at changed first) (file_moves changed items) (uid_of item.key, moved_at changed item)
      (move_there changed items item later)
]

item_there : (changed : Carried) (items : List Item) (uid : List ℕ) (tick : ℕ) → Contains (file_moves changed items) (uid, tick) →
    (item : Item) × Contains items item × (uid_of item.key ≡ uid) × (moved_at changed item ≡ tick)
item_there changed [] uid tick h = absurd (none_in (uid, tick) h)
item_there changed (first ∷ items) uid tick h =
    elim (cons_cases (uid_of first.key, moved_at changed first) (file_moves changed items) (uid, tick) h) [
      | inl same ↦ (first, cons_first first items, ap (λ (m : List ℕ × ℕ). m.0) same, ap (λ (m : List ℕ × ℕ). m.1) same)
      | inr later ↦
          let found = item_there changed items uid tick later in
          (found.0, cons_later first items found.0 found.1, found.2, found.3)
    ]

-- if bytes tell a desk, a UID moved at the tick that is read from them
reaches : (octets : List ℕ) (parts : FileParts) → ReadsFile octets parts → (desk : Shown) → TellsDesk octets desk →
    ReachTick parts.tick parts.moves.items
reaches octets parts reads desk tells some =
    let tick : parts.tick ≡ desk.tick = tick_told octets desk tells parts.tick reads.tick in
    let at = tells.told.reached (subst (λ (t : ℕ). 0 < t) tick some) in
    let found = tells.told.kept at.0 desk.tick at.1 in
    let are = parts_told octets desk tells parts.tick parts.items.items parts.moves.items reads.all in
    let there : Contains tells.file.items found.0 = (tells.file.items_are.same found.0).1 found.1 in
    let moved : moved_at desk.changed found.0 ≡ parts.tick =
    ap (λ (u : List ℕ). unwrap_or (tick_at desk.changed u) 0) found.2 ∙ ap (λ (o : Option ℕ). unwrap_or o 0) at.1 ∙ sym tick in (
      uid_of found.0.key,
      subst (λ (ms : Carried). Contains ms (uid_of found.0.key, parts.tick)) (sym are.1)
          (subst (λ (t : ℕ). Contains (file_moves desk.changed tells.file.items) (uid_of found.0.key, t)) moved
          (move_there desk.changed tells.file.items found.0 there)),
    )

pub not_reached : (octets : List ℕ) (parts : FileParts) → ReadsFile octets parts → (ReachTick parts.tick parts.moves.items → ⊥) →
    (number : Option ℕ) → RefusesFile octets (Broken number)
not_reached octets parts reads not number = (reads.tick.this_form, λ desk tells. not (reaches octets parts reads desk tells))

-- the last move of a UID in a file
last_is : (changed : Carried) (items : List Item) (item : Item) → Contains items item →
    last_move (file_moves changed items) (uid_of item.key) ≡ Some (moved_at changed item)
last_is changed items item h =
    let some = last_there (file_moves changed items) (uid_of item.key) (moved_at changed item) (move_there changed items item h) in
    let at = last_in (file_moves changed items) (uid_of item.key) some.0 some.1 in
    let from = item_there changed items at.0 some.0 at.1 in
    let uids : uid_of from.0.key ≡ uid_of item.key = from.2 ∙ at.2 in
    some.1 ∙ ap Some (sym from.3 ∙ ap (λ (u : List ℕ). unwrap_or (tick_at changed u) 0) uids)

-- ---- the desk that is made of the parts

same_texts : (a b : Carried) (head : Option FileHead) (items : List Item) →
    ((item : Item) → Contains items item → moved_at a item ≡ moved_at b item) → messages_text a head items ≡ messages_text b head items
unfolding messages_text
same_texts a b head [] same = refl
same_texts a b head (item ∷ items) same =
    ap (λ (t : ℕ). message_text head t item.bytes ++ messages_text a None items) (same item (cons_first item items))
    ∙ ap (λ (t : List ℕ). message_text head (moved_at b item) item.bytes ++ t)
    (same_texts a b None items (λ other h. same other (cons_later item items other h)))

module _ (octets : List ℕ) (parts : FileParts) (desk : Shown) (reads : ReadsFile octets parts) (made : IsDeskOfParts parts desk) where
  -- if the bytes are the file of any desk, they are the file of this one
  pub same_file : (other : Shown) → TellsDesk octets other → IsFileOf desk octets
  same_file other tells =
      let items : List Item = tells.file.items in
      let are = parts_told octets other tells parts.tick parts.items.items parts.moves.items reads.all in
      let tick : desk.tick ≡ other.tick = made.tick ∙ tick_told octets other tells parts.tick reads.tick in
      let kept : AreKept desk.kept items = subst (λ (is : List Item). AreKept desk.kept is) are.0 made.kept in
      let settled : AreKept other.kept other.kept = tells.told.settled in
      let same : SameItems items desk.kept = λ item. (
        λ h. (kept item).1 (kept_of items other.kept tells.file.items_are.same item
            ((settled item).0 ((tells.file.items_are.same item).0 h))),
        λ h. (tells.file.items_are.same item).1 ((settled item).1 (kept_to items other.kept tells.file.items_are.same item
            ((kept item).0 h))),
      ) in
      let moved : (item : Item) → Contains items item → moved_at other.changed item ≡ moved_at desk.changed item =
      λ item h. sym (ap (λ (o : Option ℕ). unwrap_or o 0)
      (made.changed (uid_of item.key) ∙ ap (λ (ms : Carried). last_move ms (uid_of item.key)) are.1 ∙ last_is other.changed items item
      h)) in
      record {
        items = items;
        items_are = record { ascend = tells.file.items_are.ascend; same = same };
        few = tells.file.few;
        octets_are = tells.file.octets_are ∙ same_texts other.changed desk.changed (head_of other.tick items) items moved
            ∙ ap (λ (t : ℕ). messages_text desk.changed (head_of t items) items) (sym tick);
      }
    where
      kept_of : (items kept : List Item) → SameItems items kept → (item : Item) → IsKept kept item → IsKept items item
      kept_of items kept same item = kept_same kept items item (λ i. ((same i).1, (same i).0))

      kept_to : (items kept : List Item) → SameItems items kept → (item : Item) → IsKept items item → IsKept kept item
      kept_to items kept same item = kept_same items kept item same

  pub not_file : (IsFileOf desk octets → ⊥) → (number : Option ℕ) → RefusesFile octets (Broken number)
  not_file not number = (reads.tick.this_form, λ other tells. not (same_file other tells))

  -- and if they are, it is told completely
  module _ (file : IsFileOf desk octets) (reach : ReachTick parts.tick parts.moves.items) where
    last_within : (uid : List ℕ) (tick : ℕ) → tick_at desk.changed uid ≡ Some tick → (0 < tick) × (tick ≤ parts.tick)
    last_within uid tick at =
        let found = last_in parts.moves.items uid tick (sym (made.changed uid) ∙ at) in
        moves_within parts.tick (messages_of octets) parts.items.items parts.moves.items reads.all (found.0, tick) found.1

    fit_made : Fit desk.changed
    fit_made uid tick at =
        let within = last_within uid tick at in
        let fits = reads.tick.fits in
        omega (arith, within.1, fits)

    head_made : IfSome (head_of desk.tick file.items) IsHead
    head_made = record { items = file.few; tick = subst (λ (t : ℕ). t < 2 ^ 64) (sym made.tick) reads.tick.fits }

    made_cut : messages_of octets ≡ file_texts desk.changed (head_of desk.tick file.items) file.items
    made_cut = ap messages_of file.octets_are ∙ file_cut desk.changed fit_made (head_of desk.tick file.items) head_made file.items

    made_parts : (parts.items.items ≡ file.items) × (parts.moves.items ≡ file_moves desk.changed file.items)
    made_parts = parts_are parts.tick desk.changed fit_made (head_of desk.tick file.items) head_made file.items parts.items.items
        parts.moves.items (subst (λ (ts : List (List ℕ)). ReadsParts parts.tick ts parts.items.items parts.moves.items) made_cut reads.all)

    empty_file : desk.kept ≡ [] → desk.tick ≡ 0
    unfolding messages_text
    empty_file none = made.tick ∙ reads.tick.empty (at file.items refl)
      where
        at : (items : List Item) → file.items ≡ items → octets ≡ []
        at [] is = file.octets_are ∙ ap (λ (its : List Item). messages_text desk.changed (head_of desk.tick file.items) its) is
        at (item ∷ items) is = absurd (none_in item (subst (λ (kept : List Item). Contains kept item) none
            ((file.items_are.same item).0 (subst (λ (its : List Item). Contains its item) (sym is) (cons_first item items)))))

    moved_is : (item : Item) → Contains file.items item → tick_at desk.changed (uid_of item.key) ≡ Some (moved_at desk.changed item)
    moved_is item there = made.changed (uid_of item.key) ∙ ap (λ (ms : Carried). last_move ms (uid_of item.key)) made_parts.1
        ∙ last_is desk.changed file.items item there

    reached : 0 < desk.tick → (uid : List ℕ) × (tick_at desk.changed uid ≡ Some desk.tick)
    reached some =
        let at = reach (subst (λ (t : ℕ). 0 < t) made.tick some) in
        let from = item_there desk.changed file.items at.0 parts.tick
        (subst (λ (ms : Carried). Contains ms (at.0, parts.tick)) made_parts.1 at.1) in
        (uid_of from.0.key, moved_is from.0 from.1 ∙ ap Some (from.3 ∙ sym made.tick))

    pub told_file : TellsDesk octets desk
    told_file = record {
      told = record {
        settled = λ item. let again = kept_again desk.kept parts.items.items made.kept item in
            (λ h. again.1 ((made.kept item).0 h), λ k. (made.kept item).1 (again.0 k));
        ticks = λ uid tick at. let within = last_within uid tick at in
            (within.0, subst (λ (t : ℕ). tick ≤ t) (sym made.tick) within.1);
        kept = λ uid tick at.
            let found = last_in parts.moves.items uid tick (sym (made.changed uid) ∙ at) in
            let from = item_there desk.changed file.items found.0 tick
            (subst (λ (ms : Carried). Contains ms (found.0, tick)) made_parts.1 found.1) in
            (from.0, (file.items_are.same from.0).0 from.1, from.2 ∙ found.2);
        moved = λ item there. (moved_at desk.changed item, moved_is item ((file.items_are.same item).1 there));
        empty = empty_file;
        reached = reached;
        fits = subst (λ (t : ℕ). t < 2 ^ 64) (sym made.tick) reads.tick.fits;
      };
      file = file;
    }

-- ---- the laws

pub tells_or_refuses : (octets : List ℕ) (desk : Shown) (refusal : FileRefusal) → TellsDesk octets desk → RefusesFile octets refusal → ⊥
tells_or_refuses octets desk OtherForm tells refuses = form_told octets desk tells refuses
tells_or_refuses octets desk (Broken message) tells refuses = refuses.1 desk tells
tells_or_refuses octets desk (Unwritten number) tells refuses = refuses

module _ (octets : List ℕ) (a b : Shown) (tells : TellsDesk octets a) (also : TellsDesk octets b) where
  one_parts : (tells.file.items ≡ also.file.items) × (file_moves a.changed tells.file.items ≡ file_moves b.changed also.file.items)
  one_parts = parts_told octets b also a.tick tells.file.items (file_moves a.changed tells.file.items) (told_parts octets a tells)

  one_items : tells.file.items ≡ also.file.items
  one_items = one_parts.0

  one_moves : file_moves a.changed tells.file.items ≡ file_moves b.changed also.file.items
  one_moves = one_parts.1

  one_tick : a.tick ≡ b.tick
  one_tick = elim (empty_or_begins octets a tells) [
    | inl none ↦ elim (empty_or_begins octets b also) [
      | inl nothing ↦ none.1 ∙ sym nothing.1
      | inr begins ↦ let e = sym none.0 ∙ begins.2 in absurd (not_empty (head_of b.tick also.file.items)
          (moved_at b.changed begins.0) begins.0.bytes begins.1 e)
    ]
    | inr begins ↦ elim (empty_or_begins octets b also) [
      | inl none ↦ let e = sym none.0 ∙ begins.2 in absurd (not_empty (head_of a.tick tells.file.items)
          (moved_at a.changed begins.0) begins.0.bytes begins.1 e)
      | inr starts ↦ tick_once (record { items = length tells.file.items; tick = a.tick })
          (record { items = length also.file.items; tick = b.tick }) (is_head octets a tells) (is_head octets b also)
          (moved_at a.changed begins.0) (moved_at b.changed starts.0) begins.0.bytes starts.0.bytes begins.1 starts.1
          (sym begins.2 ∙ starts.2)
    ]
  ]
    where
      not_empty : (head : Option FileHead) (at : ℕ) (bytes rest : List ℕ) → [] ≡ message_text head at bytes ++ rest → ⊥
      not_empty head at bytes rest e = cc

  moved_alike : (x y : Shown) (is_told : IsTold x) (are_told : IsTold y) (items : List Item) → SameItems items x.kept → SameItems items
      y.kept →
      file_moves x.changed items ≡ file_moves y.changed items → (uid : List ℕ) (tick : ℕ) → tick_at x.changed uid ≡ Some tick →
      tick_at y.changed uid ≡ Some tick
  moved_alike x y is_told are_told items of_x of_y same uid tick at =
      let found = is_told.kept uid tick at in
      let there : Contains items found.0 = (of_x found.0).1 found.1 in
      let moved = are_told.moved found.0 ((of_y found.0).0 there) in
      let last : moved_at x.changed found.0 ≡ moved_at y.changed found.0 =
      some_same (moved_at x.changed found.0) (moved_at y.changed found.0)
      (sym (last_is x.changed items found.0 there) ∙ ap (λ (ms : Carried). last_move ms (uid_of found.0.key)) same ∙
      last_is y.changed items found.0 there) in
      let before : moved_at x.changed found.0 ≡ tick = ap (λ (u : List ℕ). unwrap_or (tick_at x.changed u) 0) found.2 ∙
      ap (λ (o : Option ℕ). unwrap_or o 0) at in
      let now : moved_at y.changed found.0 ≡ moved.0 = ap (λ (o : Option ℕ). unwrap_or o 0) moved.1 in
      ap (tick_at y.changed) (sym found.2) ∙ moved.1 ∙ ap Some (sym now ∙ sym last ∙ before)

  one_change : (uid : List ℕ) → tick_at a.changed uid ≡ tick_at b.changed uid
  one_change uid = at (tick_at a.changed uid) (tick_at b.changed uid) refl refl
    where
      items : List Item
      items = tells.file.items

      of_b : SameItems tells.file.items b.kept
      of_b = subst (λ (is : List Item). SameItems is b.kept) (sym one_items) also.file.items_are.same

      moves : file_moves a.changed tells.file.items ≡ file_moves b.changed tells.file.items
      moves = one_moves ∙ ap (file_moves b.changed) (sym one_items)

      at : (o p : Option ℕ) → tick_at a.changed uid ≡ o → tick_at b.changed uid ≡ p → tick_at a.changed uid ≡ tick_at b.changed uid
      at None None is are = is ∙ sym are
      at (Some t) p is are =
          is ∙ sym (moved_alike a b tells.told also.told tells.file.items tells.file.items_are.same of_b moves uid t is)
      at None (Some t) is are =
          absurd (none_some t (sym is ∙ moved_alike b a also.told tells.told tells.file.items of_b tells.file.items_are.same (sym moves)
          uid t are))

  pub alike : AreAlike a b
  alike = record {
    kept = λ item. (
      λ h. (also.file.items_are.same item).0 (subst (λ (is : List Item). Contains is item) one_items
          ((tells.file.items_are.same item).1 h)),
      λ h. (tells.file.items_are.same item).0 (subst (λ (is : List Item). Contains is item) (sym one_items)
          ((also.file.items_are.same item).1 h)),
    );
    tick = one_tick;
    changed = one_change;
  }

-- desks that are alike have the same deltas
pub alike_delta : (desk other : Shown) (since : ℕ) (delta : List Item) → AreAlike desk other → IsDeltaOf desk since delta →
    IsDeltaOf other since delta
alike_delta desk other since delta are is = record {
  ascend = is.ascend;
  same = λ item. (
    λ h. let there = (is.same item).0 h in
        ((are.kept item).0 there.0, (there.1.0, sym (are.changed (uid_of item.key)) ∙ there.1.1, there.1.2)),
    λ h. (is.same item).1 ((are.kept item).1 h.0, (h.1.0, are.changed (uid_of item.key) ∙ h.1.1, h.1.2)),
  );
}

-- and are desks of the same steps
pub alike_steps : (steps : List (List Item)) (start : ℕ) (desk other : Shown) → AreAlike desk other → IsDeskOf steps start desk →
    IsDeskOf steps start other
alike_steps steps start desk other are is = record {
  kept = λ item. (
    λ h. (is.kept item).0 ((are.kept item).1 h),
    λ k. (are.kept item).0 ((is.kept item).1 k),
  );
  tick = subst (λ (t : ℕ). Ticks [] start steps t) are.tick is.tick;
  changed = λ since uid. (
    λ c. (is.changed since uid).0 (c.0, are.changed uid ∙ c.1, c.2),
    λ moved. let c = (is.changed since uid).1 moved in (c.0, sym (are.changed uid) ∙ c.1, c.2),
  );
}

-- the file is read as what the desk keeps
texts_read : (changed : Carried) → Fit changed → (head : Option FileHead) → IfSome head IsHead → (items : List Item) →
    AreMessages (file_texts changed head items) (alone items)
texts_read changed fit head is [] = tt
texts_read changed fit head is (item ∷ items) =
    (message_read head (moved_at changed item) item is (moved_fits changed fit item), texts_read changed fit None tt items)

pub file_messages : (octets : List ℕ) (desk : Shown) (batch : List Item) → TellsDesk octets desk → AscendOctets batch →
    SameItems batch desk.kept → ReadsDelta octets batch
file_messages octets desk batch tells ascend same = record {
  given = alone tells.file.items;
  reads = record {
    messages = messages_of octets;
    cut = cut_by_scan octets;
    read = subst (λ (ts : List (List ℕ)). AreMessages ts (alone tells.file.items)) (sym (told_cut octets desk tells))
        (texts_read desk.changed (fit octets desk tells) (head_of desk.tick tells.file.items) (is_head octets desk tells) tells.file.items);
  };
  batch_is = subst (λ (is : List Item). IsItemsOf batch is) (sym (concat_alone tells.file.items)) (record {
    ascend = ascend;
    same = λ item. (
      λ h. (tells.file.items_are.same item).1 ((same item).0 h),
      λ h. (same item).1 ((tells.file.items_are.same item).0 h),
    );
  });
}

-- ---- a message that is not one of a file

pub no_move_part : (tick : ℕ) (text : List ℕ) → TellsMove text None → IsNoPart tick text
no_move_part tick text tells head at item fits some within is same = none_some at (tells head at item.bytes fits is same)

pub other_move_part : (tick : ℕ) (text : List ℕ) (moved : ℕ) → TellsMove text (Some moved) → (0 < moved → moved ≤ tick → ⊥) →
    IsNoPart tick text
other_move_part tick text moved tells not head at item fits some within is same =
    let one : moved ≡ at = some_same moved at (tells head at item.bytes fits is same) in
    not (omega (arith, one, some)) (omega (arith, one, within))

pub refused_part : (tick : ℕ) (text : List ℕ) (refusal : MessageRefusal) → RefusesMessage text refusal → IsNoPart tick text
refused_part tick text refusal refuses head at item fits some within is same =
    message_apart text (item ∷ [])
    refusal (subst (λ (t : List ℕ). ReadsMessage t (item ∷ [])) (sym same) (message_read head at item is fits)) refuses
