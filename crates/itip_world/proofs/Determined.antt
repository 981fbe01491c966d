-- Desks that heard the same give the same answers.
use Rattle.std.proofs.Common.{◌≡◌, ℕ, zero, suc, min, ◌-◌, ◌^◌, ◌<◌, Bool, true, false, List, [], ◌∷◌, ◌++◌, length, refl, sym, ap, subst}
use Rattle.std.proofs.Common.{◌∙◌, arith, inl, inr, Option, Some, None}
use Rattle.std.specs.Prelude.{◌↔◌, slice_get}
use Rattle.std.specs.List.{Contains, flat_map, list_any}
use Rattle.std.proofs.lemmas.List.Concat.{flat_map-append}
use Rattle.itip_message.specs.Message.{ReadsMessage, RefusesMessage}
use Rattle.itip_items.specs.KeyParts.{uid_of}
use Rattle.itip_items.specs.declared.item.Item.{Item}
use Rattle.itip_state.specs.Kept.{SameItems, IsKept, AreKept, Moves}
use Rattle.itip_state.proofs.Keeping.{kept_iff}
use Rattle.itip_view.specs.declared.window.Window.{Window}
use Rattle.itip_view.specs.declared.row.Row.{Row}
use Rattle.itip_view.specs.Rows.{AreRows, AreTooMany}
use Rattle.itip_view.specs.ListText.{list_text}
use Rattle.itip_view.proofs.OfKept.{row_of_same}
use Rattle.itip_view.specs.Showing.{Shows, AreRowsWhere, AreTooManyWhere}
use Rattle.itip_view.proofs.OneList.{one_view, text_or_too_many, one_where, few_or_too_many}
use Rattle.itip_report.specs.Named.{IsReportOf, IsOfRows}
use Rattle.itip_report.specs.Resending.{IsResendOf}
use Rattle.itip_report.specs.NextSequence.{IsNext}
use Rattle.itip_report.specs.declared.report_name.ReportName.{ReportName}
use Rattle.itip_report.proofs.NamedReports.{report_alike, one_named, named_or_too_many}
use Rattle.itip_report.proofs.OfKept.{resend_alike, next_alike}
use Rattle.itip_report.proofs.OneReport.{one_resend, one_next}
use Rattle.itip_desk.specs.HeardSteps.{heard}
use Rattle.itip_desk.specs.Ticks.{TickStep, Ticks, MovedAfter}
use Rattle.itip_world.specs.Worlds.{History, Past, no_past, Takes, Hears, EventStep, CountsKept}
use Rattle.itip_world.specs.Worlds.{IsSpent, IsPacketOf, IsBatchOf, desk_of, LacksOnlyPacket}
use Rattle.itip_world.specs.Worlds.Hears.{reads, refuses}
use Rattle.itip_world.specs.Worlds.EventStep.{delivers, posts, arrives}
use Rattle.itip_world.specs.Worlds.IsSpent.{spends, spends_arriving}
use Rattle.itip_world.specs.declared.event.Event.{Event}
use Rattle.itip_world.specs.declared.event.Event.TheVariants.{Deliver, Post, Arrive}
use Rattle.itip_desk.specs.declared.refusal.Refusal.TheVariants.{Message, NoPacket}
use Rattle.itip_world.specs.declared.event.Outcome.{Outcome}
use Rattle.itip_world.specs.declared.event.Outcome.TheVariants.{Heard, Posted, Refused}
use Rattle.itip_desk.proofs.ReadDeltas.{one_order}
use Rattle.itip_message.specs.declared.error.MessageRefusal.{MessageRefusal}
use Rattle.itip_message.proofs.OneMessage.{one_message, one_cause, message_apart}
use Rattle.itip_script.specs.Orders.{Order}
use Rattle.itip_script.specs.Script.{orders_of}
use Rattle.itip_world.specs.Running.{Answer, refused, listed, listed_for, counted, reported, resent, next_is, answer_text, answer_to}
use Rattle.itip_world.specs.Running.{event_of, is_refusal, HasTick, AreListed, AreListedFor, Happens}
use Rattle.itip_world.specs.Running.{Step, Runs, Writes, IsOutput}
use Rattle.itip_world.specs.Running.Happens.{is_done, at_no_desk, of_no_packet, spends_ticks}
use Rattle.itip_world.specs.Running.Step.{happens, lists_rows, lists_too_many, lists_no_desk, lists_rows_for, lists_too_many_for}
use Rattle.itip_world.specs.Running.Step.{lists_no_desk_for, counts_kept, counts_no_desk, reports_lines, reports_too_many, reports_no_desk}
use Rattle.itip_world.specs.Running.Step.{resends_messages, resends_no_desk, tells_next, tells_no_desk, is_refused}
use Rattle.itip_world.proofs.Counting.{same_count}
use Rattle.itip_world.proofs.SameHistories.{same_back, same_then, same_together, keep_same_of, SameSteps, SameHistory, SameHistories}
use Rattle.itip_world.proofs.SameHistories.{same_heard, same_one_more, same_lengths, same_at, same_with_step, steps_back, history_back}
use Rattle.itip_world.proofs.SameHistories.{histories_back, same_start, within_at, some_items, ticks_one, ticks_split, moved_one}

-- A text is a message of some items or is refused for some cause, and of no others.
pub record IsReadOnce (bytes : List ℕ) : Type 0 where
  pub items : (a b : List Item) → ReadsMessage bytes a → ReadsMessage bytes b → SameItems a b
  pub fault : (f g : MessageRefusal) → RefusesMessage bytes f → RefusesMessage bytes g → f ≡ g
  pub apart : (a : List Item) (f : MessageRefusal) → ReadsMessage bytes a → RefusesMessage bytes f → ⊥

read_once : (bytes : List ℕ) → IsReadOnce bytes
read_once bytes = record {
  items = λ a b reads other item. subst (λ (all : List Item). Contains a item ↔ Contains all item) (one_message bytes a b reads other)
      (λ h. h, λ h. h);
  fault = one_cause bytes;
  apart = message_apart bytes;
}

-- ---- lists

rows_same : (a b : List Item) (window : Window) (rows : List Row) → SameItems a b → AreRows b window rows → AreRows a window rows
rows_same a b window rows same are = record {
  ascend = are.ascend;
  each = λ row h. row_of_same b a (kept_iff b a (same_back a b same)) window row (are.each row h);
  all = λ row is. are.all row (row_of_same a b (kept_iff a b same) window row is);
}

pub rows_one : (a b : List Item) (window : Window) (rows rows' : List Row) → SameItems a b → AreListed a window rows →
    AreListed b window rows' → rows ≡ rows'
rows_one a b window rows rows' same are are' = one_view a window rows rows' are.are_rows (rows_same a b window rows' same are'.are_rows)

pub rows_or_too_many : (a b : List Item) (window : Window) (rows : List Row) → SameItems a b → AreListed a window rows →
    AreTooMany b window → ⊥
rows_or_too_many a b window rows same are many =
    text_or_too_many a window (list_text rows) (record { rows = rows; are_rows = are.are_rows; few = are.few; text_is = refl }) (record {
      some = many.some;
      ascend = many.ascend;
      each = λ row h. row_of_same b a (kept_iff b a (same_back a b same)) window row (many.each row h);
      many = many.many;
    })

-- ---- lists of one attendee

module _ (address : List ℕ) (a b : List Item) (window : Window) where
  rows_for_same : (rows : List Row) → SameItems a b → AreRowsWhere (Shows address) b window rows →
      AreRowsWhere (Shows address) a window rows
  rows_for_same rows same are = record {
    ascend = are.ascend;
    each = λ row h. row_of_same b a (kept_iff b a (same_back a b same)) window row (are.each row h);
    holds = are.holds;
    all = λ row is. are.all row (row_of_same a b (kept_iff a b same) window row is);
  }

  pub rows_for_one : (rows rows' : List Row) → SameItems a b → AreListedFor address a window rows → AreListedFor address b window rows' →
      rows ≡ rows'
  rows_for_one rows rows' same are are' =
      one_where (Shows address) a window rows rows' are.are_rows (rows_for_same rows' same are'.are_rows)

  pub rows_or_too_many_for : (rows : List Row) → SameItems a b → AreListedFor address a window rows →
      AreTooManyWhere (Shows address) b window → ⊥
  rows_or_too_many_for rows same are many = few_or_too_many (Shows address) a window rows are.are_rows are.few (record {
    some = many.some;
    ascend = many.ascend;
    each = λ row h. row_of_same b a (kept_iff b a (same_back a b same)) window row (many.each row h);
    holds = many.holds;
    many = many.many;
  })

-- ---- reports, messages to send again, sequences

-- what one of two sets that have the same items keeps, the other keeps
kept_same : (a b : List Item) → SameItems a b → (item : Item) → IsKept b item ↔ IsKept a item
kept_same a b same = kept_iff b a (same_back a b same)

report_one : (a b : List Item) (window : Window) (named : ReportName) (lines lines' : List (List ℕ)) → SameItems a b →
    IsReportOf named a window lines → IsReportOf named b window lines' → lines ≡ lines'
report_one a b window named lines lines' same is is' =
    one_named a window named lines lines' is (report_alike b a (kept_same a b same) window named lines' is')

report_or_too_many : (named : ReportName) → IsOfRows named → (a b : List Item) (window : Window) (lines : List (List ℕ)) → SameItems a b →
    IsReportOf named a window lines → AreTooMany b window → ⊥
report_or_too_many named of_rows a b window lines same is =
    named_or_too_many b window named of_rows lines (report_alike a b (kept_iff a b same) window named lines is)

resend_one : (a b : List Item) (uid : List ℕ) (bytes bytes' : Option (List ℕ)) → SameItems a b → IsResendOf a uid bytes →
    IsResendOf b uid bytes' → bytes ≡ bytes'
resend_one a b uid bytes bytes' same is is' = one_resend a uid bytes bytes' is (resend_alike b a (kept_same a b same) uid bytes' is')

next_one : (a b : List Item) (uid : List ℕ) (next next' : Option ℕ) → SameItems a b → IsNext a uid next → IsNext b uid next' → next ≡ next'
next_one a b uid next next' same is is' = one_next a uid next next' is (next_alike b a (kept_same a b same) uid next' is')

-- ---- packets

tick_same : (before before' step step' : List Item) (tick next : ℕ) → SameItems before before' → SameItems step step' →
    TickStep before step tick next → TickStep before' step' tick next
tick_same before before' step step' tick next same one (inl ((uid, moves), up)) =
    inl (
      (
        uid,
        λ keeps. moves (keep_same_of uid before' before (before' ++ step') (before ++ step) (same_back before before' same)
            (same_back (before ++ step) (before' ++ step') (same_together before before' step step' same one)) keeps),
      ),
      up,
    )
tick_same before before' step step' tick next same one (inr (keeps, stays)) =
    inr (
      λ uid. keep_same_of uid before before' (before ++ step) (before' ++ step') same (same_together before before' step step' same one)
          (keeps uid),
      stays,
    )

moved_same : (before before' : List Item) (tick : ℕ) (steps steps' : List (List Item)) (since : ℕ) (uid : List ℕ) →
    SameItems before before' → SameSteps steps steps' → MovedAfter before tick steps since uid → MovedAfter before' tick steps' since uid
moved_same before before' tick [] steps' since uid same steps moved = absurd moved
moved_same before before' tick (a ∷ as') [] since uid same steps moved = absurd steps
moved_same before before' tick (a ∷ as') (b ∷ bs) since uid same steps (next, one, inl (moves, above)) = (
  next,
  tick_same before before' a b tick next same steps.0 one,
  inl (
    λ keeps. moves (keep_same_of uid before' before (before' ++ b) (before ++ a) (same_back before before' same)
        (same_back (before ++ a) (before' ++ b) (same_together before before' a b same steps.0)) keeps),
    above,
  ),
)
moved_same before before' tick (a ∷ as') (b ∷ bs) since uid same steps (next, one, inr later) = (
  next,
  tick_same before before' a b tick next same steps.0 one,
  inr (moved_same (before ++ a) (before' ++ b) next as' bs since uid (same_together before before' a b same steps.0) steps.1 later),
)

itself : (x : List Item) → SameItems x x
itself x item = (λ h. h, λ h. h)

packet_there : (h h' : History) (since : ℕ) (p p' : List Item) → SameHistory h h' → IsPacketOf h since p → IsPacketOf h' since p' →
    (item : Item) → Contains p item → Contains p' item
packet_there h h' since p p' same is is' item here =
    let tells = (is item).0 here in
    (is' item).1 (
      (same_heard h.steps h'.steps same.steps item).0 tells.0,
      subst (λ (t : ℕ). MovedAfter [] t h'.steps since (uid_of item.key)) same.start
          (moved_same [] [] h.start h.steps h'.steps since (uid_of item.key) (itself []) same.steps tells.1),
    )

packet_one : (h h' : History) (since : ℕ) (p p' : List Item) → SameHistory h h' → IsPacketOf h since p → IsPacketOf h' since p' →
    SameItems p p'
packet_one h h' since p p' same is is' item =
    (packet_there h h' since p p' same is is' item, packet_there h' h since p' p (history_back h h' same) is' is item)

kept_one : (a b kept kept' : List Item) → SameItems a b → AreKept kept a → AreKept kept' b → SameItems kept kept'
kept_one a b kept kept' same are are' item = let iff = kept_iff a b same item in
    (λ h. (are' item).1 (iff.0 ((are item).0 h)), λ h. (are item).1 (iff.1 ((are' item).0 h)))

count_one : (a b : List Item) (count count' : ℕ) → SameItems a b → CountsKept a count → CountsKept b count' → count ≡ count'
count_one a b count count' same is is' =
    is.count_is ∙ ap (λ (n : ℕ). min n (2 ^ 64 - 1))
    (same_count is.kept is'.kept is.once is'.once (kept_one a b is.kept is'.kept same is.are_kept is'.are_kept)) ∙ sym is'.count_is

batch_one : (p p' b b' : List Item) → SameItems p p' → IsBatchOf p b → IsBatchOf p' b' → b ≡ b'
batch_one p p' b b' same is is' = one_order b b' is.ascend is'.ascend (kept_one p p' b b' same is.kept is'.kept)

same_step_at : (a b : List (List Item)) (number : ℕ) (x y : List Item) → SameSteps a b → slice_get a number ≡ Some x →
    slice_get b number ≡ Some y → SameItems x y
same_step_at [] b number x y same at there = absurd cc
same_step_at (a ∷ as') [] number x y same at there = absurd same
same_step_at (a ∷ as') (b ∷ bs) zero x y same at there =
    subst (λ (h : List Item). SameItems h y) (some_items a x at) (subst (λ (h : List Item). SameItems a h) (some_items b y there) same.0)
same_step_at (a ∷ as') (b ∷ bs) (suc number) x y same at there = same_step_at as' bs number x y same.1 at there

steps_length : (a b : List (List Item)) → SameSteps a b → length a ≡ length b
steps_length [] [] same = refl
steps_length [] (b ∷ bs) same = absurd same
steps_length (a ∷ as') [] same = absurd same
steps_length (a ∷ as') (b ∷ bs) same = ap suc (steps_length as' bs same.1)

step_within : (a : List (List Item)) (number : ℕ) (x : List Item) → slice_get a number ≡ Some x → number < length a
step_within [] number x at = absurd cc
step_within (a ∷ as') zero x at = omega arith
step_within (a ∷ as') (suc number) x at = omega (arith, step_within as' number x at)

-- ---- what happened, up to the order of items

pub record SamePast (old old' : Past) : Type 0 where
  pub desks : SameHistories old.histories old'.histories
  pub packets : SameSteps old.packets old'.packets

past_back : (old old' : Past) → SamePast old old' → SamePast old' old
past_back old old' same =
    record { desks = histories_back old.histories old'.histories same.desks; packets = steps_back old.packets old'.packets same.packets }

-- ---- one event

takes_one : (h h' : History) (step step' : List Item) (uids uids' : List (List ℕ)) (tick tick' : ℕ) → SameHistory h h' →
    SameItems step step' → Takes h step uids tick → Takes h' step' uids' tick' → Heard tick (length uids) ≡ Heard tick' (length uids')
takes_one h h' step step' uids uids' tick tick' same one t t' =
    let ticks : tick ≡ tick' =
    ticks_one [] [] h.start h'.start (h.steps ++ step ∷ []) (h'.steps ++ step' ∷ []) tick tick' (itself []) same.start
    (same_one_more h.steps h'.steps step step' same.steps one) t.ticks t'.ticks in
    let moved = moved_one uids uids' (heard h.steps) (heard h'.steps) step step' (same_heard h.steps h'.steps same.steps) one t.moved
    t'.moved in
    ap (λ (n : ℕ). Heard n (length uids)) ticks ∙ ap (λ (us : List (List ℕ)). Heard tick' (length us)) moved

hears_one : (h h' : History) (bytes : List ℕ) (step step' : List Item) (outcome outcome' : Outcome) → SameHistory h h' → IsReadOnce bytes →
    Hears h bytes step outcome → Hears h' bytes step' outcome' → (outcome ≡ outcome') × SameItems step step'
hears_one h h' bytes step step' _ _ same once (reads items uids tick r s t) (reads items' uids' tick' r' s' t') =
    let one : SameItems step step' =
    same_then step items step' s (same_then items items' step' (once.items items items' r r') (same_back step' items' s')) in
    (takes_one h h' step step' uids uids' tick tick' same one t t', one)
hears_one h h' bytes step step' _ _ same once (reads items uids tick r s t) (refuses fault f e) = absurd (once.apart items fault r f)
hears_one h h' bytes step step' _ _ same once (refuses fault f e) (reads items uids tick r s t) = absurd (once.apart items fault r f)
hears_one h h' bytes step step' _ _ same once (refuses fault f e) (refuses fault' f' e') = (
  ap (λ (g : _). Refused (Message g)) (once.fault fault fault' f f'),
  subst (λ (x : List Item). SameItems x step') (sym e) (subst (λ (x : List Item). SameItems [] x) (sym e') (itself [])),
)

event_one : (old old' : Past) (event : Event) (outcome outcome' : Outcome) (new new' : Past) → SamePast old old' →
    ((text : List ℕ) → IsReadOnce text) → EventStep old event outcome new → EventStep old' event outcome' new' → (outcome ≡ outcome') ×
    SamePast new new'
event_one old old' _ outcome outcome' _ _ same once (delivers desk text h step _ at hears) (delivers _ _ h' step' _ at' hears') =
    let one = hears_one h h' text step step' outcome outcome' (same_at old.histories old'.histories desk h h' same.desks at at')
    (once text) hears hears' in
    (one.0, record { desks = same_with_step old.histories old'.histories desk step step' same.desks one.1; packets = same.packets })
event_one old old' _ _ _ _ _ same once (posts desk since h p b at is batch) (posts _ _ h' p' b' at' is' batch') =
    let one = packet_one h h' since p p' (same_at old.histories old'.histories desk h h' same.desks at at') is is' in
    let numbers = steps_length old.packets old'.packets same.packets in
    let batches = batch_one p p' b b' one batch batch' in (
      ap (λ (n : ℕ). Posted n (length b)) numbers ∙ ap (λ (items : List Item). Posted (length old'.packets) (length items)) batches,
      record { desks = same.desks; packets = same_one_more old.packets old'.packets p p' same.packets one },
    )
event_one old old' _ _ _ _ _ same once (arrives packet desk items h uids tick there at t)
    (arrives _ _ items' h' uids' tick' there' at' t') =
    let one = same_step_at old.packets old'.packets packet items items' same.packets there there' in (
      takes_one h h' items items' uids uids' tick tick' (same_at old.histories old'.histories desk h h' same.desks at at') one t t',
      record { desks = same_with_step old.histories old'.histories desk items items' same.desks one; packets = same.packets },
    )

spent_step : (before before' step step' : List Item) (tick next : ℕ) (uid : List ℕ) → SameItems before before' → SameItems step step' →
    tick ≡ 2 ^ 64 - 1 → TickStep before step tick next → Moves before' step' uid → next < 2 ^ 64 → ⊥
spent_step before before' step step' tick next uid same one at (inl moved) moves has = let up = moved.1 in omega (arith, at, up)
spent_step before before' step step' tick next uid same one at (inr stays) moves has =
    moves (keep_same_of uid before before' (before ++ step) (before' ++ step') same (same_together before before' step step' same one)
    (stays.0 uid))

-- a step that moves a UID at the last tick would need a tick that doesn't exist
takes_spent : (h h' : History) (step step' : List Item) (uids : List (List ℕ)) (tick : ℕ) (uid : List ℕ) → SameHistory h h' →
    SameItems step step' → Takes h step uids tick → tick < 2 ^ 64
    → Ticks [] h'.start h'.steps (2 ^ 64 - 1) → Moves (heard h'.steps) step' uid → ⊥
takes_spent h h' step step' uids tick uid same one t has t' moves =
    let split = ticks_split [] h.start h.steps step tick t.ticks in
    let mid : split.0 ≡ 2 ^ 64 - 1 =
    ticks_one [] [] h.start h'.start h.steps h'.steps split.0 (2 ^ 64 - 1) (itself []) same.start same.steps split.1 t' in
    spent_step (heard h.steps) (heard h'.steps) step step' split.0 tick uid (same_heard h.steps h'.steps same.steps) one mid split.2 moves
    has

hears_spent : (h h' : History) (bytes : List ℕ) (step : List Item) (outcome : Outcome) (items' step' : List Item) (uid : List ℕ) →
    SameHistory h h' → IsReadOnce bytes → Hears h bytes step outcome → HasTick outcome
    → ReadsMessage bytes items' → SameItems step' items' → Ticks [] h'.start h'.steps (2 ^ 64 - 1) → Moves (heard h'.steps) step' uid → ⊥
hears_spent h h' bytes step _ items' step' uid same once (reads items uids tick r s t) has r' s' t' moves =
    let one : SameItems step step' =
    same_then step items step' s (same_then items items' step' (once.items items items' r r') (same_back step' items' s')) in
    takes_spent h h' step step' uids tick uid same one t has t' moves
hears_spent h h' bytes step _ items' step' uid same once (refuses fault f e) has r' s' t' moves = once.apart items' fault r' f

event_spent : (old old' : Past) (event : Event) (outcome : Outcome) (new : Past) → SamePast old old' →
    ((text : List ℕ) → IsReadOnce text) → EventStep old event outcome new → HasTick outcome → IsSpent old' event → ⊥
event_spent old old' _ outcome _ same once (delivers desk text h step _ at hears) has (spends _ _ h' items' step' uid at' r' s' t' m') =
    hears_spent h h' text step outcome items' step' uid (same_at old.histories old'.histories desk h h' same.desks at at') (once text)
    hears has r' s' t' m'
event_spent old old' _ _ _ same once (posts desk since h p b at is batch) has spent = elim spent [ ]
event_spent old old' _ _ _ same once (arrives packet desk items h uids tick there at t) has
    (spends_arriving _ _ items' h' uid there' at' t' m') =
    takes_spent h h' items items' uids tick uid (same_at old.histories old'.histories desk h h' same.desks at at')
    (same_step_at old.packets old'.packets packet items items' same.packets there there') t has t' m'

-- the desk and the packet that an event names exist
event_desk : (old : Past) (event : Event) (outcome : Outcome) (new : Past) → EventStep old event outcome new →
    desk_of event < length old.histories
event_desk old _ outcome _ (delivers desk text h step _ at hears) = within_at old.histories desk h at
event_desk old _ _ _ (posts desk since h p b at is batch) = within_at old.histories desk h at
event_desk old _ _ _ (arrives packet desk items h uids tick there at t) = within_at old.histories desk h at

-- an event that was done, or would spend ticks, lacks no packet
event_packet : (old : Past) (event : Event) (outcome : Outcome) (new : Past) (desks packet : ℕ) → EventStep old event outcome new →
    LacksOnlyPacket desks (length old.packets) event packet → ⊥
event_packet old _ outcome _ desks packet (delivers desk text h step _ at hears) lacks = lacks.1
event_packet old _ _ _ desks packet (posts desk since h p b at is batch) lacks = lacks.1
event_packet old _ _ _ desks packet (arrives number desk items h uids tick there at t) lacks =
    let missing = lacks.1.1 in
    let same = lacks.1.0 in
    omega (arith, step_within old.packets number items there, missing, same)

spent_desk : (old : Past) (event : Event) → IsSpent old event → desk_of event < length old.histories
spent_desk old _ (spends desk text h items step uid at r s t m) = within_at old.histories desk h at
spent_desk old _ (spends_arriving packet desk items h uid there at t m) = within_at old.histories desk h at

spent_packet : (old : Past) (event : Event) (desks packet : ℕ) → IsSpent old event →
    LacksOnlyPacket desks (length old.packets) event packet → ⊥
spent_packet old _ desks packet (spends desk text h items step uid at r s t m) lacks = lacks.1
spent_packet old _ desks packet (spends_arriving number desk items h uid there at t m) lacks =
    let missing = lacks.1.1 in
    let same = lacks.1.0 in
    omega (arith, step_within old.packets number items there, missing, same)

-- an event lacks one packet
lacks_one : (event : Event) (desks packets desks' packets' packet packet' : ℕ) → LacksOnlyPacket desks packets event packet →
    LacksOnlyPacket desks' packets' event packet' → packet ≡ packet'
lacks_one (Deliver desk bytes) desks packets desks' packets' packet packet' lacks lacks' = absurd lacks.1
lacks_one (Post desk since) desks packets desks' packets' packet packet' lacks lacks' = absurd lacks.1
lacks_one (Arrive number desk) desks packets desks' packets' packet packet' lacks lacks' = lacks.1.0 ∙ sym lacks'.1.0

-- the same number of desks and packets
module _ (old old' : Past) (same : SamePast old old') where
  desks_same : length old.histories ≡ length old'.histories
  desks_same = same_lengths old.histories old'.histories same.desks

  lacks_back : (event : Event) (packet : ℕ) → LacksOnlyPacket (length old'.histories) (length old'.packets) event packet →
      LacksOnlyPacket (length old'.histories) (length old.packets) event packet
  lacks_back event packet lacks =
      subst (λ (n : ℕ). LacksOnlyPacket (length old'.histories) n event packet) (sym (steps_length old.packets old'.packets same.packets))
      lacks

happens_one : (old old' : Past) (event : Event) (a a' : Answer) (new new' : Past) → SamePast old old' →
    ((text : List ℕ) → IsReadOnce text) → Happens old event a new → Happens old' event a' new' → (a ≡ a') × SamePast new new'
happens_one old old' event _ _ _ _ same once (is_done outcome new es has) (is_done outcome' new' es' has') =
    let one = event_one old old' event outcome outcome' new new' same once es es' in (ap (answer_to event) one.0, one.1)
happens_one old old' event _ _ _ _ same once (is_done outcome new es has) (at_no_desk missing) =
    absurd (omega (arith, event_desk old event outcome new es, desks_same old old' same))
happens_one old old' event _ _ _ _ same once (is_done outcome new es has) (of_no_packet packet lacks) =
    absurd (event_packet old event outcome new (length old'.histories) packet es (lacks_back old old' same event packet lacks))
happens_one old old' event _ _ _ _ same once (is_done outcome new es has) (spends_ticks spent) =
    absurd (event_spent old old' event outcome new same once es has spent)
happens_one old old' event _ _ _ _ same once (at_no_desk missing) (is_done outcome' new' es' has') =
    absurd (omega (arith, event_desk old' event outcome' new' es', desks_same old old' same))
happens_one old old' event _ _ _ _ same once (at_no_desk missing) (at_no_desk missing') = (refl, same)
happens_one old old' event _ _ _ _ same once (at_no_desk missing) (of_no_packet packet lacks) = let here = lacks.0 in
    absurd (omega (arith, here, desks_same old old' same))
happens_one old old' event _ _ _ _ same once (at_no_desk missing) (spends_ticks spent) =
    absurd (omega (arith, spent_desk old' event spent, desks_same old old' same))
happens_one old old' event _ _ _ _ same once (of_no_packet packet lacks) (is_done outcome' new' es' has') =
    absurd (event_packet old' event outcome' new' (length old.histories) packet es'
    (lacks_back old' old (past_back old old' same) event packet lacks))
happens_one old old' event _ _ _ _ same once (of_no_packet packet lacks) (at_no_desk missing') = let here = lacks.0 in
    absurd (omega (arith, here, desks_same old old' same))
happens_one old old' event _ _ _ _ same once (of_no_packet packet lacks) (of_no_packet packet' lacks') = (
  ap (λ (n : ℕ). refused (NoPacket n)) (lacks_one event (length old.histories) (length old.packets) (length old'.histories)
      (length old'.packets) packet packet' lacks lacks'),
  same,
)
happens_one old old' event _ _ _ _ same once (of_no_packet packet lacks) (spends_ticks spent) =
    absurd (spent_packet old' event (length old.histories) packet spent (lacks_back old' old (past_back old old' same) event packet lacks))
happens_one old old' event _ _ _ _ same once (spends_ticks spent) (is_done outcome' new' es' has') =
    absurd (event_spent old' old event outcome' new' (past_back old old' same) once es' has' spent)
happens_one old old' event _ _ _ _ same once (spends_ticks spent) (at_no_desk missing') =
    absurd (omega (arith, spent_desk old event spent, desks_same old old' same))
happens_one old old' event _ _ _ _ same once (spends_ticks spent) (of_no_packet packet lacks) =
    absurd (spent_packet old event (length old'.histories) packet spent (lacks_back old old' same event packet lacks))
happens_one old old' event _ _ _ _ same once (spends_ticks spent) (spends_ticks spent') = (refl, same)

-- ---- one command

asked_once : (order : Order) (event event' : Event) → event_of order ≡ Some event → event_of order ≡ Some event' → event ≡ event'
asked_once order event event' asks asks' = ap (λ (o : Option Event). elim o [ None ↦ event | Some e ↦ e ]) (sym asks ∙ asks')

none_asked : (event : Event) → None ≡ Some event → ⊥
none_asked event asks = let e : true ≡ false = ap (λ (o : Option Event). elim o [ None ↦ true | Some x ↦ false ]) asks in absurd_bool e
  where
    absurd_bool : true ≡ false → ⊥
    absurd_bool e = absurd cc

pub step_one : (window : Window) (old old' : Past) (order : Order) (a a' : Answer) (new new' : Past) → SamePast old old' →
    ((text : List ℕ) → IsReadOnce text) → Step window old order a new → Step window old' order a' new' → (a ≡ a') × SamePast new new'
step_one window old old' order a a' new new' same once (happens _ event _ _ asks h) (happens _ event' _ _ asks' h') =
    happens_one old old' event a a' new new' same once h
    (subst (λ (e : Event). Happens old' e a' new') (sym (asked_once order event event' asks asks')) h')
step_one window old old' _ a _ new _ same once (happens _ event _ _ asks h) (lists_rows desk h' rows' at' is') =
    absurd (none_asked event asks)
step_one window old old' _ a _ new _ same once (happens _ event _ _ asks h) (lists_too_many desk h' at' many') =
    absurd (none_asked event asks)
step_one window old old' _ a _ new _ same once (happens _ event _ _ asks h) (lists_no_desk desk past') = absurd (none_asked event asks)
step_one window old old' _ a _ new _ same once (happens _ event _ _ asks h) (lists_rows_for desk address h' rows' at' is') =
    absurd (none_asked event asks)
step_one window old old' _ a _ new _ same once (happens _ event _ _ asks h) (lists_too_many_for desk address h' at' many') =
    absurd (none_asked event asks)
step_one window old old' _ a _ new _ same once (happens _ event _ _ asks h) (lists_no_desk_for desk address past') =
    absurd (none_asked event asks)
step_one window old old' _ a _ new _ same once (happens _ event _ _ asks h) (counts_kept desk h' count' at' is') =
    absurd (none_asked event asks)
step_one window old old' _ a _ new _ same once (happens _ event _ _ asks h) (counts_no_desk desk past') = absurd (none_asked event asks)
step_one window old old' _ _ a' _ new' same once (lists_rows desk h rows at is) (happens _ event _ _ asks h') =
    absurd (none_asked event asks)
step_one window old old' _ _ _ _ _ same once (lists_rows desk h rows at is) (lists_rows _ h' rows' at' is') = (
  ap (listed desk) (rows_one (heard h.steps) (heard h'.steps) window rows rows'
      (same_heard h.steps h'.steps (same_at old.histories old'.histories desk h h' same.desks at at').steps) is is'),
  same,
)
step_one window old old' _ _ _ _ _ same once (lists_rows desk h rows at is) (lists_too_many _ h' at' many) =
    absurd (rows_or_too_many (heard h.steps) (heard h'.steps) window rows
    (same_heard h.steps h'.steps (same_at old.histories old'.histories desk h h' same.desks at at').steps) is many)
step_one window old old' _ _ _ _ _ same once (lists_rows desk h rows at is) (lists_no_desk _ past) =
    absurd (omega (arith, within_at old.histories desk h at, desks_same old old' same))
step_one window old old' _ _ a' _ new' same once (lists_too_many desk h at many) (happens _ event _ _ asks h') =
    absurd (none_asked event asks)
step_one window old old' _ _ _ _ _ same once (lists_too_many desk h at many) (lists_rows _ h' rows' at' is') =
    absurd (rows_or_too_many (heard h'.steps) (heard h.steps) window rows'
    (same_back (heard h.steps) (heard h'.steps)
    (same_heard h.steps h'.steps (same_at old.histories old'.histories desk h h' same.desks at at').steps)) is' many)
step_one window old old' _ _ _ _ _ same once (lists_too_many desk h at many) (lists_too_many _ h' at' many') = (refl, same)
step_one window old old' _ _ _ _ _ same once (lists_too_many desk h at many) (lists_no_desk _ past) =
    absurd (omega (arith, within_at old.histories desk h at, desks_same old old' same))
step_one window old old' _ _ a' _ new' same once (lists_no_desk desk past) (happens _ event _ _ asks h') = absurd (none_asked event asks)
step_one window old old' _ _ _ _ _ same once (lists_no_desk desk past) (lists_rows _ h' rows' at' is') =
    absurd (omega (arith, within_at old'.histories desk h' at', desks_same old old' same))
step_one window old old' _ _ _ _ _ same once (lists_no_desk desk past) (lists_too_many _ h' at' many') =
    absurd (omega (arith, within_at old'.histories desk h' at', desks_same old old' same))
step_one window old old' _ _ _ _ _ same once (lists_no_desk desk past) (lists_no_desk _ past') = (refl, same)
step_one window old old' _ _ a' _ new' same once (lists_rows_for desk address h rows at is) (happens _ event _ _ asks h') =
    absurd (none_asked event asks)
step_one window old old' _ _ _ _ _ same once (lists_rows_for desk address h rows at is) (lists_rows_for _ _ h' rows' at' is') = (
  ap (listed_for desk) (rows_for_one address (heard h.steps) (heard h'.steps) window rows rows'
      (same_heard h.steps h'.steps (same_at old.histories old'.histories desk h h' same.desks at at').steps) is is'),
  same,
)
step_one window old old' _ _ _ _ _ same once (lists_rows_for desk address h rows at is) (lists_too_many_for _ _ h' at' many) =
    absurd (rows_or_too_many_for address (heard h.steps) (heard h'.steps) window rows
    (same_heard h.steps h'.steps (same_at old.histories old'.histories desk h h' same.desks at at').steps) is many)
step_one window old old' _ _ _ _ _ same once (lists_rows_for desk address h rows at is) (lists_no_desk_for _ _ past) =
    absurd (omega (arith, within_at old.histories desk h at, desks_same old old' same))
step_one window old old' _ _ a' _ new' same once (lists_too_many_for desk address h at many) (happens _ event _ _ asks h') =
    absurd (none_asked event asks)
step_one window old old' _ _ _ _ _ same once (lists_too_many_for desk address h at many) (lists_rows_for _ _ h' rows' at' is') =
    absurd (rows_or_too_many_for address (heard h'.steps) (heard h.steps) window rows'
    (same_back (heard h.steps) (heard h'.steps)
    (same_heard h.steps h'.steps (same_at old.histories old'.histories desk h h' same.desks at at').steps)) is' many)
step_one window old old' _ _ _ _ _ same once (lists_too_many_for desk address h at many) (lists_too_many_for _ _ h' at' many') =
    (refl, same)
step_one window old old' _ _ _ _ _ same once (lists_too_many_for desk address h at many) (lists_no_desk_for _ _ past) =
    absurd (omega (arith, within_at old.histories desk h at, desks_same old old' same))
step_one window old old' _ _ a' _ new' same once (lists_no_desk_for desk address past) (happens _ event _ _ asks h') =
    absurd (none_asked event asks)
step_one window old old' _ _ _ _ _ same once (lists_no_desk_for desk address past) (lists_rows_for _ _ h' rows' at' is') =
    absurd (omega (arith, within_at old'.histories desk h' at', desks_same old old' same))
step_one window old old' _ _ _ _ _ same once (lists_no_desk_for desk address past) (lists_too_many_for _ _ h' at' many') =
    absurd (omega (arith, within_at old'.histories desk h' at', desks_same old old' same))
step_one window old old' _ _ _ _ _ same once (lists_no_desk_for desk address past) (lists_no_desk_for _ _ past') = (refl, same)
step_one window old old' _ _ a' _ new' same once (counts_kept desk h count at is) (happens _ event _ _ asks h') =
    absurd (none_asked event asks)
step_one window old old' _ _ _ _ _ same once (counts_kept desk h count at is) (counts_kept _ h' count' at' is') = (
  ap (counted desk) (count_one (heard h.steps) (heard h'.steps) count count'
      (same_heard h.steps h'.steps (same_at old.histories old'.histories desk h h' same.desks at at').steps) is is'),
  same,
)
step_one window old old' _ _ _ _ _ same once (counts_kept desk h count at is) (counts_no_desk _ past) =
    absurd (omega (arith, within_at old.histories desk h at, desks_same old old' same))
step_one window old old' _ _ a' _ new' same once (counts_no_desk desk past) (happens _ event _ _ asks h') = absurd (none_asked event asks)
step_one window old old' _ _ _ _ _ same once (counts_no_desk desk past) (counts_kept _ h' count' at' is') =
    absurd (omega (arith, within_at old'.histories desk h' at', desks_same old old' same))
step_one window old old' _ _ _ _ _ same once (counts_no_desk desk past) (counts_no_desk _ past') = (refl, same)
step_one window old old' _ a _ new _ same once (happens _ event _ _ asks h) (reports_lines desk named h' lines' at' is') =
    absurd (none_asked event asks)
step_one window old old' _ a _ new _ same once (happens _ event _ _ asks h) (reports_too_many desk named h' of_rows' at' many') =
    absurd (none_asked event asks)
step_one window old old' _ a _ new _ same once (happens _ event _ _ asks h) (reports_no_desk desk named past') =
    absurd (none_asked event asks)
step_one window old old' _ a _ new _ same once (happens _ event _ _ asks h) (resends_messages desk uid h' bytes' at' is') =
    absurd (none_asked event asks)
step_one window old old' _ a _ new _ same once (happens _ event _ _ asks h) (resends_no_desk desk uid past') =
    absurd (none_asked event asks)
step_one window old old' _ a _ new _ same once (happens _ event _ _ asks h) (tells_next desk uid h' next' at' is') =
    absurd (none_asked event asks)
step_one window old old' _ a _ new _ same once (happens _ event _ _ asks h) (tells_no_desk desk uid past') = absurd (none_asked event asks)
step_one window old old' _ a _ new _ same once (happens _ event _ _ asks h) (is_refused) = absurd (none_asked event asks)
step_one window old old' _ _ a' _ new' same once (reports_lines desk named h lines at is) (happens _ event _ _ asks h') =
    absurd (none_asked event asks)
step_one window old old' _ _ _ _ _ same once (reports_lines desk named h lines at is) (reports_lines _ _ h' lines' at' is') = (
  ap (reported desk named) (report_one (heard h.steps) (heard h'.steps) window named lines lines'
      (same_heard h.steps h'.steps (same_at old.histories old'.histories desk h h' same.desks at at').steps) is is'),
  same,
)
step_one window old old' _ _ _ _ _ same once (reports_lines desk named h lines at is) (reports_too_many _ _ h' of_rows' at' many') =
    absurd (report_or_too_many named of_rows' (heard h.steps) (heard h'.steps) window lines
    (same_heard h.steps h'.steps (same_at old.histories old'.histories desk h h' same.desks at at').steps) is many')
step_one window old old' _ _ _ _ _ same once (reports_lines desk named h lines at is) (reports_no_desk _ _ past') =
    absurd (omega (arith, within_at old.histories desk h at, desks_same old old' same))
step_one window old old' _ _ a' _ new' same once (reports_too_many desk named h of_rows at many) (happens _ event _ _ asks h') =
    absurd (none_asked event asks)
step_one window old old' _ _ _ _ _ same once (reports_too_many desk named h of_rows at many) (reports_lines _ _ h' lines' at' is') =
    absurd (report_or_too_many named of_rows (heard h'.steps) (heard h.steps) window lines'
    (same_back (heard h.steps) (heard h'.steps)
    (same_heard h.steps h'.steps (same_at old.histories old'.histories desk h h' same.desks at at').steps)) is' many)
step_one window old old' _ _ _ _ _ same once (reports_too_many desk named h of_rows at many) (reports_too_many _ _ h' of_rows' at' many') =
    (refl, same)
step_one window old old' _ _ _ _ _ same once (reports_too_many desk named h of_rows at many) (reports_no_desk _ _ past') =
    absurd (omega (arith, within_at old.histories desk h at, desks_same old old' same))
step_one window old old' _ _ a' _ new' same once (reports_no_desk desk named past) (happens _ event _ _ asks h') =
    absurd (none_asked event asks)
step_one window old old' _ _ _ _ _ same once (reports_no_desk desk named past) (reports_lines _ _ h' lines' at' is') =
    absurd (omega (arith, within_at old'.histories desk h' at', desks_same old old' same))
step_one window old old' _ _ _ _ _ same once (reports_no_desk desk named past) (reports_too_many _ _ h' of_rows' at' many') =
    absurd (omega (arith, within_at old'.histories desk h' at', desks_same old old' same))
step_one window old old' _ _ _ _ _ same once (reports_no_desk desk named past) (reports_no_desk _ _ past') = (refl, same)
step_one window old old' _ _ a' _ new' same once (resends_messages desk uid h bytes at is) (happens _ event _ _ asks h') =
    absurd (none_asked event asks)
step_one window old old' _ _ _ _ _ same once (resends_messages desk uid h bytes at is) (resends_messages _ _ h' bytes' at' is') = (
  ap (resent desk) (resend_one (heard h.steps) (heard h'.steps) uid bytes bytes'
      (same_heard h.steps h'.steps (same_at old.histories old'.histories desk h h' same.desks at at').steps) is is'),
  same,
)
step_one window old old' _ _ _ _ _ same once (resends_messages desk uid h bytes at is) (resends_no_desk _ _ past') =
    absurd (omega (arith, within_at old.histories desk h at, desks_same old old' same))
step_one window old old' _ _ a' _ new' same once (resends_no_desk desk uid past) (happens _ event _ _ asks h') =
    absurd (none_asked event asks)
step_one window old old' _ _ _ _ _ same once (resends_no_desk desk uid past) (resends_messages _ _ h' bytes' at' is') =
    absurd (omega (arith, within_at old'.histories desk h' at', desks_same old old' same))
step_one window old old' _ _ _ _ _ same once (resends_no_desk desk uid past) (resends_no_desk _ _ past') = (refl, same)
step_one window old old' _ _ a' _ new' same once (tells_next desk uid h next at is) (happens _ event _ _ asks h') =
    absurd (none_asked event asks)
step_one window old old' _ _ _ _ _ same once (tells_next desk uid h next at is) (tells_next _ _ h' next' at' is') = (
  ap (next_is desk) (next_one (heard h.steps) (heard h'.steps) uid next next'
      (same_heard h.steps h'.steps (same_at old.histories old'.histories desk h h' same.desks at at').steps) is is'),
  same,
)
step_one window old old' _ _ _ _ _ same once (tells_next desk uid h next at is) (tells_no_desk _ _ past') =
    absurd (omega (arith, within_at old.histories desk h at, desks_same old old' same))
step_one window old old' _ _ a' _ new' same once (tells_no_desk desk uid past) (happens _ event _ _ asks h') =
    absurd (none_asked event asks)
step_one window old old' _ _ _ _ _ same once (tells_no_desk desk uid past) (tells_next _ _ h' next' at' is') =
    absurd (omega (arith, within_at old'.histories desk h' at', desks_same old old' same))
step_one window old old' _ _ _ _ _ same once (tells_no_desk desk uid past) (tells_no_desk _ _ past') = (refl, same)
step_one window old old' _ _ a' _ new' same once (is_refused) (happens _ event _ _ asks h') = absurd (none_asked event asks)
step_one window old old' _ _ _ _ _ same once (is_refused) (is_refused) = (refl, same)

start_same : (desks : ℕ) → SamePast (no_past desks) (no_past desks)
start_same desks = record { desks = same_start desks; packets = tt }

-- ---- whole runs

runs_one : (window : Window) (old old' : Past) (orders : List Order) (answers answers' : List Answer) (new new' : Past) →
    SamePast old old' → ((text : List ℕ) → IsReadOnce text) → Runs window old orders answers new → Runs window old' orders answers' new' →
    answers ≡ answers'
runs_one window old old' [] [] [] new new' same once at at' = refl
runs_one window old old' [] [] (b ∷ bs) new new' same once at at' = absurd at'
runs_one window old old' [] (a ∷ as') bs new new' same once at at' = absurd at
runs_one window old old' (o ∷ os) [] bs new new' same once at at' = absurd at
runs_one window old old' (o ∷ os) (a ∷ as') [] new new' same once at at' = absurd at'
runs_one window old old' (o ∷ os) (a ∷ as') (b ∷ bs) new new' same once at at' =
    let one = step_one window old old' o a b at.0 at'.0 same once at.1 at'.1 in
    let rest = runs_one window at.0 at'.0 os as' bs new new' one.1 once at.2 at'.2 in
    ap (λ (x : Answer). x ∷ as') one.0 ∙ ap (λ (xs : List Answer). b ∷ xs) rest

pub writes_one : (window : Window) (desks : ℕ) (orders : List Order) (output output' : List ℕ) (refusal refusal' : Bool) →
    ((text : List ℕ) → IsReadOnce text) → Writes window desks orders output refusal → Writes window desks orders output' refusal' →
    (output ≡ output') × (refusal ≡ refusal')
writes_one window desks orders output output' refusal refusal' once w w' =
    let same = runs_one window (no_past desks) (no_past desks) orders w.answers w'.answers w.past w'.past (start_same desks) once w.runs
    w'.runs in
    (w.output_is ∙ ap (flat_map answer_text) same ∙ sym w'.output_is, w.refusal_is ∙ ap (list_any is_refusal) same ∙ sym w'.refusal_is)

pub output_one : (window : Window) (desks : ℕ) (script output output' : List ℕ) (refusal refusal' : Bool) →
    IsOutput window desks script output refusal → IsOutput window desks script output' refusal' → (output ≡ output') × (refusal ≡ refusal')
output_one window desks script output output' refusal refusal' (inl (short, w)) (inl (short', w')) =
    writes_one window desks (orders_of script) output output' refusal refusal' read_once w w'
output_one window desks script output output' refusal refusal' (inl (short, w)) (inr (long, is, flag)) = absurd (omega arith)
output_one window desks script output output' refusal refusal' (inr (long, is, flag)) (inl (short, w)) = absurd (omega arith)
output_one window desks script output output' refusal refusal' (inr (long, is, flag)) (inr (long', is', flag')) =
    (is ∙ sym is', flag ∙ sym flag')

-- ---- a prefix of the commands

record Splits (window : Window) (old : Past) (done left : List Order) (answers : List Answer) (new : Past) : Type 0 where
  first : List Answer
  others : List Answer
  mid : Past
  whole : answers ≡ first ++ others
  before : Runs window old done first mid
  after : Runs window mid left others new

runs_split : (window : Window) (old : Past) (done left : List Order) (answers : List Answer) (new : Past) →
    Runs window old (done ++ left) answers new → Splits window old done left answers new
runs_split window old [] left answers new at = record { first = []; others = answers; mid = old; whole = refl; before = refl; after = at }
runs_split window old (o ∷ os) left [] new at = absurd at
runs_split window old (o ∷ os) left (a ∷ as') new at =
    let rest = runs_split window at.0 os left as' new at.2 in
    record {
      first = a ∷ rest.first;
      others = rest.others;
      mid = rest.mid;
      whole = ap (λ (t : List Answer). a ∷ t) rest.whole;
      before =
          (at.0, at.1, rest.before);
      after = rest.after;
    }

pub front_one : (window : Window) (desks : ℕ) (done left : List Order) (output part : List ℕ) (refusal refusal' : Bool) →
    Writes window desks (done ++ left) output refusal → Writes window desks done part refusal' → (rest : List ℕ) × (output ≡ part ++ rest)
front_one window desks done left output part refusal refusal' whole some =
    let split = runs_split window (no_past desks) done left whole.answers whole.past whole.runs in
    let same = runs_one window (no_past desks) (no_past desks) done split.first some.answers split.mid some.past (start_same desks)
    read_once split.before some.runs in (
      flat_map answer_text split.others,
      whole.output_is ∙ ap (flat_map answer_text) split.whole ∙ flat_map-append answer_text split.first split.others
          ∙ ap (λ (t : List Answer). flat_map answer_text t ++ flat_map answer_text split.others) same ∙
          ap (λ (t : List ℕ). t ++ flat_map answer_text split.others) (sym some.output_is),
    )
