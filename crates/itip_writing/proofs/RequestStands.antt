-- Each to-do of a request is the latest of its key, and stands.
use Rattle.std.proofs.Common.{◌≡◌, ◌∙◌, sym, ap, refl, ℕ, zero, suc, ◌<◌, ◌≤◌, Bool, true, false, List, [], ◌∷◌, ◌++◌, map, append-nil}
use Rattle.std.proofs.Common.{subst, arith, inl, inr, Option, Some, None}
use Rattle.std.specs.Prelude.{IsTrue}
use Rattle.std.specs.List.{AllByRecursion, AllZip, Contains, list_all}
use Rattle.std.proofs.lemmas.Bool.Decides.{leb_tells}
use Rattle.std.proofs.lemmas.List.Elements.{Contains-append_cases, Contains-append_right}
use Rattle.std.proofs.lemmas.Option.{same_Some}
use Rattle.itip_moment.specs.declared.moment.Moment.{Moment}
use Rattle.itip_moment.specs.declared.stamp.Stamp.{Stamp}
use Rattle.itip_todo.specs.Parts.{Parts}
use Rattle.itip_todo.specs.PartsOf.{parts_of}
use Rattle.itip_todo.specs.Properties.{Property}
use Rattle.itip_todo.specs.declared.todo.Todo.{Todo}
use Rattle.itip_items.specs.Given.{IsItemOf, AreItemsOf}
use Rattle.itip_items.specs.Items.{ItemDraft, drafts_of, task_draft, add_drafts, attendee_draft, effective_sequence, kind_of, method_of}
use Rattle.itip_items.specs.Items.{drafts, raised}
use Rattle.itip_items.specs.KeyParts.{uid_of}
use Rattle.itip_items.specs.RevisionOrder.{IsLater}
use Rattle.itip_items.specs.MethodNeeds.{Suits, is_property}
use Rattle.itip_items.specs.declared.item.Item.{Item}
use Rattle.itip_items.specs.declared.key.Key.{Key}
use Rattle.itip_items.specs.declared.key.Key.TheVariants as key
use Rattle.itip_items.specs.declared.kind.Kind.{Kind}
use Rattle.itip_items.specs.declared.kind.Kind.TheVariants as kind
use Rattle.itip_items.specs.declared.kind.Method.TheVariants as method
use Rattle.itip_items.proofs.Adding.{drafts_among}
use Rattle.itip_items.proofs.SameItem.{draft, alone}
use Rattle.itip_message.specs.Message.{ReadsMessage}
use Rattle.itip_state.specs.Kept.{IsBest, IsDead}
use Rattle.itip_state.specs.Organizers.{IsOrganizers, is_organizers}
use Rattle.itip_state.proofs.Best.{best_above, greater_eff, later_transitive, not_later_itself}
use Rattle.itip_state.proofs.Keeping.{eff_up, series_kept}
use Rattle.itip_state.proofs.Members.{none_in, cons_cases, cons_first, cons_later}
use Rattle.itip_state.proofs.OfKey.{head_pair, tail_pairs}
use Rattle.itip_view.specs.Standing.{is_live, IsLive, IsCancelled, StandsBeside}
use Rattle.itip_report.specs.NextSequence.{IsNext}
use Rattle.itip_report.proofs.OneReport.{one_next}
use Rattle.itip_writing.specs.Requesting.{AreApart, AreRequested, IsRequest, IsRequested, StandsLive, key_of, requested}
use Rattle.itip_writing.proofs.SentRead.{sent_read}
use Rattle.itip_writing.proofs.Twins.{draft_key, key_at, key_whole, uid_at}

-- ---- the kinds of items that speak of a to-do, an instance or a range: an organizer's

abbrev pub IsTask : Key → Type 0
IsTask (key.Series uid) = Unit {0}
IsTask (key.Instance uid id) = Unit {0}
IsTask (key.Range uid id) = Unit {0}
IsTask (key.Answer uid id attendee) = ⊥
IsTask (key.Refresh uid id attendee) = ⊥

abbrev Fits : ItemDraft → Type 0
Fits draft = IsTask draft.key → is_organizers draft.kind ≡ true

task_fits : (k : Kind) (eff : ℕ) (rid : Option Moment) (parts : Parts) → is_organizers k ≡ true → Fits (task_draft k eff rid parts)
task_fits k eff None parts h = λ _. h
task_fits k eff (Some id) parts h = λ _. h

add_fits : (eff : ℕ) (start : Option Moment) (parts : Parts) → AllByRecursion Fits (add_drafts eff start parts)
add_fits eff None parts = tt
add_fits eff (Some id) parts = (λ _. refl, tt)

attendee_fits : (k : Kind) (parts : Parts) (attendee : Property) → Fits (attendee_draft k parts attendee)
attendee_fits kind.Request parts attendee = λ no. absurd no
attendee_fits kind.Add parts attendee = λ no. absurd no
attendee_fits kind.Remove parts attendee = λ no. absurd no
attendee_fits kind.Cancel parts attendee = λ no. absurd no
attendee_fits kind.Reply parts attendee = λ no. absurd no
attendee_fits kind.Refresh parts attendee = λ no. absurd no

attendees_fit : (k : Kind) (parts : Parts) (list : List Property) → AllByRecursion Fits (map (attendee_draft k parts) list)
attendees_fit k parts [] = tt
attendees_fit k parts (a ∷ rest) = (attendee_fits k parts a, attendees_fit k parts rest)

drafts_fit : (k : Kind) (eff : ℕ) (parts : Parts) → AllByRecursion Fits (drafts_of k eff parts)
drafts_fit kind.Request eff parts = (task_fits kind.Request eff parts.rid parts refl, tt)
drafts_fit kind.Cancel eff parts = (task_fits kind.Cancel eff parts.rid parts refl, tt)
drafts_fit kind.Add eff parts = add_fits eff parts.start parts
drafts_fit kind.Remove eff parts = attendees_fit kind.Remove parts parts.attendees
drafts_fit kind.Reply eff parts = attendees_fit kind.Reply parts parts.attendees
drafts_fit kind.Refresh eff parts = attendees_fit kind.Refresh parts parts.attendees

pub task_sent : (item : Item) → IsTask item.key → is_organizers item.kind ≡ true
task_sent item task =
    let parts : Parts = parts_of item.todo in
    let eff : ℕ = effective_sequence (method_of item.kind) (parts ∷ []) parts in
    let k : Kind = kind_of (method_of item.kind) parts in
    let one : drafts_of k eff parts ≡ draft item ∷ [] = sym (append-nil (drafts_of k eff parts)) ∙ alone item in
    (subst (λ (ds : List ItemDraft). AllByRecursion Fits ds) one (drafts_fit k eff parts)).0 task

-- ---- the next sequence is above all that organizers used

module _ (heard : List Item) (uid : List ℕ) where
  organizer_below : (n : ℕ) → IsNext heard uid (Some n) → (item : Item) → IsOrganizers heard uid item → item.eff < n
  organizer_below zero none item is = absurd (none item is)
  organizer_below (suc n) ((used, above), few) item is = let up : item.eff ≤ n = above item is in omega (arith, up)

  series_below : (n : ℕ) → IsNext heard uid (Some n) → (series : Item) → IsBest heard (key.Series uid) series → series.eff < n
  series_below n next series best =
      organizer_below n next series (record {
        kept = series_kept heard uid series best;
        about = ap uid_of best.about;
        sent = task_sent series (subst IsTask (sym best.about) tt);
      })

  -- the best item of a key is kept, or the series item is above it
  best_below : (n : ℕ) → IsNext heard uid (Some n) → (item : Item) → IsTask item.key → uid_of item.key ≡ uid →
      IsBest heard item.key item → item.eff < n
  best_below n next item task about best =
      elim (leb_tells n item.eff) [
        | inr below ↦ below.1
        | inl above ↦
            let up : n ≤ item.eff = above.1 in
            let alive : ¬ IsDead heard item = λ dead.
            let low : dead.series.eff < n = series_below n next dead.series
            (subst (λ (u : List ℕ). IsBest heard (key.Series u) dead.series) about dead.best) in
            let under : item.eff < dead.series.eff = dead.below in
            omega (arith, up, low, under) in
            let low : item.eff < n = organizer_below n next item
            (record { kept = record { best = best; alive = alive }; about = about; sent = task_sent item task }) in
            absurd (omega (arith, up, low))
      ]

  pub task_below : (n : ℕ) → IsNext heard uid (Some n) → (item : Item) → Contains heard item → IsTask item.key →
      uid_of item.key ≡ uid → item.eff < n
  task_below n next item there task about =
      let found = best_above heard item there in
      let best : IsBest heard item.key found.0 = found.1 in
      let same : (found.0).key ≡ item.key = best.about in
      let up : item.eff ≤ (found.0).eff = eff_up item found.0 (best.none_later item there refl) in
      let low : (found.0).eff < n = best_below n next found.0 (subst IsTask (sym same) task) (ap uid_of same ∙ about)
      (subst (λ (k : Key). IsBest heard k found.0) (sym same) best) in
      omega (arith, up, low)

-- ---- what an item of a request is

pub record IsItemFor (heard : List Item) (todo : Todo) (item : Item) : Type 0 where
  pub sequence : ℕ
  pub next : IsNext heard todo.uid (Some sequence)
  pub key_is : item.key ≡ key_of todo
  pub kind_is : item.kind ≡ kind.Request
  pub up : sequence ≤ item.eff
  -- the series item has the sequence itself
  pub whole : todo.rid ≡ None → item.eff ≡ sequence

task_kind : (k : Kind) (eff : ℕ) (rid : Option Moment) (parts : Parts) → (task_draft k eff rid parts).kind ≡ k
task_kind k eff None parts = refl
task_kind k eff (Some id) parts = refl

task_up : (k : Kind) (eff : ℕ) (rid : Option Moment) (parts : Parts) → parts.seq ≤ eff → parts.seq ≤ (task_draft k eff rid parts).eff
task_up k eff None parts h = omega arith
task_up k eff (Some id) parts h = h

raised_up : (parts : Parts) (above : ℕ) → parts.seq ≤ raised parts above
raised_up parts above = omega arith

sent_one : (heard : List Item) (at : Stamp) (all : List Parts) (todo written : Todo) (item : Item) → IsRequested heard at todo written →
    IsItemOf (task_draft kind.Request (effective_sequence method.Request all (parts_of written)) written.rid (parts_of written)) item →
    IsItemFor heard todo item
sent_one heard at all todo written item is of =
    let n : ℕ = is.sequence in
    let p : Parts = parts_of written in
    let e : p ≡ requested at n (parts_of todo) = is.parts_are in
    let eff : ℕ = effective_sequence method.Request all p in
    let seq : written.seq ≡ n = ap (λ (q : Parts). q.seq) e in
    let up : written.seq ≤ (task_draft kind.Request eff written.rid p).eff = task_up kind.Request eff written.rid p (raised_up p _) in
    record {
      sequence = n;
      next = is.next;
      key_is = of.key_is ∙ draft_key kind.Request eff written.rid p ∙ (λ i. key_at (e i).range (e i).uid (e i).rid) ∙ sym (key_whole todo);
      kind_is = of.kind_is ∙ task_kind kind.Request eff written.rid p;
      up = omega (arith, up, seq, of.eff_is);
      whole = λ none. of.eff_is ∙
          ap (λ (rid : Option Moment). (task_draft kind.Request eff rid p).eff) (ap (λ (q : Parts). q.rid) e ∙ none) ∙ seq;
    }

pub each_sent : (heard : List Item) (at : Stamp) (all : List Parts) (draft written : List Todo) (items : List Item) →
    AreRequested heard at draft written → AreItemsOf (drafts_among method.Request all (map parts_of written)) items →
    AllZip (IsItemFor heard) draft items
each_sent heard at all [] [] [] each are = tt
each_sent heard at all [] [] (item ∷ items) each are = absurd are
each_sent heard at all [] (w ∷ written) items each are = absurd each
each_sent heard at all (todo ∷ draft) [] items each are = absurd each
each_sent heard at all (todo ∷ draft) (w ∷ written) [] each are = absurd are
each_sent heard at all (todo ∷ draft) (w ∷ written) (item ∷ items) each are =
    (sent_one heard at all todo w item each.0 are.0, each_sent heard at all draft written items each.1 are.1)

-- the to-do that an item of the request is of
record IsOf (heard : List Item) (draft : List Todo) (item : Item) : Type 0 where
  todo : Todo
  there : Contains draft todo
  sent : IsItemFor heard todo item

of_some : (heard : List Item) (draft : List Todo) (items : List Item) → AllZip (IsItemFor heard) draft items → (item : Item) →
    Contains items item → IsOf heard draft item
of_some heard [] [] each item there = absurd (none_in item there)
of_some heard [] (i ∷ items) each item there = absurd each
of_some heard (todo ∷ draft) [] each item there = absurd each
of_some heard (todo ∷ draft) (i ∷ items) each item there =
    elim (cons_cases i items item there) [
      | inl same ↦ record {
        todo = todo;
        there = cons_first todo draft;
        sent = subst (λ (j : Item). IsItemFor heard todo j) same each.0;
      }
      | inr later ↦
          let of = of_some heard draft items each.1 item later in
          record { todo = of.todo; there = cons_later todo draft of.todo of.there; sent = of.sent }
    ]

-- of each key the request has one item
one_of_key : (heard : List Item) (draft : List Todo) (items : List Item) → AllZip (IsItemFor heard) draft items → AreApart draft →
    (i j : Item) → Contains items i → Contains items j → i.key ≡ j.key → i ≡ j
one_of_key heard [] [] each apart i j h g same = absurd (none_in i h)
one_of_key heard [] (x ∷ items) each apart i j h g same = absurd each
one_of_key heard (todo ∷ draft) [] each apart i j h g same = absurd each
one_of_key heard (todo ∷ draft) (x ∷ items) each apart i j h g same = elim (cons_cases x items i h) [
  | inl first ↦ elim (cons_cases x items j g) [
    | inl also ↦ sym first ∙ also
    | inr later ↦ absurd (other j later (ap (λ (k : Item). k.key) first ∙ same))
  ]
  | inr rest ↦ elim (cons_cases x items j g) [
    | inl also ↦ absurd (other i rest (ap (λ (k : Item). k.key) also ∙ sym same))
    | inr later ↦ one_of_key heard draft items each.1 (tail_pairs (λ (a b : Todo). key_of a ≡ key_of b → ⊥) todo draft apart) i j rest
        later same
  ]
]
  where
    other : (k : Item) → Contains items k → x.key ≡ k.key → ⊥
    other k there one =
        let of = of_some heard draft items each.1 k there in
        head_pair (λ (a b : Todo). key_of a ≡ key_of b → ⊥) todo draft apart of.todo of.there
        (sym each.0.key_is ∙ one ∙ of.sent.key_is)

-- ---- it is the latest, and stands

key_task : (todo : Todo) → IsTask (key_of todo)
key_task todo = subst IsTask (sym (key_whole todo)) (at todo.range todo.uid todo.rid)
  where
    at : (range : Bool) (uid : List ℕ) (rid : Option Moment) → IsTask (key_at range uid rid)
    at range uid None = tt
    at true uid (Some id) = tt
    at false uid (Some id) = tt

key_uid : (todo : Todo) → uid_of (key_of todo) ≡ todo.uid
key_uid todo = ap uid_of (key_whole todo) ∙ uid_at todo.range todo.uid todo.rid

-- a to-do of the key of a series has no RECURRENCE-ID
whole_key : (todo : Todo) (uid : List ℕ) → key_of todo ≡ key.Series uid → todo.rid ≡ None
whole_key todo uid same = by todo.range todo.uid todo.rid (sym (key_whole todo) ∙ same)
  where
    by : (range : Bool) (own : List ℕ) (rid : Option Moment) → key_at range own rid ≡ key.Series uid → rid ≡ None
    by range own None e = refl
    by true own (Some id) e = absurd cc
    by false own (Some id) e = absurd cc

not_later_below : (i j : Item) → i.eff < j.eff → ¬ IsLater i j
not_later_below i j below later = not_later_itself i (later_transitive i j i later (greater_eff j i below))

stands_at : (heard : List Item) (k : Key) (item : Item) → IsTask k → IsBest heard k item → IsLive item →
    ((series : Item) → IsBest heard (key.Series (uid_of k)) series → StandsBeside series item) → StandsLive heard k item
stands_at heard (key.Series uid) item task best live beside = record { best = best; live = live }
stands_at heard (key.Instance uid id) item task best live beside =
    record { stands = record { best = best; beside = beside }; live = live }
stands_at heard (key.Range uid id) item task best live beside = (record { best = best; beside = beside }, live)
stands_at heard (key.Answer uid id attendee) item task best live beside = task
stands_at heard (key.Refresh uid id attendee) item task best live beside = task

module _ (heard : List Item) (draft : List Todo) (items : List Item) (each : AllZip (IsItemFor heard) draft items) (apart : AreApart draft)
  where
    sent_live : (todo : Todo) (item : Item) → IsItemFor heard todo item → IsLive item
    sent_live todo item sent = subst (λ (k : Kind). is_live k ≡ true) (sym sent.kind_is) refl

    latest : (todo : Todo) (item : Item) → IsItemFor heard todo item → Contains items item → IsBest (heard ++ items) (key_of todo) item
    latest todo item sent there = record {
      is_heard = Contains-append_right heard items item there;
      about = sent.key_is;
      none_later = λ other h about. elim (Contains-append_cases heard items other h) [
        | inl old ↦
            let low : other.eff < sent.sequence = task_below heard todo.uid sent.sequence sent.next other old
            (subst IsTask (sym about) (key_task todo)) (ap uid_of about ∙ key_uid todo) in
            let up : sent.sequence ≤ item.eff = sent.up in
            not_later_below other item (omega (arith, low, up))
        | inr new ↦ subst (λ (i : Item). ¬ IsLater i item)
            (one_of_key heard draft items each apart item other there new (sent.key_is ∙ sym about)) (not_later_itself item)
      ];
    }

    beside_old : (todo : Todo) (item series : Item) → IsItemFor heard todo item → Contains heard series → series.key ≡ key.Series todo.uid →
        StandsBeside series item
    beside_old todo item series sent old about =
        let low : series.eff < sent.sequence = task_below heard todo.uid sent.sequence sent.next series old (subst IsTask (sym about) tt)
        (ap uid_of about) in
        let up : sent.sequence ≤ item.eff = sent.up in
        record { live = λ _. omega (arith, low, up); cancelled = λ _. omega (arith, low, up) }

    beside_new : (todo : Todo) (item series : Item) → IsItemFor heard todo item → Contains items series → series.key ≡ key.Series todo.uid →
        StandsBeside series item
    beside_new todo item series sent new about =
        let of : IsOf heard draft series = of_some heard draft items each series new in
        let whole : key_of of.todo ≡ key.Series todo.uid = sym of.sent.key_is ∙ about in
        let uid : of.todo.uid ≡ todo.uid = sym (key_uid of.todo) ∙ ap uid_of whole in
        let next : IsNext heard todo.uid (Some of.sent.sequence) =
        subst (λ (u : List ℕ). IsNext heard u (Some of.sent.sequence)) uid of.sent.next in
        let one : of.sent.sequence ≡ sent.sequence = same_Some of.sent.sequence sent.sequence
        (one_next heard todo.uid (Some of.sent.sequence) (Some sent.sequence) next sent.next) in
        let is : series.eff ≡ of.sent.sequence = of.sent.whole (whole_key of.todo todo.uid whole) in
        let up : sent.sequence ≤ item.eff = sent.up in
        record {
          live = λ _. omega (arith, is, one, up);
          cancelled = λ (not : IsCancelled series). let two : true ≡ false = sym (sent_live of.todo series of.sent) ∙ not in absurd cc;
        }

    stands_one : (todo : Todo) (item : Item) → IsItemFor heard todo item → Contains items item →
        StandsLive (heard ++ items) (key_of todo) item
    stands_one todo item sent there =
        stands_at (heard ++ items) (key_of todo) item (key_task todo) (latest todo item sent there) (sent_live todo item sent)
        (λ series best.
        let about : series.key ≡ key.Series todo.uid = best.about ∙ ap key.Series (key_uid todo) in
        elim (Contains-append_cases heard items series best.is_heard) [
          | inl old ↦ beside_old todo item series sent old about
          | inr new ↦ beside_new todo item series sent new about
        ])

    stand_each : (rest : List Todo) (left : List Item) → AllZip (IsItemFor heard) rest left →
        ((item : Item) → Contains left item → Contains items item) →
        AllZip (λ todo item. StandsLive (heard ++ items) (key_of todo) item) rest left
    stand_each [] [] zip among = tt
    stand_each [] (item ∷ left) zip among = absurd zip
    stand_each (todo ∷ rest) [] zip among = absurd zip
    stand_each (todo ∷ rest) (item ∷ left) zip among = (
      stands_one todo item zip.0 (among item (cons_first item left)),
      stand_each rest left zip.1 (λ i h. among i (cons_later item left i h)),
    )

    pub all_stand : AllZip (λ todo item. StandsLive (heard ++ items) (key_of todo) item) draft items
    all_stand = stand_each draft items each (λ item h. h)

-- ---- the request as it is read

written_suits : (heard : List Item) (at : Stamp) (todo written : Todo) → IsRequested heard at todo written →
    Suits method.Request (parts_of todo) → Suits method.Request (parts_of written)
written_suits heard at todo written is suits = record {
  fits = refl;
  others = subst (λ (p : Parts). IsTrue (list_all is_property p.others)) (sym is.parts_are) suits.others;
}

all_suit : (heard : List Item) (at : Stamp) (draft written : List Todo) → AreRequested heard at draft written →
    AllByRecursion (Suits method.Request) (map parts_of draft) → AllByRecursion (Suits method.Request) (map parts_of written)
all_suit heard at [] [] each suit = tt
all_suit heard at [] (w ∷ written) each suit = absurd each
all_suit heard at (todo ∷ draft) [] each suit = absurd each
all_suit heard at (todo ∷ draft) (w ∷ written) each suit =
    (written_suits heard at todo w each.0 suit.0, all_suit heard at draft written each.1 suit.1)

pub request_stands : (heard items : List Item) (draft : List Todo) (at : Stamp) (octets : List ℕ) →
    AllByRecursion (Suits method.Request) (map parts_of draft) → IsRequest heard draft at octets → ReadsMessage octets items →
    AllZip (λ todo item. StandsLive (heard ++ items) (key_of todo) item) draft items
request_stands heard items draft at octets suit is reads =
    let written : List Todo = is.text.written in
    let suits : AllByRecursion (Suits method.Request) (map parts_of written) = all_suit heard at draft written is.text.each suit in
    let are : AreItemsOf (drafts method.Request (map parts_of written)) items =
    sent_read method.Request written items suits (λ same. absurd cc)
    (subst (λ (text : List ℕ). ReadsMessage text items) is.text.octets_are reads) in
    all_stand heard draft items (each_sent heard at (map parts_of written) draft written items is.text.each are) is.text.apart
