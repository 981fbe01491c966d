-- What inputs have that others lack.
use Rattle.std.proofs.Common.{◌≡◌, ◌≢◌, ◌∙◌, sym, ap, refl, subst, ℕ, ◌+◌, Bool, ◌||◌, ◌⊎◌, List, [], ◌∷◌, ◌++◌, length, map, inl, inr}
use Rattle.std.proofs.Common.{append-nil, Option}
use Rattle.std.specs.List.{Contains}
use Rattle.std.specs.Io.KnownBytes.{Appends}
use Rattle.std.proofs.lemmas.List.Elements.{Contains-append_cases, Contains-append_left, Contains-append_right}
use Rattle.itip_items.specs.declared.item.Item.{Item}
use Rattle.itip_state.specs.Kept.{IsKept, AreKept, IsItemsOf, SameItems}
use Rattle.itip_state.specs.Told.{IsTold, IsOutdone, AreNews}
use Rattle.itip_state.proofs.Best.{later_transitive, not_later_itself}
use Rattle.itip_state.proofs.Keeping.{Covers, best_part, kept_part, kept_of_kept_lem, kept_again, kept_iff}
use Rattle.itip_state.proofs.News.{news_kept}
use Rattle.itip_desk.specs.DeltaFormat.{delta_octets}
use Rattle.itip_desk.proofs.ReadDeltas.{one_order, known_by_octets}
use Rattle.itip_desk.proofs.Told.{told_kept}
use Rattle.itip_streams.specs.Written.{AppendsFront, WritesOutput}
use Rattle.itip_inbox.specs.declared.refused.RefusedMessage.{RefusedMessage}
use Rattle.itip_inbox.specs.Compaction.{AreKeptOctets, IsCompaction, TellsItem}
use Rattle.itip_inbox.specs.Inbox.{Placed, placed_from, placed_of, heard_of, refusals_at, Hears, IsInbox, is_some_refused, Holds}
use Rattle.itip_inbox.specs.News.{AreLacking, IsNews}
use Rattle.itip_inbox.proofs.Answered.{answers_both, heard_both, refusals_both}
use Rattle.itip_inbox.proofs.ByOctets.{those_of}
use Rattle.itip_inbox.proofs.OneInbox.{one_inbox}
use Rattle.itip_inbox.proofs.Parts.{alone, bytes_of, are_alone, heard_alone, none_refused, cut_written, batch_inbox, covers_same}
use Rattle.itip_inbox.proofs.Parts.{octets_of_same}
use Rattle.itip_inbox.proofs.SomeInbox.{some_inbox}
use Rattle.itip_inbox.proofs.Sources.{cuts_push, placed_push}
use Rattle.itip_inbox.proofs.Telling.{heard_told, tells_among, tells_either}

-- ---- of what is kept

told_itself : (set : List Item) (i : Item) → Contains set i → IsTold set i
told_itself set i h = record { teller = i; there = h; same = refl; not_later = not_later_itself i }

module _ (told heard kept more : List Item) (of_told : AreKept kept told) (of_heard : AreKept more heard) where
  -- what the first doesn't outdo is kept of both
  new_kept : (i : Item) → Contains more i → (¬ IsOutdone kept i) → IsKept (kept ++ more) i
  new_kept i there new =
      let own : IsKept more i = (kept_again more heard of_heard i).1 ((of_heard i).0 there) in
      record {
        best = record {
          is_heard = Contains-append_right kept more i there;
          about = refl;
          none_later = λ j h same. elim (Contains-append_cases kept more j h) [
            | inl old ↦ λ later. new (inl (record {
              teller = j;
              there = old;
              same = same;
              not_later = λ over. not_later_itself i (later_transitive i j i over later);
            }))
            | inr now ↦ own.best.none_later j now same
          ];
        };
        alive = λ dead. elim (Contains-append_cases kept more dead.series dead.best.is_heard) [
          | inl old ↦ new (inr (record {
            can_die = dead.can_die;
            series = dead.series;
            best = best_part (kept ++ more) kept _ dead.series (Contains-append_left kept more) dead.best old;
            below = dead.below;
          }))
          | inr now ↦ own.alive (record {
            can_die = dead.can_die;
            series = dead.series;
            best = best_part (kept ++ more) more _ dead.series (Contains-append_right kept more) dead.best now;
            below = dead.below;
          })
        ];
      }

  of_more : (items news : List Item) → IsItemsOf items more → AreNews kept items news → AreNews kept more news
  of_more items news is are = record {
    among = λ i h. (is.same i).0 (are.among i h);
    new = are.new;
    rest = λ i h. are.rest i ((is.same i).1 h);
  }

  -- the news beside what is kept is what the one set has and the other lacks
  pub lacking_of_kept : (items news batch : List Item) → IsItemsOf items more → AreNews kept items news → IsItemsOf batch news →
      AreLacking told heard batch
  lacking_of_kept items news batch items_are are batch_is = record {
    ascend = batch_is.ascend;
    same = λ i. (
      λ h. let new : Contains news i = (batch_is.same i).0 h in
          let there : Contains more i = (items_are.same i).0 (are.among i new) in (
            (kept_of_kept_lem told heard kept more of_told of_heard i).0 (new_kept i there (are.new i new)),
            λ known. are.new i new (inl (told_itself kept i ((of_told i).1 known))),
          ),
      λ h. let both : IsKept (kept ++ news) i = (news_kept kept more news (of_more items news items_are are) i).1
          ((kept_of_kept_lem told heard kept more of_told of_heard i).1 h.0) in
          (batch_is.same i).1 (elim (Contains-append_cases kept news i both.best.is_heard)
          [ inl old ↦ absurd (h.1 ((of_told i).0 old)) | inr new ↦ new ]),
    );
  }

-- ---- of inputs

pub lacking_once : (told heard xs ys : List Item) → AreLacking told heard xs → AreLacking told heard ys → xs ≡ ys
lacking_once told heard xs ys a b =
    one_order xs ys a.ascend b.ascend (λ i. (λ h. (b.same i).1 ((a.same i).0 h), λ h. (a.same i).1 ((b.same i).0 h)))

module _ (than inputs : List (List ℕ)) (octets others : List ℕ) (refused other : Bool) (a : IsNews than inputs octets refused)
    (b : IsNews than inputs others other) where
  pub news_once : octets ≡ others
  news_once =
      let told : a.told ≡ b.told = (one_inbox than a.told b.told a.noted b.noted a.known b.known).0 in
      let heard : a.heard ≡ b.heard = (one_inbox inputs a.heard b.heard a.refusals b.refusals a.inbox b.inbox).0 in
      let lacks : AreLacking b.told b.heard a.batch = subst (λ (t : List Item). AreLacking t b.heard a.batch) told
      (subst (λ (h : List Item). AreLacking a.told h a.batch) heard a.lacking) in
      a.octets_are ∙ ap delta_octets (lacking_once b.told b.heard a.batch b.batch lacks b.lacking) ∙ sym b.octets_are

  pub news_refused_once : refused ≡ other
  news_refused_once =
      a.refused_is ∙
      ap (λ (noted : List RefusedMessage). is_some_refused noted || is_some_refused a.refusals)
      (one_inbox than a.told b.told a.noted b.noted a.known b.known).1 ∙
      ap (λ (refusals : List RefusedMessage). is_some_refused b.noted || is_some_refused refusals)
      (one_inbox inputs a.heard b.heard a.refusals b.refusals a.inbox b.inbox).1 ∙ sym b.refused_is

pub some_news : (than inputs : List (List ℕ)) → (octets : List ℕ) × (refused : Bool) × IsNews than inputs octets refused
some_news than inputs =
    let known = some_inbox than in
    let inbox = some_inbox inputs in
    let told : List Item = known.0 in
    let both : List Item = known.0 ++ inbox.0 in
    let those = those_of (λ i. IsKept both i × (¬ IsKept told i)) (is_new told both) both in (
      delta_octets those.0,
      (is_some_refused known.1 || is_some_refused inbox.1),
      record {
        told = told;
        noted = known.1;
        known = known.2;
        heard = inbox.0;
        refusals = inbox.1;
        inbox = inbox.2;
        batch = those.0;
        lacking = record {
          ascend = those.1.ascend;
          same = λ i. (λ h. ((those.1.same i).0 h).1, λ new. (those.1.same i).1 (new.0.best.is_heard, new));
        };
        octets_are = refl;
        refused_is = refl;
      },
    )
  where
    -- whether an item is kept of one set and not of the other can be told
    is_new : (told both : List Item) (i : Item) → (IsKept both i × (¬ IsKept told i)) ⊎ (¬ (IsKept both i × (¬ IsKept told i)))
    is_new told both i = elim (told_kept both i) [
      | inl kept ↦ elim (told_kept told i) [ inl known ↦ inr (λ h. h.1 known) | inr new ↦ inl (kept, new) ]
      | inr not ↦ inr (λ h. not h.0)
    ]

module _ (than inputs : List (List ℕ)) (kept more batch : List Item) (noted refusals : List RefusedMessage) (known : Holds than kept noted)
    (holds : Holds inputs more refusals) (lacks : (told heard : List Item) → AreKept kept told → AreKept more heard →
    AreLacking told heard batch) where
  is_news : (refused : Bool) → refused ≡ (is_some_refused noted || is_some_refused refusals) →
      IsNews than inputs (delta_octets batch) refused
  is_news refused is = record {
    told = known.heard;
    noted = noted;
    known = known.inbox;
    heard = holds.heard;
    refusals = refusals;
    inbox = holds.inbox;
    batch = batch;
    lacking = lacks known.heard holds.heard known.keeps holds.keeps;
    octets_are = refl;
    refused_is = is;
  }

  pub news_written : (old new : Option (List ℕ)) (refused : Bool) → Appends old new (delta_octets batch) →
      refused ≡ (is_some_refused noted || is_some_refused refusals) → WritesOutput (IsNews than inputs) old new refused
  news_written old new refused appended is = record { output = delta_octets batch; is_output = is_news refused is; appended = appended }

  pub news_front : (old new : Option (List ℕ)) → AppendsFront old new (delta_octets batch) → (octets : List ℕ) (refused : Bool) →
      IsNews than inputs octets refused → AppendsFront old new octets
  news_front old new front octets refused is =
      let said : Bool = is_some_refused noted || is_some_refused refusals in
      subst (λ (t : List ℕ). AppendsFront old new t)
      (news_once than inputs (delta_octets batch) octets said refused (is_news said refl) is) front

-- ---- what news is for

-- what is heard of some inputs and of others is heard of both
both_told : (xs ys : List (List ℕ)) (hx hy both : List Item) (rx ry refusals : List RefusedMessage) → IsInbox xs hx rx → IsInbox ys hy ry →
    IsInbox (xs ++ ys) both refusals → SameItems both (hx ++ hy)
both_told xs ys hx hy both rx ry refusals a b inbox i = (
  λ h. elim (tells_either xs ys i ((heard_told (xs ++ ys) both refusals inbox i).0 h)) [
    | inl first ↦ Contains-append_left hx hy i ((heard_told xs hx rx a i).1 first)
    | inr later ↦ Contains-append_right hx hy i ((heard_told ys hy ry b i).1 later)
  ],
  λ h. (heard_told (xs ++ ys) both refusals inbox i).1 (elim (Contains-append_cases hx hy i h) [
    | inl first ↦ tells_among xs (xs ++ ys) (Contains-append_left xs ys) i ((heard_told xs hx rx a i).0 first)
    | inr later ↦ tells_among ys (xs ++ ys) (Contains-append_right xs ys) i ((heard_told ys hy ry b i).0 later)
  ]),
)

-- a batch that was written is heard after other inputs, and none of it is refused
batch_behind : (inputs : List (List ℕ)) (heard : List Item) (refusals : List RefusedMessage) → IsInbox inputs heard refusals →
    (batch : List Item) → IsInbox (inputs ++ delta_octets batch ∷ []) (heard ++ batch) refusals
batch_behind inputs heard refusals inbox batch =
    let before : List Placed = placed_of 0 inbox.messages in
    let behind : List Placed = placed_from (0 + length inbox.messages) 1 (bytes_of batch) in
    let given = inbox.hears.answers in
    let hears : Hears (before ++ behind) (heard ++ batch) refusals = record {
      answers = given ++ map alone batch;
      each = answers_both before behind given (map alone batch) inbox.hears.each (are_alone (0 + length inbox.messages) 1 batch);
      heard_are = ap (λ (t : List Item). t ++ batch) inbox.hears.heard_are ∙
          ap (λ (t : List Item). heard_of given ++ t) (heard_alone batch) ∙ sym (heard_both given (map alone batch));
      refusals_are = inbox.hears.refusals_are ∙ sym (append-nil (refusals_at before given)) ∙
          ap (λ (t : List RefusedMessage). refusals_at before given ++ t) (none_refused behind batch) ∙
          sym (refusals_both before behind given (map alone batch) inbox.hears.each);
    } in
    record {
      messages = inbox.messages ++ bytes_of batch ∷ [];
      cut = cuts_push inputs inbox.messages (delta_octets batch) (bytes_of batch) inbox.cut (cut_written batch);
      hears = subst (λ (ms : List Placed). Hears ms (heard ++ batch) refusals) (sym (placed_push 0 inbox.messages (bytes_of batch))) hears;
    }

-- what one set lacks of another, beside it, keeps what both keep
lacking_covers : (told heard batch : List Item) → AreLacking told heard batch → Covers (told ++ batch) (told ++ heard)
lacking_covers told heard batch lacks i = (
  λ h. elim (Contains-append_cases told batch i h) [
    | inl old ↦ Contains-append_left told heard i old
    | inr new ↦ (((lacks.same i).0 new).0).best.is_heard
  ],
  λ kept. elim (told_kept told i) [
    | inl known ↦ Contains-append_left told batch i known.best.is_heard
    | inr not ↦ Contains-append_right told batch i ((lacks.same i).1 (kept, not))
  ],
)

module _ (than inputs : List (List ℕ)) (news : List ℕ) (lacking : Bool) (is : IsNews than inputs news lacking) where
  with_news : IsInbox (than ++ news ∷ []) (is.told ++ is.batch) is.noted
  with_news =
      subst (λ (t : List ℕ). IsInbox (than ++ t ∷ []) (is.told ++ is.batch) is.noted) (sym is.octets_are)
      (batch_behind than is.told is.noted is.known is.batch)

  module _ (octets : List ℕ) (refused : Bool) (whole : IsCompaction (than ++ inputs) octets refused) where
    same_whole : SameItems whole.heard (is.told ++ is.heard)
    same_whole =
        both_told than inputs is.told is.heard whole.heard is.noted is.refusals whole.refusals is.known is.inbox whole.inbox

    pub news_suffice : (again : List ℕ) (other : Bool) → IsCompaction (than ++ news ∷ []) again other → again ≡ octets
    news_suffice again other a =
        let one : a.heard ≡ is.told ++ is.batch =
        (one_inbox (than ++ news ∷ []) a.heard (is.told ++ is.batch) a.refusals is.noted a.inbox with_news).0 in
        let covers : Covers (is.told ++ is.batch) (is.told ++ is.heard) = lacking_covers is.told is.heard is.batch is.lacking in
        octets_of_same (is.told ++ is.batch) whole.heard again octets (λ i. (
          λ h. (kept_iff whole.heard (is.told ++ is.heard) same_whole i).1
              ((covers_same (is.told ++ is.batch) (is.told ++ is.heard) covers i).0 h),
          λ h. (covers_same (is.told ++ is.batch) (is.told ++ is.heard) covers i).1
              ((kept_iff whole.heard (is.told ++ is.heard) same_whole i).0 h),
        )) (subst (λ (heard : List Item). AreKeptOctets heard again) one a.kept) whole.kept

    pub news_needed : (others : List (List ℕ)) (again : List ℕ) (other : Bool) (item : Item) → TellsItem (news ∷ []) item →
        (¬ TellsItem others item) → IsCompaction (than ++ others) again other → again ≢ octets
    news_needed others again other item tells untold part same =
        let one : part.kept.batch ≡ whole.kept.batch =
        known_by_octets part.kept.batch whole.kept.batch part.kept.ascend whole.kept.ascend
        (sym part.kept.octets_are ∙ same ∙ whole.kept.octets_are) in
        let written : IsInbox (news ∷ []) is.batch [] =
        subst (λ (t : List ℕ). IsInbox (t ∷ []) is.batch []) (sym is.octets_are) (batch_inbox is.batch) in
        let new = (is.lacking.same item).0 ((heard_told (news ∷ []) is.batch [] written item).1 tells) in
        let kept : IsKept whole.heard item = (kept_iff whole.heard (is.told ++ is.heard) same_whole item).1 new.0 in
        let there : Contains part.kept.batch item =
        subst (λ (batch : List Item). Contains batch item) (sym one) ((whole.kept.kept item).1 kept) in
        let again_kept : IsKept part.heard item = (part.kept.kept item).0 there in
        elim (tells_either than others item ((heard_told (than ++ others) part.heard part.refusals part.inbox item).0
        again_kept.best.is_heard)) [
          | inl old ↦ new.1 (kept_part (is.told ++ is.heard) is.told item (Contains-append_left is.told is.heard) new.0
              ((heard_told than is.told is.noted is.known item).1 old))
          | inr beside ↦ untold beside
        ]

  -- none of the news is refused
  pub news_refuse_none : (octets again : List ℕ) (refused other : Bool) → IsCompaction than octets refused →
      IsCompaction (than ++ news ∷ []) again other → other ≡ refused
  news_refuse_none octets again refused other k a =
      a.refused_is ∙
      ap is_some_refused (one_inbox (than ++ news ∷ []) a.heard (is.told ++ is.batch) a.refusals is.noted a.inbox with_news).1 ∙
      ap is_some_refused (one_inbox than is.told k.heard is.noted k.refusals is.known k.inbox).1 ∙ sym k.refused_is
