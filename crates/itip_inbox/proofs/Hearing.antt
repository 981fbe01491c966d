-- Messages that are heard or refused, one after another.
use Rattle.std.proofs.Common.{◌≡◌, ◌∙◌, sym, ap, refl, ℕ, suc, ◌+◌, map, List}
use Rattle.std.proofs.Common.{[], ◌∷◌, ◌++◌, length, subst, arith, append_assoc, append-nil, Option}
use Rattle.std.proofs.lemmas.List.{length-append}
use Rattle.itip_explain.specs.declared.told.ToldItem.{ToldItem}
use Rattle.itip_items.specs.declared.item.Item.{Item}
use Rattle.itip_message.specs.Message.{ReadsMessage, RefusesMessage}
use Rattle.itip_message.specs.declared.error.MessageRefusal.{MessageRefusal}
use Rattle.itip_state.specs.Kept.{IsKept, AreKept}
use Rattle.itip_state.specs.Told.{AreNews}
use Rattle.itip_state.proofs.Members.{none_in}
use Rattle.itip_inbox.specs.declared.open_inbox.OpenInbox.{OpenInbox}
use Rattle.itip_inbox.specs.declared.refused.RefusedMessage.{RefusedMessage}
use Rattle.itip_inbox.specs.Following.{items_about, told_in, place_of, AreTold}
use Rattle.itip_inbox.specs.Placing.{later_refusal, later_told}
use Rattle.itip_inbox.specs.Inbox.{Placed, placed_from, Hears}
use Rattle.itip_inbox.specs.Streaming.{KeepsMessages, TellBeside, Tells, HasGot, waiting_of}
use Rattle.itip_inbox.specs.declared.texts.Heard.{Heard}
use Rattle.itip_inbox.specs.declared.waiting.Waiting.{Waiting}
use Rattle.itip_message.specs.Scanned.{messages_of}
use Rattle.itip_inbox.proofs.Answered.{hears_none, hears_items, hears_refusal, hears_both}
use Rattle.itip_inbox.proofs.Answered.{tells_none, tells_items, tells_refusal, tells_both}
use Rattle.itip_inbox.proofs.Keeping.{news_both, keeps_more}
use Rattle.itip_inbox.proofs.Behind.{beside_behind}

-- ---- messages by their places

pub placed_both : (source n : ℕ) (xs ys : List (List ℕ)) →
    placed_from source n (xs ++ ys) ≡ placed_from source n xs ++ placed_from source (n + length xs) ys
placed_both source n [] ys = let e : n ≡ n + 0 = omega arith in ap (λ (k : ℕ). placed_from source k ys) e
placed_both source n (x ∷ xs) ys =
    let e : (n + 1) + length xs ≡ n + suc (length xs) = omega arith in
    ap (λ (ms : List Placed). (record { source = source; message = n; text = x }) ∷ ms) (placed_both source (n + 1) xs ys ∙
    ap (λ (k : ℕ). placed_from source (n + 1) xs ++ placed_from source k ys) e)

pub length_placed : (source n : ℕ) (xs : List (List ℕ)) → length (placed_from source n xs) ≡ length xs
length_placed source n [] = refl
length_placed source n (x ∷ xs) = ap suc (length_placed source (n + 1) xs)

-- the messages of an input that come after others
pub placed_on : (before : List Placed) (source base at count : ℕ) (xs ys : List (List ℕ)) → at ≡ source → count ≡ base + length xs →
    (before ++ placed_from source (base + 1) xs) ++ placed_from at (count + 1) ys ≡ before ++ placed_from source (base + 1) (xs ++ ys)
placed_on before source base at count xs ys same counted =
    let e : count + 1 ≡ (base + 1) + length xs = omega (arith, counted) in
    append_assoc before (placed_from source (base + 1) xs) (placed_from at (count + 1) ys) ∙
    ap (λ (ms : List Placed). before ++ (placed_from source (base + 1) xs ++ ms))
    (ap (λ (s : ℕ). placed_from s (count + 1) ys) same ∙ ap (λ (k : ℕ). placed_from source k ys) e) ∙
    ap (λ (ms : List Placed). before ++ ms) (sym (placed_both source (base + 1) xs ys))

-- ---- inboxes

-- no message came yet
pub keeps_none : (about : Option (List ℕ)) (inbox : OpenInbox) → inbox.state ≡ [] → inbox.refusals ≡ [] → inbox.told.items ≡ [] →
    KeepsMessages about [] inbox
keeps_none about inbox empty unrefused untold = record {
  heard = [];
  hears = subst (λ (refusals : List RefusedMessage). Hears [] [] refusals) (sym unrefused) hears_none;
  tells = subst (λ (told : List ToldItem). AreTold about [] told) (sym untold) (tells_none about);
  keeps = subst (λ (kept : List Item). AreKept kept []) (sym empty)
      (λ i. (λ h. absurd (none_in i h), λ (kept : IsKept [] i). absurd (none_in i kept.best.is_heard)));
}

-- an inbox that has what another has
pub keeps_same : (about : Option (List ℕ)) (messages : List Placed) (old new : OpenInbox) → new.state ≡ old.state →
    new.refusals ≡ old.refusals → new.told.items ≡ old.told.items → KeepsMessages about messages old →
    KeepsMessages about messages new
keeps_same about messages old new state refusals told keeps = record {
  heard = keeps.heard;
  hears = subst (λ (more : List RefusedMessage). Hears messages keeps.heard more) (sym refusals) keeps.hears;
  tells = subst (λ (more : List ToldItem). AreTold about messages more) (sym told) keeps.tells;
  keeps = subst (λ (kept : List Item). AreKept kept keeps.heard) (sym state) keeps.keeps;
}

-- a message is noted as refused
pub keeps_refusal : (about : Option (List ℕ)) (before : List Placed) (old new : OpenInbox) (text : List ℕ) (cause : MessageRefusal)
    (next : ℕ) → RefusesMessage text cause → new.state ≡ old.state → new.told.items ≡ old.told.items → next ≡ old.messages + 1 →
    new.refusals ≡ old.refusals ++ (record { source = old.source; message = next; refusal = cause }) ∷ []
    → KeepsMessages about before old → KeepsMessages about (before ++ placed_from old.source (old.messages + 1) (text ∷ [])) new
keeps_refusal about before old new text cause next refuses state told is noted keeps =
    let one : Placed = record { source = old.source; message = old.messages + 1; text = text } in
    record {
      heard = keeps.heard;
      hears = subst (λ (refusals : List RefusedMessage). Hears (before ++ one ∷ []) keeps.heard refusals)
          (sym (noted ∙ ap (λ (n : ℕ). old.refusals ++
          (record { source = old.source; message = n; refusal = cause }) ∷ []) is))
          (hears_refusal before keeps.heard old.refusals keeps.hears one cause refuses);
      tells = subst (λ (more : List ToldItem). AreTold about (before ++ one ∷ []) more) (sym told)
          (tells_refusal about before old.told.items keeps.tells one cause refuses);
      keeps = subst (λ (kept : List Item). AreKept kept keeps.heard) (sym state) keeps.keeps;
    }

-- ---- what messages tell beside what is kept

pub beside_none : (about : Option (List ℕ)) (kept news : List Item) (refusals : List RefusedMessage) (told : List ToldItem) → news ≡ [] →
    refusals ≡ [] → told ≡ [] → TellBeside about kept [] news refusals told
beside_none about kept news refusals told no_news unrefused untold = record {
  items = [];
  hears = subst (λ (rs : List RefusedMessage). Hears [] [] rs) (sym unrefused) hears_none;
  tells = subst (λ (ts : List ToldItem). AreTold about [] ts) (sym untold) (tells_none about);
  news_are = subst (λ (ns : List Item). AreNews kept [] ns) (sym no_news) (record {
    among = λ i h. h;
    new = λ i h. absurd (none_in i h);
    rest = λ i h. absurd (none_in i h);
  });
}

-- two neighbouring pieces tell what both tell
pub beside_both : (about : Option (List ℕ)) (kept : List Item) (before after : List Placed) (news more all : List Item)
    (refusals others noted : List RefusedMessage) (told behind followed : List ToldItem) → all ≡ news ++ more → noted ≡ refusals ++ others →
    followed ≡ told ++ behind → TellBeside about kept before news refusals told → TellBeside about kept after more others behind →
    TellBeside about kept (before ++ after) all noted followed
beside_both about kept before after news more all refusals others noted told behind followed news_is refusals_is told_is one two = record {
  items = one.items ++ two.items;
  hears = subst (λ (rs : List RefusedMessage). Hears (before ++ after) (one.items ++ two.items) rs) (sym refusals_is)
      (hears_both before after one.items two.items refusals others one.hears two.hears);
  tells = subst (λ (ts : List ToldItem). AreTold about (before ++ after) ts) (sym told_is)
      (tells_both about before after told behind one.tells two.tells);
  news_are = subst (λ (ns : List Item). AreNews kept (one.items ++ two.items) ns) (sym news_is)
      (news_both kept one.items two.items news more one.news_are two.news_are);
}

module _ (about : Option (List ℕ)) (kept : List Item) (before : List Placed) (news : List Item) (refusals : List RefusedMessage)
    (told : List ToldItem) (so_far : TellBeside about kept before news refusals told) (one : Placed) where
  -- one message more gives items
  pub beside_items : (items more : List Item) (followed : List ToldItem) → ReadsMessage one.text items →
      AreNews kept (so_far.items ++ items) more → followed ≡ told ++ told_in (place_of one) (items_about about items) →
      TellBeside about kept (before ++ one ∷ []) more refusals followed
  beside_items items more followed reads are noted = record {
    items = so_far.items ++ items;
    hears = hears_items before so_far.items refusals so_far.hears one items reads;
    tells = subst (λ (ts : List ToldItem). AreTold about (before ++ one ∷ []) ts) (sym noted)
        (tells_items about before told so_far.tells one items reads);
    news_are = are;
  }

  -- or is refused
  pub beside_refusal : (cause : MessageRefusal) (noted : List RefusedMessage) → RefusesMessage one.text cause →
      noted ≡ refusals ++ (record { source = one.source; message = one.message; refusal = cause }) ∷ [] →
      TellBeside about kept (before ++ one ∷ []) news noted told
  beside_refusal cause noted refuses is = record {
    items = so_far.items;
    hears = subst (λ (rs : List RefusedMessage). Hears (before ++ one ∷ []) so_far.items rs) (sym is)
        (hears_refusal before so_far.items refusals so_far.hears one cause refuses);
    tells = tells_refusal about before told so_far.tells one cause refuses;
    news_are = so_far.news_are;
  }

-- the texts up to and with one more, by their places
pub placed_one : (source first next : ℕ) (texts : List (List ℕ)) (text : List ℕ) → next ≡ first + length texts →
    placed_from source first (texts ++ text ∷ []) ≡
    placed_from source first texts ++ (record { source = source; message = next; text = text }) ∷ []
placed_one source first next texts text is =
    placed_both source first texts (text ∷ []) ∙
    ap (λ (n : ℕ). placed_from source first texts ++ (record { source = source; message = n; text = text }) ∷ []) (sym is)

-- an inbox hears what messages tell
pub keeps_beside : (about : Option (List ℕ)) (before more : List Placed) (old new : OpenInbox) (news : List Item)
    (refusals : List RefusedMessage) (told : List ToldItem) → KeepsMessages about before old →
    TellBeside about old.state more news refusals told → AreKept new.state (old.state ++ news) →
    new.refusals ≡ old.refusals ++ refusals → new.told.items ≡ old.told.items ++ told →
    KeepsMessages about (before ++ more) new
keeps_beside about before more old new news refusals told keeps beside kept noted followed = record {
  heard = keeps.heard ++ beside.items;
  hears = subst (λ (rs : List RefusedMessage). Hears (before ++ more) (keeps.heard ++ beside.items) rs) (sym noted)
      (hears_both before more keeps.heard beside.items old.refusals refusals keeps.hears beside.hears);
  tells = subst (λ (ts : List ToldItem). AreTold about (before ++ more) ts) (sym followed)
      (tells_both about before more old.told.items told keeps.tells beside.tells);
  keeps = keeps_more old.state new.state keeps.heard beside.items news keeps.keeps beside.news_are kept;
}

-- ---- what messages tell, and how many they are

pub none_tells : (about : Option (List ℕ)) (kept : List Item) (heard : Heard) → heard.count ≡ 0 → heard.news.items ≡ [] →
    heard.refusals ≡ [] → heard.told.items ≡ [] → Tells about kept [] heard
none_tells about kept heard none no_news unrefused untold = record {
  beside = beside_none about kept heard.news.items heard.refusals heard.told.items no_news unrefused untold;
  count_is = none;
}

pub both_tell : (about : Option (List ℕ)) (kept : List Item) (before after : List Placed) (one two all : Heard) →
    all.count ≡ one.count + two.count → all.news.items ≡ one.news.items ++ two.news.items →
    all.refusals ≡ one.refusals ++ two.refusals → all.told.items ≡ one.told.items ++ two.told.items →
    Tells about kept before one → Tells about kept after two → Tells about kept (before ++ after) all
both_tell about kept before after one two all count news refusals told first second =
    let long : length (before ++ after) ≡ length before + length after = length-append before after in
    let front : one.count ≡ length before = first.count_is in
    let back : two.count ≡ length after = second.count_is in
    record {
      beside = beside_both about kept before after one.news.items two.news.items all.news.items one.refusals two.refusals
          all.refusals one.told.items two.told.items all.told.items news refusals told first.beside second.beside;
      count_is = omega (arith, count, long, front, back);
    }

-- the messages of an input from the first, and one more
module _ (about : Option (List ℕ)) (kept : List Item) (source next : ℕ) (texts : List (List ℕ)) (text : List ℕ) (old : Heard)
    (so_far : Tells about kept (placed_from source 1 texts) old) (is : next ≡ old.count + 1) where
  pub next_number : next ≡ 1 + length texts
  next_number =
      let counted : old.count ≡ length texts = so_far.count_is ∙ length_placed source 1 texts in
      omega (arith, is, counted)

  pub one_tells : (new : Heard) → new.count ≡ next →
      TellBeside about kept (placed_from source 1 texts ++ (record { source = source; message = next; text = text }) ∷ [])
      new.news.items new.refusals new.told.items → Tells about kept (placed_from source 1 (texts ++ text ∷ [])) new
  one_tells new count beside =
      let long : length (placed_from source 1 (texts ++ text ∷ [])) ≡ length texts + 1 =
      length_placed source 1 (texts ++ text ∷ []) ∙ length-append texts (text ∷ []) in
      let number : next ≡ 1 + length texts = next_number in
      record {
        beside = subst (λ (ms : List Placed). TellBeside about kept ms new.news.items new.refusals new.told.items)
            (sym (placed_one source 1 next texts text number)) beside;
        count_is = omega (arith, count, long, number);
      }

-- `count` others come before
pub behind_tell : (about : Option (List ℕ)) (kept : List Item) (source first count : ℕ) (texts : List (List ℕ)) (old new : Heard) →
    new.count ≡ old.count → new.news.items ≡ old.news.items →
    new.refusals ≡ map (later_refusal count) old.refusals → new.told.items ≡ map (later_told count) old.told.items →
    Tells about kept (placed_from source first texts) old → Tells about kept (placed_from source (first + count) texts) new
behind_tell about kept source first count texts old new same news refusals told tells = record {
  beside = subst (λ (ns : List Item). TellBeside about kept (placed_from source (first + count) texts) ns new.refusals new.told.items)
      (sym news) (beside_behind about kept source first count texts old.news.items old.refusals new.refusals old.told.items
      new.told.items refusals told tells.beside);
  count_is = same ∙ tells.count_is ∙ length_placed source first texts ∙ sym (length_placed source (first + count) texts);
}

-- ---- inputs that wait

pub got_none : (about : Option (List ℕ)) (inbox : OpenInbox) → inbox.state ≡ [] → inbox.refusals ≡ [] → inbox.told.items ≡ [] →
    inbox.waiting.items ≡ [] → HasGot about [] inbox
got_none about inbox empty unrefused untold none = record {
  done = [];
  whole = ap waiting_of (sym none);
  keeps = keeps_none about inbox empty unrefused untold;
}

pub got_same : (about : Option (List ℕ)) (messages : List Placed) (old new : OpenInbox) → new.state ≡ old.state →
    new.refusals ≡ old.refusals → new.told.items ≡ old.told.items → new.waiting.items ≡ old.waiting.items →
    HasGot about messages old → HasGot about messages new
got_same about messages old new state refusals told waiting got = record {
  done = got.done;
  whole = subst (λ (ws : List Waiting). messages ≡ got.done ++ waiting_of ws) (sym waiting) got.whole;
  keeps = keeps_same about got.done old new state refusals told got.keeps;
}

-- if none waits
pub got_now : (about : Option (List ℕ)) (messages : List Placed) (inbox : OpenInbox) → inbox.waiting.items ≡ [] →
    KeepsMessages about messages inbox → HasGot about messages inbox
got_now about messages inbox none keeps = record {
  done = messages;
  whole = sym (append-nil messages) ∙ ap (λ (ws : List Waiting). messages ++ waiting_of ws) (sym none);
  keeps = keeps;
}

pub waiting_push : (waiting : List Waiting) (one : Waiting) →
    waiting_of (waiting ++ one ∷ []) ≡ waiting_of waiting ++ placed_from one.source 1 (messages_of one.octets.items)
waiting_push [] one = append-nil (placed_from one.source 1 (messages_of one.octets.items))
waiting_push (w ∷ waiting) one =
    ap (λ (ms : List Placed). placed_from w.source 1 (messages_of w.octets.items) ++ ms) (waiting_push waiting one) ∙
    sym (append_assoc (placed_from w.source 1 (messages_of w.octets.items)) (waiting_of waiting)
    (placed_from one.source 1 (messages_of one.octets.items)))

-- one input more waits
pub got_waits : (about : Option (List ℕ)) (before : List Placed) (old new : OpenInbox) (one : Waiting) → new.state ≡ old.state →
    new.refusals ≡ old.refusals → new.told.items ≡ old.told.items → new.waiting.items ≡ old.waiting.items ++ one ∷ [] →
    HasGot about before old → HasGot about (before ++ placed_from one.source 1 (messages_of one.octets.items)) new
got_waits about before old new one state refusals told waiting got =
    let more : List Placed = placed_from one.source 1 (messages_of one.octets.items) in
    record {
      done = got.done;
      whole = ap (λ (ms : List Placed). ms ++ more) got.whole ∙ append_assoc got.done (waiting_of old.waiting.items) more ∙
          ap (λ (ms : List Placed). got.done ++ ms) (sym (ap waiting_of waiting ∙ waiting_push old.waiting.items one));
      keeps = keeps_same about got.done old new state refusals told got.keeps;
    }

-- those that wait are heard
pub waiting_heard : (about : Option (List ℕ)) (messages : List Placed) (old now new : OpenInbox) (heard : Heard) →
    Tells about old.state (waiting_of old.waiting.items) heard → ((before more : List Placed) → KeepsMessages about before old →
    Tells about old.state more heard → KeepsMessages about (before ++ more) now) → new.state ≡ now.state →
    new.refusals ≡ now.refusals → new.told.items ≡ now.told.items → HasGot about messages old →
    KeepsMessages about messages new
waiting_heard about messages old now new heard tells takes state refusals told got =
    keeps_same about messages now new state refusals told
    (subst (λ (ms : List Placed). KeepsMessages about ms now) (sym got.whole)
    (takes got.done (waiting_of old.waiting.items) got.keeps tells))

-- messages of an input are heard, once none waits
pub got_more : (about : Option (List ℕ)) (before : List Placed) (old now new : OpenInbox) (texts : List (List ℕ)) →
    now.source ≡ old.source → now.messages ≡ old.messages → new.waiting.items ≡ [] →
    KeepsMessages about (before ++ placed_from now.source (now.messages + 1) texts) new →
    HasGot about (before ++ placed_from old.source (old.messages + 1) texts) new
got_more about before old now new texts source messages none keeps =
    got_now about (before ++ placed_from old.source (old.messages + 1) texts) new none
    (subst (λ (s : ℕ). KeepsMessages about (before ++ placed_from s (old.messages + 1) texts) new) source
    (subst (λ (n : ℕ). KeepsMessages about (before ++ placed_from now.source (n + 1) texts) new) messages keeps))

-- messages that were numbered from 1 come after those that were heard
pub next_tells : (about : Option (List ℕ)) (kept : List Item) (source count : ℕ) (texts : List (List ℕ)) (heard : Heard) →
    Tells about kept (placed_from source (1 + count) texts) heard → Tells about kept (placed_from source (count + 1) texts) heard
next_tells about kept source count texts heard tells =
    let same : 1 + count ≡ count + 1 = omega arith in
    subst (λ (n : ℕ). Tells about kept (placed_from source n texts) heard) same tells
