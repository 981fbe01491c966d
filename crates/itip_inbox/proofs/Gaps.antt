-- An input that is cut in the gaps between its messages tells what its parts tell.
use Rattle.std.proofs.Common.{◌≡◌, ◌∙◌, sym, ap, refl, subst, ℕ, ◌≤◌, ◌⊎◌, List, [], ◌∷◌, ◌++◌, length, arith, inl, inr, append_assoc}
use Rattle.std.proofs.Common.{append-nil}
use Rattle.std.specs.List.{Contains, AllByRecursion, concat}
use Rattle.itip_lines.specs.Reading.{text_limit}
use Rattle.itip_lines.specs.Stretches.{LacksBlank}
use Rattle.itip_items.specs.declared.item.Item.{Item}
use Rattle.itip_message.specs.Cutting.{IsCalendar, AreApart, IsCutInto}
use Rattle.itip_message.specs.Scanned.{messages_of}
use Rattle.itip_message.proofs.Cuts.{cut_by_scan}
use Rattle.itip_message.proofs.OneCut.{one_cut}
use Rattle.itip_inbox.specs.Compaction.{TellsItem, TellSameItems, HasMessage, EndsBetween}
use Rattle.itip_inbox.specs.Gaps.{IsEmptyLine, IsCalendarOrEmptyLine, EndsInGap, EachEndsInGap, IsPartedInGaps, HaveShortMessages}
use Rattle.itip_inbox.proofs.Between.{IsMessageOf, of_both, in_both, no_message, one_has, first_or, none_has, later_has}
use Rattle.itip_inbox.proofs.EmptyLines.{front_lacks, IsOrHasBefore, line_before, calendar_behind, among_messages, among_longer, shorter}
use Rattle.itip_inbox.proofs.EmptyLines.{read_without, read_with}
use Rattle.itip_inbox.proofs.Telling.{Says, says_more, tells_says, says_tells}

-- a message of this text gives the item
abbrev Tells : List ℕ → Item → Type 0
Tells text item = Says (IsMessageOf text) item

-- no message of this text is too long
abbrev IsShort : List ℕ → Type 0
IsShort text = (message : List ℕ) → IsMessageOf text message → length message ≤ text_limit

tells_also : (text other : List ℕ) (item : Item) (tells : Tells text item) → IsMessageOf other tells.message → Tells other item
tells_also text other item tells has =
    record { message = tells.message; has = has; items = tells.items; reads = tells.reads; among = tells.among }

tells_as : (text other : List ℕ) (item : Item) → text ≡ other → Tells text item → Tells other item
tells_as text other item e tells = subst (λ (t : List ℕ). Tells t item) e tells

-- ---- empty lines before a text

module _ (line text : List ℕ) (empty : IsEmptyLine line) (lacks : LacksBlank text) where
  without_line : (message : List ℕ) → IsMessageOf (line ++ text) message →
      (other : List ℕ) × IsMessageOf text other × IsOrHasBefore line message other
  without_line message has =
      let cut : IsCutInto text (messages_of text) = cut_by_scan text in
      let more = line_before line text empty lacks (messages_of text) cut in
      let among : Contains more.longer message = subst (λ (ms : List (List ℕ)). Contains ms message)
      (one_cut (line ++ text) has.messages more.longer has.cut more.cut) has.among in
      let is = among_messages line more.longer (messages_of text) message more.alike among in
      (is.0, record { messages = messages_of text; cut = cut; among = is.1 }, is.2)

  with_line : (message : List ℕ) → IsMessageOf text message →
      (longer : List ℕ) × IsMessageOf (line ++ text) longer × IsOrHasBefore line longer message
  with_line message has =
      let more = line_before line text empty lacks has.messages has.cut in
      let is = among_longer line more.longer has.messages message more.alike has.among in
      (is.0, record { messages = more.longer; cut = more.cut; among = is.1 }, is.2)

  tells_without : (item : Item) → Tells (line ++ text) item → Tells text item
  tells_without item tells =
      let is = without_line tells.message tells.has in
      record {
        message = is.0;
        has = is.1;
        items = tells.items;
        reads = read_without line tells.message is.0 empty tells.items is.2 tells.reads;
        among = tells.among;
      }

  short_without : IsShort (line ++ text) → IsShort text
  short_without short message has =
      let is = with_line message has in
      let less : length message ≤ length is.0 = shorter line is.0 message is.2 in
      let whole : length is.0 ≤ text_limit = short is.0 is.1 in
      omega arith

  tells_with : IsShort (line ++ text) → (item : Item) → Tells text item → Tells (line ++ text) item
  tells_with short item tells =
      let is = with_line tells.message tells.has in
      record {
        message = is.0;
        has = is.1;
        items = tells.items;
        reads = read_with line is.0 tells.message empty tells.items is.2 (short is.0 is.1) tells.reads;
        among = tells.among;
      }

lines_short : (lines : List (List ℕ)) (rest : List ℕ) → AllByRecursion IsEmptyLine lines → AreApart lines rest →
    IsShort (concat lines ++ rest) → IsShort rest
lines_short [] rest empty apart short = short
lines_short (line ∷ lines) rest empty apart short =
    lines_short lines rest empty.1 apart.1
    (short_without line (concat lines ++ rest) empty.0 apart.0 (subst IsShort (append_assoc line (concat lines) rest) short))

tells_behind : (lines : List (List ℕ)) (rest : List ℕ) → AllByRecursion IsEmptyLine lines → AreApart lines rest → (item : Item) →
    Tells (concat lines ++ rest) item → Tells rest item
tells_behind [] rest empty apart item tells = tells
tells_behind (line ∷ lines) rest empty apart item tells =
    tells_behind lines rest empty.1 apart.1 item (tells_without line (concat lines ++ rest) empty.0 apart.0 item
    (tells_as ((line ++ concat lines) ++ rest) (line ++ (concat lines ++ rest)) item (append_assoc line (concat lines) rest) tells))

tells_before : (lines : List (List ℕ)) (rest : List ℕ) → AllByRecursion IsEmptyLine lines → AreApart lines rest →
    IsShort (concat lines ++ rest) → (item : Item) → Tells rest item → Tells (concat lines ++ rest) item
tells_before [] rest empty apart short item tells = tells
tells_before (line ∷ lines) rest empty apart short item tells =
    let both : IsShort (line ++ (concat lines ++ rest)) = subst IsShort (append_assoc line (concat lines) rest) short in
    tells_as (line ++ (concat lines ++ rest)) ((line ++ concat lines) ++ rest) item (sym (append_assoc line (concat lines) rest))
    (tells_with line (concat lines ++ rest) empty.0 apart.0 both item
    (tells_before lines rest empty.1 apart.1 (short_without line (concat lines ++ rest) empty.0 apart.0 both) item tells))

-- ---- a part

-- A part that ends in a gap: calendars, each with the empty lines before it, and the empty lines after the last.
record HasGap (part rest : List ℕ) : Type 0 where
  calendars : List (List ℕ)
  lines : List (List ℕ)
  whole : part ≡ concat calendars ++ concat lines
  each : AllByRecursion IsCalendar calendars
  empty : AllByRecursion IsEmptyLine lines
  apart : AreApart calendars (concat lines ++ rest)
  lines_apart : AreApart lines rest

calendar_more : (calendar part rest : List ℕ) → IsCalendar calendar → LacksBlank (part ++ rest) → HasGap part rest →
    HasGap (calendar ++ part) rest
calendar_more calendar part rest is lacks gap = record {
  calendars = calendar ∷ gap.calendars;
  lines = gap.lines;
  whole = ap (λ (t : List ℕ). calendar ++ t) gap.whole ∙ sym (append_assoc calendar (concat gap.calendars) (concat gap.lines));
  each = (is, gap.each);
  empty = gap.empty;
  apart = (
    subst LacksBlank (ap (λ (t : List ℕ). t ++ rest) gap.whole ∙ append_assoc (concat gap.calendars) (concat gap.lines) rest) lacks,
    gap.apart,
  );
  lines_apart = gap.lines_apart;
}

line_more : (line part rest : List ℕ) → IsEmptyLine line → LacksBlank (part ++ rest) → HasGap part rest → HasGap (line ++ part) rest
line_more line part rest is lacks gap = by_calendars gap.calendars gap.whole gap.each gap.apart
  where
    by_calendars : (calendars : List (List ℕ)) → part ≡ concat calendars ++ concat gap.lines → AllByRecursion IsCalendar calendars →
        AreApart calendars (concat gap.lines ++ rest) → HasGap (line ++ part) rest
    by_calendars [] whole each apart = record {
      calendars = [];
      lines = line ∷ gap.lines;
      whole = ap (λ (t : List ℕ). line ++ t) whole;
      each = tt;
      empty = (is, gap.empty);
      apart = tt;
      lines_apart = (subst LacksBlank (ap (λ (t : List ℕ). t ++ rest) whole) lacks, gap.lines_apart);
    }
    by_calendars (calendar ∷ calendars) whole each apart =
        let all : LacksBlank (((calendar ++ concat calendars) ++ concat gap.lines) ++ rest) =
        subst LacksBlank (ap (λ (t : List ℕ). t ++ rest) whole) lacks in
        let first : LacksBlank calendar =
        front_lacks calendar (concat calendars) (front_lacks (calendar ++ concat calendars) (concat gap.lines)
        (front_lacks ((calendar ++ concat calendars) ++ concat gap.lines) rest all)) in
        record {
          calendars = (line ++ calendar) ∷ calendars;
          lines = gap.lines;
          whole = ap (λ (t : List ℕ). line ++ t) whole ∙ sym (append_assoc line (calendar ++ concat calendars) (concat gap.lines)) ∙
              ap (λ (t : List ℕ). t ++ concat gap.lines) (sym (append_assoc line calendar (concat calendars)));
          each = (calendar_behind line calendar is first each.0, each.1);
          empty = gap.empty;
          apart = apart;
          lines_apart = gap.lines_apart;
        }

gap_of : (pieces : List (List ℕ)) (rest : List ℕ) → AllByRecursion IsCalendarOrEmptyLine pieces → AreApart pieces rest →
    HasGap (concat pieces) rest
gap_of [] rest each apart =
    record { calendars = []; lines = []; whole = refl; each = tt; empty = tt; apart = tt; lines_apart = tt }
gap_of (piece ∷ pieces) rest each apart =
    let more : HasGap (concat pieces) rest = gap_of pieces rest each.1 apart.1 in
    elim each.0 [
      | inl is ↦ calendar_more piece (concat pieces) rest is apart.0 more
      | inr is ↦ line_more piece (concat pieces) rest is apart.0 more
    ]

gap_at : (part rest : List ℕ) → EndsInGap part rest → HasGap part rest
gap_at part rest ends =
    subst (λ (t : List ℕ). HasGap t rest) (sym ends.whole) (gap_of ends.pieces rest ends.each ends.apart)

-- texts that are apart from what follows are so if less follows
front_apart : (texts : List (List ℕ)) (front rest : List ℕ) → AreApart texts (front ++ rest) → AreApart texts front
front_apart [] front rest apart = tt
front_apart (text ∷ texts) front rest apart = (
  front_lacks (concat texts ++ front) rest (subst LacksBlank (sym (append_assoc (concat texts) front rest)) apart.0),
  front_apart texts front rest apart.1,
)

module _ (part rest : List ℕ) (gap : HasGap part rest) where
  abbrev calendars : List ℕ
  calendars = concat gap.calendars

  abbrev lines : List ℕ
  lines = concat gap.lines

  before_rest : EndsBetween calendars (lines ++ rest)
  before_rest = record { calendars = gap.calendars; whole = refl; each = gap.each; apart = gap.apart }

  before_lines : EndsBetween calendars lines
  before_lines = record {
    calendars = gap.calendars;
    whole = refl;
    each = gap.each;
    apart = front_apart gap.calendars lines rest gap.apart;
  }

  all : part ++ rest ≡ calendars ++ (lines ++ rest)
  all = ap (λ (t : List ℕ). t ++ rest) gap.whole ∙ append_assoc calendars lines rest

  in_part : (message : List ℕ) → IsMessageOf calendars message → IsMessageOf part message
  in_part message has =
      subst (λ (t : List ℕ). IsMessageOf t message) (sym gap.whole) (in_both calendars lines before_lines message (inl has))

  in_all : (message : List ℕ) → IsMessageOf calendars message ⊎ IsMessageOf (lines ++ rest) message → IsMessageOf (part ++ rest) message
  in_all message has =
      subst (λ (t : List ℕ). IsMessageOf t message) (sym all) (in_both calendars (lines ++ rest) before_rest message has)

  -- empty lines alone are no message
  lines_tell_none : (item : Item) → Tells lines item → ⊥
  lines_tell_none item tells =
      let none : Tells [] item = tells_behind gap.lines [] gap.empty (front_apart gap.lines [] rest gap.lines_apart) item
      (tells_as lines (lines ++ []) item (sym (append-nil lines)) tells) in
      no_message none.message none.has

  short_behind : IsShort (part ++ rest) → IsShort (lines ++ rest)
  short_behind short message has = short message (in_all message (inr has))

  short_rest : IsShort (part ++ rest) → IsShort rest
  short_rest short = lines_short gap.lines rest gap.empty gap.lines_apart (short_behind short)

  -- both tell no more than either
  tells_either : (item : Item) → Tells (part ++ rest) item → Tells part item ⊎ Tells rest item
  tells_either item tells =
      elim (of_both calendars (lines ++ rest) before_rest tells.message
      (subst (λ (t : List ℕ). IsMessageOf t tells.message) all tells.has)) [
        | inl first ↦ inl (tells_also (part ++ rest) part item tells (in_part tells.message first))
        | inr later ↦ inr (tells_behind gap.lines rest gap.empty gap.lines_apart item
            (tells_also (part ++ rest) (lines ++ rest) item tells later))
      ]

  -- and no less, if no message of both is too long
  tells_both : IsShort (part ++ rest) → (item : Item) → Tells part item ⊎ Tells rest item → Tells (part ++ rest) item
  tells_both short item (inl tells) =
      elim (of_both calendars lines before_lines tells.message
      (subst (λ (t : List ℕ). IsMessageOf t tells.message) gap.whole tells.has)) [
        | inl first ↦ tells_also part (part ++ rest) item tells (in_all tells.message (inl first))
        | inr later ↦ absurd (lines_tell_none item (tells_also part lines item tells later))
      ]
  tells_both short item (inr tells) =
      let behind : Tells (lines ++ rest) item =
      tells_before gap.lines rest gap.empty gap.lines_apart (short_behind short) item tells in
      tells_also (lines ++ rest) (part ++ rest) item behind (in_all behind.message (inr behind.has))

-- ---- all parts

told_by_parts : (parts : List (List ℕ)) → EachEndsInGap parts → (item : Item) → Tells (concat parts) item → Says (HasMessage parts) item
told_by_parts [] gaps item tells = absurd (no_message tells.message tells.has)
told_by_parts (part ∷ []) gaps item tells =
    says_more (IsMessageOf part) (HasMessage (part ∷ [])) item (one_has part [])
    (tells_as (part ++ []) part item (append-nil part) tells)
told_by_parts (part ∷ (next ∷ parts)) gaps item tells =
    elim (tells_either part (concat (next ∷ parts)) (gap_at part (concat (next ∷ parts)) gaps.0) item tells) [
      | inl first ↦ says_more (IsMessageOf part) (HasMessage (part ∷ (next ∷ parts))) item (one_has part (next ∷ parts)) first
      | inr later ↦ says_more (HasMessage (next ∷ parts)) (HasMessage (part ∷ (next ∷ parts))) item (later_has part (next ∷ parts))
          (told_by_parts (next ∷ parts) gaps.1 item later)
    ]

-- the first of these texts tells the item, or another does
first_tells : (text : List ℕ) (texts : List (List ℕ)) (item : Item) → Says (HasMessage (text ∷ texts)) item →
    Tells text item ⊎ Says (HasMessage texts) item
first_tells text texts item says =
    elim (first_or text texts says.message says.has) [
      | inl first ↦ inl (record { message = says.message; has = first; items = says.items; reads = says.reads; among = says.among })
      | inr later ↦ inr (record { message = says.message; has = later; items = says.items; reads = says.reads; among = says.among })
    ]

told_by_whole : (parts : List (List ℕ)) → EachEndsInGap parts → IsShort (concat parts) → (item : Item) → Says (HasMessage parts) item →
    Tells (concat parts) item
told_by_whole [] gaps short item says = absurd (none_has says.message says.has)
told_by_whole (part ∷ []) gaps short item says =
    elim (first_tells part [] item says) [
      | inl first ↦ tells_as part (part ++ []) item (sym (append-nil part)) first
      | inr none ↦ absurd (none_has none.message none.has)
    ]
told_by_whole (part ∷ (next ∷ parts)) gaps short item says =
    let rest : List ℕ = concat (next ∷ parts) in
    let gap : HasGap part rest = gap_at part rest gaps.0 in
    tells_both part rest gap short item
    (elim (first_tells part (next ∷ parts) item says) [
      | inl first ↦ inl first
      | inr later ↦ inr (told_by_whole (next ∷ parts) gaps.1 (short_rest part rest gap short) item later)
    ])

-- ---- the input

module _ (whole : List ℕ) (parts : List (List ℕ)) (is : IsPartedInGaps whole parts) where
  of_whole : (message : List ℕ) → IsMessageOf (concat parts) message → HasMessage (whole ∷ []) message
  of_whole message has = one_has whole [] message (subst (λ (t : List ℕ). IsMessageOf t message) (sym is.joined) has)

  -- what the whole tells is told by the parts
  pub parts_tell : (item : Item) → TellsItem (whole ∷ []) item → TellsItem parts item
  parts_tell item tells =
      elim (first_tells whole [] item (tells_says (whole ∷ []) item tells)) [
        | inl first ↦ says_tells parts item (told_by_parts parts is.gaps item (tells_as whole (concat parts) item is.joined first))
        | inr none ↦ absurd (none_has none.message none.has)
      ]

  -- and the other way round, if no message of the whole is too long
  pub same_in_gaps : HaveShortMessages (whole ∷ []) → TellSameItems (whole ∷ []) parts
  same_in_gaps short item = (
    parts_tell item,
    λ tells. says_tells (whole ∷ []) item (says_more (IsMessageOf (concat parts)) (HasMessage (whole ∷ [])) item of_whole
        (told_by_whole parts is.gaps (λ message has. short message (of_whole message has)) item (tells_says parts item tells))),
  )
