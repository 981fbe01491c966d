-- An input that is cut between messages has the messages of its parts.
use Rattle.std.proofs.Common.{◌≡◌, ◌≢◌, ◌∙◌, sym, ap, refl, subst, ℕ, ◌⊎◌, ◌↔◌, List, [], ◌∷◌, ◌++◌, inl, inr, append_assoc, append-nil}
use Rattle.std.specs.List.{Contains, AllByRecursion, concat}
use Rattle.std.proofs.lemmas.List.Elements.{All-nil, Contains-append_cases, Contains-append_left, Contains-append_right}
use Rattle.itip_lines.specs.UnfoldedLines.{lines_of}
use Rattle.itip_lines.specs.Stretches.{LacksBlank}
use Rattle.itip_state.proofs.Members.{none_in, cons_cases, cons_first, cons_later}
use Rattle.itip_message.specs.Cutting.{IsCalendar, AreApart, IsRest, unless_empty, IsCutInto}
use Rattle.itip_message.specs.Scanned.{messages_of}
use Rattle.itip_message.proofs.Cuts.{cut_by_scan}
use Rattle.itip_message.proofs.OneCut.{one_cut}
use Rattle.itip_inbox.specs.Compaction.{HasMessage, HaveSameMessages, EndsBetween, EachEndsBetween, IsPartedInto}
use Rattle.itip_inbox.proofs.Telling.{has_among}

concat_both : (xs ys : List (List ℕ)) → concat (xs ++ ys) ≡ concat xs ++ concat ys
concat_both [] ys = refl
concat_both (x ∷ xs) ys = ap (λ (t : List ℕ). x ++ t) (concat_both xs ys) ∙ sym (append_assoc x (concat xs) (concat ys))

each_of_both : (xs ys : List (List ℕ)) → AllByRecursion IsCalendar xs → AllByRecursion IsCalendar ys → AllByRecursion IsCalendar (xs ++ ys)
each_of_both [] ys each more = more
each_of_both (x ∷ xs) ys each more = (each.0, each_of_both xs ys each.1 more)

-- calendars that are apart from what follows are so if nothing follows
apart_alone : (xs : List (List ℕ)) (rest : List ℕ) → AreApart xs rest → AreApart xs []
apart_alone [] rest apart = tt
apart_alone (x ∷ xs) rest apart = (
  λ b more e. apart.0 b (more ++ rest) (ap (λ (t : List ℕ). t ++ rest) (sym (append-nil (concat xs)) ∙ e)),
  apart_alone xs rest apart.1,
)

apart_both : (xs ys : List (List ℕ)) (rest : List ℕ) → AreApart xs (concat ys ++ rest) → AreApart ys rest → AreApart (xs ++ ys) rest
apart_both [] ys rest apart more = more
apart_both (x ∷ xs) ys rest apart more = (
  subst LacksBlank (sym (append_assoc (concat xs) (concat ys) rest) ∙ ap (λ (t : List ℕ). t ++ rest) (sym (concat_both xs ys))) apart.0,
  apart_both xs ys rest apart.1 more,
)

-- ---- calendars, and what follows them

abbrev nothing_left : IsRest []
nothing_left = record {
  pieces = [];
  last = [];
  cut = record { whole = refl; each = tt; last_stretch = All-nil (λ (b : ℕ). b ≢ 10) };
  front = [];
  line = [];
  lines = refl;
  none_before = tt;
}

cut_alone : (calendars : List (List ℕ)) → AllByRecursion IsCalendar calendars → AreApart calendars [] →
    IsCutInto (concat calendars) calendars
cut_alone calendars each apart = record {
  calendars = calendars;
  rest = [];
  whole = sym (append-nil (concat calendars));
  each = each;
  apart = apart;
  rest_is = nothing_left;
  messages_are = sym (append-nil calendars);
}

cut_before : (calendars : List (List ℕ)) (rest : List ℕ) → AllByRecursion IsCalendar calendars → AreApart calendars rest →
    (messages : List (List ℕ)) → IsCutInto rest messages → IsCutInto (concat calendars ++ rest) (calendars ++ messages)
cut_before calendars rest each apart messages cut = record {
  calendars = calendars ++ cut.calendars;
  rest = cut.rest;
  whole = ap (λ (t : List ℕ). concat calendars ++ t) cut.whole ∙ sym (append_assoc (concat calendars) (concat cut.calendars) cut.rest) ∙
      ap (λ (t : List ℕ). t ++ cut.rest) (sym (concat_both calendars cut.calendars));
  each = each_of_both calendars cut.calendars each cut.each;
  apart = apart_both calendars cut.calendars cut.rest (subst (λ (t : List ℕ). AreApart calendars t) cut.whole apart) cut.apart;
  rest_is = cut.rest_is;
  messages_are = ap (λ (ms : List (List ℕ)). calendars ++ ms) cut.messages_are ∙
      sym (append_assoc calendars cut.calendars (unless_empty cut.rest (lines_of cut.rest_is.pieces cut.rest_is.last)));
}

-- ---- one part, and the rest

-- a message of one text
pub record IsMessageOf (text message : List ℕ) : Type 0 where
  pub messages : List (List ℕ)
  pub cut : IsCutInto text messages
  pub among : Contains messages message

module _ (part rest : List ℕ) (ends : EndsBetween part rest) where
  cut_of_part : IsCutInto part ends.calendars
  cut_of_part = subst (λ (t : List ℕ). IsCutInto t ends.calendars) (sym ends.whole)
      (cut_alone ends.calendars ends.each (apart_alone ends.calendars rest ends.apart))

  cut_of_both : (messages : List (List ℕ)) → IsCutInto rest messages → IsCutInto (part ++ rest) (ends.calendars ++ messages)
  cut_of_both messages cut =
      subst (λ (t : List ℕ). IsCutInto (t ++ rest) (ends.calendars ++ messages)) (sym ends.whole)
      (cut_before ends.calendars rest ends.each ends.apart messages cut)

  -- a message of both is one of either
  pub of_both : (message : List ℕ) → IsMessageOf (part ++ rest) message → IsMessageOf part message ⊎ IsMessageOf rest message
  of_both message has =
      let cut : IsCutInto rest (messages_of rest) = cut_by_scan rest in
      let among : Contains (ends.calendars ++ messages_of rest) message =
      subst (λ (ms : List (List ℕ)). Contains ms message)
      (one_cut (part ++ rest) has.messages (ends.calendars ++ messages_of rest) has.cut (cut_of_both (messages_of rest) cut)) has.among
      in
      elim (Contains-append_cases ends.calendars (messages_of rest) message among) [
        | inl first ↦ inl (record { messages = ends.calendars; cut = cut_of_part; among = first })
        | inr later ↦ inr (record { messages = messages_of rest; cut = cut; among = later })
      ]

  pub in_both : (message : List ℕ) → IsMessageOf part message ⊎ IsMessageOf rest message → IsMessageOf (part ++ rest) message
  in_both message (inl has) = record {
    messages = ends.calendars ++ messages_of rest;
    cut = cut_of_both (messages_of rest) (cut_by_scan rest);
    among = Contains-append_left ends.calendars (messages_of rest) message
        (subst (λ (ms : List (List ℕ)). Contains ms message) (one_cut part has.messages ends.calendars has.cut cut_of_part) has.among);
  }
  in_both message (inr has) = record {
    messages = ends.calendars ++ has.messages;
    cut = cut_of_both has.messages has.cut;
    among = Contains-append_right ends.calendars has.messages message has.among;
  }

-- ---- all parts

pub no_message : (message : List ℕ) → IsMessageOf [] message → ⊥
no_message message has =
    none_in message (subst (λ (ms : List (List ℕ)). Contains ms message) (one_cut [] has.messages [] has.cut (cut_alone [] tt tt))
    has.among)

pub one_has : (text : List ℕ) (texts : List (List ℕ)) (message : List ℕ) → IsMessageOf text message → HasMessage (text ∷ texts) message
one_has text texts message has =
    record { input = text; given = cons_first text texts; messages = has.messages; cut = has.cut; among = has.among }

-- a message of the first of these texts, or of the others
pub first_or : (text : List ℕ) (texts : List (List ℕ)) (message : List ℕ) → HasMessage (text ∷ texts) message →
    IsMessageOf text message ⊎ HasMessage texts message
first_or text texts message has =
    elim (cons_cases text texts has.input has.given) [
      | inl is ↦ inl (record {
        messages = has.messages;
        cut = subst (λ (t : List ℕ). IsCutInto t has.messages) (sym is) has.cut;
        among = has.among;
      })
      | inr later ↦ inr (record {
        input = has.input;
        given = later;
        messages = has.messages;
        cut = has.cut;
        among = has.among;
      })
    ]

pub none_has : (message : List ℕ) → HasMessage [] message → ⊥
none_has message has = none_in has.input has.given

pub later_has : (text : List ℕ) (texts : List (List ℕ)) (message : List ℕ) → HasMessage texts message → HasMessage (text ∷ texts) message
later_has text texts = has_among texts (text ∷ texts) (cons_later text texts)

has_parts : (parts : List (List ℕ)) → EachEndsBetween parts → (message : List ℕ) → IsMessageOf (concat parts) message ↔
    HasMessage parts message
has_parts [] between message = (λ has. absurd (no_message message has), λ has. absurd (none_has message has))
has_parts (part ∷ []) between message = (
  λ has. one_has part [] message (subst (λ (t : List ℕ). IsMessageOf t message) (append-nil part) has),
  λ has. elim (first_or part [] message has) [
    | inl first ↦ subst (λ (t : List ℕ). IsMessageOf t message) (sym (append-nil part)) first
    | inr none ↦ absurd (none_has message none)
  ],
)
has_parts (part ∷ (next ∷ parts)) between message = (
  λ has. elim (of_both part (concat (next ∷ parts)) between.0 message has) [
    | inl first ↦ one_has part (next ∷ parts) message first
    | inr later ↦ later_has part (next ∷ parts) message ((has_parts (next ∷ parts) between.1 message).0 later)
  ],
  λ has. in_both part (concat (next ∷ parts)) between.0 message (elim (first_or part (next ∷ parts) message has)
      [ inl first ↦ inl first | inr later ↦ inr ((has_parts (next ∷ parts) between.1 message).1 later) ]),
)

pub parted_messages : (whole : List ℕ) (parts : List (List ℕ)) → IsPartedInto whole parts → HaveSameMessages (whole ∷ []) parts
parted_messages whole parts is message = (
  λ has. elim (first_or whole [] message has) [
    | inl of_whole ↦ (has_parts parts is.between message).0 (subst (λ (t : List ℕ). IsMessageOf t message) is.joined of_whole)
    | inr none ↦ absurd (none_has message none)
  ],
  λ has. one_has whole [] message (subst (λ (t : List ℕ). IsMessageOf t message) (sym is.joined)
      ((has_parts parts is.between message).1 has)),
)
