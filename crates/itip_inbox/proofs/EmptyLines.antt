-- An empty line before a text: the messages are those of the text, the first of them with the line before it, and give the same items.
use Rattle.std.proofs.Common.{◌≡◌, ◌≢◌, ◌∙◌, sym, ap, refl, subst, ℕ, ◌≤◌, ◌⊎◌, Bool, cond, List, [], ◌∷◌, ◌++◌}
use Rattle.std.proofs.Common.{length, map, arith, inl, inr, append_assoc, length-append}
use Rattle.std.specs.List.{Contains, AllByRecursion, AllZip, concat}
use Rattle.std.proofs.lemmas.List.Elements.{All-nil}
use Rattle.itip_lines.specs.UnfoldedLines.{Break, Piece, IsPiece, IsCutting, break_bytes, joined, unfolded, unfolded_onto, lines_of}
use Rattle.itip_lines.specs.UnfoldedLines.{without_empty}
use Rattle.itip_lines.specs.UnfoldedLines.Break.{lf, crlf}
use Rattle.itip_lines.specs.Reading.{text_limit}
use Rattle.itip_lines.specs.Stretches.{LacksBlank, lines_onto}
use Rattle.itip_lines.proofs.Cuttings.{lines_of_cut}
use Rattle.itip_items.specs.declared.item.Item.{Item}
use Rattle.itip_state.proofs.Members.{none_in, cons_cases, cons_first, cons_later}
use Rattle.itip_message.specs.Cutting.{IsCalendar, AreApart, IsRest, unless_empty, IsCutInto}
use Rattle.itip_message.specs.Message.{ReadsMessage}
use Rattle.itip_message.proofs.Unfolding.{feed_ends, return_past, lines_of_cutting}
use Rattle.itip_inbox.specs.Gaps.{IsEmptyLine}
use Rattle.itip_inbox.proofs.SameLines.{lines_in, same_lines_read}

abbrev empty_piece : Break → Piece
empty_piece end = record { text = []; end = end }

nil_cr : (f : List ℕ) → [] ≡ f ++ 13 ∷ [] → ⊥
nil_cr [] e = cc
nil_cr (x ∷ f) e = cc

is_piece : (end : Break) → IsPiece (empty_piece end)
is_piece end = record { no_lf = All-nil (λ (b : ℕ). b ≢ 10); bare = λ is. nil_cr }

-- of a text that begins with no blank the first part begins with none either
pub front_lacks : (front text : List ℕ) → LacksBlank (front ++ text) → LacksBlank front
front_lacks front text lacks = λ b more e. lacks b (more ++ text) (ap (λ (t : List ℕ). t ++ text) e)

-- ---- one break before a text

-- it is a line of its own
line_first : (end : Break) (text : List ℕ) → LacksBlank text → lines_onto [] (break_bytes end ++ text) ≡ [] ∷ lines_onto [] text
line_first lf text lacks = feed_ends [] text lacks
line_first crlf text lacks = return_past [] text ∙ feed_ends [] text lacks

onto_first : (stretch : List ℕ) (others : List (List ℕ)) → LacksBlank stretch →
    unfolded_onto [] (stretch ∷ others) ≡ [] ∷ unfolded_onto stretch others
onto_first [] others lacks = refl
onto_first (b ∷ stretch) others lacks =
    ap (λ (v : Bool). cond v (unfolded_onto stretch others) ([] ∷ unfolded_onto (b ∷ stretch) others)) (lacks b stretch refl)

pieces_first : (pieces : List Piece) (front : List (List ℕ)) (line : List ℕ) → LacksBlank (joined pieces []) →
    unfolded (map (λ (p : Piece). p.text) pieces) ≡ front ++ line ∷ [] →
    unfolded_onto [] (map (λ (p : Piece). p.text) pieces) ≡ [] ∷ (front ++ line ∷ [])
pieces_first [] front line lacks e = absurd (none front e)
  where
    none : (ls : List (List ℕ)) → [] ≡ ls ++ line ∷ [] → ⊥
    none [] h = cc
    none (l ∷ ls) h = cc
pieces_first (p ∷ ps) front line lacks e =
    onto_first p.text (map (λ (q : Piece). q.text) ps) (front_lacks p.text (break_bytes p.end ++ joined ps []) lacks) ∙
    ap (λ (ls : List (List ℕ)). [] ∷ ls) e

calendar_with : (end : Break) (text : List ℕ) → LacksBlank text → IsCalendar text → IsCalendar (break_bytes end ++ text)
calendar_with end text lacks is = record {
  pieces = empty_piece end ∷ is.pieces;
  cut = record {
    whole = ap (λ (t : List ℕ). break_bytes end ++ t) is.cut.whole;
    each = (is_piece end, is.cut.each);
    last_stretch = is.cut.last_stretch;
  };
  front = [] ∷ is.front;
  line = is.line;
  lines = pieces_first is.pieces is.front is.line (subst LacksBlank is.cut.whole lacks) is.lines;
  none_before = (refl, is.none_before);
  ends = is.ends;
}

rest_with : (end : Break) (text : List ℕ) → LacksBlank text → IsRest text → IsRest (break_bytes end ++ text)
rest_with end text lacks is =
    let cut : IsCutting (break_bytes end ++ text) (empty_piece end ∷ is.pieces) is.last = record {
      whole = ap (λ (t : List ℕ). break_bytes end ++ t) is.cut.whole;
      each = (is_piece end, is.cut.each);
      last_stretch = is.cut.last_stretch;
    } in
    record {
      pieces = empty_piece end ∷ is.pieces;
      last = is.last;
      cut = cut;
      front = [] ∷ is.front;
      line = is.line;
      lines = lines_of_cutting (break_bytes end ++ text) (empty_piece end ∷ is.pieces) is.last cut ∙ line_first end text lacks ∙
          ap (λ (ls : List (List ℕ)). [] ∷ ls) (sym (lines_of_cutting text is.pieces is.last is.cut) ∙ is.lines);
      none_before = (refl, is.none_before);
    }

-- ---- the messages

-- a message is another, or it is the other with this line before it
abbrev pub IsOrHasBefore : List ℕ → List ℕ → List ℕ → Type 0
IsOrHasBefore line longer message = (longer ≡ message) ⊎ ((longer ≡ line ++ message) × LacksBlank message)

-- the messages of a text with a line before it, beside those of the text
pub record HasBefore (line text : List ℕ) (messages : List (List ℕ)) : Type 0 where
  pub longer : List (List ℕ)
  pub cut : IsCutInto (line ++ text) longer
  pub alike : AllZip (IsOrHasBefore line) longer messages

themselves : (line : List ℕ) (messages : List (List ℕ)) → AllZip (IsOrHasBefore line) messages messages
themselves line [] = tt
themselves line (m ∷ ms) = (inl refl, themselves line ms)

zip_to : (line : List ℕ) (longer messages others : List (List ℕ)) → messages ≡ others → AllZip (IsOrHasBefore line) longer messages →
    AllZip (IsOrHasBefore line) longer others
zip_to line longer messages others e alike = subst (λ (ms : List (List ℕ)). AllZip (IsOrHasBefore line) longer ms) e alike

left_alike : (line text : List ℕ) (lines : List (List ℕ)) → LacksBlank text →
    AllZip (IsOrHasBefore line) (unless_empty (line ++ text) lines) (unless_empty text lines)
left_alike line text [] lacks = tt
left_alike line text (l ∷ ls) lacks = (inr (refl, lacks), tt)

break_before : (end : Break) (text : List ℕ) → LacksBlank text → (messages : List (List ℕ)) → IsCutInto text messages →
    HasBefore (break_bytes end) text messages
break_before end text lacks messages cut = by_calendars cut.calendars cut.whole cut.each cut.apart cut.messages_are
  where
    line : List ℕ
    line = break_bytes end

    left : List (List ℕ)
    left = unless_empty cut.rest (lines_of cut.rest_is.pieces cut.rest_is.last)

    by_calendars : (calendars : List (List ℕ)) → text ≡ concat calendars ++ cut.rest → AllByRecursion IsCalendar calendars →
        AreApart calendars cut.rest → messages ≡ calendars ++ left → HasBefore line text messages
    by_calendars [] whole each apart are =
        let lacks_left : LacksBlank cut.rest = subst LacksBlank whole lacks in
        let is : IsRest (line ++ cut.rest) = rest_with end cut.rest lacks_left cut.rest_is in
        let same : lines_of is.pieces is.last ≡ lines_of cut.rest_is.pieces cut.rest_is.last =
        lines_of_cut (line ++ cut.rest) is.pieces is.last is.cut ∙ ap without_empty (line_first end cut.rest lacks_left) ∙
        sym (lines_of_cut cut.rest cut.rest_is.pieces cut.rest_is.last cut.rest_is.cut) in
        record {
          longer = unless_empty (line ++ cut.rest) (lines_of cut.rest_is.pieces cut.rest_is.last);
          cut = record {
            calendars = [];
            rest = line ++ cut.rest;
            whole = ap (λ (t : List ℕ). line ++ t) whole;
            each = tt;
            apart = tt;
            rest_is = is;
            messages_are = ap (unless_empty (line ++ cut.rest)) (sym same);
          };
          alike = zip_to line (unless_empty (line ++ cut.rest) (lines_of cut.rest_is.pieces cut.rest_is.last)) left messages (sym are)
              (left_alike line cut.rest (lines_of cut.rest_is.pieces cut.rest_is.last) lacks_left);
        }
    by_calendars (calendar ∷ calendars) whole each apart are =
        let all : text ≡ calendar ++ (concat calendars ++ cut.rest) = whole ∙ append_assoc calendar (concat calendars) cut.rest in
        let lacks_first : LacksBlank calendar = front_lacks calendar (concat calendars ++ cut.rest) (subst LacksBlank all lacks) in
        record {
          longer = (line ++ calendar) ∷ (calendars ++ left);
          cut = record {
            calendars = (line ++ calendar) ∷ calendars;
            rest = cut.rest;
            whole = ap (λ (t : List ℕ). line ++ t) all ∙ sym (append_assoc line calendar (concat calendars ++ cut.rest)) ∙
                sym (append_assoc (line ++ calendar) (concat calendars) cut.rest);
            each = (calendar_with end calendar lacks_first each.0, each.1);
            apart = apart;
            rest_is = cut.rest_is;
            messages_are = refl;
          };
          alike = zip_to line ((line ++ calendar) ∷ (calendars ++ left)) (calendar ∷ (calendars ++ left)) messages (sym are)
              (inr (refl, lacks_first), themselves line (calendars ++ left));
        }

-- an empty line is a break
line_is : (line : List ℕ) → IsEmptyLine line → (end : Break) × (break_bytes end ≡ line)
line_is line (inl is) = (lf, sym is)
line_is line (inr is) = (crlf, sym is)

pub line_before : (line text : List ℕ) → IsEmptyLine line → LacksBlank text → (messages : List (List ℕ)) → IsCutInto text messages →
    HasBefore line text messages
line_before line text empty lacks messages cut =
    let is = line_is line empty in
    subst (λ (l : List ℕ). HasBefore l text messages) is.1 (break_before is.0 text lacks messages cut)

-- a calendar with an empty line before it is one
pub calendar_behind : (line text : List ℕ) → IsEmptyLine line → LacksBlank text → IsCalendar text → IsCalendar (line ++ text)
calendar_behind line text empty lacks calendar =
    let is = line_is line empty in
    subst (λ (l : List ℕ). IsCalendar (l ++ text)) is.1 (calendar_with is.0 text lacks calendar)

pub among_messages : (line : List ℕ) (longer messages : List (List ℕ)) (m : List ℕ) → AllZip (IsOrHasBefore line) longer messages →
    Contains longer m → (message : List ℕ) × Contains messages message × IsOrHasBefore line m message
among_messages line [] [] m alike h = absurd (none_in m h)
among_messages line [] (n ∷ ns) m alike h = absurd alike
among_messages line (l ∷ ls) [] m alike h = absurd alike
among_messages line (l ∷ ls) (n ∷ ns) m alike h =
    elim (cons_cases l ls m h) [
      | inl is ↦ (n, cons_first n ns, subst (λ (t : List ℕ). IsOrHasBefore line t n) is alike.0)
      | inr later ↦ let more = among_messages line ls ns m alike.1 later in (more.0, cons_later n ns more.0 more.1, more.2)
    ]

pub among_longer : (line : List ℕ) (longer messages : List (List ℕ)) (m : List ℕ) → AllZip (IsOrHasBefore line) longer messages →
    Contains messages m → (message : List ℕ) × Contains longer message × IsOrHasBefore line message m
among_longer line [] [] m alike h = absurd (none_in m h)
among_longer line [] (n ∷ ns) m alike h = absurd alike
among_longer line (l ∷ ls) [] m alike h = absurd alike
among_longer line (l ∷ ls) (n ∷ ns) m alike h =
    elim (cons_cases n ns m h) [
      | inl is ↦ (l, cons_first l ls, subst (λ (t : List ℕ). IsOrHasBefore line l t) is alike.0)
      | inr later ↦ let more = among_longer line ls ns m alike.1 later in (more.0, cons_later l ls more.0 more.1, more.2)
    ]

-- ---- what they give

lines_same : (line text : List ℕ) → IsEmptyLine line → LacksBlank text → lines_in (line ++ text) ≡ lines_in text
lines_same line text empty lacks =
    let is = line_is line empty in
    subst (λ (l : List ℕ). lines_in (l ++ text) ≡ lines_in text) is.1 (ap without_empty (line_first is.0 text lacks))

pub shorter : (line longer message : List ℕ) → IsOrHasBefore line longer message → length message ≤ length longer
shorter line longer message (inl is) = let e : length longer ≡ length message = ap length is in omega arith
shorter line longer message (inr is) =
    let e : length longer ≡ length (line ++ message) = ap length is.0 in omega (arith, e, length-append line message)

module _ (line longer message : List ℕ) (empty : IsEmptyLine line) (items : List Item) where
  -- without the line a message gives the same items
  pub read_without : IsOrHasBefore line longer message → ReadsMessage longer items → ReadsMessage message items
  read_without (inl is) reads = subst (λ (t : List ℕ). ReadsMessage t items) is reads
  read_without (inr is) reads =
      let short : length longer ≤ text_limit = reads.begins.reads.short in
      let less : length message ≤ length longer = shorter line longer message (inr is) in
      same_lines_read longer message items (sym (ap lines_in is.0 ∙ lines_same line message empty is.1)) (omega arith) reads

  -- and with it, unless it is too long then
  pub read_with : IsOrHasBefore line longer message → length longer ≤ text_limit → ReadsMessage message items → ReadsMessage longer items
  read_with (inl is) short reads = subst (λ (t : List ℕ). ReadsMessage t items) (sym is) reads
  read_with (inr is) short reads =
      same_lines_read message longer items (ap lines_in is.0 ∙ lines_same line message empty is.1) short reads
