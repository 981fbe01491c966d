-- What the scan finds is what the bytes are cut into.
use Rattle.std.proofs.Common.{◌≡◌, ◌≢◌, ◌∙◌, sym, ap, refl, ℕ, zero, suc, ◌<◌, ◌+◌, Bool, true, false, cond, not, List, [], ◌∷◌, ◌++◌}
use Rattle.std.proofs.Common.{length, arith, subst, inl, inr, append_assoc, append-nil}
use Rattle.std.specs.Prelude.{◌⊎◌, ◌==◌, ◌&&◌, ◌||◌, map}
use Rattle.std.specs.Char.{to_ascii_uppercase}
use Rattle.std.specs.List.{concat, list_all, onto_first, AllByRecursion}
use Rattle.std.proofs.lemmas.Bool.{and_parts}
use Rattle.std.proofs.lemmas.Bool.Decides.{eqb_tells}
use Rattle.std.proofs.lemmas.List.{append_cancel_right, length-append, map-append}
use Rattle.std.proofs.lemmas.List.Elements.{All-head, All-tail}
use Rattle.itip_lines.specs.UnfoldedLines.{Piece, IsCutting, HasNoLf, break_bytes, joined, unfolded, without_empty, lines_of, is_blank}
use Rattle.itip_lines.specs.Stretches.{LacksBlank, lines_onto}
use Rattle.itip_lines.proofs.Cuttings.{HasCutting, cutting_of, lines_of_cut}
use Rattle.itip_todo.specs.Participation.{same_text}
use Rattle.itip_message.specs.Cutting.{is_calendar_end, EndNoCalendar, IsCalendar, IsRest, unless_empty, IsCutInto}
use Rattle.itip_message.specs.Scanned as scan
use Rattle.itip_message.specs.Scanned.{begins_blank, is_return, said, said_behind, is_empty, ends_calendar, groups_of, texts_of}
use Rattle.itip_message.specs.Scanned.{messages_of}
use Rattle.itip_message.proofs.Unfolding.{feed_ends, feed_folds, return_past, octet_goes_on, no_octets, lines_of_cutting, lines_then}
use Rattle.itip_message.proofs.Messages.{concat_push, texts_end, not_empty, groups_none, none_ends_more}

-- ---- the first line, as it came

-- with its break: the text after it begins another line
abbrev IsClosed : List ℕ → Type 0
IsClosed raw = (line t : List ℕ) → LacksBlank t → lines_onto line (raw ++ t) ≡ (line ++ said raw) ∷ lines_onto [] t

-- without one: it is the last
abbrev IsOpen : List ℕ → Type 0
IsOpen raw = (line : List ℕ) → lines_onto line raw ≡ (line ++ said raw) ∷ []

record Closes (raw after : List ℕ) : Type 0 where
  closed : IsClosed raw
  apart : LacksBlank after
  before : List ℕ
  feed : raw ≡ before ++ 10 ∷ []

record HasFirst (bytes : List ℕ) : Type 0 where
  raw : List ℕ
  after : List ℕ
  whole : bytes ≡ raw ++ after
  lines : scan.lines_of bytes ≡ raw ∷ scan.lines_of after
  some : 0 < length raw
  ends : Closes raw after ⊎ (IsOpen raw × (after ≡ []))

lacks_nothing : LacksBlank []
lacks_nothing = λ b more e. absurd cc

first_is : (x y : ℕ) (xs ys : List ℕ) → x ∷ xs ≡ y ∷ ys → x ≡ y
first_is x y xs ys e = cc

lacks_blank : (t : List ℕ) → begins_blank t ≡ false → LacksBlank t
lacks_blank [] h = lacks_nothing
lacks_blank (b ∷ t) h = λ c more e. subst (λ (x : ℕ). is_blank x ≡ false) (first_is b c t more e) h

-- what a byte says that is in no break
octet_said : (b : ℕ) (t : List ℕ) → (b == 10) ≡ false → is_return b t ≡ false → said (b ∷ t) ≡ b ∷ said t
octet_said b t feed ret =
    ap (λ (v : Bool). cond v (said_behind true t) (cond (is_return b t || false) (said_behind false t) (b ∷ said_behind false t))) feed
    ∙ ap (λ (v : Bool). cond (v || false) (said_behind false t) (b ∷ said_behind false t)) ret

-- the blank of a fold is left out
fold_said : (b : ℕ) (t : List ℕ) → is_blank b ≡ true → (b == 10) ≡ false → is_return b t ≡ false → said (10 ∷ (b ∷ t)) ≡ said t
fold_said b t blank feed ret =
    ap (λ (v : Bool). cond v (said_behind true t) (cond (is_return b t || is_blank b) (said_behind false t) (b ∷ said_behind false t))) feed
    ∙ ap (λ (v : Bool). cond (v || is_blank b) (said_behind false t) (b ∷ said_behind false t)) ret
    ∙ ap (λ (v : Bool). cond v (said_behind false t) (b ∷ said_behind false t)) blank

blank_is : (b : ℕ) → is_blank b ≡ true → ((b == 10) ≡ false) × ((b == 13) ≡ false)
blank_is b h = elim (eqb_tells b 32) [
  | inl e ↦ (ap (λ x. x == 10) e.1, ap (λ x. x == 13) e.1)
  | inr n ↦ elim (eqb_tells b 9) [
    | inl e ↦ (ap (λ x. x == 10) e.1, ap (λ x. x == 13) e.1)
    | inr m ↦ absurd (let k : (false || false) ≡ true =
        subst (λ (v : Bool). (v || false) ≡ true) n.0 (subst (λ (v : Bool). ((b == 32) || v) ≡ true) m.0 h) in cc)
  ]
]

no_return : (b : ℕ) (t : List ℕ) → (b == 13) ≡ false → is_return b t ≡ false
no_return b [] h = refl
no_return b (c ∷ t) h = ap (λ (v : Bool). v && c == 10) h

-- the line alone decides whether a byte is the CR of a break
same_return : (b : ℕ) (bytes raw after : List ℕ) → bytes ≡ raw ++ after → 0 < length raw → (t : List ℕ) →
    is_return b (raw ++ t) ≡ is_return b bytes
same_return b bytes [] after whole some t = absurd (omega arith)
same_return b bytes (c ∷ raw) after whole some t = ap (is_return b) (sym whole)

goes_on : (line : List ℕ) (b : ℕ) (raw : List ℕ) → (line ++ b ∷ []) ++ raw ≡ line ++ (b ∷ raw)
goes_on line b raw = append_assoc line (b ∷ []) raw

-- a byte that is in no break, before a line
octet_before : (b : ℕ) (bytes : List ℕ) → (b == 10) ≡ false → is_return b bytes ≡ false → HasFirst bytes → HasFirst (b ∷ bytes)
octet_before b bytes feed ret first =
    let raw_return : (t : List ℕ) → is_return b (first.raw ++ t) ≡ false =
    λ t. same_return b bytes first.raw first.after first.whole first.some t ∙ ret in
    let alone_return : is_return b first.raw ≡ false = ap (is_return b) (sym (append-nil first.raw)) ∙ raw_return [] in
    let says : said (b ∷ first.raw) ≡ b ∷ said first.raw = octet_said b first.raw feed alone_return in
    record {
      raw = b ∷ first.raw;
      after = first.after;
      whole = ap (λ x. b ∷ x) first.whole;
      lines = ap (λ (v : Bool). cond (v && not (begins_blank bytes)) ((b ∷ []) ∷ scan.lines_of bytes) (onto_first b (scan.lines_of bytes)))
          feed ∙ ap (onto_first b) first.lines;
      some = omega arith;
      ends = elim first.ends [
        | inl c ↦ inl (record {
          closed = λ line t lacks. octet_goes_on line b (first.raw ++ t) feed (raw_return t) ∙ c.closed (line ++ b ∷ []) t lacks
              ∙ ap (λ l. l ∷ lines_onto [] t) (goes_on line b (said first.raw) ∙ ap (λ s. line ++ s) (sym says));
          apart = c.apart;
          before = b ∷ c.before;
          feed = ap (λ x. b ∷ x) c.feed;
        })
        | inr o ↦ inr (
          λ line. octet_goes_on line b first.raw feed alone_return ∙ o.0 (line ++ b ∷ []) ∙
              ap (λ l. l ∷ []) (goes_on line b (said first.raw) ∙ ap (λ s. line ++ s) (sym says)),
          o.1,
        )
      ];
    }

-- the CR of a break, before it
return_before : (t : List ℕ) → HasFirst (10 ∷ t) → HasFirst (13 ∷ (10 ∷ t))
return_before t first = put first.raw first.whole first.lines first.some first.ends
  where
    put : (raw : List ℕ) → 10 ∷ t ≡ raw ++ first.after → scan.lines_of (10 ∷ t) ≡ raw ∷ scan.lines_of first.after → 0 < length raw →
        Closes raw first.after ⊎ (IsOpen raw × (first.after ≡ [])) → HasFirst (13 ∷ (10 ∷ t))
    put [] whole lines some ends = absurd (omega arith)
    put (c ∷ raw) whole lines some ends =
        let feed : 10 ≡ c = first_is 10 c t (raw ++ first.after) whole in
        let pass : (line x : List ℕ) → lines_onto line (13 ∷ (c ∷ x)) ≡ lines_onto line (c ∷ x) =
        λ line x. subst (λ (d : ℕ). lines_onto line (13 ∷ (d ∷ x)) ≡ lines_onto line (d ∷ x)) feed (return_past line x) in
        let says : said (13 ∷ (c ∷ raw)) ≡ said (c ∷ raw) = subst (λ (d : ℕ). said (13 ∷ (d ∷ raw)) ≡ said (d ∷ raw)) feed refl in
        record {
          raw = 13 ∷ (c ∷ raw);
          after = first.after;
          whole = ap (λ x. 13 ∷ x) whole;
          lines = ap (onto_first 13) lines;
          some = omega arith;
          ends = elim ends [
            | inl k ↦ inl (record {
              closed = λ line x lacks. pass line (raw ++ x) ∙ k.closed line x lacks ∙ ap (λ s. (line ++ s) ∷ lines_onto [] x) (sym says);
              apart = k.apart;
              before = 13 ∷ k.before;
              feed = ap (λ x. 13 ∷ x) k.feed;
            })
            | inr o ↦ inr (λ line. pass line raw ∙ o.0 line ∙ ap (λ s. (line ++ s) ∷ []) (sym says), o.1)
          ];
        }

-- a break that ends the line
feed_only : (t : List ℕ) → begins_blank t ≡ false → HasFirst (10 ∷ t)
feed_only t plain = record {
  raw = 10 ∷ [];
  after = t;
  whole = refl;
  lines = ap (λ (v : Bool). cond (not v) ((10 ∷ []) ∷ scan.lines_of t) (onto_first 10 (scan.lines_of t))) plain;
  some = omega arith;
  ends = inl (record {
    closed = λ line x lacks. feed_ends line x lacks ∙ ap (λ l. l ∷ lines_onto [] x) (sym (append-nil line));
    apart = lacks_blank t plain;
    before = [];
    feed = refl;
  });
}

fold_lines : (b : ℕ) (t : List ℕ) → is_blank b ≡ true → scan.lines_of (10 ∷ (b ∷ t)) ≡ onto_first 10 (onto_first b (scan.lines_of t))
fold_lines b t blank =
    ap (λ (v : Bool). cond (not v) ((10 ∷ []) ∷ scan.lines_of (b ∷ t)) (onto_first 10 (scan.lines_of (b ∷ t)))) blank
    ∙ ap (λ (v : Bool). onto_first 10 (cond (v && not (begins_blank t)) ((b ∷ []) ∷ scan.lines_of t) (onto_first b (scan.lines_of t))))
    (blank_is b blank).0

-- a fold, before the end
fold_last : (b : ℕ) → is_blank b ≡ true → HasFirst (10 ∷ (b ∷ []))
fold_last b blank = record {
  raw = 10 ∷ (b ∷ []);
  after = [];
  whole = refl;
  lines = fold_lines b [] blank;
  some = omega arith;
  ends = inr (
    λ line. feed_folds line b [] blank ∙ no_octets line ∙
        ap (λ l. l ∷ []) (sym (ap (λ s. line ++ s) (fold_said b [] blank (blank_is b blank).0 refl) ∙ append-nil line)),
    refl,
  );
}

-- a fold, before more of the line
fold_before : (b : ℕ) (t : List ℕ) → is_blank b ≡ true → HasFirst t → HasFirst (10 ∷ (b ∷ t))
fold_before b t blank first =
    let says : said (10 ∷ (b ∷ first.raw)) ≡ said first.raw =
    fold_said b first.raw blank (blank_is b blank).0 (no_return b first.raw (blank_is b blank).1) in
    record {
      raw = 10 ∷ (b ∷ first.raw);
      after = first.after;
      whole = ap (λ x. 10 ∷ (b ∷ x)) first.whole;
      lines = fold_lines b t blank ∙ ap (λ ls. onto_first 10 (onto_first b ls)) first.lines;
      some = omega arith;
      ends = elim first.ends [
        | inl c ↦ inl (record {
          closed = λ line x lacks. feed_folds line b (first.raw ++ x) blank ∙ c.closed line x lacks ∙
              ap (λ s. (line ++ s) ∷ lines_onto [] x) (sym says);
          apart = c.apart;
          before = 10 ∷ (b ∷ c.before);
          feed = ap (λ x. 10 ∷ (b ∷ x)) c.feed;
        })
        | inr o ↦ inr (λ line. feed_folds line b first.raw blank ∙ o.0 line ∙ ap (λ s. (line ++ s) ∷ []) (sym says), o.1)
      ];
    }

octet_last : (b : ℕ) → (b == 10) ≡ false → HasFirst (b ∷ [])
octet_last b feed = record {
  raw = b ∷ [];
  after = [];
  whole = refl;
  lines = ap (λ (v : Bool). cond (v && true) ((b ∷ []) ∷ []) ((b ∷ []) ∷ [])) feed;
  some = omega arith;
  ends = inr (
    λ line. octet_goes_on line b [] feed refl ∙ no_octets (line ++ b ∷ []) ∙
        ap (λ s. (line ++ s) ∷ []) (sym (octet_said b [] feed refl)),
    refl,
  );
}

is_number : (b n : ℕ) → (b == n) ≡ true → b ≡ n
is_number b n h = elim (eqb_tells b n) [ inl k ↦ k.1 | inr k ↦ absurd (let e : false ≡ true = sym k.0 ∙ h in cc) ]

before_fold : (c : ℕ) (t : List ℕ) → is_blank c ≡ true → (t ≡ []) ⊎ HasFirst t → HasFirst (10 ∷ (c ∷ t))
before_fold c t blank (inl none) = subst (λ (x : List ℕ). HasFirst (10 ∷ (c ∷ x))) (sym none) (fold_last c blank)
before_fold c t blank (inr more) = fold_before c t blank more

before_feed : (c : ℕ) (t : List ℕ) → (t ≡ []) ⊎ HasFirst t → HasFirst (10 ∷ (c ∷ t))
before_feed c t later =
    elim (is_blank c) as (λ v. is_blank c ≡ v → HasFirst (10 ∷ (c ∷ t)))
    [ true ↦ λ e. before_fold c t e later | false ↦ λ e. feed_only (c ∷ t) e ] refl

before_octet : (b c : ℕ) (t : List ℕ) → (b == 10) ≡ false → HasFirst (c ∷ t) → HasFirst (b ∷ (c ∷ t))
before_octet b c t plain next =
    elim (is_return b (c ∷ t)) as (λ v. is_return b (c ∷ t) ≡ v → HasFirst (b ∷ (c ∷ t))) [
      | false ↦ λ e. octet_before b (c ∷ t) plain e next
      | true ↦ λ e.
          let both = and_parts (b == 13) (c == 10) e in
          let feed : c ≡ 10 = is_number c 10 both.1 in
          subst (λ (x : ℕ). HasFirst (x ∷ (c ∷ t))) (sym (is_number b 13 both.0))
          (subst (λ (y : ℕ). HasFirst (13 ∷ (y ∷ t))) (sym feed) (return_before t (subst (λ (y : ℕ). HasFirst (y ∷ t)) feed next)))
    ] refl

step : (b c : ℕ) (t : List ℕ) → HasFirst (c ∷ t) → (t ≡ []) ⊎ HasFirst t → HasFirst (b ∷ (c ∷ t))
step b c t next later =
    elim (eqb_tells b 10) [
      | inl k ↦ subst (λ (x : ℕ). HasFirst (x ∷ (c ∷ t))) (sym k.1) (before_feed c t later)
      | inr k ↦ before_octet b c t k.0 next
    ]

alone : (b : ℕ) → HasFirst (b ∷ [])
alone b = elim (eqb_tells b 10) [ inl k ↦ subst (λ (x : ℕ). HasFirst (x ∷ [])) (sym k.1) (feed_only [] refl) | inr k ↦ octet_last b k.0 ]

has_first : (b : ℕ) (bytes : List ℕ) → HasFirst (b ∷ bytes)
has_first b [] = alone b
has_first b (c ∷ []) = step b c [] (has_first c []) (inl refl)
has_first b (c ∷ (d ∷ t)) = step b c (d ∷ t) (has_first c (d ∷ t)) (inr (has_first d t))

-- ---- line after line

abbrev NoneEnds : List (List ℕ) → Type 0
NoneEnds raws = AllByRecursion (λ line. ends_calendar line ≡ false) raws

-- lines that end no calendar were passed, and the rest is left
record Scans (bytes rest : List ℕ) (passed : List (List ℕ)) : Type 0 where
  whole : bytes ≡ concat passed ++ rest
  lines : scan.lines_of bytes ≡ passed ++ scan.lines_of rest
  none_ends : NoneEnds passed
  closed : (t : List ℕ) → (passed ≡ []) ⊎ LacksBlank t → lines_onto [] (concat passed ++ t) ≡ map said passed ++ lines_onto [] t
  apart : (passed ≡ []) ⊎ LacksBlank rest

start : (bytes : List ℕ) → Scans bytes bytes []
start bytes = record { whole = refl; lines = refl; none_ends = tt; closed = λ t h. refl; apart = inl refl }

not_none : (ps : List (List ℕ)) (r : List ℕ) → ps ++ r ∷ [] ≡ [] → ⊥
not_none [] r e = cc
not_none (p ∷ ps) r e = cc

lacks_also : (raw after t : List ℕ) → 0 < length raw → LacksBlank (raw ++ after) → LacksBlank (raw ++ t)
lacks_also [] after t some lacks = absurd (omega arith)
lacks_also (b ∷ raw) after t some lacks =
    λ c more e. subst (λ (x : ℕ). is_blank x ≡ false) (first_is b c (raw ++ t) more e) (lacks b (raw ++ after) refl)

module _ (bytes rest : List ℕ) (passed : List (List ℕ)) (so_far : Scans bytes rest passed) (first : HasFirst rest) where
  passed_whole : bytes ≡ concat (passed ++ first.raw ∷ []) ++ first.after
  passed_whole =
      so_far.whole ∙ ap (λ x. concat passed ++ x) first.whole ∙ sym (append_assoc (concat passed) first.raw first.after) ∙
      ap (λ x. x ++ first.after) (sym (concat_push passed first.raw))

  passed_lines : scan.lines_of bytes ≡ passed ++ first.raw ∷ scan.lines_of first.after
  passed_lines = so_far.lines ∙ ap (λ ls. passed ++ ls) first.lines

  next_apart : (t : List ℕ) → (passed ≡ []) ⊎ LacksBlank (first.raw ++ t)
  next_apart t = elim so_far.apart [
    | inl none ↦ inl none
    | inr lacks ↦ inr (lacks_also first.raw first.after t first.some (subst LacksBlank first.whole lacks))
  ]

  -- the unfolded lines of what was passed, with one line more
  more_closed : Closes first.raw first.after → (t : List ℕ) → LacksBlank t →
      lines_onto [] (concat (passed ++ first.raw ∷ []) ++ t) ≡ map said (passed ++ first.raw ∷ []) ++ lines_onto [] t
  more_closed c t lacks =
      ap (λ x. lines_onto [] (x ++ t)) (concat_push passed first.raw) ∙ ap (lines_onto []) (append_assoc (concat passed) first.raw t)
      ∙ so_far.closed (first.raw ++ t) (next_apart t) ∙ ap (λ ls. map said passed ++ ls) (c.closed [] t lacks)
      ∙ sym (append_assoc (map said passed) (said first.raw ∷ []) (lines_onto [] t)) ∙
      ap (λ ls. ls ++ lines_onto [] t) (sym (map-append said passed (first.raw ∷ [])))

  one_more : Closes first.raw first.after → ends_calendar first.raw ≡ false → Scans bytes first.after (passed ++ first.raw ∷ [])
  one_more c not = record {
    whole = passed_whole;
    lines = passed_lines ∙ sym (append_assoc passed (first.raw ∷ []) (scan.lines_of first.after));
    none_ends = none_ends_more passed first.raw so_far.none_ends not;
    closed = λ t h. elim h [ inl none ↦ absurd (not_none passed first.raw none) | inr lacks ↦ more_closed c t lacks ];
    apart = inr c.apart;
  }

  -- the unfolded lines of all, where the line is the last and has no break
  open_lines : IsOpen first.raw → first.after ≡ [] → lines_onto [] bytes ≡ map said passed ++ said first.raw ∷ []
  open_lines o last =
      ap (lines_onto []) (so_far.whole ∙ ap (λ x. concat passed ++ x) (first.whole ∙ ap (λ x. first.raw ++ x) last))
      ∙ so_far.closed (first.raw ++ []) (next_apart []) ∙ ap (λ x. map said passed ++ lines_onto [] x) (append-nil first.raw) ∙
      ap (λ ls. map said passed ++ ls) (o [])

none_said : (raws : List (List ℕ)) → NoneEnds raws → EndNoCalendar (map said raws)
none_said [] h = tt
none_said (r ∷ raws) h = (h.0, none_said raws h.1)

-- ---- physical lines alone

joined_then : (ps : List Piece) (last : List ℕ) → joined ps last ≡ joined ps [] ++ last
joined_then [] last = refl
joined_then (p ∷ ps) last =
    ap (λ x. p.text ++ (break_bytes p.end ++ x)) (joined_then ps last) ∙
    ap (λ x. p.text ++ x) (sym (append_assoc (break_bytes p.end) (joined ps []) last))
    ∙ sym (append_assoc p.text (break_bytes p.end ++ joined ps []) last)

-- the last byte, or this one if there is none
end_of : ℕ → List ℕ → ℕ
end_of d [] = d
end_of d (b ∷ bs) = end_of b bs

end_behind : (d : ℕ) (xs : List ℕ) (y : ℕ) (ys : List ℕ) → end_of d (xs ++ y ∷ ys) ≡ end_of y ys
unfolding end_of
end_behind d [] y ys = refl
end_behind d (x ∷ xs) y ys = end_behind x xs y ys

no_feed_last : (x : ℕ) (xs : List ℕ) → HasNoLf (x ∷ xs) → end_of x xs ≡ 10 → ⊥
unfolding end_of
no_feed_last x [] h e = All-head (λ b. b ≢ 10) x [] h e
no_feed_last x (y ∷ ys) h e = no_feed_last y ys (All-tail (λ b. b ≢ 10) x (y ∷ ys) h) e

-- a text that ends with a line break has no stretch after it
nothing_last : (ps : List Piece) (last before : List ℕ) → HasNoLf last → before ++ 10 ∷ [] ≡ joined ps last → last ≡ []
unfolding end_of
nothing_last ps [] before h e = refl
nothing_last ps (x ∷ xs) before h e =
    absurd (no_feed_last x xs h (sym (end_behind 0 (joined ps []) x xs) ∙ ap (end_of 0) (sym (joined_then ps (x ∷ xs))) ∙
    ap (end_of 0) (sym e) ∙ end_behind 0 before 10 []))

feed_some : (before : List ℕ) → before ++ 10 ∷ [] ≡ [] → ⊥
feed_some [] e = cc
feed_some (b ∷ before) e = cc

-- a text that ends with the break of a line that ends a calendar, and none of whose other lines does
calendar_of : (text before : List ℕ) (front : List (List ℕ)) (line : List ℕ) → text ≡ before ++ 10 ∷ [] →
    lines_onto [] (text ++ []) ≡ (front ++ line ∷ []) ++ lines_onto [] [] → EndNoCalendar front → is_calendar_end line ≡ true →
    IsCalendar text
calendar_of text before front line feed lines none ends =
    made cutting.pieces (subst (λ (l : List ℕ). IsCutting text cutting.pieces l) nothing cutting.cut)
  where
    cutting : HasCutting text
    cutting = cutting_of text

    nothing : cutting.last ≡ []
    nothing = nothing_last cutting.pieces cutting.last before cutting.cut.last_stretch (sym feed ∙ cutting.cut.whole)

    made : (ps : List Piece) → IsCutting text ps [] → IsCalendar text
    made [] cut = absurd (feed_some before (sym feed ∙ cut.whole))
    made (p ∷ ps) cut = record {
      pieces = p ∷ ps;
      cut = cut;
      front = front;
      line = line;
      lines = append_cancel_right (unfolded (map (λ q. q.text) (p ∷ ps))) (front ++ line ∷ []) (lines_onto [] [])
          (sym (lines_then (p ∷ ps) [] cut.each (omega arith) lacks_nothing) ∙ ap (λ x. lines_onto [] (x ++ [])) (sym cut.whole) ∙ lines);
      none_before = none;
      ends = ends;
    }

-- ---- the messages

-- a text is one message, unless all its lines are empty
empty_told : (text : List ℕ) (raws tail : List (List ℕ)) → without_empty tail ≡ [] →
    unless_empty text (without_empty (map said raws ++ tail)) ≡ cond (list_all is_empty raws) [] (text ∷ [])
empty_told text [] tail h = ap (unless_empty text) h
empty_told text (r ∷ raws) tail h =
    elim (said r) as (λ s. unless_empty text (without_empty (s ∷ (map said raws ++ tail))) ≡ cond
    (same_text (map to_ascii_uppercase s) [] && list_all is_empty raws) [] (text ∷ [])) [
      | [] ↦ empty_told text raws tail h
      | b ∷ s ↦ refl
    ]

-- the text of lines of which none ends a calendar
none_texts : (raws : List (List ℕ)) → NoneEnds raws → texts_of (groups_of raws) ≡ cond (list_all is_empty raws) [] (concat raws ∷ [])
none_texts [] none = refl
none_texts (r ∷ raws) none = ap texts_of (groups_none r raws none)

-- the first message, or what is left
data HasNext (bytes : List ℕ) : Type 0 where
  calendar : (message after : List ℕ) → IsCalendar message → LacksBlank after → bytes ≡ message ++ after → messages_of bytes ≡ message ∷
      messages_of after → length after < length bytes → HasNext bytes
  left : (is : IsRest bytes) → messages_of bytes ≡ unless_empty bytes (lines_of is.pieces is.last) → HasNext bytes

-- what is left has these lines
left_of : (bytes : List ℕ) (raws tail front : List (List ℕ)) (line : List ℕ) → lines_onto [] bytes ≡ map said raws ++ tail →
    without_empty tail ≡ [] → lines_onto [] bytes ≡ front ++ line ∷ [] → EndNoCalendar front
    → messages_of bytes ≡ cond (list_all is_empty raws) [] (bytes ∷ []) → HasNext bytes
left_of bytes raws tail front line said_so no_tail lines none messages = left
    (record {
      pieces = cutting.pieces;
      last = cutting.last;
      cut = cutting.cut;
      front = front;
      line = line;
      lines =
          lines_of_cutting bytes cutting.pieces cutting.last cutting.cut ∙ lines;
      none_before = none;
    })
    (messages ∙ sym (empty_told bytes raws tail no_tail) ∙ ap (λ ls. unless_empty bytes (without_empty ls)) (sym said_so) ∙
    ap (unless_empty bytes) (sym (lines_of_cut bytes cutting.pieces cutting.last cutting.cut)))
  where
    cutting : HasCutting bytes
    cutting = cutting_of bytes

-- where all lines were passed
all_passed : (bytes : List ℕ) (passed : List (List ℕ)) → Scans bytes [] passed → HasNext bytes
unfolding messages_of
all_passed bytes passed so_far =
    let text : concat passed ≡ bytes = sym (append-nil (concat passed)) ∙ sym so_far.whole in
    let lines : lines_onto [] bytes ≡ map said passed ++ [] ∷ [] =
    ap (lines_onto []) so_far.whole ∙ so_far.closed [] (inr lacks_nothing) ∙ ap (λ ls. map said passed ++ ls) (no_octets []) in
    left_of bytes passed ([] ∷ []) (map said passed) [] lines refl lines (none_said passed so_far.none_ends)
    (ap (λ ls. texts_of (groups_of ls)) (so_far.lines ∙ append-nil passed) ∙ none_texts passed so_far.none_ends ∙
    ap (λ x. cond (list_all is_empty passed) [] (x ∷ [])) text)

module _ (bytes rest : List ℕ) (passed : List (List ℕ)) (so_far : Scans bytes rest passed) (first : HasFirst rest) where
  -- where the last line has no break
  last_text : first.after ≡ [] → concat (passed ++ first.raw ∷ []) ≡ bytes
  last_text last = sym (append-nil (concat (passed ++ first.raw ∷ []))) ∙ ap (λ x. concat (passed ++ first.raw ∷ []) ++ x) (sym last) ∙
      sym (passed_whole bytes rest passed so_far first)

  last_lines : first.after ≡ [] → scan.lines_of bytes ≡ passed ++ first.raw ∷ []
  last_lines last = passed_lines bytes rest passed so_far first ∙ ap (λ x. passed ++ first.raw ∷ scan.lines_of x) last

  no_break : IsOpen first.raw → first.after ≡ [] →
      texts_of (groups_of (passed ++ first.raw ∷ [])) ≡ cond (list_all is_empty (passed ++ first.raw ∷ [])) []
      (concat (passed ++ first.raw ∷ []) ∷ []) → HasNext bytes
  unfolding messages_of
  no_break o last texts =
      let lines : lines_onto [] bytes ≡ map said passed ++ said first.raw ∷ [] = open_lines bytes rest passed so_far first o last in
      left_of bytes (passed ++ first.raw ∷ []) [] (map said passed) (said first.raw)
      (lines ∙ sym (map-append said passed (first.raw ∷ [])) ∙ sym (append-nil (map said (passed ++ first.raw ∷ [])))) refl lines
      (none_said passed so_far.none_ends)
      (ap (λ ls. texts_of (groups_of ls)) (last_lines last) ∙ texts ∙
      ap (λ x. cond (list_all is_empty (passed ++ first.raw ∷ [])) [] (x ∷ [])) (last_text last))

  ends_open : IsOpen first.raw → first.after ≡ [] → ends_calendar first.raw ≡ true → HasNext bytes
  ends_open o last ends =
      no_break o last (texts_end passed first.raw [] so_far.none_ends ends ∙
      ap (λ (v : Bool). cond v [] (concat (passed ++ first.raw ∷ []) ∷ [])) (sym (not_empty passed first.raw ends)))

  passes_open : IsOpen first.raw → first.after ≡ [] → ends_calendar first.raw ≡ false → HasNext bytes
  passes_open o last not = no_break o last (none_texts (passed ++ first.raw ∷ []) (none_ends_more passed first.raw so_far.none_ends not))

  -- a line that ends a calendar
  ends_closed : Closes first.raw first.after → ends_calendar first.raw ≡ true → HasNext bytes
  unfolding messages_of
  ends_closed c ends =
      let message : List ℕ = concat (passed ++ first.raw ∷ []) in
      let feed : message ≡ (concat passed ++ c.before) ++ 10 ∷ [] = concat_push passed first.raw ∙ ap (λ x. concat passed ++ x) c.feed ∙
      sym (append_assoc (concat passed) c.before (10 ∷ [])) in
      let lines : lines_onto [] (message ++ []) ≡ (map said passed ++ said first.raw ∷ []) ++ lines_onto [] [] =
      more_closed bytes rest passed so_far first c [] lacks_nothing ∙
      ap (λ ls. ls ++ lines_onto [] []) (map-append said passed (first.raw ∷ [])) in
      let whole : bytes ≡ message ++ first.after = passed_whole bytes rest passed so_far first in
      let long : length bytes ≡ length message + length first.after = ap length whole ∙ length-append message first.after in
      let front : length message ≡ length (concat passed) + length first.raw = ap length (concat_push passed first.raw) ∙
      length-append (concat passed) first.raw in
      let some : 0 < length first.raw = first.some in
      calendar message first.after (calendar_of message (concat passed ++ c.before) (map said passed) (said first.raw) feed lines
      (none_said passed so_far.none_ends) ends) c.apart whole
      (ap (λ ls. texts_of (groups_of ls)) (passed_lines bytes rest passed so_far first) ∙
      texts_end passed first.raw (scan.lines_of first.after) so_far.none_ends ends)
      (omega arith)

next : (fuel : ℕ) (bytes rest : List ℕ) (passed : List (List ℕ)) → Scans bytes rest passed → length rest < fuel → HasNext bytes
next zero bytes rest passed so_far h = absurd (omega arith)
next (suc fuel) bytes [] passed so_far h = all_passed bytes passed so_far
next (suc fuel) bytes (b ∷ rest) passed so_far h =
    let first = has_first b rest in
    elim (ends_calendar first.raw) as (λ v. ends_calendar first.raw ≡ v → HasNext bytes) [
      | true ↦ λ e. elim first.ends [
        | inl c ↦ ends_closed bytes (b ∷ rest) passed so_far first c e
        | inr o ↦ ends_open bytes (b ∷ rest)
            passed so_far first o.0 o.1 e
      ]
      | false ↦ λ e. elim first.ends [
        | inl c ↦ next fuel bytes first.after (passed ++ first.raw ∷ []) (one_more bytes (b ∷ rest) passed so_far first c e)
            (let long : length (b ∷ rest) ≡ length first.raw + length first.after = ap length first.whole ∙
            length-append first.raw first.after in let some : 0 < length first.raw = first.some in omega arith)
        | inr o ↦ passes_open bytes (b ∷ rest) passed so_far first o.0 o.1 e
      ]
    ] refl

cut_on : (fuel : ℕ) (bytes : List ℕ) → length bytes < fuel → IsCutInto bytes (messages_of bytes)
cut_on zero bytes h = absurd (omega arith)
cut_on (suc fuel) bytes h =
    elim (next (length bytes + 1) bytes bytes [] (start bytes) (omega arith)) [
      | calendar message after is lacks whole messages shorter ↦
          let more = cut_on fuel after (omega arith) in
          record {
            calendars = message ∷ more.calendars;
            rest = more.rest;
            whole = whole ∙ ap (λ x. message ++ x) more.whole ∙ sym (append_assoc message (concat more.calendars) more.rest);
            each = (is, more.each);
            apart = (subst LacksBlank more.whole lacks, more.apart);
            rest_is = more.rest_is;
            messages_are = messages ∙ ap (λ ms. message ∷ ms) more.messages_are;
          }
      | left is messages ↦ record {
        calendars = [];
        rest = bytes;
        whole = refl;
        each = tt;
        apart = tt;
        rest_is = is;
        messages_are =
            messages;
      }
    ]

-- the bytes are cut into the messages that the scan finds
pub cut_by_scan : (bytes : List ℕ) → IsCutInto bytes (messages_of bytes)
cut_by_scan bytes = cut_on (length bytes + 1) bytes (omega arith)
