-- What is written is in pieces of at most 75 octets that split no character, each as long as it can be.
use Rattle.std.proofs.Common.{◌≡◌, ◌∙◌, sym, ap, refl, suc, ℕ, ◌+◌, ◌/◌, ◌%◌, ◌≤◌, ◌<◌, true, false, cond, List, [], ◌∷◌, ◌++◌, length}
use Rattle.std.proofs.Common.{arith, subst, inl, inr, append_assoc, length-append}
use Rattle.std.specs.Prelude.{nat_lt}
use Rattle.std.specs.Str.{IsUtf8}
use Rattle.std.specs.List.{list_all}
use Rattle.std.proofs.lemmas.Bool.{and_parts}
use Rattle.std.proofs.lemmas.Bool.Decides.{nat_tests, leb_tells}
use Rattle.std.proofs.lemmas.List.{append-nil}
use Rattle.std.proofs.lemmas.Str.{IsUtf8-append, IsUtf8-nil, IsUtf8-encode, IsUtf8-from_ascii, encode_same, length-encode, len_utf8_bounds}
use Rattle.std.proofs.lemmas.Str.Ascii.{IsAscii-cons, IsAscii-nil}
use lib.Utf8.{encode, encodes, scalars, next}
use Rattle.itip_lines.specs.Writing.{following, fits, folded, unfolded_text, written}
use Rattle.itip_lines.specs.FoldedPieces.{IsFull, AreFoldedPieces, with_breaks}
use Rattle.itip_lines.specs.declared.line.Line.{Line}
use Rattle.itip_lines.proofs.Roundtrip.{utf8_line}

-- ---- the octets of a character

record HasLead (octets : List ℕ) : Type 0 where
  lead : ℕ
  others : List ℕ
  whole : octets ≡ lead ∷ others
  many : following lead ≡ length others
  low : list_all (λ b. nat_lt b 192) others ≡ true

lead_one : (c : ℕ) → c < 128 → following c ≡ 0
lead_one c h = grind (arith, nat_tests)

lead_two : (c : ℕ) → c < 2048 → following (192 + c / 64) ≡ 1
lead_two c h = let k : c / 64 < 32 = omega arith in grind (arith, nat_tests)

lead_three : (c : ℕ) → c < 65536 → following (224 + c / 4096) ≡ 2
lead_three c h = let k : c / 4096 < 16 = omega arith in grind (arith, nat_tests)

lead_four : (c : ℕ) → following (240 + c) ≡ 3
lead_four c = grind (arith, nat_tests)

low_next : (bits : ℕ) → nat_lt (next bits) 192 ≡ true
low_next bits = let k : 128 + bits % 64 < 192 = omega arith in grind (arith, nat_tests, k)

lead_of : (c : ℕ) → HasLead (encode c)
unfolding encode
lead_of c =
    elim (leb_tells (suc c) 128) [
      | inl one ↦ rw one.0 (record { lead = c; others = []; whole = refl; many = lead_one c (omega (arith, one.1)); low = refl })
      | inr more ↦ elim (leb_tells (suc c) 2048) [
        | inl two ↦ rw (more.0, two.0) (record {
          lead = 192 + c / 64;
          others = next c ∷ [];
          whole = refl;
          many =
              lead_two c (omega (arith, two.1));
          low = rw (low_next c) refl;
        })
        | inr much ↦ elim (leb_tells (suc c) 65536) [
          | inl three ↦ rw (more.0, much.0, three.0)
              (record {
                lead = 224 + c / 4096;
                others = next (c / 64) ∷ (next c ∷ []);
                whole = refl;
                many =
                    lead_three c (omega (arith, three.1));
                low = rw (low_next (c / 64), low_next c) refl;
              })
          | inr four ↦ rw (more.0, much.0, four.0)
              (record {
                lead = 240 + c / 262144;
                others = next (c / 4096) ∷ (next (c / 64) ∷ (next c ∷ []));
                whole = refl;
                many =
                    lead_four (c / 262144);
                low = rw (low_next (c / 4096), low_next (c / 64), low_next c) refl;
              })
        ]
      ]
    ]

-- ---- a character is folded as a whole

low_fits : (used b : ℕ) → nat_lt b 192 ≡ true → used + 1 ≤ 75 → fits used b ≡ true
low_fits used b h k = grind (arith, nat_tests)

others_fold : (used : ℕ) (bs rest : List ℕ) → list_all (λ b. nat_lt b 192) bs ≡ true → used + length bs ≤ 75 →
    folded used (bs ++ rest) ≡ bs ++ folded (used + length bs) rest
others_fold used [] rest h k = ap (λ n. folded n rest) (omega arith)
others_fold used (b ∷ bs) rest h k =
    let p = and_parts _ _ h in
    ap (λ v. cond v (b ∷ folded (used + 1) (bs ++ rest)) (13 ∷ (10 ∷ (32 ∷ (b ∷ folded 2 (bs ++ rest))))))
    (low_fits used b p.0 (omega (arith, k)))
    ∙ ap (λ t. b ∷ t) (others_fold (used + 1) bs rest p.1 (omega (arith, k)) ∙ ap (λ n. bs ++ folded n rest) (omega arith))

lead_fits : (used b : ℕ) → used + 1 + following b ≤ 75 → fits used b ≡ true
lead_fits used b h = grind (arith, nat_tests)

lead_folds : (used b : ℕ) → 75 < used + 1 + following b → fits used b ≡ false
lead_folds used b h = grind (arith, nat_tests)

stands : (used : ℕ) (octets rest : List ℕ) → HasLead octets → used + length octets ≤ 75 → folded used (octets ++ rest) ≡ octets ++
    folded (used + length octets) rest
stands used octets rest h k =
    subst (λ (o : List ℕ). folded used (o ++ rest) ≡ o ++ folded (used + length o) rest) (sym h.whole)
    (at (omega (arith, k, ap length h.whole)))
  where
    at : used + length (h.lead ∷ h.others) ≤ 75 → folded used (h.lead ∷ (h.others ++ rest)) ≡ h.lead ∷
        (h.others ++ folded (used + length (h.lead ∷ h.others)) rest)
    at l =
        ap (λ v. cond v (h.lead ∷ folded (used + 1) (h.others ++ rest)) (13 ∷ (10 ∷ (32 ∷ (h.lead ∷ folded 2 (h.others ++ rest))))))
        (lead_fits used h.lead (omega (arith, l, h.many)))
        ∙ ap (λ t. h.lead ∷ t) (others_fold (used + 1) h.others rest h.low (omega (arith, l)) ∙
        ap (λ n. h.others ++ folded n rest) (omega arith))

goes_on : (used : ℕ) (octets rest : List ℕ) → HasLead octets → 75 < used + length octets → length octets ≤ 4 →
    folded used (octets ++ rest) ≡ 13 ∷ (10 ∷ (32 ∷ (octets ++ folded (1 + length octets) rest)))
goes_on used octets rest h k four =
    subst (λ (o : List ℕ). folded used (o ++ rest) ≡ 13 ∷ (10 ∷ (32 ∷ (o ++ folded (1 + length o) rest)))) (sym h.whole)
    (at (omega (arith, k, ap length h.whole)) (omega (arith, four, ap length h.whole)))
  where
    at : 75 < used + length (h.lead ∷ h.others) → length (h.lead ∷ h.others) ≤ 4 → folded used (h.lead ∷ (h.others ++ rest)) ≡ 13 ∷
        (10 ∷ (32 ∷ (h.lead ∷ (h.others ++ folded (1 + length (h.lead ∷ h.others)) rest))))
    at l f =
        ap (λ v. cond v (h.lead ∷ folded (used + 1) (h.others ++ rest)) (13 ∷ (10 ∷ (32 ∷ (h.lead ∷ folded 2 (h.others ++ rest))))))
        (lead_folds used h.lead (omega (arith, l, h.many)))
        ∙ ap (λ t. 13 ∷ (10 ∷ (32 ∷ (h.lead ∷ t)))) (others_fold 2 h.others rest h.low (omega (arith, f)) ∙
        ap (λ n. h.others ++ folded n rest) (omega arith))

-- ---- the pieces

pub record HasPieces (lead text bytes : List ℕ) : Type 0 where
  pub pieces : List (List ℕ)
  pub are : AreFoldedPieces lead text pieces
  pub whole : bytes ≡ with_breaks pieces

one_piece : (lead done : List ℕ) → length (lead ++ done) ≤ 75 → IsUtf8 (lead ++ done) →
    HasPieces lead (done ++ []) (lead ++ done ++ folded (length (lead ++ done)) [])
one_piece lead done short u = record {
  pieces = (lead ++ done) ∷ [];
  are = (ap (λ t. lead ++ t) (sym (append-nil done)), record { short = short; utf8 = u });
  whole = refl;
}

next_piece : (lead done octets text bytes : List ℕ) (c : ℕ) → octets ≡ encode c → length (lead ++ done) ≤ 75 → IsUtf8 (lead ++ done) →
    75 < length (lead ++ done) + length octets → 0 < length octets → HasPieces (32 ∷ []) (octets ++ text) bytes →
    HasPieces lead (done ++ (octets ++ text)) (lead ++ done ++ 13 ∷ (10 ∷ bytes))
next_piece lead done octets text bytes c is short u over some more = put more.pieces more.are more.whole
  where
    full : IsFull (lead ++ done) (octets ++ text)
    full = record {
      some = omega (arith, some, length-append octets text);
      over = λ d rest scalar e. (let same = encode_same c d text rest (ap (λ o. o ++ text) (sym is) ∙ e) in
          omega (arith, over, ap length is, ap (λ x. length (encode x)) same.0));
    }

    put : (ps : List (List ℕ)) → AreFoldedPieces (32 ∷ []) (octets ++ text) ps → bytes ≡ with_breaks ps →
        HasPieces lead (done ++ (octets ++ text)) (lead ++ done ++ 13 ∷ (10 ∷ bytes))
    put [] h e = absurd h
    put (q ∷ qs) h e = record {
      pieces = (lead ++ done) ∷ (q ∷ qs);
      are = (done, octets ++ text, refl, refl, record { short = short; utf8 = u }, full, h);
      whole = ap (λ t. lead ++ done ++ 13 ∷ (10 ∷ t)) e;
    }

blank_utf8 : (octets : List ℕ) → IsUtf8 octets → IsUtf8 (32 ∷ octets)
blank_utf8 octets u = IsUtf8-append (32 ∷ []) octets (IsUtf8-from_ascii (32 ∷ []) (IsAscii-cons 32 [] (omega arith) IsAscii-nil)) u

encode_four : (c : ℕ) → length (encode c) ≤ 4
encode_four c = omega (arith, length-encode c, (len_utf8_bounds c).1)

encode_some : (c : ℕ) → 0 < length (encode c)
encode_some c = omega (arith, length-encode c, (len_utf8_bounds c).0)

has_pieces : (cs : List ℕ) (lead done : List ℕ) → scalars cs ≡ true → length (lead ++ done) ≤ 75 → IsUtf8 (lead ++ done) →
    HasPieces lead (done ++ encodes cs) (lead ++ done ++ folded (length (lead ++ done)) (encodes cs))
has_pieces [] lead done s short u = one_piece lead done short u
has_pieces (c ∷ cs) lead done s short u =
    let p = and_parts _ _ s in
    let octets = lead_of c in
    let four = encode_four c in
    elim (leb_tells (length (lead ++ done) + length (encode c)) 75) [
      | inl fit ↦
          let longer : length (lead ++ (done ++ encode c)) ≡ length (lead ++ done) + length (encode c) =
          ap length (sym (append_assoc lead done (encode c))) ∙ length-append (lead ++ done) (encode c) in
          let more = has_pieces cs lead (done ++ encode c) p.1 (omega (arith, longer, fit.1))
          (subst IsUtf8 (append_assoc lead done (encode c)) (IsUtf8-append (lead ++ done) (encode c) u (IsUtf8-encode c p.0))) in
          subst (λ (t : List ℕ). HasPieces lead t (lead ++ done ++ folded (length (lead ++ done)) (encode c ++ encodes cs)))
          (append_assoc done (encode c) (encodes cs))
          (subst (λ (b : List ℕ). HasPieces lead (done ++ encode c ++ encodes cs) b)
          (ap (λ n. lead ++ (done ++ encode c) ++ folded n (encodes cs)) longer
          ∙ ap (λ t. t ++ folded (length (lead ++ done) + length (encode c)) (encodes cs)) (sym (append_assoc lead done (encode c)))
          ∙ append_assoc (lead ++ done) (encode c) (folded (length (lead ++ done) + length (encode c)) (encodes cs))
          ∙ ap (λ t. lead ++ done ++ t) (sym (stands (length (lead ++ done)) (encode c) (encodes cs) octets fit.1)))
          more)
      | inr over ↦
          let more = has_pieces cs (32 ∷ []) (encode c) p.1 (omega (arith, four)) (blank_utf8 (encode c) (IsUtf8-encode c p.0)) in
          let one : length (32 ∷ encode c) ≡ 1 + length (encode c) = omega arith in
          subst (λ (b : List ℕ). HasPieces lead (done ++ (encode c ++ encodes cs)) (lead ++ done ++ b))
          (ap (λ n. 13 ∷ (10 ∷ (32 ∷ (encode c ++ folded n (encodes cs))))) one ∙
          sym (goes_on (length (lead ++ done)) (encode c) (encodes cs) octets over.1 four))
          (next_piece lead done (encode c) (encodes cs) (32 ∷ (encode c ++ folded (length (32 ∷ encode c)) (encodes cs))) c refl short u
          over.1 (encode_some c) more)
    ]

-- the pieces of a line
pub written_pieces : (line : Line) → (pieces : List (List ℕ)) × AreFoldedPieces [] (unfolded_text line) pieces ×
    (written line ≡ with_breaks pieces)
unfolding written
written_pieces line =
    let u = utf8_line line in
    let has = has_pieces u.0 [] [] u.1.0 (omega arith) IsUtf8-nil in (
      has.pieces,
      subst (λ (t : List ℕ). AreFoldedPieces [] t has.pieces) u.1.1 has.are,
      ap (folded 0) (sym u.1.1) ∙ has.whole,
    )
