-- A text is cut at its line breaks in one way, and only in one.
use Rattle.std.proofs.Common.{◌≡◌, ◌≢◌, ◌∙◌, sym, ap, refl, ℕ, true, false, List, [], ◌∷◌, ◌++◌, arith, inl, inr, ◌⊎◌, append_assoc}
use Rattle.std.specs.Prelude.{◌==◌}
use Rattle.std.specs.List.{AllByRecursion}
use Rattle.std.proofs.lemmas.List.{append_cancel_left}
use Rattle.std.proofs.lemmas.List.Elements.{All-append, All-cons, All-nil}
use Rattle.std.proofs.lemmas.Bool.Decides.{eqb_tells}
use Rattle.itip_lines.specs.UnfoldedLines.{Break, Piece, IsPiece, IsCutting, HasNoLf, break_bytes, joined}
use Rattle.itip_lines.specs.UnfoldedLines.{stretches, unfolded, without_empty}
use Rattle.itip_lines.specs.UnfoldedLines.{lines_of, numbered, numbered_lines_of, with_octets}
use Rattle.itip_lines.specs.UnfoldedLines.Break.{lf, crlf}
use Rattle.itip_lines.specs.Parts.{begins}
use Rattle.itip_lines.specs.Stretches.{stretches_of, onto_stretches, lines_onto, numbered_stretches, texts_onto}
use Rattle.itip_lines.proofs.Stretches.{stretches_of_break, stretches_of_last}

-- ---- there is a cutting

pub record HasCutting (bytes : List ℕ) : Type 0 where
  pub pieces : List Piece
  pub last : List ℕ
  pub cut : IsCutting bytes pieces last

no_lf_cons : (b : ℕ) (text : List ℕ) → b ≢ 10 → HasNoLf text → HasNoLf (b ∷ text)
no_lf_cons b text n h = All-cons (λ x. x ≢ 10) b text n h

no_lf_nil : HasNoLf []
no_lf_nil = All-nil (λ x. x ≢ 10)

cr_end_tail : (b : ℕ) (text front : List ℕ) → b ∷ text ≡ front ++ 13 ∷ [] → ((text ≡ []) × (b ≡ 13)) ⊎
    ((f : List ℕ) × (text ≡ f ++ 13 ∷ []))
cr_end_tail b text [] e = inl (cc, cc)
cr_end_tail b text (x ∷ f) e = inr (f, cc)

nil_cr : (f : List ℕ) → [] ≡ f ++ 13 ∷ [] → ⊥
nil_cr [] e = cc
nil_cr (x ∷ f) e = cc

-- the cutting of a text with one more octet before it, which is no LF
onto_cutting : (b : ℕ) (bs : List ℕ) (ps : List Piece) (l : List ℕ) → b ≢ 10 → IsCutting bs ps l → HasCutting (b ∷ bs)
onto_cutting b bs [] l n cut = record {
  pieces = [];
  last = b ∷ l;
  cut = record { whole = ap (λ x. b ∷ x) cut.whole; each = tt; last_stretch = no_lf_cons b l n cut.last_stretch };
}
onto_cutting b bs (p ∷ ps) l n cut = onto p.text p.end cut.each.0 cut.whole
  where
    onto : (text : List ℕ) (end : Break) → IsPiece (record { text = text; end = end }) → bs ≡ text ++ (break_bytes end ++ joined ps l) →
        HasCutting (b ∷ bs)
    onto text crlf is whole = record {
      pieces = record { text = b ∷ text; end = crlf } ∷ ps;
      last = l;
      cut = record {
        whole = ap (λ x. b ∷ x) whole;
        each = (record { no_lf = no_lf_cons b text n is.no_lf; bare = λ e. absurd cc }, cut.each.1);
        last_stretch = cut.last_stretch;
      };
    }
    onto (c ∷ text) lf is whole = record {
      pieces = record { text = b ∷ (c ∷ text); end = lf } ∷ ps;
      last = l;
      cut = record {
        whole = ap (λ x. b ∷ x) whole;
        each = (
          record {
            no_lf = no_lf_cons b (c ∷ text) n is.no_lf;
            bare = λ e front is_cr. elim (cr_end_tail b (c ∷ text) front is_cr)
                [ inl k ↦ absurd (let h = k.0 in cc) | inr k ↦ is.bare refl k.0 k.1 ];
          },
          cut.each.1,
        );
        last_stretch = cut.last_stretch;
      };
    }
    onto [] lf is whole =
        elim (eqb_tells b 13) [
          | inl k ↦ record {
            pieces = record { text = []; end = crlf } ∷ ps;
            last = l;
            cut = record {
              whole = ap (λ x. b ∷ x) whole ∙ ap (λ x. x ∷ (10 ∷ joined ps l)) k.1;
              each = (record { no_lf = no_lf_nil; bare = λ e. absurd cc }, cut.each.1);
              last_stretch = cut.last_stretch;
            };
          }
          | inr k ↦ record {
            pieces = record { text = b ∷ []; end = lf } ∷ ps;
            last = l;
            cut = record {
              whole = ap (λ x. b ∷ x) whole;
              each = (
                record {
                  no_lf = no_lf_cons b [] n no_lf_nil;
                  bare = λ e front is_cr. elim (cr_end_tail b [] front is_cr) [ inl j ↦ k.1 j.1 | inr j ↦ nil_cr j.0 j.1 ];
                },
                cut.each.1,
              );
              last_stretch = cut.last_stretch;
            };
          }
        ]

pub cutting_of : (bytes : List ℕ) → HasCutting bytes
cutting_of [] = record { pieces = []; last = []; cut = record { whole = refl; each = tt; last_stretch = no_lf_nil } }
cutting_of (b ∷ bs) =
    let more = cutting_of bs in
    elim (eqb_tells b 10) [
      | inl k ↦ record {
        pieces = record { text = []; end = lf } ∷ more.pieces;
        last = more.last;
        cut = record {
          whole = ap (λ x. x ∷ bs) k.1 ∙ ap (λ x. 10 ∷ x) more.cut.whole;
          each = (record { no_lf = no_lf_nil; bare = λ e front. nil_cr front }, more.cut.each);
          last_stretch = more.cut.last_stretch;
        };
      }
      | inr k ↦ onto_cutting b bs more.pieces more.last k.1 more.cut
    ]

-- ---- it is the only one

piece_first : (text : List ℕ) (end : Break) (rest : List ℕ) → IsPiece (record { text = text; end = end }) →
    stretches_of (text ++ (break_bytes end ++ rest)) ≡ text ∷ stretches_of rest
piece_first text lf rest is = stretches_of_break _ text text rest is.no_lf refl (inr (refl, is.bare refl))
piece_first text crlf rest is =
    stretches_of_break _ (text ++ 13 ∷ []) text rest
    (All-append (λ x. x ≢ 10) text (13 ∷ []) is.no_lf (no_lf_cons 13 [] (λ e. absurd (omega arith)) no_lf_nil))
    (sym (append_assoc text (13 ∷ []) (10 ∷ rest))) (inl refl)

stretches_of_joined : (ps : List Piece) (l : List ℕ) → AllByRecursion IsPiece ps → HasNoLf l → stretches_of (joined ps l) ≡ stretches ps l
stretches_of_joined [] l each h = stretches_of_last l h
stretches_of_joined (p ∷ ps) l each h = piece_first p.text p.end (joined ps l) each.0 ∙
    ap (λ cs. p.text ∷ cs) (stretches_of_joined ps l each.1 h)

-- the stretches of a cutting are those of the scan
pub stretches_of_cut : (bytes : List ℕ) (ps : List Piece) (l : List ℕ) → IsCutting bytes ps l → stretches_of bytes ≡ stretches ps l
stretches_of_cut bytes ps l cut = ap stretches_of cut.whole ∙ stretches_of_joined ps l cut.each cut.last_stretch

-- the lines of a cutting are those of the scan
pub lines_of_cut : (bytes : List ℕ) (ps : List Piece) (l : List ℕ) → IsCutting bytes ps l →
    lines_of ps l ≡ without_empty (lines_onto [] bytes)
unfolding lines_onto
lines_of_cut bytes ps l cut =
    ap without_empty (from_start (stretches ps l) ∙ ap (onto_stretches []) (sym (stretches_of_cut bytes ps l cut)))
  where
    from_start : (cs : List (List ℕ)) → unfolded cs ≡ onto_stretches [] cs
    from_start [] = refl
    from_start (c ∷ cs) = refl

-- and so are the numbered ones
pub numbered_of_cut : (bytes : List ℕ) (ps : List Piece) (l : List ℕ) → IsCutting bytes ps l →
    numbered_lines_of ps l ≡ with_octets (texts_onto 1 [] 1 bytes)
unfolding texts_onto
numbered_of_cut bytes ps l cut =
    ap with_octets (from_start (stretches ps l) ∙ ap (numbered_stretches 1 [] 1) (sym (stretches_of_cut bytes ps l cut)))
  where
    from_start : (cs : List (List ℕ)) → numbered cs ≡ numbered_stretches 1 [] 1 cs
    from_start [] = refl
    from_start (c ∷ cs) = refl

more_stretches : (ps : List Piece) (l : List ℕ) → [] ≡ stretches ps l → ⊥
more_stretches [] l e = cc
more_stretches (p ∷ ps) l e = cc

first_texts : (a b : List ℕ) (more others : List (List ℕ)) → a ∷ more ≡ b ∷ others → (a ≡ b) × (more ≡ others)
first_texts a b more others e = (cc, cc)

lf_is_no_cr : (a b : List ℕ) → 10 ∷ a ≡ 13 ∷ b → ⊥
lf_is_no_cr a b e = let t : true ≡ false = ap (begins (λ x. x == 10)) e in cc

same_break : (e f : Break) (r s : List ℕ) → break_bytes e ++ r ≡ break_bytes f ++ s → (e ≡ f) × (r ≡ s)
same_break lf lf r s h = (refl, cc)
same_break crlf crlf r s h = (refl, cc)
same_break lf crlf r s h = absurd (lf_is_no_cr r (10 ∷ s) h)
same_break crlf lf r s h = absurd (lf_is_no_cr s (10 ∷ r) (sym h))

same_pieces : (ps qs : List Piece) (l m : List ℕ) → joined ps l ≡ joined qs m → stretches ps l ≡ stretches qs m → (ps ≡ qs) × (l ≡ m)
same_pieces [] [] l m j s = (refl, j)
same_pieces [] (q ∷ qs) l m j s = absurd (more_stretches qs m (first_texts _ _ _ _ s).1)
same_pieces (p ∷ ps) [] l m j s = absurd (more_stretches ps l (sym (first_texts _ _ _ _ s).1))
same_pieces (p ∷ ps) (q ∷ qs) l m j s =
    let texts = first_texts p.text q.text (stretches ps l) (stretches qs m) s in
    let breaks = same_break p.end q.end (joined ps l) (joined qs m)
    (append_cancel_left p.text _ _ (j ∙ ap (λ t. t ++ (break_bytes q.end ++ joined qs m)) (sym texts.0))) in
    let more = same_pieces ps qs l m breaks.1 texts.1 in
    (ap (λ x. x ∷ ps) (same_piece texts.0 breaks.0) ∙ ap (λ xs. q ∷ xs) more.0, more.1)
  where
    same_piece : p.text ≡ q.text → p.end ≡ q.end → p ≡ q
    same_piece t e = λ i. record { text = t i; end = e i }

pub one_cutting : (bytes : List ℕ) (ps qs : List Piece) (l m : List ℕ) → IsCutting bytes ps l → IsCutting bytes qs m → (ps ≡ qs) × (l ≡ m)
one_cutting bytes ps qs l m cut other =
    same_pieces ps qs l m (sym cut.whole ∙ other.whole) (sym (stretches_of_cut bytes ps l cut) ∙ stretches_of_cut bytes qs m other)
