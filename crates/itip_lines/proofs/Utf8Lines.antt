-- The lines of a text in UTF-8 are UTF-8 too.
use Rattle.std.proofs.Common.{◌≡◌, sym, refl, ℕ, ◌+◌, ◌<◌, true, false, cond, List, [], ◌∷◌, ◌++◌, subst, arith}
use Rattle.std.specs.List.{AllByRecursion}
use Rattle.std.specs.Str.{IsUtf8}
use Rattle.std.proofs.lemmas.Bool.Decides.{nat_tests}
use Rattle.std.proofs.lemmas.Str.{IsUtf8-append, IsUtf8-nil}
use Rattle.itip_lines.specs.UnfoldedLines.{Break, Piece, break_bytes, joined, stretches, is_blank, text_at, numbered_onto}
use Rattle.itip_lines.specs.UnfoldedLines.Break.{lf, crlf}
use Rattle.itip_lines.specs.Stretches.{numbered_stretches, texts_onto}
use Rattle.itip_lines.specs.UnfoldSteps.{AreUtf8}
use Rattle.itip_lines.proofs.Cuttings.{cutting_of, stretches_of_cut}
use Rattle.itip_lines.proofs.Utf8Parts.{utf8_before, utf8_from, utf8_behind}

utf8_piece : (end : Break) (text rest : List ℕ) → IsUtf8 (text ++ (break_bytes end ++ rest)) → IsUtf8 text × IsUtf8 rest
utf8_piece lf text rest u =
    (utf8_before text 10 rest u (omega arith), utf8_behind 10 rest (utf8_from text 10 rest u (omega arith)) (omega arith))
utf8_piece crlf text rest u =
    let behind = utf8_behind 13 (10 ∷ rest) (utf8_from text 13 (10 ∷ rest) u (omega arith)) (omega arith) in
    (utf8_before text 13 (10 ∷ rest) u (omega arith), utf8_behind 10 rest behind (omega arith))

utf8_stretches : (ps : List Piece) (last : List ℕ) → IsUtf8 (joined ps last) → AllByRecursion IsUtf8 (stretches ps last)
utf8_stretches [] last u = (u, tt)
utf8_stretches (p ∷ ps) last u =
    let parts = utf8_piece p.end p.text (joined ps last) u in (parts.0, utf8_stretches ps last parts.1)

blank_ascii : (b : ℕ) → is_blank b ≡ true → b < 128
blank_ascii b h = grind (arith, nat_tests)

utf8_numbered : (at : ℕ) (line : List ℕ) (next : ℕ) (cs : List (List ℕ)) → IsUtf8 line → AllByRecursion IsUtf8 cs →
    AreUtf8 (numbered_onto at line next cs)
utf8_numbered at line next [] u all = (u, tt)
utf8_numbered at line next ([] ∷ cs) u all = (u, utf8_numbered next [] (next + 1) cs IsUtf8-nil all.1)
utf8_numbered at line next ((b ∷ c) ∷ cs) u all =
    elim (is_blank b) as (λ v. is_blank b ≡ v → AreUtf8 (cond v (numbered_onto at (line ++ c) (next + 1) cs)
    (text_at at line ∷ numbered_onto next (b ∷ c) (next + 1) cs))) [
      | true ↦ λ h. utf8_numbered at (line ++ c) (next + 1) cs (IsUtf8-append line c u (utf8_behind b c all.0 (blank_ascii b h))) all.1
      | false ↦ λ h. (u, utf8_numbered next (b ∷ c) (next + 1) cs all.0 all.1)
    ] refl

pub utf8_lines : (text : List ℕ) → IsUtf8 text → AreUtf8 (texts_onto 1 [] 1 text)
unfolding texts_onto
utf8_lines text u =
    let cutting = cutting_of text in
    from_start _ (subst (λ (cs : List (List ℕ)). AllByRecursion IsUtf8 cs)
    (sym (stretches_of_cut text cutting.pieces cutting.last cutting.cut))
    (utf8_stretches cutting.pieces cutting.last (subst IsUtf8 cutting.cut.whole u)))
  where
    from_start : (cs : List (List ℕ)) → AllByRecursion IsUtf8 cs → AreUtf8 (numbered_stretches 1 [] 1 cs)
    from_start [] all = tt
    from_start (c ∷ cs) all = utf8_numbered 1 c 2 cs all.0 all.1
