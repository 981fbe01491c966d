-- Pieces of sources, one after another.
use Rattle.std.proofs.Common.{◌≡◌, ◌∙◌, sym, ap, refl, subst, ℕ, ◌+◌, List, [], ◌∷◌, ◌++◌, length, arith, append_assoc, append-nil}
use Rattle.std.proofs.Common.{Bool, true, false, Option}
use Rattle.std.specs.Prelude.{cond}
use Rattle.std.proofs.lemmas.List.{length-append}
use Rattle.itip_items.specs.declared.item.Item.{Item}
use Rattle.itip_message.specs.Parting.{StaysParted}
use Rattle.itip_message.specs.Scanned.{messages_of}
use Rattle.itip_inbox.specs.Inbox.{Placed, placed_from}
use Rattle.itip_inbox.specs.Pieces.{texts_of, count_before, count_behind, pieces_from, IsRead, AreRead}
use Rattle.itip_inbox.specs.Streaming.{Tells}
use Rattle.itip_inbox.specs.declared.source_pieces.Piece.{Piece}
use Rattle.itip_inbox.specs.declared.read_pieces.ReadPiece.{ReadPiece}
use Rattle.itip_inbox.specs.declared.texts.Heard.{Heard}
use Rattle.itip_inbox.proofs.Hearing.{length_placed, placed_on}

pub pieces_both : (count : ℕ) (xs ys : List Piece) →
    pieces_from count (xs ++ ys) ≡ pieces_from count xs ++ pieces_from (count_behind count xs) ys
pieces_both count [] ys = refl
pieces_both count (x ∷ xs) ys =
    let next : ℕ = count_before count x + length (texts_of x) in
    let here : List Placed = placed_from x.source (count_before count x + 1) (texts_of x) in
    ap (λ (ms : List Placed). here ++ ms) (pieces_both next xs ys) ∙
    sym (append_assoc here (pieces_from next xs) (pieces_from (count_behind next xs) ys))

pub behind_both : (count : ℕ) (xs ys : List Piece) → count_behind count (xs ++ ys) ≡ count_behind (count_behind count xs) ys
behind_both count [] ys = refl
behind_both count (x ∷ xs) ys = behind_both (count_before count x + length (texts_of x)) xs ys

-- one piece more
pub pieces_one : (xs : List Piece) (x : Piece) → pieces_from 0 (xs ++ x ∷ []) ≡
    pieces_from 0 xs ++ placed_from x.source (count_before (count_behind 0 xs) x + 1) (texts_of x)
pieces_one xs x =
    pieces_both 0 xs (x ∷ []) ∙
    ap (λ (ms : List Placed). pieces_from 0 xs ++ ms) (append-nil (placed_from x.source (count_before (count_behind 0 xs) x + 1)
    (texts_of x)))

-- ---- a source is cut

-- The first messages of a source are in pieces that come after others, and this is left of it: all of it if the flag says so.
pub record CutSoFar (old now : List Piece) (source : ℕ) (octets rest : List ℕ) (is_first : Bool) : Type 0 where
  pub texts : List (List ℕ)
  pub cut : messages_of octets ≡ texts ++ messages_of rest
  pub pieces : pieces_from 0 now ≡ pieces_from 0 old ++ placed_from source 1 texts
  pub count : cond is_first 0 (count_behind 0 now) ≡ length texts

pub cut_none : (pieces : List Piece) (source : ℕ) (octets : List ℕ) → CutSoFar pieces pieces source octets octets true
cut_none pieces source octets = record {
  texts = [];
  cut = refl;
  pieces = sym (append-nil (pieces_from 0 pieces));
  count = refl;
}

-- the messages of two parts are those of the whole
parted_messages : (whole front back : List ℕ) → StaysParted whole front back →
    messages_of whole ≡ messages_of front ++ messages_of back
parted_messages whole front back parted =
    ap messages_of (sym (append-nil whole)) ∙ parted.messages [] ∙ ap (λ (t : List ℕ). messages_of front ++ messages_of t) (append-nil back)

-- one piece more of the source
module _ (old now : List Piece) (source : ℕ) (octets rest : List ℕ) (is_first : Bool)
    (so_far : CutSoFar old now source octets rest is_first) (piece : Piece) (of : piece.source ≡ source)
    (first : piece.is_first ≡ is_first) where
  counted : count_before (count_behind 0 now) piece ≡ 0 + length so_far.texts
  counted =
      let same : count_before (count_behind 0 now) piece ≡ length so_far.texts =
      ap (λ (b : Bool). cond b 0 (count_behind 0 now)) first ∙ so_far.count in
      omega (arith, same)

  piece_more : pieces_from 0 (now ++ piece ∷ []) ≡ pieces_from 0 old ++ placed_from source 1 (so_far.texts ++ texts_of piece)
  piece_more =
      pieces_one now piece ∙
      ap (λ (ms : List Placed). ms ++ placed_from piece.source (count_before (count_behind 0 now) piece + 1) (texts_of piece))
      so_far.pieces ∙
      placed_on (pieces_from 0 old) source 0 piece.source (count_before (count_behind 0 now) piece) so_far.texts (texts_of piece) of counted

  pub cut_more : (back : List ℕ) → StaysParted rest piece.octets.now back → CutSoFar old (now ++ piece ∷ []) source octets back false
  cut_more back parted =
      let behind : count_behind 0 (now ++ piece ∷ []) ≡ count_before (count_behind 0 now) piece + length (texts_of piece) =
      behind_both 0 now (piece ∷ []) in
      let long : length (so_far.texts ++ texts_of piece) ≡ length so_far.texts + length (texts_of piece) =
      length-append so_far.texts (texts_of piece) in
      let same : count_before (count_behind 0 now) piece ≡ 0 + length so_far.texts = counted in
      record {
        texts = so_far.texts ++ texts_of piece;
        cut = so_far.cut ∙
            ap (λ (ts : List (List ℕ)). so_far.texts ++ ts) (parted_messages rest piece.octets.now back parted) ∙
            sym (append_assoc so_far.texts (texts_of piece) (messages_of back));
        pieces = piece_more;
        count = omega (arith, behind, long, same);
      }

  -- the last one
  pub cut_last : rest ≡ piece.octets.now →
      pieces_from 0 (now ++ piece ∷ []) ≡ pieces_from 0 old ++ placed_from source 1 (messages_of octets)
  cut_last all =
      piece_more ∙ ap (λ (ts : List (List ℕ)). pieces_from 0 old ++ placed_from source 1 ts)
      (ap (λ (t : List ℕ). so_far.texts ++ messages_of t) (sym all) ∙ sym so_far.cut)

-- ---- pieces are read

pub read_both : (about : Option (List ℕ)) (kept : List Item) (xs ys : List Piece) (front back : List ReadPiece) →
    AreRead about kept xs front → AreRead about kept ys back → AreRead about kept (xs ++ ys) (front ++ back)
read_both about kept [] ys [] back one two = two
read_both about kept [] ys (r ∷ front) back one two = absurd one
read_both about kept (x ∷ xs) ys [] back one two = absurd one
read_both about kept (x ∷ xs) ys (r ∷ front) back one two = (one.0, read_both about kept xs ys front back one.1 two)

-- what a piece tells is added to what came before
module _ (about : Option (List ℕ)) (kept : List Item) (before : List Placed) (one : Piece) (read : ReadPiece)
    (is : IsRead about kept one read) (count : ℕ) where
  long : read.heard.count ≡ length (texts_of one)
  long = is.tells.count_is ∙ length_placed one.source 1 (texts_of one)

  pub begins : (next : ℕ) (all : Heard) → read.is_first ≡ true → next ≡ read.heard.count →
      Tells about kept (before ++ placed_from one.source 1 (texts_of one)) all →
      (next ≡ count_before count one + length (texts_of one)) ×
      Tells about kept (before ++ placed_from one.source (count_before count one + 1) (texts_of one)) all
  begins next all first is_next tells =
      let none : count_before count one ≡ 0 = ap (λ (b : Bool). cond b 0 count) (sym is.first ∙ first) in
      let number : 1 ≡ count_before count one + 1 = omega (arith, none) in
      let many : read.heard.count ≡ length (texts_of one) = long in (
        omega (arith, none, is_next, many),
        subst (λ (n : ℕ). Tells about kept (before ++ placed_from one.source n (texts_of one)) all) number tells,
      )

  pub goes_on : (next : ℕ) (all : Heard) → read.is_first ≡ false → next ≡ count + read.heard.count →
      Tells about kept (before ++ placed_from one.source (1 + count) (texts_of one)) all →
      (next ≡ count_before count one + length (texts_of one)) ×
      Tells about kept (before ++ placed_from one.source (count_before count one + 1) (texts_of one)) all
  goes_on next all first is_next tells =
      let some : count_before count one ≡ count = ap (λ (b : Bool). cond b 0 count) (sym is.first ∙ first) in
      let number : 1 + count ≡ count_before count one + 1 = omega (arith, some) in
      let many : read.heard.count ≡ length (texts_of one) = long in (
        omega (arith, some, is_next, many),
        subst (λ (n : ℕ). Tells about kept (before ++ placed_from one.source n (texts_of one)) all) number tells,
      )

-- The first of these pieces are put together, and what was read of the others is left.
pub record InARow (about : Option (List ℕ)) (kept : List Item) (pieces : List Piece) (rest : List ReadPiece) (count : ℕ) (all : Heard) :
    Type 0 where
  pub done : List Piece
  pub left : List Piece
  pub whole : pieces ≡ done ++ left
  pub are_read : AreRead about kept left rest
  pub tells : Tells about kept (pieces_from 0 done) all
  pub count_is : count ≡ count_behind 0 done

pub row_begins : (about : Option (List ℕ)) (kept : List Item) (pieces : List Piece) (read : List ReadPiece) (all : Heard) →
    AreRead about kept pieces read → Tells about kept [] all → InARow about kept pieces read 0 all
row_begins about kept pieces read all are tells = record {
  done = [];
  left = pieces;
  whole = refl;
  are_read = are;
  tells = tells;
  count_is = refl;
}

-- adding what was read of a piece gives this
abbrev pub Adds : Option (List ℕ) → List Item → ReadPiece → ℕ → Heard → ℕ → Heard → Type 0
Adds about kept read count all next more = (before : List Placed) (one : Piece) → IsRead about kept one read → Tells about kept before all →
    (next ≡ count_before count one + length (texts_of one)) ×
    Tells about kept (before ++ placed_from one.source (count_before count one + 1) (texts_of one)) more

row_from : (about : Option (List ℕ)) (kept : List Item) (pieces done left : List Piece) (read : ReadPiece) (rest : List ReadPiece)
    (count next : ℕ) (all more : Heard) → pieces ≡ done ++ left → AreRead about kept left (read ∷ rest) →
    Tells about kept (pieces_from 0 done) all → count ≡ count_behind 0 done → Adds about kept read count all next more →
    InARow about kept pieces rest next more
row_from about kept pieces done [] read rest count next all more whole are tells is adds = absurd are
row_from about kept pieces done (piece ∷ left) read rest count next all more whole are tells is adds =
    let added = adds (pieces_from 0 done) piece are.0 tells in
    record {
      done = done ++ piece ∷ [];
      left = left;
      whole = whole ∙ sym (append_assoc done (piece ∷ []) left);
      are_read = are.1;
      tells = subst (λ (ms : List Placed). Tells about kept ms more)
          (ap (λ (n : ℕ). pieces_from 0 done ++ placed_from piece.source (count_before n piece + 1) (texts_of piece)) is ∙
          sym (pieces_one done piece)) added.1;
      count_is = added.0 ∙ ap (λ (n : ℕ). count_before n piece + length (texts_of piece)) is ∙ sym (behind_both 0 done (piece ∷ []));
    }

pub row_more : (about : Option (List ℕ)) (kept : List Item) (pieces : List Piece) (read : ReadPiece) (rest : List ReadPiece)
    (count next : ℕ) (all more : Heard) → InARow about kept pieces (read ∷ rest) count all → Adds about kept read count all next more →
    InARow about kept pieces rest next more
row_more about kept pieces read rest count next all more row adds =
    row_from about kept pieces row.done row.left read rest count next all more row.whole row.are_read row.tells row.count_is adds

row_over : (about : Option (List ℕ)) (kept : List Item) (pieces done left : List Piece) (all : Heard) → pieces ≡ done ++ left →
    AreRead about kept left [] → Tells about kept (pieces_from 0 done) all → Tells about kept (pieces_from 0 pieces) all
row_over about kept pieces done [] all whole are tells =
    subst (λ (ps : List Piece). Tells about kept (pieces_from 0 ps) all) (sym (whole ∙ append-nil done)) tells
row_over about kept pieces done (piece ∷ left) all whole are tells = absurd are

pub row_ends : (about : Option (List ℕ)) (kept : List Item) (pieces : List Piece) (count : ℕ) (all : Heard) →
    InARow about kept pieces [] count all → Tells about kept (pieces_from 0 pieces) all
row_ends about kept pieces count all row = row_over about kept pieces row.done row.left all row.whole row.are_read row.tells
