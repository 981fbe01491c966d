-- Rows that are written one UID at a time: what was written of them, and what is kept to be written.
use Rattle.std.proofs.Common.{◌≡◌, ℕ, ◌≤◌, List, [], ◌++◌, refl, sym, ap, subst, ◌∙◌, append_assoc, append-nil, inl, inr, Option}
use Rattle.std.proofs.Common.{None, Result, Ok, Err}
use Rattle.std.specs.Prelude.{OnErr}
use Rattle.std.specs.List.{flat_map}
use Rattle.std.proofs.lemmas.List.Concat.{flat_map-append}
use Rattle.itip_streams.specs.Written.{AppendsFront, MovesOut}
use Rattle.itip_streams.proofs.Writing.{front_none, front_longer, front_moved, moves_none, moves_more, moves_on}
use Rattle.itip_view.specs.ByUid.{AreLeft, IsDone, IsPart, AreFewLeft}
use Rattle.itip_view.specs.ListText.{list_text}
use Rattle.itip_view.specs.Rows.{row_limit}
use Rattle.itip_view.specs.declared.by_uid.RowsByUid.{RowsByUid}
use Rattle.itip_view.specs.declared.row.Row.{Row}
use Rattle.itip_desk.specs.Listed.{head_text, headed_text}
use Rattle.itip_desk.specs.WrittenRows.{HasHeadedText, WritesListed, WritesListedFront}
use Rattle.itip_desk.proofs.Listing.{headed}

-- a fact that holds, at a fault
pub on_err : {T E P : Type 0} (r : Result T E) → P → OnErr r P
on_err (Ok x) p = tt
on_err (Err e) p = p

-- the text of some rows after what is kept, and then that of more rows
text_behind : (text : Row → List ℕ) (kept : List ℕ) (done more : List Row) →
    (kept ++ flat_map text done) ++ flat_map text more ≡ kept ++ flat_map text (done ++ more)
text_behind text kept done more =
    append_assoc kept (flat_map text done) (flat_map text more) ∙ ap (λ (t : List ℕ). kept ++ t) (sym (flat_map-append text done more))

-- ---- the rows of one UID

module _ (text : Row → List ℕ) (old mid : Option (List ℕ)) (kept rest : List ℕ) (done : List Row)
    (moves : MovesOut old mid (kept ++ flat_map text done) rest) where
  -- the text of more rows is kept
  pub texts_more : (more : List Row) (grown : List ℕ) → grown ≡ rest ++ flat_map text more →
      MovesOut old mid (kept ++ flat_map text (done ++ more)) grown
  texts_more more grown is =
      subst (λ (t : List ℕ). MovesOut old mid t grown) (text_behind text kept done more)
      (moves_more old mid (kept ++ flat_map text done) rest moves (flat_map text more) grown is)

  -- if what is left is written in part, so is a prefix of all, whatever rows follow
  pub texts_front : (new : Option (List ℕ)) (more : List Row) → AppendsFront mid new rest →
      AppendsFront old new (kept ++ flat_map text (done ++ more))
  texts_front new more front =
      subst (λ (t : List ℕ). AppendsFront old new t) (text_behind text kept done more)
      (front_longer old new (kept ++ flat_map text done) (flat_map text more)
      (front_moved old mid (kept ++ flat_map text done) rest moves new front))

-- no row is written yet
pub texts_none : (text : Row → List ℕ) (o : Option (List ℕ)) (kept : List ℕ) → MovesOut o o (kept ++ flat_map text []) kept
texts_none text o kept = subst (λ (t : List ℕ). MovesOut o o t kept) (sym (append-nil kept)) (moves_none o kept)

-- ---- the rows of all UIDs

-- Some of these rows were written after what was kept, and others are left.
pub record WritesSoFar (text : Row → List ℕ) (asked : RowsByUid) (all : List Row) (old new : Option (List ℕ))
    (kept rest : List ℕ) : Type 0
  where
    pub done : List Row
    pub left : List Row
    pub are_left : AreLeft asked left
    pub whole : all ≡ done ++ left
    pub moved : MovesOut old new (kept ++ flat_map text done) rest

pub none_so_far : (text : Row → List ℕ) (asked : RowsByUid) (all : List Row) (o : Option (List ℕ)) (kept : List ℕ) → AreLeft asked all →
    WritesSoFar text asked all o o kept kept
none_so_far text asked all o kept are =
    record { done = []; left = all; are_left = are; whole = refl; moved = texts_none text o kept }

module _ (text : Row → List ℕ) (asked : RowsByUid) (all : List Row) (old mid : Option (List ℕ)) (kept rest : List ℕ)
    (so_far : WritesSoFar text asked all old mid kept rest) where
  front_of_all : (new : Option (List ℕ)) → AppendsFront mid new rest → AppendsFront old new (kept ++ flat_map text all)
  front_of_all new front =
      subst (λ (rows : List Row). AppendsFront old new (kept ++ flat_map text rows)) (sym so_far.whole)
      (texts_front text old mid kept rest so_far.done so_far.moved new so_far.left front)

  -- nothing more is written
  pub stays_written : AppendsFront old mid (kept ++ flat_map text all)
  stays_written = front_of_all mid (front_none mid rest)

  -- no UID is left
  pub all_so_far : (next : RowsByUid) → IsDone asked next → MovesOut old mid (kept ++ flat_map text all) rest
  all_so_far next none =
      let same : all ≡ so_far.done =
      so_far.whole ∙ ap (λ (rows : List Row). so_far.done ++ rows) ((none.no_row so_far.left).0 so_far.are_left) ∙ append-nil so_far.done in
      subst (λ (rows : List Row). MovesOut old mid (kept ++ flat_map text rows) rest) (sym same) so_far.moved

  module _ (next : RowsByUid) (rows : List Row) (part : IsPart asked next rows) (new : Option (List ℕ)) where
    -- the rows of one more UID
    pub one_more : (last : List ℕ) → MovesOut mid new (rest ++ flat_map text rows) last → WritesSoFar text next all old new kept last
    one_more last moves =
        let split = part.splits so_far.left so_far.are_left in
        record {
          done = so_far.done ++ rows;
          left = split.0;
          are_left = split.1;
          whole = so_far.whole ∙ ap (λ (t : List Row). so_far.done ++ t) split.2 ∙ sym (append_assoc so_far.done rows split.0);
          moved = moves_on old mid (kept ++ flat_map text (so_far.done ++ rows)) (rest ++ flat_map text rows)
              (texts_more text old mid kept rest so_far.done so_far.moved rows (rest ++ flat_map text rows) refl) new last moves;
        }

    -- of which a prefix was written
    pub front_of_more : AppendsFront mid new (rest ++ flat_map text rows) → AppendsFront old new (kept ++ flat_map text all)
    front_of_more front =
        let split = part.splits so_far.left so_far.are_left in
        let whole : all ≡ (so_far.done ++ rows) ++ split.0 =
        so_far.whole ∙ ap (λ (t : List Row). so_far.done ++ t) split.2 ∙ sym (append_assoc so_far.done rows split.0) in
        subst (λ (t : List Row). AppendsFront old new (kept ++ flat_map text t)) (sym whole)
        (texts_front text old mid kept (rest ++ flat_map text rows) (so_far.done ++ rows)
        (texts_more text old mid kept rest so_far.done so_far.moved rows (rest ++ flat_map text rows) refl) new split.0 front)

-- ---- a list with its head

module _ (word : List ℕ) (desk number : ℕ) (asked : RowsByUid) (few : AreFewLeft asked number) (kept headed_kept : List ℕ)
    (head_is : headed_kept ≡ kept ++ head_text word desk number) where
  behind_head : headed_kept ++ list_text few.rows ≡ kept ++ headed_text word desk few.rows
  behind_head =
      ap (λ (t : List ℕ). t ++ list_text few.rows) head_is ∙ append_assoc kept (head_text word desk number) (list_text few.rows) ∙
      ap (λ (t : List ℕ). kept ++ t)
      (ap (λ (n : ℕ). head_text word desk n ++ list_text few.rows) (sym few.number_is) ∙ headed word desk few.rows)

  its_text : HasHeadedText word desk asked (headed_text word desk few.rows)
  its_text = record {
    rows = few.rows;
    are_left = few.are_left;
    few = subst (λ (n : ℕ). n ≤ row_limit) (sym few.number_is) few.few;
    text_is = refl;
  }

  module _ (old new : Option (List ℕ)) where
    pub rows_listed : (rest : List ℕ) → ((all : List Row) → AreLeft asked all → MovesOut old new (headed_kept ++ list_text all) rest) →
        WritesListed word desk asked old new kept rest None
    rows_listed rest moved = record {
      text = headed_text word desk few.rows;
      is_listed = its_text;
      moved = subst (λ (t : List ℕ). MovesOut old new t rest) behind_head (moved few.rows few.are_left);
    }

    pub rows_front : ((all : List Row) → AreLeft asked all → AppendsFront old new (headed_kept ++ list_text all)) →
        WritesListedFront word desk asked old new kept
    rows_front front =
        inr (
          headed_text word desk few.rows,
          its_text,
          subst (λ (t : List ℕ). AppendsFront old new t) behind_head (front few.rows few.are_left),
        )

-- nothing was written
pub nothing_listed : (word : List ℕ) (desk : ℕ) (asked : RowsByUid) (o : Option (List ℕ)) (kept : List ℕ) →
    WritesListedFront word desk asked o o kept
nothing_listed word desk asked o kept = inl (front_none o kept)
