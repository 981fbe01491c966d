-- The lists of desks, one after another.
use Rattle.std.proofs.Common.{◌≡◌, ℕ, ◌+◌, Bool, true, false, ◌||◌, List, [], ◌∷◌, ◌++◌, length, refl, sym, ap, subst, ◌∙◌, append_assoc}
use Rattle.std.proofs.Common.{arith, inl, inr, Option, Some, None}
use Rattle.std.specs.Prelude.{not, codes, is_some}
use Rattle.std.specs.List.{flat_map}
use Rattle.std.specs.Io.KnownBytes.{Appends}
use Rattle.std.proofs.KnownBytes.{Appends-nil, Appends-trans}
use Rattle.std.proofs.Math.Bool.{or-false}
use Rattle.itip_view.specs.ByUid.{AreAsked}
use Rattle.itip_view.specs.declared.by_uid.RowsByUid.{RowsByUid}
use Rattle.itip_view.specs.declared.row_count.MostRows.{MostRows}
use Rattle.itip_view.specs.declared.row.Row.{Row}
use Rattle.itip_view.specs.declared.window.Window.{Window}
use Rattle.itip_view.proofs.Left.{left_where, too_many_where}
use Rattle.itip_view.proofs.SameAsked.{rows_of_all, many_of_all}
use Rattle.itip_desk.specs.Desk.{Shown}
use Rattle.itip_desk.specs.WrittenRows.{IsHeadedList, WritesListed, WritesListedFront}
use Rattle.itip_desk.specs.declared.refusal.Refusal.{Refusal}
use Rattle.itip_streams.specs.Written.{AppendsFront, MovesOut, WritesOutput}
use Rattle.itip_streams.proofs.Writing.{front_none, front_behind}
use Rattle.itip_office.specs.Scripts.{refused_job_text, ListsDesk, ListsDesks, WritesList, WritesListFront, is_none, IsEndedText}
use Rattle.itip_office.specs.Scripts.{WritesEndedFront}
use Rattle.itip_office.specs.Scripts.ListsDesk.{lists_rows, lists_too_many}

-- ---- the list of one desk

module _ (window : Window) (number : ℕ) (desk : Shown) (asked : RowsByUid) (are : AreAsked (λ (row : Row). Unit {0}) desk.kept window asked)
    (old new : Option (List ℕ)) (kept : List ℕ) where
  -- what is written of its rows is its list
  lists_text : (most : Option MostRows) (text : List ℕ) → IsHeadedList (codes "list") number asked most text →
      ListsDesk window number desk kept (kept ++ text) (is_some most)
  lists_text None text is =
      lists_rows is.rows (kept ++ text)
      (rows_of_all (λ (row : Row). Unit {0}) desk.kept window (λ row there. tt) is.rows
      ((left_where (λ (row : Row). Unit {0}) desk.kept window asked are is.rows).0 is.are_left)) is.few
      (ap (λ (t : List ℕ). kept ++ t) is.text_is)
  lists_text (Some most) text is =
      lists_too_many (kept ++ text)
      (many_of_all (λ (row : Row). Unit {0}) desk.kept window
      (too_many_where (λ (row : Row). Unit {0}) desk.kept window asked are is.0.0)) (ap (λ (t : List ℕ). kept ++ t) is.1)

  pub writes_list : (rest : List ℕ) (most : Option MostRows) → WritesListed (codes "list") number asked old new kept rest most →
      WritesList window number desk old new kept rest (is_some most)
  writes_list rest most writes =
      record { more = kept ++ writes.text; lists = lists_text most writes.text writes.is_listed; moved = writes.moved }

  pub writes_list_front : WritesListedFront (codes "list") number asked old new kept → WritesListFront window number desk old new kept
  writes_list_front (inl front) = inl front
  writes_list_front (inr (text, is, front)) = inr (kept ++ text, false, lists_text None text is, front)

-- ---- one list after another

-- a list after other text
listed_behind : (window : Window) (number : ℕ) (desk : Shown) (front old new : List ℕ) (over : Bool) →
    ListsDesk window number desk old new over → ListsDesk window number desk (front ++ old) (front ++ new) over
listed_behind window number desk front old _ _ (lists_rows rows new are few is) =
    lists_rows rows (front ++ new) are few (ap (λ (t : List ℕ). front ++ t) is ∙ sym (append_assoc front old _))
listed_behind window number desk front old _ _ (lists_too_many new many is) =
    lists_too_many (front ++ new) many (ap (λ (t : List ℕ). front ++ t) is ∙ sym (append_assoc front old _))

or_assoc : (a b c : Bool) → ((a || b) || c) ≡ (a || (b || c))
or_assoc true b c = refl
or_assoc false b c = refl

lists_more : (window : Window) (number : ℕ) (desks : List Shown) (desk : Shown) (old mid new : List ℕ) (over first : Bool) →
    ListsDesks window number desks old mid over → ListsDesk window (number + length desks) desk mid new first
    → ListsDesks window number (desks ++ desk ∷ []) old new (over || first)
lists_more window number [] desk old mid new over first lists one = (
  new,
  first,
  false,
  (let e : number + 0 ≡ number = omega arith in
      subst (λ (n : ℕ). ListsDesk window n desk old new first) e
      (subst (λ (t : List ℕ). ListsDesk window (number + 0) desk t new first) lists.0 one)),
  (refl, refl),
  ap (λ (b : Bool). b || first) lists.1 ∙ sym (or-false first),
)
lists_more window number (d ∷ desks) desk old mid new over first (start, is, others, one, rest, over_is) last = (
  start,
  is,
  others || first,
  one,
  lists_more window (number + 1) desks desk start mid new others first rest
      (let e : number + length (d ∷ desks) ≡ (number + 1) + length desks = omega arith in
      subst (λ (n : ℕ). ListsDesk window n desk mid new first) e last),
  ap (λ (b : Bool). b || first) over_is ∙ or_assoc is others first,
)

-- The refused jobs and the lists of desks so far: what was written of them, and what is kept to be written.
pub record IsListing (window : Window) (refused : List (ℕ × Refusal)) (desks : List Shown) (old new : Option (List ℕ)) (kept : List ℕ)
    (refusal : Bool) : Type 0 where
  pub written : List ℕ
  pub appended : Appends old new written
  pub over : Bool
  pub lists : ListsDesks window 0 desks (flat_map refused_job_text refused) (written ++ kept) over
  pub refusal_is : refusal ≡ (not (is_none refused) || over)

pub starts : (window : Window) (refused : List (ℕ × Refusal)) (old : Option (List ℕ)) (kept : List ℕ) (refusal : Bool) →
    kept ≡ flat_map refused_job_text refused → refusal ≡ not (is_none refused)
    → IsListing window refused [] old old kept refusal
starts window refused old kept refusal kept_is refusal_is = record {
  written = [];
  appended = Appends-nil old;
  over = false;
  lists = (kept_is, refl);
  refusal_is = refusal_is ∙ sym (or-false (not (is_none refused)));
}

module _ (window : Window) (refused : List (ℕ × Refusal)) (desks : List Shown) (old new : Option (List ℕ)) (kept : List ℕ) (refusal : Bool)
    (listing : IsListing window refused desks old new kept refusal) where
  -- a prefix of what is kept was written
  pub front_listed : (all left : List Shown) (newer : Option (List ℕ)) → all ≡ desks ++ left → AppendsFront new newer kept →
      WritesEndedFront window old newer refused all
  front_listed all left newer whole front = record {
    done = desks;
    left = left;
    whole = whole;
    output = listing.written ++ kept;
    refusal = refusal;
    is_text = record { over = listing.over; lists = listing.lists; refusal_is = listing.refusal_is };
    appended = front_behind old new newer listing.written kept listing.appended front;
  }

  -- nothing more was written
  pub still_listed : (all left : List Shown) → all ≡ desks ++ left → WritesEndedFront window old new refused all
  still_listed all left whole = front_listed all left new whole (front_none new kept)

  -- one more list, all of which is kept
  pub one_listed : (desk : Shown) (number : ℕ) (more : List Shown) (more_kept : List ℕ) (over : Bool) → number ≡ length desks →
      more ≡ desks ++ desk ∷ []
      → ListsDesk window number desk kept more_kept over → IsListing window refused more old new more_kept (refusal || over)
  one_listed desk number more more_kept over at more_is lists =
      let behind = listed_behind window number desk listing.written kept more_kept over lists in
      record {
        written = listing.written;
        appended = listing.appended;
        over = listing.over || over;
        lists = subst (λ (ds : List Shown). ListsDesks window 0 ds (flat_map refused_job_text refused) (listing.written ++ more_kept)
            (listing.over || over)) (sym more_is)
            (lists_more window 0 desks desk (flat_map refused_job_text refused) (listing.written ++ kept) (listing.written ++ more_kept)
            listing.over over listing.lists
            (subst (λ (n : ℕ). ListsDesk window n desk (listing.written ++ kept) (listing.written ++ more_kept) over) (omega (arith, at))
            behind));
        refusal_is = ap (λ (b : Bool). b || over) listing.refusal_is ∙ or_assoc (not (is_none refused)) listing.over over;
      }

  -- a prefix of what is kept was written, and the rest is kept
  pub moved_out : (newer : Option (List ℕ)) (rest : List ℕ) → MovesOut new newer kept rest →
      IsListing window refused desks old newer rest refusal
  moved_out newer rest moves =
      let same : listing.written ++ kept ≡ (listing.written ++ moves.front) ++ rest =
      ap (λ (t : List ℕ). listing.written ++ t) moves.whole ∙ sym (append_assoc listing.written moves.front rest) in
      record {
        written = listing.written ++ moves.front;
        appended = Appends-trans old new newer listing.written moves.front listing.appended moves.appended;
        over = listing.over;
        lists = subst (λ (t : List ℕ). ListsDesks window 0 desks (flat_map refused_job_text refused) t listing.over) same listing.lists;
        refusal_is = listing.refusal_is;
      }

  pub all_listed : (all : List Shown) (newer : Option (List ℕ)) → all ≡ desks → Appends new newer kept →
      WritesOutput (IsEndedText window refused all) old newer refusal
  all_listed all newer same appended = record {
    output = listing.written ++ kept;
    is_output = record {
      over = listing.over;
      lists = subst (λ (ds : List Shown). ListsDesks window 0 ds (flat_map refused_job_text refused) (listing.written ++ kept)
          listing.over) (sym same) listing.lists;
      refusal_is = listing.refusal_is;
    };
    appended = Appends-trans old new newer listing.written kept listing.appended appended;
  }

module _ (window : Window) (refused : List (ℕ × Refusal)) (desks : List Shown) (old new newer : Option (List ℕ)) (kept : List ℕ)
    (refusal : Bool) (listing : IsListing window refused desks old new kept refusal) (desk : Shown) (number : ℕ) (more : List Shown)
    (at : number ≡ length desks) (more_is : more ≡ desks ++ desk ∷ []) where
  -- one more list, and what was written of it
  pub one_written : (rest : List ℕ) (over said : Bool) → WritesList window number desk new newer kept rest over → said ≡ over →
      IsListing window refused more old newer rest (refusal || said)
  one_written rest over said writes same =
      subst (λ (b : Bool). IsListing window refused more old newer rest (refusal || b)) (sym same)
      (moved_out window refused more old new writes.more (refusal || over)
      (one_listed window refused desks old new kept refusal listing desk number more writes.more over at more_is writes.lists)
      newer rest writes.moved)

  -- a prefix was written of what is kept, or of one more list
  pub front_of_list : (all left others : List Shown) → all ≡ desks ++ left → all ≡ more ++ others →
      WritesListFront window number desk new newer kept → WritesEndedFront window old newer refused all
  front_of_list all left others whole whole_more (inl front) =
      front_listed window refused desks old new kept refusal listing all left newer whole front
  front_of_list all left others whole whole_more (inr (text, over, lists, front)) =
      front_listed window refused more old new text (refusal || over)
      (one_listed window refused desks old new kept refusal listing desk number more text over at more_is lists) all others newer whole_more
      front

-- nothing was written
pub none_listed : (window : Window) (refused : List (ℕ × Refusal)) (desks : List Shown) (old : Option (List ℕ)) →
    WritesEndedFront window old old refused desks
none_listed window refused desks old =
    still_listed window refused [] old old (flat_map refused_job_text refused) (not (is_none refused))
    (starts window refused old (flat_map refused_job_text refused) (not (is_none refused)) refl refl) desks desks refl
