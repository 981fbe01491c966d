-- What an office has shown, from what its threads did.
use Rattle.std.proofs.Common.{◌≡◌, ℕ, ◌<◌, List, [], ◌∷◌, ◌++◌, length, map, get_or, All, refl, sym, ap, subst, ◌∙◌}
use Rattle.std.proofs.Common.{Option, Some, None, Result, Ok, Err}
use Rattle.std.specs.Prelude.{IsPermutation, IfOk, option_map}
use Rattle.std.specs.List.{AllZip, flat_map}
use mathlib.Core.List.{IsPrefix}
use Rattle.std.proofs.lemmas.Option.{slice_get-map, slice_get_read}
use Rattle.std.proofs.lemmas.List.Elements.{All-nil, All-cons, All-head, All-tail, All-map, All-weaker}
use Rattle.std.proofs.lemmas.List.Elements.{All-contains}
use Rattle.std.proofs.lemmas.List.Sorted.{IsPermutation-refl, IsPermutation-trans}
use Rattle.logbook.specs.Pages.{Book}
use Rattle.itip_items.specs.declared.item.Item.{Item}
use Rattle.itip_desk.specs.Desk.{Shown}
use Rattle.itip_running.specs.History.{Group, batches_of}
use Rattle.itip_running.specs.ContractViews.{published, keeper_pair}
use Rattle.itip_running.specs.declared.keeper.Keeper.{Keeper}
use Rattle.itip_office.specs.Texts.{desk_of}
use Rattle.itip_office.specs.Answers.{Answer, AnswersAlone}
use Rattle.itip_office.specs.LooksAndCarries.{Source, IsOneOf, LooksAt, IsAnswered, IsBrought}
use Rattle.itip_office.specs.Merged.{AreMerged, IsMerged, GrewShown, GrewTexts}
use Rattle.itip_office.specs.Published.{Publication, shown_of, publication_of, IsBeginning, ArePublished, AreShown}
use Rattle.itip_office.specs.Published.{IsPublication, HasShown, answers_of}
use Rattle.itip_office.specs.Pairs.{IsOfPair, IsUnpublished, IsFresh, HasKept}
use Rattle.itip_office.proofs.Taking.{has_merged}
use Rattle.itip_office.proofs.Reports.{IsFor}
use Rattle.itip_office.proofs.Seeing.{looks_wider, published_wider}

-- a keeper that had published nothing
published_of : (desk : ℕ) (IsSeen : ℕ → List (List Item) → Type 0) (old new : Option Keeper) (answers : List Answer) → IsUnpublished old →
    All (IsMerged desk) answers → GrewShown desk IsSeen old new answers → ArePublished desk IsSeen answers (shown_of new)
published_of desk IsSeen None None answers none merged grew = λ i a low. (grew i a low, merged i a low)
published_of desk IsSeen None (Some n) answers none merged grew = absurd grew
published_of desk IsSeen (Some o) None answers none merged grew = absurd grew
published_of desk IsSeen (Some o) (Some n) answers none merged grew =
    let all : grew.batches ≡ published n = sym (grew.whole ∙ ap (λ (l : List Group). batches_of l ++ grew.batches) none) in (
      subst (λ (l : List (List Item)). AreMerged desk answers l) all grew.merged,
      subst (λ (l : List (List Item)). AllZip (λ (a : Answer) (b : List Item). IsBrought IsSeen a.0.work b) answers l) all grew.brought,
    )

of_pair : (pair : Option Book) (desk : ℕ) (IsSeen : ℕ → List (List Item) → Type 0) (old new : Option Keeper) (answers : List Answer) →
    IsOfPair pair old → GrewShown desk IsSeen old new answers → IsOfPair pair new
of_pair pair desk IsSeen None None answers is grew = tt
of_pair pair desk IsSeen None (Some n) answers is grew = absurd grew
of_pair pair desk IsSeen (Some o) None answers is grew = tt
of_pair pair desk IsSeen (Some o) (Some n) answers is grew = grew.pair ∙ is

pub has_kept : (pair : Option Book) (desk : ℕ) (IsSeen : ℕ → List (List Item) → Type 0) (texts ended : Shown) (old new : Option Keeper)
    (answers : List Answer) → IsFresh pair texts old
    → GrewTexts desk texts ended answers → GrewShown desk IsSeen old new answers → HasKept pair IsSeen desk answers ended new
has_kept pair desk IsSeen texts ended old new answers fresh grew shown = record {
  merged = has_merged desk texts ended answers fresh.empty grew;
  published = published_of desk IsSeen old new answers fresh.unpublished grew.each shown;
  of_pair = of_pair pair desk IsSeen old new answers fresh.of_pair shown;
}

-- what was seen is a beginning of what the keeper at a place has published
pub beginning_at : {X : Type 0} (f : X → Publication) (xs : List X) (desk : ℕ) (x : X) → desk < length xs → x ≡ get_or xs desk x →
    (seen batches : List (List Item)) → (f x).desk ≡ desk
    → (f x).batches ≡ Some batches → IsPrefix seen batches → IsBeginning (map f xs) desk seen
beginning_at f xs desk x low at seen batches of_desk are begins = record {
  publication = f x;
  at = slice_get-map f xs desk ∙ ap (option_map f) (slice_get_read xs (length xs) desk x refl low at);
  of_desk = of_desk;
  batches = batches;
  are = are;
  begins = begins;
}

-- keepers, each with the number of its desk, its answers and its running desk
module _ {X : Type 0} (number : X → ℕ) (answers : X → List Answer) (shown : X → Option Keeper) where
  abbrev pub publications : List X → List Publication
  publications kept = map (λ (k : X). publication_of (number k) (answers k) (shown k)) kept

  -- the one at a place has the pair of its number
  pub pair_at_place : (pair : ℕ → Option Book) (kept : List X) (place : ℕ) (one : X) (keeper : Keeper) (desk : ℕ) →
      All (λ (k : X). IsOfPair (pair (number k)) (shown k)) kept → place < length kept → one ≡ get_or kept place one →
      number one ≡ desk → shown one ≡ Some keeper → keeper_pair keeper ≡ pair desk
  pair_at_place pair kept place one keeper desk all low at same is =
      let own : IsOfPair (pair (number one)) (shown one) =
      subst (λ (k : X). IsOfPair (pair (number k)) (shown k)) (sym at) (all place one low) in
      subst (λ (o : Option Keeper). IsOfPair (pair (number one)) o) is own ∙ ap pair same

  -- what was seen is a beginning of what the one at a place has published
  pub begins_at_place : (kept : List X) (place : ℕ) (one : X) (keeper : Keeper) (desk : ℕ) (seen : List (List Item)) →
      place < length kept → one ≡ get_or kept place one → place ≡ desk → number one ≡ desk → shown one ≡ Some keeper
      → IsPrefix seen (published keeper) → IsBeginning (publications kept) desk seen
  begins_at_place kept place one keeper desk seen low at here same is begins =
      subst (λ (n : ℕ). IsBeginning (publications kept) n seen) here
      (beginning_at (λ (k : X). publication_of (number k) (answers k) (shown k)) kept place one low at seen (published keeper)
      (same ∙ sym here) (ap shown_of is) begins)

-- what one of the sources has is a beginning of what was published, if each is
seen_in : (ps : List Publication) (sources : List Source) → All (λ (s : Source). IsBeginning ps s.0 s.1) sources → (desk : ℕ)
    (seen : List (List Item)) → IsOneOf sources desk seen → IsBeginning ps desk seen
seen_in ps sources all desk seen h = All-contains (λ (s : Source). IsBeginning ps s.0 s.1) sources (desk, seen) all h

pub are_shown : (desks : ℕ) (alone : List Answer) (looked carried : List Source) (ps : List Publication) →
    All (λ (s : Source). IsBeginning ps s.0 s.1) looked
    → All (λ (s : Source). IsBeginning ps s.0 s.1) carried → All (IsAnswered desks (IsOneOf looked)) alone →
    All (λ (p : Publication). ArePublished p.desk (IsOneOf carried) p.answers p.batches) ps
    → AreShown desks alone ps
are_shown desks alone looked carried ps all_looked all_carried answered each = record {
  looks = All-weaker (IsAnswered desks (IsOneOf looked)) (λ (a : Answer). LooksAt desks (IsBeginning ps) a.0.work a.1)
      (λ a is. looks_wider (IsOneOf looked) (IsBeginning ps) (seen_in ps looked all_looked) desks a.0.work a.1 is.looks) alone answered;
  each = All-weaker (λ (p : Publication). ArePublished p.desk (IsOneOf carried) p.answers p.batches)
      (λ (p : Publication). ArePublished p.desk (IsBeginning ps) p.answers p.batches)
      (λ p are. published_wider (IsOneOf carried) (IsBeginning ps) (seen_in ps carried all_carried) p.desk p.answers p.batches are) ps each;
}

-- all that threads returned, if what was seen is a beginning of what was published
module _ {X : Type 0} (number : X → ℕ) (answers : X → List Answer) (texts : X → Shown) (shown : X → Option Keeper) (pair : ℕ → Option Book)
  where
    pub all_shown : (desks : ℕ) (alone : List Answer) (looked carried : List Source) (kept : List X) →
        All (λ (s : Source). IsBeginning (publications number answers shown kept) s.0 s.1) looked
        → All (λ (s : Source). IsBeginning (publications number answers shown kept) s.0 s.1) carried
        → All (IsAnswered desks (IsOneOf looked)) alone
        → All (λ (k : X). HasKept (pair (number k)) (IsOneOf carried) (number k) (answers k) (texts k) (shown k)) kept
        → AreShown desks alone (publications number answers shown kept)
    all_shown desks alone looked carried kept all_looked all_carried answered has =
        are_shown desks alone looked carried (publications number answers shown kept) all_looked all_carried answered
        (All-map (λ (p : Publication). ArePublished p.desk (IsOneOf carried) p.answers p.batches)
        (λ (k : X). publication_of (number k) (answers k) (shown k)) kept
        (All-weaker (λ (k : X). HasKept (pair (number k)) (IsOneOf carried) (number k) (answers k) (texts k) (shown k))
        (λ (k : X). ArePublished (number k) (IsOneOf carried) (answers k) (shown_of (shown k))) (λ k is. is.published) kept has))

-- what follows from three facts about a value
pub ok_from : {T E : Type 0} (r : Result T E) (A B C D : T → Type 0) → ((x : T) → A x → B x → C x → D x) → IfOk r A → IfOk r B → IfOk r C →
    IfOk r D
ok_from (Ok x) A B C D f a b c = f x a b c
ok_from (Err e) A B C D f a b c = tt

-- what keepers published, for `desks` desks
module _ (desks : ℕ) (ps : List Publication) where
  each_of : (rest : List Publication) → All (λ (p : Publication). ArePublished p.desk (IsBeginning ps) p.answers p.batches) rest
      → All (λ (p : Publication). All (IsFor desks p.desk) p.answers) rest → All (IsPublication ps) rest
  each_of [] are own = All-nil (IsPublication ps)
  each_of (p ∷ rest) are own =
      All-cons (IsPublication ps) p rest
      (record {
        for_desk = All-weaker (IsFor desks p.desk) (λ (a : Answer). desk_of a.0.work ≡ p.desk) (λ a is. is.0) p.answers
            (All-head (λ (q : Publication). All (IsFor desks q.desk) q.answers) p rest own);
        batches = All-head (λ (q : Publication). ArePublished q.desk (IsBeginning ps) q.answers q.batches) p rest are;
      })
      (each_of rest (All-tail (λ (q : Publication). ArePublished q.desk (IsBeginning ps) q.answers q.batches) p rest are)
      (All-tail (λ (q : Publication). All (IsFor desks q.desk) q.answers) p rest own))

  pub has_shown : (alone : List Answer) → All (λ (a : Answer). AnswersAlone desks a.0.work a.1) alone → AreShown desks alone ps →
      All (λ (p : Publication). All (IsFor desks p.desk) p.answers) ps → HasShown desks (alone ++ flat_map answers_of ps)
  has_shown alone are shown own = record {
    alone = alone;
    publications = ps;
    answers_are = IsPermutation-refl (alone ++ flat_map answers_of ps);
    alone_are = are;
    looks = shown.looks;
    each = each_of ps shown.each own;
  }

pub shown_permuted : (desks : ℕ) (given answers : List Answer) → IsPermutation given answers → HasShown desks given → HasShown desks answers
shown_permuted desks given answers order shown = record {
  alone = shown.alone;
  publications = shown.publications;
  answers_are = IsPermutation-trans (shown.alone ++ flat_map answers_of shown.publications) given answers shown.answers_are order;
  alone_are = shown.alone_are;
  looks = shown.looks;
  each = shown.each;
}
