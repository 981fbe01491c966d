-- What was seen stays seen when more is seen.
use Rattle.std.proofs.Common.{◌≡◌, ℕ, List, [], ◌∷◌, ◌++◌, All, inl, inr, sym, subst, Option, Some, None}
use Rattle.std.specs.List.{Contains, AllZip}
use Rattle.std.proofs.lemmas.List.Elements.{All-append, All-weaker, Contains-append_left, Contains-append_right}
use Rattle.std.proofs.Math.Logic.{∥∥₁_elim, ∥∥₁_map, ∥∥₁_prop}
use Rattle.logbook.specs.Pages.{Book}
use Rattle.itip_items.specs.declared.item.Item.{Item}
use Rattle.itip_state.proofs.Members.{cons_first}
use Rattle.itip_view.specs.declared.window.Window.{Window}
use Rattle.itip_desk.specs.Desk.{Shown}
use Rattle.itip_running.specs.Deltas.{IsDeltaAfter}
use Rattle.itip_running.specs.ContractViews.{published}
use Rattle.itip_running.specs.declared.keeper.Keeper.{Keeper}
use Rattle.itip_office.specs.declared.job.Work.{Work}
use Rattle.itip_office.specs.declared.job.Work.TheVariants.{Text, Carry, Look}
use Rattle.itip_office.specs.declared.outcome.Outcome.{Outcome}
use Rattle.itip_office.specs.Answers.{Answer, AnswersMerged}
use Rattle.itip_office.specs.LooksAndCarries.{Source, IsOneOf, IsListed, LooksAt, IsAnswered, Brings, IsBrought}
use Rattle.itip_office.specs.Merged.{GrewBy, GrewShown, ShowsOne}
use Rattle.itip_office.specs.Published.{ArePublished}
use Rattle.itip_office.specs.Pairs.{HasKept}
use Rattle.itip_office.proofs.Merging.{grew_shown_more}

-- what is merely said to be brought is brought
pub brought_of : (P : ℕ → List (List Item) → Type 0) (work : Work) (batch : List Item) → ∥ IsBrought P work batch ∥₁ →
    IsBrought P work batch
brought_of P (Text desk bytes) batch is = tt
brought_of P (Carry from to) batch is = ∥∥₁_elim is ∥∥₁_prop (λ b. b)
brought_of P (Look desk window) batch is = tt

module _ (P Q : ℕ → List (List Item) → Type 0) (wider : (desk : ℕ) (seen : List (List Item)) → P desk seen → Q desk seen) where
  pub looks_wider : (desks : ℕ) (work : Work) (outcome : Outcome) → LooksAt desks P work outcome → LooksAt desks Q work outcome
  looks_wider desks (Text desk bytes) outcome looks = tt
  looks_wider desks (Carry from to) outcome looks = tt
  looks_wider desks (Look desk window) outcome (inl none) = inl none
  looks_wider desks (Look desk window) outcome (inr shows) =
      inr (record { seen = shows.seen; is_seen = wider desk shows.seen shows.is_seen; listed = shows.listed })

  pub answered_wider : (desks : ℕ) (a : Answer) → IsAnswered desks P a → IsAnswered desks Q a
  answered_wider desks a is = record { alone = is.alone; looks = looks_wider desks a.0.work a.1 is.looks }

  pub brought_wider : (work : Work) (batch : List Item) → IsBrought P work batch → IsBrought Q work batch
  brought_wider (Text desk bytes) batch is = tt
  brought_wider (Carry from to) batch is =
      ∥∥₁_map is (λ (b : Brings P from batch). record { seen = b.seen; is_seen = wider from b.seen b.is_seen; brings = b.brings })
  brought_wider (Look desk window) batch is = tt

  all_wider : (answers : List Answer) (batches : List (List Item)) →
      AllZip (λ (a : Answer) (b : List Item). IsBrought P a.0.work b) answers batches
      → AllZip (λ (a : Answer) (b : List Item). IsBrought Q a.0.work b) answers batches
  all_wider [] [] are = tt
  all_wider [] (b ∷ batches) are = absurd are
  all_wider (a ∷ answers) [] are = absurd are
  all_wider (a ∷ answers) (b ∷ batches) are = (brought_wider a.0.work b are.0, all_wider answers batches are.1)

  pub published_wider : (desk : ℕ) (answers : List Answer) (batches : Option (List (List Item))) → ArePublished desk P answers batches →
      ArePublished desk Q answers batches
  published_wider desk answers None are = are
  published_wider desk answers (Some batches) are = (are.0, all_wider answers batches are.1)

  pub kept_wider : (pair : Option Book) (desk : ℕ) (answers : List Answer) (texts : Shown) (shown : Option Keeper) →
      HasKept pair P desk answers texts shown → HasKept pair Q desk answers texts shown
  kept_wider pair desk answers texts None kept =
      record { merged = kept.merged; published = kept.published; of_pair = kept.of_pair }
  kept_wider pair desk answers texts (Some keeper) kept = record {
    merged = kept.merged;
    published = (kept.published.0, all_wider answers (published keeper) kept.published.1);
    of_pair = kept.of_pair;
  }

  grew_by_wider : (desk : ℕ) (old new : Keeper) (answers : List Answer) → GrewBy desk P old new answers → GrewBy desk Q old new answers
  grew_by_wider desk old new answers grew = record {
    batches = grew.batches;
    merged = grew.merged;
    brought = all_wider answers grew.batches grew.brought;
    whole = grew.whole;
    groups = grew.groups;
    all = grew.all;
    pair = grew.pair;
  }

  pub grew_shown_wider : (desk : ℕ) (old new : Option Keeper) (answers : List Answer) → GrewShown desk P old new answers →
      GrewShown desk Q old new answers
  grew_shown_wider desk None None answers grew = grew
  grew_shown_wider desk None (Some n) answers grew = absurd grew
  grew_shown_wider desk (Some o) None answers grew = absurd grew
  grew_shown_wider desk (Some o) (Some n) answers grew = grew_by_wider desk o n answers grew

-- a job that has its one source
module _ (source : Source) (desk : ℕ) (same : source.0 ≡ desk) where
  seen_here : IsOneOf (source ∷ []) desk source.1
  seen_here = subst (λ (d : ℕ). Contains (source ∷ []) (d, source.1)) same (cons_first source [])

  pub brings_here : (to : ℕ) (batch : List Item) → IsDeltaAfter source.1 0 batch → IsBrought (IsOneOf (source ∷ [])) (Carry desk to) batch
  brings_here to batch is = ∣ record { seen = source.1; is_seen = seen_here; brings = is } ∣₁

  pub shows_here : (desks : ℕ) (window : Window) (outcome : Outcome) → IsListed source.1 window outcome →
      LooksAt desks (IsOneOf (source ∷ [])) (Look desk window) outcome
  shows_here desks window outcome is = inr (record { seen = source.1; is_seen = seen_here; listed = is })

-- sources, and more of them
module _ (sources more : List Source) where
  pub one_of_left : (desk : ℕ) (seen : List (List Item)) → IsOneOf sources desk seen → IsOneOf (sources ++ more) desk seen
  one_of_left desk seen h = Contains-append_left sources more (desk, seen) h

  pub one_of_right : (desk : ℕ) (seen : List (List Item)) → IsOneOf more desk seen → IsOneOf (sources ++ more) desk seen
  one_of_right desk seen h = Contains-append_right sources more (desk, seen) h

-- what holds of each in two lists, by what was seen, holds of each in both by all that was seen
module _ {X : Type 0} (Holds : (ℕ → List (List Item) → Type 0) → X → Type 0)
    (wider : (P Q : ℕ → List (List Item) → Type 0) → ((desk : ℕ) (seen : List (List Item)) → P desk seen → Q desk seen)
    → (x : X) → Holds P x → Holds Q x) where
  pub all_together : (sources more all : List Source) (xs ys whole : List X) → all ≡ sources ++ more → whole ≡ xs ++ ys →
      All (Holds (IsOneOf sources)) xs
      → All (Holds (IsOneOf more)) ys → All (Holds (IsOneOf all)) whole
  all_together sources more all xs ys whole all_are whole_are are others_are =
      let P : ℕ → List (List Item) → Type 0 = IsOneOf (sources ++ more) in
      subst (λ (l : List Source). All (Holds (IsOneOf l)) whole) (sym all_are)
      (subst (λ (l : List X). All (Holds P) l) (sym whole_are)
      (All-append (Holds P) xs ys
      (All-weaker (Holds (IsOneOf sources)) (Holds P) (wider (IsOneOf sources) P (one_of_left sources more)) xs are)
      (All-weaker (Holds (IsOneOf more)) (Holds P) (wider (IsOneOf more) P (one_of_right sources more)) ys others_are)))

pub answered_together : (desks : ℕ) (sources more all : List Source) (answers others whole : List Answer) → all ≡ sources ++ more →
    whole ≡ answers ++ others
    → All (IsAnswered desks (IsOneOf sources)) answers → All (IsAnswered desks (IsOneOf more)) others →
    All (IsAnswered desks (IsOneOf all)) whole
answered_together desks = all_together (IsAnswered desks) (λ P Q w a is. answered_wider P Q w desks a is)

-- one more job that was merged, and what its carry had seen
pub grew_shown_seen : (desk : ℕ) (sources more all : List Source) (old mid new : Option Keeper) (answers whole : List Answer)
    (answer : Answer)
    (batch : List Item) → all ≡ sources ++ more
    → whole ≡ answers ++ answer ∷ [] → GrewShown desk (IsOneOf sources) old mid answers → AnswersMerged desk batch answer.0.work answer.1 →
    IsBrought (IsOneOf more) answer.0.work batch
    → ShowsOne answer.0.work mid new batch → GrewShown desk (IsOneOf all) old new whole
grew_shown_seen desk sources more all old mid new answers whole answer batch all_are whole_are grew one brought shows =
    let P : ℕ → List (List Item) → Type 0 = IsOneOf (sources ++ more) in
    let was = grew_shown_wider (IsOneOf sources) P (one_of_left sources more) desk old mid answers grew in
    let is = brought_wider (IsOneOf more) P (one_of_right sources more) answer.0.work batch brought in
    subst (λ (l : List Source). GrewShown desk (IsOneOf l) old new whole) (sym all_are)
    (subst (λ (l : List Answer). GrewShown desk P old new l) (sym whole_are)
    (grew_shown_more P desk old mid new answers answer batch was one is shows))
