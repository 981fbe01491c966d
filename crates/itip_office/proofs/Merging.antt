-- One more job that was merged, and published if there is a running desk.
use Rattle.std.proofs.Common.{◌≡◌, ℕ, List, [], ◌∷◌, ◌++◌, map, refl, sym, ap, ◌∙◌, append_assoc, Option, Some, None}
use Rattle.std.proofs.lemmas.List.{append-nil}
use Rattle.std.proofs.lemmas.List.Elements.{All-nil, All-push}
use Rattle.itip_items.specs.declared.item.Item.{Item}
use Rattle.itip_running.specs.ContractViews.{publishes, published}
use Rattle.itip_running.specs.History.{Group}
use Rattle.itip_running.specs.declared.keeper.Keeper.{Keeper}
use Rattle.itip_office.specs.declared.job.Work.{Work}
use Rattle.itip_office.specs.Texts.{IsText}
use Rattle.itip_office.specs.Answers.{Answer, AnswersMerged}
use Rattle.itip_office.specs.LooksAndCarries.{IsBrought}
use Rattle.itip_office.specs.Merged.{AreMerged, ShowsBatch, GrewBy, IsIdle, ShowsOne, GrewShown}
use Rattle.itip_office.proofs.Sharing.{zip_push}

pub merged_more : (desk : ℕ) (answers : List Answer) (batches : List (List Item)) (answer : Answer) (batch : List Item) →
    AreMerged desk answers batches
    → AnswersMerged desk batch answer.0.work answer.1 → AreMerged desk (answers ++ answer ∷ []) (batches ++ batch ∷ [])
merged_more desk [] [] answer batch are one = (one, tt)
merged_more desk [] (b ∷ batches) answer batch are one = absurd are
merged_more desk (a ∷ answers) [] answer batch are one = absurd are
merged_more desk (a ∷ answers) (b ∷ batches) answer batch are one = (are.0, merged_more desk answers batches answer batch are.1 one)

-- the batches as groups, each by itself
abbrev alone : List (List Item) → List Group
alone batches = map (λ (batch : List Item). batch ∷ []) batches

alone_more : (batches : List (List Item)) (batch : List Item) → alone (batches ++ batch ∷ []) ≡ alone batches ++ (batch ∷ []) ∷ []
alone_more [] batch = refl
alone_more (b ∷ batches) batch = ap (λ (groups : List Group). (b ∷ []) ∷ groups) (alone_more batches batch)

-- what was seen by passes
module _ (IsSeen : ℕ → List (List Item) → Type 0) where
  grew_by_none : (desk : ℕ) (keeper : Keeper) → GrewBy desk IsSeen keeper keeper []
  grew_by_none desk keeper = record {
    batches = [];
    merged = tt;
    brought = tt;
    whole = sym (append-nil (published keeper));
    groups = λ shown. sym (append-nil (publishes keeper));
    all = λ shown. shown;
    pair = refl;
  }

  grew_more : (desk : ℕ) (old mid new : Keeper) (answers : List Answer) (answer : Answer) (batch : List Item) →
      GrewBy desk IsSeen old mid answers → AnswersMerged desk batch answer.0.work answer.1 → IsBrought IsSeen answer.0.work batch
      → ShowsBatch mid new batch → GrewBy desk IsSeen old new (answers ++ answer ∷ [])
  grew_more desk old mid new answers answer batch grew one brought shows = record {
    batches = grew.batches ++ batch ∷ [];
    merged = merged_more desk answers grew.batches answer batch grew.merged one;
    brought = zip_push (λ (a : Answer) (b : List Item). IsBrought IsSeen a.0.work b) answers grew.batches answer batch grew.brought
        brought;
    whole = shows.whole ∙ ap (λ (l : List (List Item)). l ++ batch ∷ []) grew.whole
        ∙ append_assoc (published old) grew.batches (batch ∷ []);
    groups = λ shown. shows.group (grew.all shown) ∙ ap (λ (l : List Group). l ++ (batch ∷ []) ∷ []) (grew.groups shown)
        ∙ append_assoc (publishes old) (alone grew.batches) ((batch ∷ []) ∷ [])
        ∙ ap (λ (l : List Group). publishes old ++ l) (sym (alone_more grew.batches batch));
    all = λ shown. shows.all;
    pair = shows.pair ∙ grew.pair;
  }

  pub grew_shown_none : (desk : ℕ) (shown : Option Keeper) → GrewShown desk IsSeen shown shown []
  grew_shown_none desk None = All-nil (λ (a : Answer). IsText a.0.work)
  grew_shown_none desk (Some keeper) = grew_by_none desk keeper

  pub grew_shown_more : (desk : ℕ) (old mid new : Option Keeper) (answers : List Answer) (answer : Answer) (batch : List Item) →
      GrewShown desk IsSeen old mid answers → AnswersMerged desk batch answer.0.work answer.1 → IsBrought IsSeen answer.0.work batch
      → ShowsOne answer.0.work mid new batch → GrewShown desk IsSeen old new (answers ++ answer ∷ [])
  grew_shown_more desk None None None answers answer batch grew one brought shows =
      All-push (λ (a : Answer). IsText a.0.work) answers answer grew shows
  grew_shown_more desk None None (Some n) answers answer batch grew one brought shows = absurd shows
  grew_shown_more desk None (Some m) new answers answer batch grew one brought shows = absurd grew
  grew_shown_more desk (Some o) None new answers answer batch grew one brought shows = absurd grew
  grew_shown_more desk (Some o) (Some m) None answers answer batch grew one brought shows = absurd shows
  grew_shown_more desk (Some o) (Some m) (Some n) answers answer batch grew one brought shows =
      grew_more desk o m n answers answer batch grew one brought shows

pub idle_after : (work : Work) (mid new : Option Keeper) (batch : List Item) → ShowsOne work mid new batch → IsIdle new
idle_after work None None batch shows = tt
idle_after work None (Some n) batch shows = absurd shows
idle_after work (Some m) None batch shows = absurd shows
idle_after work (Some m) (Some n) batch shows = shows.none_pending
