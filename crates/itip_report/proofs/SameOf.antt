-- Two sets that say the same of a UID are reported alike.
use Rattle.std.proofs.Common.{◌≡◌, ◌↔◌, ℕ, List, refl, sym, ◌∙◌, ap, subst, inl, inr, Option, Some, None}
use Rattle.std.specs.List.{Contains}
use Rattle.itip_moment.specs.declared.moment.Moment.{Moment}
use Rattle.itip_items.specs.KeyParts.{uid_of, instance_of}
use Rattle.itip_items.specs.declared.item.Item.{Item}
use Rattle.itip_items.specs.declared.key.Key.{Key}
use Rattle.itip_items.specs.declared.key.Key.TheVariants.{Series, Instance, Range}
use Rattle.itip_state.specs.Kept.{IsBest, IsKept, ArePart}
use Rattle.itip_state.specs.OfUid.{UidPart}
use Rattle.itip_state.proofs.Keeping.{kept_in_part}
use Rattle.itip_view.specs.Standing.{StandsUnder, StandsFrom, IsLiveSeries, GovernsBetween, Governs}
use Rattle.itip_report.specs.Lines.{AreReported}
use Rattle.itip_report.specs.Sought.{IsSought, IsFor}
use Rattle.itip_report.specs.Reports.{IsStanding, IsReported, NoneAt, NoneAtInstance}
use Rattle.itip_report.specs.declared.report.Report.{Report}
use Rattle.itip_report.specs.declared.report.Report.TheVariants as report
use Rattle.itip_report.specs.declared.sought.Sought.{Sought}
use Rattle.itip_report.specs.declared.sought.Sought.TheVariants as sought

-- both have the same best and kept items of a UID, and are silent of the same keys
pub record SaySame (uid : List ℕ) (x y : List Item) : Type 0 where
  pub best : (k : Key) → uid_of k ≡ uid → (i : Item) → IsBest x k i ↔ IsBest y k i
  pub kept : (i : Item) → uid_of i.key ≡ uid → IsKept x i ↔ IsKept y i
  pub none : (k : Key) → uid_of k ≡ uid → NoneAt x k ↔ NoneAt y k

pub say_back : (uid : List ℕ) (x y : List Item) → SaySame uid x y → SaySame uid y x
say_back uid x y same = record {
  best = λ k about i. let two = same.best k about i in (two.1, two.0);
  kept = λ i about. let two = same.kept i about in (two.1, two.0);
  none = λ k about. let two = same.none k about in (two.1, two.0);
}

pub part_says : (uid : List ℕ) (part whole : List Item) → ArePart uid part whole → SaySame uid part whole
part_says uid part whole are = record {
  best = λ k about i. (
    λ best. record {
      is_heard = ((are i).0 best.is_heard).0;
      about = best.about;
      none_later = λ other h same. best.none_later other ((are other).1 (h, ap uid_of same ∙ about)) same;
    },
    λ best. record {
      is_heard = (are i).1 (best.is_heard, ap uid_of best.about ∙ about);
      about = best.about;
      none_later = λ other h same. best.none_later other ((are other).0 h).0 same;
    },
  );
  kept = λ i about. kept_in_part uid part whole are i about;
  none = λ k about. (
    λ none i h same. none i ((are i).1 (h, ap uid_of same ∙ about)) same,
    λ none i h same. none i ((are i).0 h).0 same,
  );
}

module _ (uid : List ℕ) (x y : List Item) (same : SaySame uid x y) where
  -- at an instance, or from one on
  stands_there : (key : Key) → uid_of key ≡ uid → (i : Item) → StandsUnder x uid key i → StandsUnder y uid key i
  stands_there key about i s = record {
    best = (same.best key about i).0 s.best;
    beside = λ series best. s.beside series ((same.best (Series uid) refl series).1 best);
  }

  pub standing_there : (i : Item) → IsStanding x uid i → IsStanding y uid i
  standing_there i s = record {
    id = s.id;
    stands = elim s.stands [
      | inl at ↦ inl (stands_there (Instance uid s.id) refl i at)
      | inr on ↦ inr
          (stands_there (Range uid s.id) refl i on)
    ];
  }

  pub live_there : (i : Item) → IsLiveSeries x uid i → IsLiveSeries y uid i
  live_there i s = record { best = (same.best (Series uid) refl i).0 s.best; live = s.live }

  none_at_there : (id : Option Moment) → NoneAtInstance x uid id → NoneAtInstance y uid id
  none_at_there None none = tt
  none_at_there (Some id) none = (same.none (Instance uid id) refl).0 none

module _ (uid : List ℕ) (x y : List Item) (same : SaySame uid x y) where
  range_back : (id : Moment) (i : Item) → StandsFrom y uid id i → StandsFrom x uid id i
  range_back id = stands_there uid y x (say_back uid x y same) (Range uid id) refl

  between_there : (at : Moment) (g : Item) → GovernsBetween x uid at g → GovernsBetween y uid at g
  between_there at g (inl range) = inl (record {
    id = range.id;
    rules = record {
      stands = stands_there uid x y same (Range uid range.id) refl g range.rules.stands;
      reaches = range.rules.reaches;
      greatest = λ other i s. range.rules.greatest other i (range_back other i s);
    };
    live = range.live;
  })
  between_there at g (inr (none, live)) = inr (λ id i s. none id i (range_back id i s), live_there uid x y same g live)

  governs_there : (id : Option Moment) (g : Item) → Governs x uid id g → Governs y uid id g
  governs_there None g live = live_there uid x y same g live
  governs_there (Some at) g (inl here) =
      inl (record { stands = stands_there uid x y same (Instance uid at) refl g here.stands; live = here.live })
  governs_there (Some at) g (inr (none, between)) =
      inr (λ i s. none i (stands_there uid y x (say_back uid x y same) (Instance uid at) refl i s), between_there at g between)

-- what one of them reports of the UID the other does
pub reported_there : (x y : List Item) (item : Item) → SaySame (uid_of item.key) x y → (asked : Report) → IsReported asked x item →
    IsReported asked y item
reported_there x y item same report.Cancelled (inl s) =
    inl (record { best = (same.best (Series (uid_of item.key)) refl item).0 s.best; cancelled = s.cancelled })
reported_there x y item same report.Cancelled (inr s) =
    inr (record { standing = standing_there (uid_of item.key) x y same item s.standing; cancelled = s.cancelled })
reported_there x y item same report.Orphans o = record {
  kept = (same.kept item refl).0 o.kept;
  of_attendee = o.of_attendee;
  no_series = (same.none (Series (uid_of item.key)) refl).0 o.no_series;
  no_instance = none_at_there (uid_of item.key) x y same (instance_of item.key) o.no_instance;
}
reported_there x y item same report.Refresh w = record {
  kept = (same.kept item refl).0 w.kept;
  refresh = w.refresh;
  governing = w.governing;
  governs = governs_there (uid_of item.key) x y same (instance_of item.key) w.governing w.governs;
  older = w.older;
}

-- what stands, and what is reported, was heard
pub standing_heard : (x : List Item) (uid : List ℕ) (item : Item) → IsStanding x uid item → Contains x item
standing_heard x uid item s = elim s.stands [ inl at ↦ at.best.is_heard | inr on ↦ on.best.is_heard ]

pub reported_heard : (x : List Item) (item : Item) (asked : Report) → IsReported asked x item → Contains x item
reported_heard x item report.Cancelled (inl s) = s.best.is_heard
reported_heard x item report.Cancelled (inr s) = standing_heard x (uid_of item.key) item s.standing
reported_heard x item report.Orphans o = o.kept.best.is_heard
reported_heard x item report.Refresh w = w.kept.best.is_heard

pub sought_heard : (part : UidPart) (asked : Sought) (item : Item) → IsSought asked part item → Contains part.items item
sought_heard part sought.Standing item is = standing_heard part.items part.uid item is
sought_heard part sought.Cancelled item is = reported_heard part.items item report.Cancelled is
sought_heard part sought.Orphans item is = reported_heard part.items item report.Orphans is
sought_heard part (sought.Wanted ranges) item is = reported_heard part.items item report.Refresh is

-- what is found for a report is what it reports
pub found_for : (part : UidPart) (asked : Report) (s : Sought) (items : List Item) → IsFor asked s → AreReported (IsSought s part) items →
    AreReported (IsReported asked part.items) items
found_for part asked sought.Standing items for found = absurd for
found_for part asked sought.Cancelled items for found = subst (λ (r : Report). AreReported (IsReported r part.items) items) (sym for) found
found_for part asked sought.Orphans items for found = subst (λ (r : Report). AreReported (IsReported r part.items) items) (sym for) found
found_for part asked (sought.Wanted ranges) items for found =
    subst (λ (r : Report). AreReported (IsReported r part.items) items) (sym for) found
