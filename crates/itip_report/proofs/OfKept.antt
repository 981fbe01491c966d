-- The reports need only what is kept.
use Rattle.std.proofs.Common.{ℕ, zero, suc, List, subst, sym, inl, inr, Option, Some, None}
use Rattle.itip_moment.specs.declared.moment.Moment.{Moment}
use Rattle.itip_items.specs.KeyParts.{uid_of, instance_of}
use Rattle.itip_items.specs.declared.item.Item.{Item}
use Rattle.itip_items.specs.declared.key.Key.{Key}
use Rattle.itip_items.specs.declared.key.Key.TheVariants.{Series, Instance}
use Rattle.itip_state.specs.Kept.{IsBest, IsDead, IsKept, AreKept}
use Rattle.itip_state.specs.Organizers.{IsOrganizers, IsLastUsed}
use Rattle.itip_state.proofs.Best.{best_above}
use Rattle.itip_state.proofs.Keeping.{kept_again, series_kept}
use Rattle.itip_view.proofs.Alike.{KeepAlike, alike_back, series_alike, stands_alike, stands_from_alike, live_series_alike, governs_alike}
use Rattle.itip_report.specs.Resending.{AreResent, AreStanding, IsResendOf}
use Rattle.itip_report.specs.NextSequence.{IsNext, last_sequence}
use Rattle.itip_report.specs.Reports.{IsStanding, IsCancellation, NoneAt, NoneAtInstance, IsOrphan, IsWanted, IsReported, AreReportLines}
use Rattle.itip_report.specs.declared.report.Report.{Report}
use Rattle.itip_report.specs.declared.report.Report.TheVariants as report

module _ (x y : List Item) (same : KeepAlike x y) where
  -- a series item that was heard has a best one, which is kept
  no_series_alike : (uid : List ℕ) → NoneAt x (Series uid) → NoneAt y (Series uid)
  no_series_alike uid none item h at =
      let found = best_above y item h in
      let best : IsBest y (Series uid) found.0 = subst (λ (k : Key). IsBest y k found.0) at found.1 in
      none found.0 ((same found.0).1 (series_kept y uid found.0 best)).best.is_heard best.about

  -- an instance item is not dead if no series item was heard
  no_instance_alike : (uid : List ℕ) (id : Option Moment) → NoneAt x (Series uid) → NoneAtInstance x uid id → NoneAtInstance y uid id
  no_instance_alike uid None no_series none = tt
  no_instance_alike uid (Some id) no_series none = λ item h at.
      let found = best_above y item h in
      let best : IsBest y (Instance uid id) found.0 = subst (λ (k : Key). IsBest y k found.0) at found.1 in
      let alive : ¬ IsDead y found.0 = λ dead.
      let of_uid : IsBest y (Series uid) dead.series = subst (λ (k : Key). IsBest y (Series (uid_of k)) dead.series) best.about dead.best in
      no_series_alike uid no_series dead.series of_uid.is_heard of_uid.about in
      let kept : IsKept y found.0 = record { best = subst (λ (k : Key). IsBest y k found.0) (sym best.about) best; alive = alive } in
      none found.0 ((same found.0).1 kept).best.is_heard best.about

  standing_alike : (uid : List ℕ) (item : Item) → IsStanding x uid item → IsStanding y uid item
  standing_alike uid item is = record {
    id = is.id;
    stands = elim is.stands [
      | inl at ↦ inl (stands_alike x y same uid is.id item at)
      | inr on ↦ inr
          (stands_from_alike x y same uid is.id item on)
    ];
  }

  cancellation_alike : (item : Item) → IsCancellation x item → IsCancellation y item
  cancellation_alike item (inl is) = inl (record { best = series_alike x y same (uid_of item.key) item is.best; cancelled = is.cancelled })
  cancellation_alike item (inr is) =
      inr (record { standing = standing_alike (uid_of item.key) item is.standing; cancelled = is.cancelled })

  orphan_alike : (item : Item) → IsOrphan x item → IsOrphan y item
  orphan_alike item is = record {
    kept = (same item).0 is.kept;
    of_attendee = is.of_attendee;
    no_series = no_series_alike (uid_of item.key) is.no_series;
    no_instance = no_instance_alike (uid_of item.key) (instance_of item.key) is.no_series is.no_instance;
  }

  wanted_alike : (item : Item) → IsWanted x item → IsWanted y item
  wanted_alike item is = record {
    kept = (same item).0 is.kept;
    refresh = is.refresh;
    governing = is.governing;
    governs = governs_alike x y same (uid_of item.key) (instance_of item.key) is.governing is.governs;
    older = is.older;
  }

  pub reported_alike : (asked : Report) (item : Item) → IsReported asked x item → IsReported asked y item
  reported_alike report.Cancelled item is = cancellation_alike item is
  reported_alike report.Orphans item is = orphan_alike item is
  reported_alike report.Refresh item is = wanted_alike item is

  all_standing_alike : (uid : List ℕ) (items : List Item) → ((item : Item) → IsStanding y uid item → IsStanding x uid item) →
      AreStanding x uid items → AreStanding y uid items
  all_standing_alike uid items back are = record {
    ascend = are.ascend;
    each = λ item h. standing_alike uid item (are.each item h);
    all = λ item stands. are.all item (back item stands);
  }

  organizers_alike : (uid : List ℕ) (item : Item) → IsOrganizers x uid item → IsOrganizers y uid item
  organizers_alike uid item is = record { kept = (same item).0 is.kept; about = is.about; sent = is.sent }

pub lines_alike : (x y : List Item) → KeepAlike x y → (asked : Report) (lines : List (List ℕ)) → AreReportLines asked x lines →
    AreReportLines asked y lines
lines_alike x y same asked lines are = record {
  items = are.items;
  reported = record {
    ascend = are.reported.ascend;
    each = λ item h. reported_alike x y same asked item (are.reported.each item h);
    all = λ item is. are.reported.all item (reported_alike y x (alike_back x y same) asked item is);
  };
  lines_are = are.lines_are;
}

resent_alike : (x y : List Item) → KeepAlike x y → (uid : List ℕ) (series : Item) (overrides : List Item) →
    AreResent x uid series overrides → AreResent y uid series overrides
resent_alike x y same uid series overrides are = record {
  live = live_series_alike x y same uid series are.live;
  standing = all_standing_alike x y same uid overrides (standing_alike y x (alike_back x y same) uid) are.standing;
}

pub resend_alike : (x y : List Item) → KeepAlike x y → (uid : List ℕ) (bytes : Option (List ℕ)) → IsResendOf x uid bytes →
    IsResendOf y uid bytes
resend_alike x y same uid None none = λ item live. none item (live_series_alike y x (alike_back x y same) uid item live)
resend_alike x y same uid (Some bytes) is = record {
  series = is.series;
  live = live_series_alike x y same uid is.series is.live;
  overrides = is.overrides;
  standing = all_standing_alike x y same uid is.overrides (standing_alike y x (alike_back x y same) uid) is.standing;
  bytes_are = is.bytes_are;
}

last_used_alike : (x y : List Item) → KeepAlike x y → (uid : List ℕ) (last : Option ℕ) → IsLastUsed x uid last → IsLastUsed y uid last
last_used_alike x y same uid None none = λ item is. none item (organizers_alike y x (alike_back x y same) uid item is)
last_used_alike x y same uid (Some n) (used, above) = (
  record { item = used.item; of_organizer = organizers_alike x y same uid used.item used.of_organizer; eff_is = used.eff_is },
  λ item is. above item (organizers_alike y x (alike_back x y same) uid item is),
)

pub next_alike : (x y : List Item) → KeepAlike x y → (uid : List ℕ) (next : Option ℕ) → IsNext x uid next → IsNext y uid next
next_alike x y same uid None is = last_used_alike x y same uid (Some last_sequence) is
next_alike x y same uid (Some zero) is = last_used_alike x y same uid None is
next_alike x y same uid (Some (suc n)) (is, few) = (last_used_alike x y same uid (Some n) is, few)

module _ (kept heard : List Item) (are : AreKept kept heard) where
  pub lines_of_kept : (asked : Report) (lines : List (List ℕ)) → AreReportLines asked kept lines → AreReportLines asked heard lines
  lines_of_kept = lines_alike kept heard (kept_again kept heard are)

  pub resend_of_kept : (uid : List ℕ) (bytes : Option (List ℕ)) → IsResendOf kept uid bytes → IsResendOf heard uid bytes
  resend_of_kept = resend_alike kept heard (kept_again kept heard are)

  pub resent_of_kept : (uid : List ℕ) (series : Item) (overrides : List Item) → AreResent kept uid series overrides →
      AreResent heard uid series overrides
  resent_of_kept = resent_alike kept heard (kept_again kept heard are)

  pub next_of_kept : (uid : List ℕ) (next : Option ℕ) → IsNext kept uid next → IsNext heard uid next
  next_of_kept = next_alike kept heard (kept_again kept heard are)
