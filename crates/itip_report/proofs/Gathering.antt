-- The reported items of all UIDs, one UID after another.
use Rattle.std.proofs.Common.{◌≡◌, ℕ, List, [], ◌∷◌, ◌++◌, sym, ◌∙◌, ap, subst, inl, inr}
use Rattle.std.specs.List.{Contains}
use Rattle.std.specs.Option.{option_cmp}
use Rattle.std.specs.Ordering.{nat_cmp, ordering_then}
use Rattle.std.specs.Cmp.Lexicographic.{slice_cmp}
use Rattle.std.specs.declared.cmp.Ordering.TheVariants.{Less}
use Rattle.std.proofs.lemmas.List.Elements.{Contains-append_cases, Contains-append_left, Contains-append_right, Contains-push}
use Rattle.std.proofs.lemmas.List.Elements.{Contains-push_cases}
use Rattle.itip_moment.specs.Order.{moment_cmp}
use Rattle.itip_items.specs.KeyParts.{uid_of, rank_of, instance_of, attendee_of}
use Rattle.itip_items.specs.declared.item.Item.{Item}
use Rattle.itip_state.specs.Kept.{ArePart, AreUidsOf}
use Rattle.itip_state.proofs.Members.{none_in, no_pairs, pairs_append}
use Rattle.itip_report.specs.Lines.{place_cmp, AscendPlaces, AreReported}
use Rattle.itip_report.specs.Reports.{IsReported}
use Rattle.itip_report.specs.declared.report.Report.{Report}
use Rattle.itip_report.proofs.SameOf.{SaySame, say_back, part_says, reported_there, reported_heard}

-- the reported items of these UIDs
pub record ReportedOf (asked : Report) (heard : List Item) (uids : List (List ℕ)) (items : List Item) : Type 0 where
  pub ascend : AscendPlaces items
  pub each : (item : Item) → Contains items item → IsReported asked heard item × Contains uids (uid_of item.key)
  pub all : (item : Item) → IsReported asked heard item → Contains uids (uid_of item.key) → Contains items item

module _ (asked : Report) (heard : List Item) where
  pub gather_none : ReportedOf asked heard [] []
  gather_none = record {
    ascend = no_pairs (λ (a b : Item). place_cmp a.key b.key ≡ Less);
    each = λ item h. absurd (none_in item h);
    all = λ item is h. absurd (none_in (uid_of item.key) h);
  }

  module _ (done : List (List ℕ)) (items : List Item) (so : ReportedOf asked heard done items) (uid : List ℕ) (part more : List Item)
      (later : (u : List ℕ) → Contains done u → slice_cmp nat_cmp u uid ≡ Less) (are : ArePart uid part heard)
      (of : AreReported (IsReported asked part) more) where
    about : (item : Item) → Contains more item → uid_of item.key ≡ uid
    about item h = ((are item).0 (reported_heard part item asked (of.each item h))).1

    says : (item : Item) → uid_of item.key ≡ uid → SaySame (uid_of item.key) part heard
    says item e = part_says (uid_of item.key) part heard (subst (λ (u : List ℕ). ArePart u part heard) (sym e) are)

    before : (item new : Item) → Contains items item → Contains more new → place_cmp item.key new.key ≡ Less
    before item new h g =
        ap (λ o. ordering_then o (ordering_then (option_cmp moment_cmp (instance_of item.key) (instance_of new.key))
        (ordering_then (slice_cmp nat_cmp (attendee_of item.key) (attendee_of new.key))
        (nat_cmp (rank_of item.key) (rank_of new.key)))))
        (ap (λ (u : List ℕ). slice_cmp nat_cmp (uid_of item.key) u) (about new g) ∙ later (uid_of item.key) (so.each item h).1)

    pub gather_more : ReportedOf asked heard (done ++ uid ∷ []) (items ++ more)
    gather_more = record {
      ascend = pairs_append (λ (a b : Item). place_cmp a.key b.key ≡ Less) items more so.ascend of.ascend before;
      each = λ item h. elim (Contains-append_cases items more item h) [
        | inl earlier ↦ let r = so.each item earlier in (r.0, Contains-append_left done (uid ∷ []) (uid_of item.key) r.1)
        | inr new ↦
            let here = about item new in (
              reported_there part heard item (says item here) asked (of.each item new),
              subst (Contains (done ++ uid ∷ [])) (sym here) (Contains-push done uid),
            )
      ];
      all = λ item is h. elim (Contains-push_cases done uid (uid_of item.key) h) [
        | inl earlier ↦ Contains-append_left items more item (so.all item is earlier)
        | inr same ↦ Contains-append_right items more item
            (of.all item (reported_there heard part item (say_back (uid_of item.key) part heard (says item (sym same))) asked is))
      ];
    }

  pub all_gathered : (uids : List (List ℕ)) (items : List Item) → AreUidsOf uids heard → ReportedOf asked heard uids items →
      AreReported (IsReported asked heard) items
  all_gathered uids items of so = record {
    ascend = so.ascend;
    each = λ item h. (so.each item h).0;
    all = λ item is. so.all item is (of.all item (reported_heard heard item asked is));
  }
