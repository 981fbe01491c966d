-- SEQUENCE and DTSTAMP of what an attendee sends.
use Rattle.std.proofs.Common.{◌≡◌, ◌≢◌, ◌∙◌, refl, sym, ap, ℕ, Bool, true, false, List, [], ◌∷◌, subst, Option, Some}
use Rattle.std.specs.Ordering.{is_lt}
use Rattle.std.specs.declared.cmp.Ordering.{Ordering}
use Rattle.std.specs.declared.cmp.Ordering.TheVariants.{Less, Equal, Greater}
use Rattle.itip_moment.specs.Order.{stamp_cmp}
use Rattle.itip_moment.specs.declared.stamp.Stamp.{Stamp}
use Rattle.itip_items.specs.declared.item.Item.{Item}
use Rattle.itip_items.specs.declared.key.Key.{Key}
use Rattle.itip_writing.specs.Refreshing.{IsBefore}
use Rattle.itip_writing.specs.Replying.{IsAnswerLate, IsAnswerRevision, IsAnswerSequence, no_less}
use Rattle.itip_writing.specs.Stamping.{IsEqualRevision, IsKeptOf, IsLatestOf, IsSpentBehind, IsStampAfter, IsStampBehind, IsTimeSpent}
use Rattle.itip_writing.specs.Stamping.{later_stamp}
use Rattle.itip_writing.proofs.Latest.{latest_with, spent_of_latest, stamp_of_latest}

-- ---- what a test of the order tells

less_tested : (o : Ordering) → is_lt o ≡ true → o ≡ Less
less_tested Less e = refl
less_tested Equal e = absurd cc
less_tested Greater e = absurd cc

pub is_earlier : (latest at : Stamp) (b : Bool) → b ≡ is_lt (stamp_cmp latest at) → b ≡ true → stamp_cmp latest at ≡ Less
is_earlier latest at b is holds = less_tested (stamp_cmp latest at) (sym is ∙ holds)

pub not_earlier : (latest at : Stamp) (b : Bool) → b ≡ is_lt (stamp_cmp latest at) → b ≡ false → stamp_cmp latest at ≢ Less
not_earlier latest at b is not less = let x : true ≡ false = sym (ap is_lt less) ∙ sym is ∙ not in cc

-- ---- an answer, whose key is found as `key`

module _ (heard : List Item) (key wanted : Key) (same : key ≡ wanted) (own sequence : ℕ) (kept : Option Item)
    (is_kept : IsKeptOf heard key kept) (greatest : sequence ≡ no_less own kept) (latest : Option Stamp)
    (is_latest : IsLatestOf (IsEqualRevision heard (key ∷ []) sequence) latest) (at : Stamp) where
  sequence_found : IsAnswerSequence heard wanted own sequence
  sequence_found =
      record { answer = kept; kept = subst (λ (k : Key). IsKeptOf heard k kept) same is_kept; sequence_is = greatest }

  pub revision_found : (stamp : Stamp) → IsStampBehind latest at stamp → IsAnswerRevision heard wanted own at sequence stamp
  revision_found stamp behind = record {
    sequence_is = sequence_found;
    stamp_is = subst (λ (k : Key). IsStampAfter (IsEqualRevision heard (k ∷ []) sequence) at stamp) same
        (stamp_of_latest (IsEqualRevision heard (key ∷ []) sequence) at latest stamp is_latest behind);
  }

  pub late_found : IsSpentBehind latest at → IsAnswerLate heard wanted own at
  late_found spent = record {
    sequence = sequence;
    sequence_is = sequence_found;
    late = subst (λ (k : Key). IsTimeSpent (IsEqualRevision heard (k ∷ []) sequence) at) same
        (spent_of_latest (IsEqualRevision heard (key ∷ []) sequence) at latest is_latest spent);
  }

-- ---- a refresh request, whose key is found as `key`

module _ (heard : List Item) (key wanted : Key) (same : key ≡ wanted) (item : Item) (equal : Option Stamp)
    (is_latest : IsLatestOf (IsEqualRevision heard (key ∷ []) 0) equal) (at latest : Stamp) (is : latest ≡ later_stamp equal item.stamp)
  where
    both_latest : IsLatestOf (IsBefore heard wanted item) (Some latest)
    both_latest =
        subst (λ (s : Stamp). IsLatestOf (IsBefore heard wanted item) (Some s)) (sym is)
        (subst (λ (k : Key). IsLatestOf (IsBefore heard k item) (Some (later_stamp equal item.stamp))) same
        (latest_with (IsEqualRevision heard (key ∷ []) 0) item.stamp equal is_latest))

    pub stamp_found : (stamp : Stamp) → IsStampBehind (Some latest) at stamp → IsStampAfter (IsBefore heard wanted item) at stamp
    stamp_found stamp behind = stamp_of_latest (IsBefore heard wanted item) at (Some latest) stamp both_latest behind

    pub spent_found : IsSpentBehind (Some latest) at → IsTimeSpent (IsBefore heard wanted item) at
    spent_found spent = spent_of_latest (IsBefore heard wanted item) at (Some latest) both_latest spent
