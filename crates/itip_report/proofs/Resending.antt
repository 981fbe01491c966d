-- What is sent again of the part of a UID is what is sent of all.
use Rattle.std.proofs.Common.{◌≡◌, ap, ℕ, List, [], Bool, true, false, Option, Some, None}
use Rattle.std.specs.Prelude.{MatchBool}
use Rattle.std.specs.List.{Contains}
use Rattle.itip_items.specs.KeyParts.{uid_of}
use Rattle.itip_items.specs.declared.item.Item.{Item}
use Rattle.itip_state.specs.Kept.{ArePart}
use Rattle.itip_state.proofs.Members.{none_in}
use Rattle.itip_view.specs.Standing.{IsLiveSeries}
use Rattle.itip_report.specs.Resending.{AreResent, AreStanding, IsResendOf}
use Rattle.itip_report.proofs.SameOf.{SaySame, say_back, standing_there, live_there}

standing_all_there : (uid : List ℕ) (x y : List Item) → SaySame uid x y → (items : List Item) → AreStanding x uid items →
    AreStanding y uid items
standing_all_there uid x y same items standing = record {
  ascend = standing.ascend;
  each = λ item h. standing_there uid x y same item (standing.each item h);
  all = λ item stands. standing.all item (standing_there uid y x (say_back uid x y same) item stands);
}

pub resent_there : (uid : List ℕ) (x y : List Item) → SaySame uid x y → (series : Item) (overrides : List Item) →
    AreResent x uid series overrides → AreResent y uid series overrides
resent_there uid x y same series overrides are = record {
  live = live_there uid x y same series are.live;
  standing = standing_all_there uid x y same overrides are.standing;
}

pub resend_there : (uid : List ℕ) (x y : List Item) → SaySame uid x y → (bytes : Option (List ℕ)) → IsResendOf x uid bytes →
    IsResendOf y uid bytes
resend_there uid x y same None none = λ item live. none item (live_there uid y x (say_back uid x y same) item live)
resend_there uid x y same (Some bytes) sent = record {
  series = sent.series;
  live = live_there uid x y same sent.series sent.live;
  overrides = sent.overrides;
  standing = standing_all_there uid x y same sent.overrides sent.standing;
  bytes_are = sent.bytes_are;
}

-- ---- where a test says whether something of the UID is kept
abbrev pub SaysKept : Bool → List Item → List ℕ → Type 0
SaysKept keeps heard uid = MatchBool keeps ((item : Item) × Contains heard item × (uid_of item.key ≡ uid)) (ArePart uid [] heard)

pub none_live : (keeps : Bool) (heard : List Item) (uid : List ℕ) → SaysKept keeps heard uid → keeps ≡ false → (item : Item) →
    ¬ IsLiveSeries heard uid item
none_live true heard uid says is = absurd (cc)
none_live false heard uid says is = λ item live. none_in item ((says item).1 (live.best.is_heard, ap uid_of live.best.about))

pub some_kept : (keeps : Bool) (heard : List Item) (uid : List ℕ) → SaysKept keeps heard uid → keeps ≡ true → ArePart uid [] heard → ⊥
some_kept true heard uid says is none = none_in says.0 ((none says.0).1 (says.1, says.2))
some_kept false heard uid says is none = absurd (cc)
