-- What is looked for among the kept items of one UID (our own form).
use Rattle.std.specs.Prelude.{◌≡◌}
use Rattle.std.specs.List.{Contains}
use Rattle.itip_items.specs.declared.item.Item.{Item}
use Rattle.itip_state.specs.OfUid.{UidPart, IsUidPart}
use Rattle.itip_report.specs.Reports.{IsStanding, IsCancellation, IsOrphan, IsWanted}
use Rattle.itip_report.specs.declared.report.Report.{Report}
use Rattle.itip_report.specs.declared.report.Report.TheVariants as report
use Rattle.itip_report.specs.declared.sought.Sought.{Sought}
use Rattle.itip_report.specs.declared.sought.Sought.TheVariants as sought

-- one of the kept items of a UID
pub record IsAmong (part : UidPart) (item : Item) : Type 0 where
  pub part_is : IsUidPart part
  pub there : Contains part.items item

-- the ranges that it has, if any, are those of these items
abbrev pub IsOver : UidPart → Sought → Type 0
IsOver part sought.Standing = Unit {0}
IsOver part sought.Cancelled = Unit {0}
IsOver part sought.Orphans = Unit {0}
IsOver part (sought.Wanted ranges) = ranges ≡ part

abbrev pub IsSought : Sought → UidPart → Item → Type 0
IsSought sought.Standing part item = IsStanding part.items part.uid item
IsSought sought.Cancelled part item = IsCancellation part.items item
IsSought sought.Orphans part item = IsOrphan part.items item
IsSought (sought.Wanted ranges) part item = IsWanted part.items item

-- a report looks for this
abbrev pub IsFor : Report → Sought → Type 0
IsFor asked sought.Standing = ⊥
IsFor asked sought.Cancelled = asked ≡ report.Cancelled
IsFor asked sought.Orphans = asked ≡ report.Orphans
IsFor asked (sought.Wanted ranges) = asked ≡ report.Refresh
