use Rattle.std.proofs.Common.{◌≡◌, ◌↔◌, IsTrue, true, false}
use Rattle.itip_recur.specs.Members.{HasTimeOf}
use Rattle.itip_recur.specs.PreparedRule.{MayRepeat, IsLaterMember}
use Rattle.itip_recur.proofs.AskedDays.{never, later_member, may_repeat}
use Rattle.itip_recur.proofs.prepared_rule.PreparedRule.repeats.Goals as goal
