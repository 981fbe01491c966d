use Rattle.std.proofs.Common.{◌≡◌, ◌++◌, drop}
use Rattle.itip_office.specs.Scripts.{refused_of}
use Rattle.itip_office.proofs.script.refused_jobs.Given as goal

abbrev pub invariant-loop-reply : goal.invariant-loop-reply
invariant-loop-reply l = l.refused.items ++ refused_of (drop l.reply-index l.replies) ≡ l.fn.others.items ++ refused_of l.replies
