use Rattle.std.proofs.Common.{None}
use Rattle.itip_inbox.specs.Compaction.{IsCompaction}
use Rattle.itip_app.proofs.Filtering.{unknown_written, written}
use Rattle.itip_app.proofs.filters.write_replacement.Goals as goal

pub returns : goal.returns
returns g c = λ inputs are.
    let kept = rw c.in_ok-is_refused.ensures.same at c.compact-done.ensures.output in
    written (IsCompaction inputs) None None c.in_ok-is_refused.is_refused c.done_with.result c.done_with.ensures.refused
    c.done_with.ensures.whole c.done_with.ensures.is_done
    (unknown_written (IsCompaction inputs) _ _ c.in_ok-is_refused.is_refused (kept inputs are))
