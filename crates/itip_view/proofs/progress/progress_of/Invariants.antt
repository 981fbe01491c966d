use Rattle.std.proofs.Common.{◌≡◌, ◌≤◌, ◌*◌, length, sum, take}
use Rattle.itip_view.specs.Progress.{percents}
use Rattle.itip_view.proofs.progress.progress_of.Given as goal

abbrev pub invariant-loop-attendee : goal.invariant-loop-attendee
invariant-loop-attendee l = record {
  sum : l.sum ≡ sum (percents (take l.attendee-index l.shown));
  count : l.count ≡ length (percents (take l.attendee-index l.shown));
  few : l.count ≤ l.attendee-index;
  low : l.sum ≤ 255 * l.count;
}
