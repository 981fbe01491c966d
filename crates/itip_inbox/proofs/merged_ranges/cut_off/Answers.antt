use Rattle.std.proofs.Common.{rules}
use Rattle.std.proofs.lemmas.List.Sorted.{IsPartitionPoint-from_clause}
use Rattle.itip_inbox.proofs.Ranges.{is_before, is_partitioned, cut_by_split}
use Rattle.itip_inbox.proofs.merged_ranges.cut_off.Goals as goal

pub returns : goal.returns
returns c =
    let pivot = c.args.pivot.now in
    let items = c.args.list.now.items in
    let point = IsPartitionPoint-from_clause (is_before pivot) _ _ c.partition_point-at.ensures.partitioned
    (is_partitioned pivot _ (rw c.deref.ensures.value c.requires)) (λ a r q k. search rules) in
    cut_by_split pivot items _ _ _ (rw c.deref.ensures.value at point) c.split_off.ensures.items c.split_off.ensures.tail
