use Rattle.std.proofs.Common.{◌≡◌, ◌++◌, map, All}
use Rattle.std.specs.List.{flat_map}
use Rattle.std.specs.Vec.Iter.{into_iter_items}
use Rattle.itip_office.specs.Merged.{HasMerged}
use Rattle.itip_office.specs.Published.{answers_of, publication_of}
use Rattle.itip_office.specs.Ended.{AreGathered}
use Rattle.itip_office.proofs.Reports.{IsFor}
use Rattle.itip_office.proofs.gather.gather.Given as goal

abbrev pub invariant-loop-one : goal.invariant-loop-one
invariant-loop-one g l = record {
  left : All (λ k. HasMerged k.desk k.answers.items k.held.texts) (into_iter_items l.one-iterator);
  gathered : AreGathered l.desks l.answers.items l.texts.items;
  whole : l.answers.items
      ++ flat_map answers_of (map (λ k. publication_of k.desk k.answers.items k.held.shown) (into_iter_items l.one-iterator))
      ≡ l.fn.done.alone.items ++ flat_map answers_of (map (λ k. publication_of k.desk k.answers.items k.held.shown) l.fn.done.kept.items);
  own : All (λ k. All (IsFor l.desks k.desk) k.answers.items) (into_iter_items l.one-iterator)
      → All (λ k. All (IsFor l.desks k.desk) k.answers.items) l.fn.done.kept.items;
}
