use Rattle.std.proofs.Common.{rules}
use Rattle.std.proofs.lemmas.List.Sorted.{answers_always}
use Rattle.itip_writing.proofs.SortedTwins.{is_below}
use Rattle.itip_writing.proofs.same_key.are_rising.Goals as goal

pub returns : goal.returns
returns c = c.is_sorted_by.ensures.cases is_below (answers_always _ _ _ (λ f a r g h. search rules))
