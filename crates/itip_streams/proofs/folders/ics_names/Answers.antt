use Rattle.std.proofs.Common.{List, String, Global, IsPermutation, subst}
use Rattle.itip_streams.proofs.folders.ics_names.Goals as goal

pub returns : goal.returns
returns c = record {
  same = subst (λ (names : List (String Global)). IsPermutation names c.sort.new.self.items) c.in_ok-found.ensures
      c.in_ok-sort.ensures.permutation;
  sorted = c.in_ok-sort.ensures.sorted;
}
