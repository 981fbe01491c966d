use Rattle.std.proofs.Common.{map, take, All}
use Rattle.itip_office.specs.Published.{IsBeginning, publication_of}
use Rattle.itip_office.proofs.team.are_published.Given as goal

abbrev pub invariant-loop-source : goal.invariant-loop-source
invariant-loop-source g l =
    All (λ s. IsBeginning (map (λ k. publication_of k.desk k.answers.items k.held.shown) l.kept) s.0 s.1) (take l.source-index l.sources)
