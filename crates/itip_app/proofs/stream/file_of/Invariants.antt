use Rattle.std.proofs.Common.{ℕ, List, take}
use Rattle.std.specs.List.{Contains}
use Rattle.itip_words.specs.Streams.{names_of}
use Rattle.itip_app.proofs.stream.file_of.Given as goal

abbrev pub invariant-loop-load : goal.invariant-loop-load
invariant-loop-load l = (file : List ℕ) → Contains (names_of (take l.load-index l.loads)) (l.number, file) → ⊥
