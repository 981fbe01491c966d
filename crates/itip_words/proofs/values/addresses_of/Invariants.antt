use Rattle.std.proofs.Common.{◌≡◌, map, take}
use Rattle.std.specs.String.{string_bytes}
use Rattle.itip_words.specs.Values.{address_of}
use Rattle.itip_words.proofs.values.addresses_of.Given as goal

abbrev pub invariant-loop-word : goal.invariant-loop-word
invariant-loop-word l = map string_bytes l.addresses.items ≡ map (λ word. address_of word.now) (take l.word-index l.words)
