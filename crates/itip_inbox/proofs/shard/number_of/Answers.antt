use Rattle.std.proofs.Common.{◌≡◌, ◌∙◌, ◌+◌, ◌<◌, sym, ap, ap₂, ℕ, List, [], ◌∷◌, length, take, get_or, arith}
use Rattle.std.proofs.lemmas.List.{take_more, take_all}
use Rattle.std.proofs.lemmas.Grind.{fold-append}
use Rattle.std.proofs.lemmas.Nat.{mod_below}
use Rattle.itip_inbox.specs.ShardOf.{mixed, number_of}
use Rattle.itip_inbox.proofs.shard.number_of.Goals as goal

-- one byte more
mixed_more : (octets : List ℕ) (at n d octet : ℕ) → at < length octets → octet ≡ get_or octets at d → n ≡ number_of (take at octets) →
    mixed n octet ≡ number_of (take (at + 1) octets)
mixed_more octets at n d octet below is so =
    ap₂ mixed so is ∙ sym (fold-append mixed 0 (take at octets) (get_or octets at d ∷ [])) ∙
    ap number_of (sym (take_more octets at d below))

pub loop-octet-preserved : goal.loop-octet-preserved
loop-octet-preserved c = record {
  number = mixed_more c.args.octets.now c.loop-octet.octet-index c.loop-octet.number _ c.from.result c.loop-octet-test.true
      c.from.ensures c.loop-octet.invariant.number;
  small = mod_below _ 4294967296 (omega arith);
}

pub returns-clause-number : goal.returns-clause-number
returns-clause-number c = c.loop-octet.invariant.number ∙
    ap number_of (take_all c.loop-octet.octet-index c.args.octets.now c.loop-octet-test.false)

pub returns-clause-small : goal.returns-clause-small
returns-clause-small c = c.loop-octet.invariant.small
