use Rattle.std.proofs.Common.{◌∙◌, sym}
use Rattle.itip_join.proofs.TakingBack.{single_is}
use Rattle.itip_join.proofs.merge.single.Goals as goal

pub returns-then-len-eq1 : goal.returns-then-len-eq1
returns-then-len-eq1 g c =
    single_is c.first_key_value.result (λ entry. (entry.0.now, entry.1.now)) c.args.map.now.entries (sym c.len.ensures.len ∙
    c.if-len-eq1.true) c.first_key_value.ensures.first
