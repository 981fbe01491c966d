use Rattle.std.proofs.Common.{◌∙◌, sym}
use Rattle.itip_inbox.proofs.Sharding.{on_no_err}
use Rattle.itip_inbox.proofs.shard.Shard.hear.Goals as goal

pub returns-clause-hears : goal.returns-clause-hears
returns-clause-hears c = λ none. on_no_err c.hear_at.result (sym c.is_err-self.ensures.value ∙ none) c.hear_at.ensures.hears
