use Rattle.std.proofs.lemmas.Result.{IfOk-weaker, IfErr-weaker}
use Rattle.itip_items.proofs.canonical.finish_item.Goals as goal

pub finish-requires : goal.finish-requires
finish-requires c = (
  c.requires,
  IfOk-weaker c.bytes_within-bytes.result _ _ (λ bytes whole. whole c.args.key c.args.eff) c.bytes_within-bytes.ensures.bytes,
  IfErr-weaker c.bytes_within-bytes.result _ _ (λ error large. large c.args.key c.args.eff) c.bytes_within-bytes.ensures.large,
)
