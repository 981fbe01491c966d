use Rattle.std.proofs.lemmas.Result.{IfOk-weaker, IfErr-weaker}
use Rattle.itip_items.proofs.canonical.finish_behind.Goals as goal

pub finish-requires : goal.finish-requires
finish-requires c = (
  c.requires.0,
  IfOk-weaker c.bytes_sharing-bytes.result _ _ (λ bytes whole. whole c.args.key c.args.todo.seq) c.bytes_sharing-bytes.ensures.bytes,
  IfErr-weaker c.bytes_sharing-bytes.result _ _ (λ error large. large c.args.key c.args.todo.seq) c.bytes_sharing-bytes.ensures.large,
)
