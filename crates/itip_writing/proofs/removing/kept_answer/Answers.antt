use Rattle.std.specs.Option.{option_copied}
use Rattle.itip_items.specs.declared.key.Key.TheVariants as keys
use Rattle.itip_writing.proofs.Latest.{kept_of_best}
use Rattle.itip_writing.proofs.removing.kept_answer.Goals as goal

pub returns : goal.returns
returns c =
    kept_of_best c.args.items.now.items (keys.Answer c.args.items.now.uid (option_copied c.args.id) c.args.attendee.now)
    (option_copied c.answer.result) c.as_slice-kept.ensures.part.state c.answer.ensures
