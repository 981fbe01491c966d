use Rattle.std.proofs.Common.{ap, refl}
use Rattle.std.specs.Option.{option_copied, option_map}
use Rattle.std.specs.String.{string_bytes}
use Rattle.itip_words.specs.Options.{options_of}
use Rattle.itip_words.proofs.Asking.{who_asked, nobody_asked}
use Rattle.itip_words.proofs.Messages.{never_refresh}
use Rattle.itip_words.proofs.asked.refresh_of.Goals as goal

pub returns-in_default : goal.returns-in_default
returns-in_default c =
    never_refresh (options_of c.args.words.now)
    (nobody_asked (options_of c.args.words.now) (option_copied c.value_of-address.result) _ c.value_of-address.ensures
    c.in_ok-attendee.ensures (ap (option_map string_bytes) c.in_default.is))

pub returns : goal.returns
returns c = (
  refl,
  c.requires,
  who_asked (options_of c.args.words.now) (option_copied c.value_of-address.result) _ _ c.value_of-address.ensures
      c.in_ok-attendee.ensures (ap (option_map string_bytes) c.in-Some.is),
)
