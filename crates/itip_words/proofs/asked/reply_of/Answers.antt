use Rattle.std.proofs.Common.{ℕ, List, Option, ap, refl, sym, subst}
use Rattle.std.specs.Option.{option_copied, option_map}
use Rattle.std.specs.String.{string_bytes}
use Rattle.itip_words.specs.Asking.{IsRead, IsPercent}
use Rattle.itip_words.specs.Options.{options_of}
use Rattle.itip_words.proofs.Asking.{who_asked, nobody_asked}
use Rattle.itip_words.proofs.Messages.{never_reply}
use Rattle.itip_words.proofs.asked.reply_of.Goals as goal

pub returns-in_default : goal.returns-in_default
returns-in_default c =
    never_reply (options_of c.args.words.now) (λ uid id attendee status percent is. c.in_default.ensures status is.status_is)

pub returns-in_default-asked_percent : goal.returns-in_default-asked_percent
returns-in_default-asked_percent c =
    never_reply (options_of c.args.words.now) (λ uid id attendee status percent is.
    c.in_default-asked_percent.ensures percent
    (subst (λ (o : Option (List ℕ)). IsRead IsPercent o percent) (sym c.value_of-text.ensures) is.percent_is))

pub returns-in_default-2 : goal.returns-in_default-2
returns-in_default-2 c =
    never_reply (options_of c.args.words.now) (λ uid id attendee status percent is.
    nobody_asked (options_of c.args.words.now) (option_copied c.value_of-address.result) _ c.value_of-address.ensures
    c.in_ok-attendee.ensures (ap (option_map string_bytes) c.in_default-2.is) attendee is.who)

pub returns : goal.returns
returns c = (
  refl,
  record {
    about = c.requires;
    who = who_asked (options_of c.args.words.now) (option_copied c.value_of-address.result) _ _ c.value_of-address.ensures
        c.in_ok-attendee.ensures (ap (option_map string_bytes) c.in-Some-2.is);
    status_is = c.in-Some.ensures;
    percent_is = subst (λ (o : Option (List ℕ)). IsRead IsPercent o c.in-Some-asked_percent.percent) c.value_of-text.ensures
        c.in-Some-asked_percent.ensures;
  },
)
