use Rattle.std.proofs.Common.{◌∙◌, Option, refl, sym, subst}
use Rattle.std.specs.Prelude.{codes}
use Rattle.itip_moment.specs.declared.moment.Moment.{Moment}
use Rattle.itip_words.specs.Asking.{IsRead, AsksAbout}
use Rattle.itip_words.specs.AskedValues.{IsMomentName}
use Rattle.itip_words.specs.Options.{options_of, value_of, values_of}
use Rattle.itip_words.proofs.Finding.{none_there, some_there}
use Rattle.itip_words.proofs.Messages.{never_onward, no_instance}
use Rattle.itip_words.proofs.asked.onward_of.Goals as goal

pub returns-then-has_values : goal.returns-then-has_values
returns-then-has_values c =
    never_onward (options_of c.args.words.now) c.requires.onward (λ uid id about none.
    some_there (values_of (codes "attendee") (options_of c.args.words.now)) (sym c.has_values.ensures ∙ c.if-has_values.true) none)

pub returns-in-Some : goal.returns-in-Some
returns-in-Some c = (
  refl,
  subst (λ (id : Option Moment). AsksAbout (options_of c.args.words.now) c.args.uid id) c.in-Some.is c.requires.about,
  none_there (values_of (codes "attendee") (options_of c.args.words.now)) (sym c.has_values.ensures ∙ c.if-has_values.false),
  c.requires.onward,
)

pub returns-in-None : goal.returns-in-None
returns-in-None c =
    never_onward (options_of c.args.words.now) c.requires.onward (λ uid id about none.
    no_instance (value_of (codes "id") (options_of c.args.words.now)) id
    (subst (λ (one : Option Moment). IsRead IsMomentName (value_of (codes "id") (options_of c.args.words.now)) one) c.in-None.is
    c.requires.about.id_is) about.id_is)
