use Rattle.std.proofs.Common.{◌∙◌, ℕ, Bool, List, Option, codes, ap, subst}
use Rattle.std.specs.Option.{option_copied, option_map}
use Rattle.itip_words.specs.Asking.{IsRead, IsDueDay}
use Rattle.itip_words.specs.Days.{numbered, IsAskedWindow}
use Rattle.itip_words.specs.Options.{options_of, value_of}
use Rattle.itip_words.specs.Values.{address_of}
use Rattle.itip_words.proofs.Nothing.{list_no_window, list_no_due, list_no_form}
use Rattle.itip_words.proofs.filter.listing_of.Goals as goal

pub returns-in_default : goal.returns-in_default
returns-in_default c =
    list_no_window (options_of c.args.words.now) c.args.clock (numbered c.args.today) c.requires c.is_given-is_due.result
    c.is_given-is_due.ensures c.in_default.ensures

pub returns-in_default-asked_due : goal.returns-in_default-asked_due
returns-in_default-asked_due c =
    list_no_due (options_of c.args.words.now) c.args.clock (numbered c.args.today) c.requires (option_copied c.value_of-due.result)
    c.value_of-due.ensures c.in_default-asked_due.ensures

pub returns-in_default-asked_format : goal.returns-in_default-asked_format
returns-in_default-asked_format c =
    list_no_form (options_of c.args.words.now) c.args.clock (numbered c.args.today) c.requires c.in_default-asked_format.ensures

pub returns : goal.returns
returns c = record {
  today = numbered c.args.today;
  today_is = c.requires;
  window = subst (λ (is_due : Bool). IsAskedWindow (value_of (codes "from") (options_of c.args.words.now))
      (value_of (codes "to") (options_of c.args.words.now)) (numbered c.args.today) is_due c.in-Some.window) c.is_given-is_due.ensures
      c.in-Some.ensures;
  attendee = c.in_ok-attendee.ensures ∙ ap (option_map address_of) c.value_of-address.ensures;
  is_open = c.is_set-is_open.ensures;
  due = subst (λ (o : Option (List ℕ)). IsRead (IsDueDay (numbered c.args.today)) o c.in-Some-asked_due.due_before) c.value_of-due.ensures
      c.in-Some-asked_due.ensures;
  form = c.in-Some-asked_format.ensures;
}
