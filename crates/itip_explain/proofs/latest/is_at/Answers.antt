use Rattle.std.proofs.Common.{◌≡◌, ◌↔◌, ◌∙◌, sym, ap, subst, Option, Some, IsTrue}
use Rattle.std.specs.Option.{option_copied}
use Rattle.std.specs.Ordering.{is_eq}
use Rattle.itip_items.specs.declared.key.Key.{Key}
use Rattle.itip_explain.proofs.Firsts.{at_place}
use Rattle.itip_explain.proofs.latest.is_at.Goals as goal

pub returns-in-Some : goal.returns-in-Some
returns-in-Some c =
    subst (λ (o : Option Key). IsTrue c.is_eq.result ↔ (o ≡ Some c.args.key.now)) (ap option_copied (sym c.in-Some.is))
    (at_place c.in-Some.before.now c.args.key.now c.is_eq.result (c.is_eq.ensures ∙ ap is_eq c.compare_places.ensures))
