use Rattle.std.proofs.Common.{◌≡◌, ◌↔◌, sym, subst, refl, List, Bool, true, false, not, Option, Some, None, Bor}
use Rattle.std.specs.Prelude.{IsTrue, is_some}
use Rattle.std.specs.Option.{option_copied}
use Rattle.itip_moment.specs.declared.moment.Moment.{Moment}
use Rattle.itip_items.specs.declared.item.Item.{Item}
use Rattle.itip_items.specs.declared.key.Key.{Key}
use Rattle.itip_items.specs.declared.key.Key.TheVariants.{Instance}
use Rattle.itip_state.specs.Kept.{IsBestOf}
use Rattle.itip_report.specs.Reports.{NoneAt, NoneAtInstance}
use Rattle.itip_report.proofs.sought.none_at_instance.Goals as goal

none_there : (items : List Item) (key : Key) (o : Option (Bor Item)) (r : Bool) → is_some o ≡ not r →
    IsBestOf items key (option_copied o) → IsTrue r ↔ NoneAt items key
none_there items key None true e h = (λ _. h, λ _. refl)
none_there items key None false e h = absurd (cc)
none_there items key (Some i) true e h = absurd (cc)
none_there items key (Some i) false e h = (λ (t : false ≡ true). absurd (cc), λ none. absurd (none i.now h.is_heard h.about))

pub returns-in-Some : goal.returns-in-Some
returns-in-Some c =
    subst (λ (id : Option Moment). IsTrue c.is_none.result ↔ NoneAtInstance c.args.items.now.items c.args.items.now.uid id)
    (sym c.in-Some.is)
    (none_there c.args.items.now.items (Instance c.args.items.now.uid c.in-Some.at) c.instance.result c.is_none.result c.is_none.ensures
    c.instance.ensures)
