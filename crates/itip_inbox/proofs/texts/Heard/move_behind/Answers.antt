use Rattle.std.proofs.Common.{◌∙◌, ap, refl, map, List}
use Rattle.itip_explain.specs.declared.told.ToldItem.{ToldItem}
use Rattle.itip_inbox.specs.Placing.{later_told}
use Rattle.itip_inbox.proofs.Hearing.{behind_tell}
use Rattle.itip_inbox.proofs.texts.Heard.move_behind.Goals as goal

pub returns-clause-tells : goal.returns-clause-tells
returns-clause-tells c = λ about kept source first texts tells.
    behind_tell about kept source first c.args.count texts c.args.self.now _ refl refl
    c.in_ok-refusals.ensures.later
    (c.in_ok-later.ensures.later ∙
    ap (λ (told : List ToldItem). map (later_told c.args.count) told) (ap (λ v. v.items) c.replace-told.ensures.value)) tells
