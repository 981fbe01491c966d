use Rattle.std.proofs.Common.{◌≡◌, ◌∙◌, sym, subst, ap, refl, Option, Some, None, [], ◌∷◌}
use Rattle.std.specs.Prelude.{IfOk, IfErr}
use Rattle.std.specs.Option.{option_map}
use Rattle.itip_moment.specs.declared.moment.Moment.{Moment}
use Rattle.itip_todo.specs.Parts.{Parts}
use Rattle.itip_todo.specs.PartsOf.{parts_of}
use Rattle.itip_items.specs.Items.{ItemDraft, instance_draft, instance_key, series_draft, task_draft, raised, IsCanonical}
use Rattle.itip_items.specs.Given.{Gives, IsOver, IfLarge}
use Rattle.itip_items.specs.declared.key.Key.{Key}
use Rattle.itip_items.proofs.Drafting.{instance_canonical, series_canonical}
use Rattle.itip_items.proofs.make.task_item.Goals as goal

-- a key that is made of an option
record Made (rid : Option Moment) (make : Moment → Key) (key : Key) : Type 0 where
  id : Moment
  some : rid ≡ Some id
  key_is : key ≡ make id

made : (rid : Option Moment) (make : Moment → Key) (key : Key) → Some key ≡ option_map make rid → Made rid make key
made None make key e = absurd cc
made (Some id) make key e = record { id = id; some = refl; key_is = let same : key ≡ make id = cc in same }

none_made : (rid : Option Moment) (make : Moment → Key) → None ≡ option_map make rid → rid ≡ None
none_made None make e = refl
none_made (Some id) make e = absurd cc

pub instance_item-requires : goal.instance_item-requires
instance_item-requires c =
    let parts : Parts = parts_of c.args.todo in
    let m = made c.args.todo.rid (instance_key c.args.todo.range c.args.todo.uid) c.in-Ok-Some.key (sym c.in-Ok-Some.field-0-is ∙
    c.in-Ok-Some.ensures) in (
      subst (λ (key : Key). IsCanonical (instance_draft c.args.kind (raised parts c.args.above) key parts)) (sym m.key_is)
          (instance_canonical c.args.kind parts m.id c.args.above c.requires.0 c.requires.1 m.some),
      c.requires.2,
    )

pub series_item-requires : goal.series_item-requires
series_item-requires c =
    series_canonical c.args.kind (parts_of c.args.todo) c.requires.0 c.requires.1
    (none_made c.args.todo.rid (instance_key c.args.todo.range c.args.todo.uid) (sym c.in-Ok-None.field-0-is ∙ c.in-Ok-None.ensures))

of_instance : (k : _) (eff : _) (parts : Parts) (key : Key) → Made parts.rid (instance_key parts.range parts.uid) key →
    task_draft k eff parts.rid parts ≡ instance_draft k eff key parts
of_instance k eff parts key m = ap (λ (r : Option Moment). task_draft k eff r parts) m.some ∙
    ap (λ (n : Key). instance_draft k eff n parts) (sym m.key_is)

pub returns-in-Ok-Some-clause-found : goal.returns-in-Ok-Some-clause-found
returns-in-Ok-Some-clause-found c =
    let parts : Parts = parts_of c.args.todo in
    let m = made c.args.todo.rid (instance_key c.args.todo.range c.args.todo.uid) c.in-Ok-Some.key (sym c.in-Ok-Some.field-0-is ∙
    c.in-Ok-Some.ensures) in
    subst (λ (d : ItemDraft). IfOk c.instance_item.result (Gives d))
    (sym (of_instance c.args.kind (raised parts c.args.above) parts c.in-Ok-Some.key m)) c.instance_item.ensures.found

pub returns-in-Ok-Some-clause-large : goal.returns-in-Ok-Some-clause-large
returns-in-Ok-Some-clause-large c =
    let parts : Parts = parts_of c.args.todo in
    let m = made c.args.todo.rid (instance_key c.args.todo.range c.args.todo.uid) c.in-Ok-Some.key (sym c.in-Ok-Some.field-0-is ∙
    c.in-Ok-Some.ensures) in
    subst (λ (d : ItemDraft). IfErr c.instance_item.result (λ e. IfLarge e (IsOver (d ∷ []))))
    (sym (of_instance c.args.kind (raised parts c.args.above) parts c.in-Ok-Some.key m)) c.instance_item.ensures.large

of_series : (k : _) (eff : _) (parts : Parts) → parts.rid ≡ None → task_draft k eff parts.rid parts ≡ series_draft k parts
of_series k eff parts none = ap (λ (r : Option Moment). task_draft k eff r parts) none

pub returns-in-Ok-None-clause-found : goal.returns-in-Ok-None-clause-found
returns-in-Ok-None-clause-found c =
    let parts : Parts = parts_of c.args.todo in
    let none = none_made c.args.todo.rid (instance_key c.args.todo.range c.args.todo.uid) (sym c.in-Ok-None.field-0-is ∙
    c.in-Ok-None.ensures) in
    subst (λ (d : ItemDraft). IfOk c.series_item.result (Gives d)) (sym (of_series c.args.kind (raised parts c.args.above) parts none))
    c.series_item.ensures.found

pub returns-in-Ok-None-clause-large : goal.returns-in-Ok-None-clause-large
returns-in-Ok-None-clause-large c =
    let parts : Parts = parts_of c.args.todo in
    let none = none_made c.args.todo.rid (instance_key c.args.todo.range c.args.todo.uid) (sym c.in-Ok-None.field-0-is ∙
    c.in-Ok-None.ensures) in
    subst (λ (d : ItemDraft). IfErr c.series_item.result (λ e. IfLarge e (IsOver (d ∷ []))))
    (sym (of_series c.args.kind (raised parts c.args.above) parts none)) c.series_item.ensures.large
