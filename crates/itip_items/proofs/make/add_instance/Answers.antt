use Rattle.std.proofs.Common.{◌≡◌, ◌∙◌, sym, subst, ap, refl, false, List, [], ◌∷◌, Option, Some, None}
use Rattle.std.specs.Option.{option_map}
use Rattle.std.proofs.lemmas.Result.{err_from_is_err_and}
use Rattle.itip_moment.specs.declared.moment.Moment.{Moment}
use Rattle.itip_todo.specs.Parts.{Parts}
use Rattle.itip_todo.specs.PartsOf.{parts_of}
use Rattle.itip_items.specs.Items.{ItemDraft, add_drafts, instance_draft, instance_key, raised, IsCanonical}
use Rattle.itip_items.specs.Given.{Adds, IsOver, IfLarge}
use Rattle.itip_items.specs.declared.key.Key.{Key}
use Rattle.itip_items.specs.declared.kind.Kind.TheVariants as kind
use Rattle.itip_items.proofs.Adding.{adds_one, adds_none}
use Rattle.itip_items.proofs.Drafting.{add_canonical}
use Rattle.itip_items.proofs.make.add_instance.Goals as goal

-- the key of the instance that DTSTART names
record Started (start : Option Moment) (make : Moment → Key) (key : Key) : Type 0 where
  id : Moment
  some : start ≡ Some id
  key_is : key ≡ make id

started : (start : Option Moment) (make : Moment → Key) (key : Key) → Some key ≡ option_map make start → Started start make key
started None make key e = absurd cc
started (Some id) make key e = record { id = id; some = refl; key_is = let same : key ≡ make id = cc in same }

not_started : (start : Option Moment) (make : Moment → Key) → None ≡ option_map make start → start ≡ None
not_started None make e = refl
not_started (Some id) make e = absurd cc

of_started : (eff : _) (parts : Parts) (key : Key) → Started parts.start (instance_key false parts.uid) key →
    add_drafts eff parts.start parts ≡ instance_draft kind.Add eff key parts ∷ []
of_started eff parts key m = ap (λ (s : Option Moment). add_drafts eff s parts) m.some ∙
    ap (λ (n : Key). instance_draft kind.Add eff n parts ∷ []) (sym m.key_is)

pub instance_item-requires : goal.instance_item-requires
instance_item-requires c =
    let parts : Parts = parts_of c.args.todo in
    let m = started c.args.todo.start (instance_key false c.args.todo.uid) c.in-Ok-Some.key (sym c.in-Ok-Some.field-0-is ∙
    c.in-Ok-Some.ensures) in (
      subst (λ (key : Key). IsCanonical (instance_draft kind.Add (raised parts c.args.above) key parts)) (sym m.key_is)
          (add_canonical parts m.id c.args.above c.requires.0 m.some),
      c.requires.1,
    )

pub returns-in_ok-push-in-Ok-Some-clause-found : goal.returns-in_ok-push-in-Ok-Some-clause-found
returns-in_ok-push-in-Ok-Some-clause-found c =
    let parts : Parts = parts_of c.args.todo in
    let m = started c.args.todo.start (instance_key false c.args.todo.uid) c.in-Ok-Some.key (sym c.in-Ok-Some.field-0-is ∙
    c.in-Ok-Some.ensures) in
    subst (λ (ds : List ItemDraft). Adds ds c.args.items.now.items c.push.new.self.items)
    (sym (of_started (raised parts c.args.above) parts c.in-Ok-Some.key m))
    (adds_one _ c.in_ok-instance_item-in-Ok-Some.field-0 c.args.items.now.items c.push.new.self.items
    c.in_ok-instance_item-in-Ok-Some.ensures.found c.in_ok-push-in-Ok-Some.ensures.items)

pub returns-in_err-instance_item-in-Ok-Some-clause-large : goal.returns-in_err-instance_item-in-Ok-Some-clause-large
returns-in_err-instance_item-in-Ok-Some-clause-large c =
    let p = err_from_is_err_and c.from_residual.result c.from_residual.ensures.1 in
    let parts : Parts = parts_of c.args.todo in
    let m = started c.args.todo.start (instance_key false c.args.todo.uid) c.in-Ok-Some.key (sym c.in-Ok-Some.field-0-is ∙
    c.in-Ok-Some.ensures) in
    rw (p.1, p.2) (subst (λ (ds : List ItemDraft). IfLarge c.in_err-instance_item-in-Ok-Some.field-0.0 (IsOver ds))
    (sym (of_started (raised parts c.args.above) parts c.in-Ok-Some.key m)) c.in_err-instance_item-in-Ok-Some.ensures.large)

pub returns-in-Ok-None-clause-found : goal.returns-in-Ok-None-clause-found
returns-in-Ok-None-clause-found c =
    let parts : Parts = parts_of c.args.todo in
    let none = not_started c.args.todo.start (instance_key false c.args.todo.uid) (sym c.in-Ok-None.field-0-is ∙ c.in-Ok-None.ensures) in
    subst (λ (ds : List ItemDraft). Adds ds c.args.items.now.items c.args.items.now.items)
    (sym (ap (λ (s : Option Moment). add_drafts (raised parts c.args.above) s parts) none)) (adds_none c.args.items.now.items)
