use Rattle.std.proofs.Common.{◌≡◌, sym, subst}
use Rattle.std.specs.Prelude.{IfOk, IfErr}
use Rattle.std.proofs.Common.{◌∷◌, []}
use Rattle.itip_todo.specs.Parts.{Parts}
use Rattle.itip_todo.specs.PartsOf.{parts_of}
use Rattle.itip_items.specs.Items.{ItemDraft, IsCanonical, IsFrontOf}
use Rattle.itip_items.specs.Given.{Gives, IsOver, IfLarge}
use Rattle.itip_items.specs.declared.key.Key.{Key}
use Rattle.itip_items.specs.declared.kind.Kind.{Kind}
use Rattle.itip_items.proofs.make.attendee_item.Goals as goal

abbrev draft : Kind → Key → Parts → ItemDraft
draft k key parts = record { key = key; kind = k; eff = parts.seq; parts = parts }

-- a key and a to-do that are those of a draft
drafted : (k : Kind) (key other : Key) (p q : Parts) → key ≡ other → p ≡ q → draft k key p ≡ draft k other q
drafted k key other p q e f = λ i. draft k (e i) (f i)

pub finish_behind-requires : goal.finish_behind-requires
finish_behind-requires c = (
  subst IsCanonical (sym (drafted c.args.kind c.in_ok-key.key _ (parts_of c.in-Ok.only) _ c.in_ok-key.ensures c.in-Ok.ensures))
      c.requires.0,
  subst (λ (p : Parts). IsFrontOf c.args.kind p c.args.front.now) (sym c.in-Ok.ensures) c.requires.2,
)

pub returns-in-Ok-clause-found : goal.returns-in-Ok-clause-found
returns-in-Ok-clause-found c =
    subst (λ (d : ItemDraft). IfOk c.finish_behind.result (Gives d))
    (drafted c.args.kind c.in_ok-key.key _ (parts_of c.in-Ok.only) _ c.in_ok-key.ensures c.in-Ok.ensures) c.finish_behind.ensures.found

pub returns-in-Ok-clause-large : goal.returns-in-Ok-clause-large
returns-in-Ok-clause-large c =
    subst (λ (d : ItemDraft). IfErr c.finish_behind.result (λ e. IfLarge e (IsOver (d ∷ []))))
    (drafted c.args.kind c.in_ok-key.key _ (parts_of c.in-Ok.only) _ c.in_ok-key.ensures c.in-Ok.ensures) c.finish_behind.ensures.large
