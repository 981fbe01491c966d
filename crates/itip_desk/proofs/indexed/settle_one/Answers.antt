use Rattle.std.proofs.Common.{◌≡◌, ◌∙◌, ◌&&◌, Bool, true, false, not, inl, inr, refl, sym, ap}
use Rattle.itip_items.specs.declared.item.Item.{Item}
use Rattle.itip_desk.specs.Entries.{entries_of}
use Rattle.itip_desk.specs.Index.{has, is_in}
use Rattle.itip_desk.proofs.indexed.settle_one.Goals as goal

differ : (b : Bool) → b ≡ false → b ≡ true → ⊥
differ b e h = let x : true ≡ false = sym h ∙ e in absurd (cc)

pub returns-then-has : goal.returns-then-has
returns-then-has c = inl (c.has.ensures.0 c.if-has.true, refl)

pub returns : goal.returns
returns c = inr (
  λ kept. differ c.has.result c.if-has.false (c.has.ensures.1 kept),
  λ e. c.take_out.ensures e ∙ ap (λ (i : Item). has c.args.index.now e && not (is_in (entries_of i) e)) c.item.ensures,
)
