use Rattle.std.proofs.Common.{subst}
use Rattle.std.specs.Option.{option_copied}
use Rattle.itip_items.specs.declared.key.Key.TheVariants.{Series}
use Rattle.itip_state.specs.Kept.{IsBest, IsBestOf}
use Rattle.itip_state.specs.OfUid.{UidPart}
use Rattle.itip_items.specs.declared.item.Item.{Item}
use Rattle.std.specs.List.{Contains}
use Rattle.std.proofs.Common.{◌≡◌}
use Rattle.itip_explain.specs.Knowing.{heard_by}
use Rattle.itip_explain.proofs.Becoming.{kept_alive, dead_where}
use Rattle.itip_explain.proofs.fates.Fates.killer.Goals as goal

pub returns-in-Some : goal.returns-in-Some
returns-in-Some c =
    let part = c.args.self.now.question in
    kept_alive (heard_by c.args.self.now) part.items part.uid c.requires.sound.about c.requires.sound.kept c.args.item.now
    c.in-Some.field-0.now c.requires.best
    (subst (λ (p : UidPart). IsBest p.items c.args.item.now.key c.in-Some.field-0.now) c.items-items.ensures c.in-Some.ensures)

pub returns-in-None : goal.returns-in-None
returns-in-None c =
    let part = c.args.self.now.question in
    dead_where (heard_by c.args.self.now) part.items part.uid c.requires.sound.about c.requires.sound.kept c.args.item.now
    c.requires.best
    (subst (λ (p : UidPart). (i : Item) → Contains p.items i → i.key ≡ c.args.item.now.key → ⊥) c.items-items.ensures c.in-None.ensures)
    (option_copied c.series.result)
    (subst (λ (p : UidPart). IsBestOf p.items (Series p.uid) (option_copied c.series.result)) c.items-items.ensures c.series.ensures)
