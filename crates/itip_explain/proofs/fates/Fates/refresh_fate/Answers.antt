use Rattle.std.proofs.Common.{◌↔◌, ◌∙◌, sym, subst, refl, inl, inr, IsTrue}
use Rattle.std.specs.List.{Contains}
use Rattle.itip_items.specs.declared.item.Item.{Item}
use Rattle.itip_state.specs.OfUid.{UidPart, IsUidPart}
use Rattle.itip_view.specs.Standing.{Governs}
use Rattle.itip_report.specs.Reports.{IsWanted}
use Rattle.itip_explain.specs.Fates.{IsWaitingOrAnswered}
use Rattle.itip_explain.specs.Knowing.{heard_by}
use Rattle.itip_explain.specs.declared.fate.Fate.{Fate}
use Rattle.itip_explain.proofs.Becoming.{governs_up, governs_down, report_up}
use Rattle.itip_explain.proofs.fates.Fates.refresh_fate.Goals as goal

pub governing-requires : goal.governing-requires
governing-requires c = c.ranges-ranges.ensures ∙ sym c.items-items.ensures

pub is_wanted-requires-clause-ranges : goal.is_wanted-requires-clause-ranges
is_wanted-requires-clause-ranges c = c.ranges-ranges.ensures ∙ sym c.items-items.ensures

pub is_wanted-requires-clause-among : goal.is_wanted-requires-clause-among
is_wanted-requires-clause-among c = record {
  part_is = subst IsUidPart (sym c.items-items.ensures) c.requires.sound.part;
  there = subst (λ (p : UidPart). Contains p.items c.args.item.now) (sym c.items-items.ensures)
      ((c.requires.sound.kept c.args.item.now).1 c.requires.kept);
}

pub returns-in-Some : goal.returns-in-Some
returns-in-Some c =
    let heard = heard_by c.args.self.now in
    let part = c.args.self.now.question in
    let item : Item = c.args.item.now in
    inr (record {
      governing = c.in-Some.field-0.now;
      governs = governs_up heard part.items part.uid c.requires.sound.about c.requires.sound.kept c.args.id.now c.in-Some.field-0.now
          (subst (λ (p : UidPart). Governs p.items p.uid c.args.id.now c.in-Some.field-0.now) c.items-items.ensures c.in-Some.ensures);
      by_report = subst (λ (f : Fate). IsWaitingOrAnswered heard item f) (sym c.waiting_fate.ensures)
          (report_up heard part.items part.uid c.requires.sound.about c.requires.sound.kept item c.is_wanted.result
          (subst (λ (p : UidPart). IsTrue c.is_wanted.result ↔ IsWanted p.items item) c.items-items.ensures c.is_wanted.ensures));
    })

pub returns-in-None : goal.returns-in-None
returns-in-None c =
    let part = c.args.self.now.question in
    inl (
      λ g governs. subst (λ (p : UidPart). (i : Item) → Governs p.items p.uid c.args.id.now i → ⊥) c.items-items.ensures
          c.in-None.ensures g
          (governs_down (heard_by c.args.self.now) part.items part.uid c.requires.sound.about c.requires.sound.kept
          c.args.id.now g governs),
      refl,
    )
