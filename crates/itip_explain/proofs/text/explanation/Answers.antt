use Rattle.std.proofs.Common.{◌≡◌, ◌∙◌, sym, subst, List, ℕ}
use Rattle.itip_items.specs.declared.item.Item.{Item}
use Rattle.itip_state.specs.Kept.{AreOf}
use Rattle.itip_state.proofs.Members.{if_ok_then}
use Rattle.itip_explain.specs.Explanation.{AreLines, IsExplanation}
use Rattle.itip_explain.specs.Knowing.{told_to}
use Rattle.itip_explain.specs.Told.{heard_of}
use Rattle.itip_explain.specs.declared.told.ToldItem.{ToldItem}
use Rattle.itip_explain.proofs.Becoming.{part_kept}
use Rattle.itip_explain.proofs.text.explanation.Goals as goal

pub of-requires-2-clause-about : goal.of-requires-2-clause-about
of-requires-2-clause-about c =
    subst (λ (u : List ℕ). AreOf u (heard_of c.in_ok-latest.latest.told.now)) (sym c.in_ok-items.ensures.uid)
    (subst (λ (ts : List ToldItem). AreOf c.args.uid.now (heard_of ts)) (sym c.in_ok-latest.ensures.told) c.requires)

pub of-requires-2-clause-kept : goal.of-requires-2-clause-kept
of-requires-2-clause-kept c =
    let heard : List Item = heard_of c.in_ok-latest.latest.told.now in
    let about : AreOf c.args.uid.now heard =
    subst (λ (ts : List ToldItem). AreOf c.args.uid.now (heard_of ts)) (sym c.in_ok-latest.ensures.told) c.requires in
    part_kept c.args.uid.now c.in_ok-items.items.items c.in_ok-state.state heard about c.in_ok-state.ensures c.in_ok-items.ensures.items

pub returns : goal.returns
returns c =
    let fates = told_to c.in_ok-fates.fates in
    let told : List ToldItem = c.args.told.now in
    let same : fates ≡ told = c.in_ok-fates.ensures.told ∙ c.in_ok-latest.ensures.told in
    if_ok_then (λ text. AreLines fates c.args.names.now fates text.items)
    (λ text. IsExplanation c.args.uid.now told c.args.names.now text.items)
    c.lines.result (λ text are. record {
      about = c.requires;
      lines = subst (λ (ts : List ToldItem). AreLines ts c.args.names.now ts text.items) same are;
    }) c.lines.ensures
