use Rattle.std.proofs.Common.{List, ℕ, Option, subst, inl, inr, rules, w32}
use Rattle.std.specs.Prelude.{IfOk}
use Rattle.std.proofs.lemmas.Int.{to_z-of_z}
use mir.Val.{SFits}
use Rattle.itip_recur.specs.Occurrences.{AreOccurrences}
use Rattle.itip_state.proofs.Members.{if_ok_then}
use Rattle.itip_items.specs.declared.item.Item.{Item}
use Rattle.itip_view.specs.RowsOfUid.{IsWhole, AreOccurrencesOf}
use Rattle.itip_view.specs.declared.whole.Whole.{Whole}
use Rattle.itip_view.proofs.Occurring.{occurrences_are, single_occurs, opaque_occurs}
use Rattle.itip_view.proofs.whole.occurrences.Goals as goal

pub returns-in-Repeats : goal.returns-in-Repeats
returns-in-Repeats c =
    let from : SFits w32 c.args.window.from = search rules in
    let to : SFits w32 c.args.window.to = search rules in
    let found : IfOk c.all_occurrences.result (λ moments. AreOccurrences c.in-Repeats.series c.args.window.from c.args.window.to
    moments.items) = simp to_z-of_z at c.all_occurrences.ensures in
    if_ok_then (λ moments. AreOccurrences c.in-Repeats.series c.args.window.from c.args.window.to moments.items)
    (λ moments. (heard : List Item) (uid : List ℕ) → IsWhole heard uid c.args.whole.now →
    AreOccurrencesOf heard c.args.window uid moments.items) c.all_occurrences.result
    (λ moments are heard uid is. occurrences_are heard c.args.window uid c.in-Some.whole c.in-Repeats.series moments.items c.in-Repeats.is
    (subst (λ (w : Option Whole). IsWhole heard uid w) c.in-Some.is is) are)
    found

pub returns-in-Single : goal.returns-in-Single
returns-in-Single c = λ heard uid is. elim c.in-Single.is [
  | inl single ↦ single_occurs heard c.args.window uid c.in-Some.whole c.new-in-Single.result.items c.new-in-Single.ensures.items single
      (subst (λ (w : Option Whole). IsWhole heard uid w) c.in-Some.is is)
  | inr opaque ↦ opaque_occurs heard c.args.window uid c.in-Some.whole c.new-in-Single.result.items c.new-in-Single.ensures.items opaque
      (subst (λ (w : Option Whole). IsWhole heard uid w) c.in-Some.is is)
]
