use Rattle.std.proofs.Common.{◌∙◌, ap, map, sym}
use Rattle.itip_items.specs.declared.item.Item.{Item}
use Rattle.itip_view.specs.UnmadeRows.{governing_item}
use Rattle.itip_view.specs.declared.keyed_item.AttendeeLine.{AttendeeLine}
use Rattle.itip_view.proofs.live_rows.UidView.row_of.Goals as goal

pub row_with-requires : goal.row_with-requires
row_with-requires c =
    ap (map (λ (line : AttendeeLine). line.line.now)) c.deref.ensures.value ∙ c.in-Keyed.keyed.now.of_item ∙
    ap (λ (item : Item). item.todo.attendees) (ap governing_item (sym c.in-Keyed.is))

pub row_with-requires-in-Plain : goal.row_with-requires-in-Plain
row_with-requires-in-Plain c =
    ap (map (λ (line : AttendeeLine). line.line.now)) c.deref-in-Plain.ensures.value ∙ c.in_ok-keyed-in-Plain.keyed.of_item ∙
    ap (λ (item : Item). item.todo.attendees) (c.in_ok-keyed-in-Plain.ensures ∙ ap governing_item (sym c.in-Plain.is))
