use Rattle.std.proofs.Common.{◌≡◌, ◌+◌, ◌∷◌, [], ◌++◌, ◌∙◌, ℕ, List, take, take_all, refl, sym, ap, subst, Option}
use Rattle.std.specs.Option.{option_copied}
use Rattle.std.proofs.lemmas.List.{take_more}
use Rattle.itip_todo.specs.Table.{attendee_key}
use Rattle.itip_todo.specs.Properties.{Property}
use Rattle.itip_items.specs.declared.key.Key.{Key}
use Rattle.itip_explain.specs.Asking.{AddsAskings}
use Rattle.itip_explain.specs.declared.asked.Asking.{Asking}
use Rattle.itip_explain.proofs.Askings.{AsksLines, lines_more}
use Rattle.itip_explain.proofs.asked.add_lines.Goals as goal

pub loop-line-preserved : goal.loop-line-preserved
loop-line-preserved c =
    let by : Option Key = option_copied c.args.by in
    let lines : List Property = c.args.lines.now in
    let line : Property = c.line-item.result in
    let i : ℕ = c.loop-line.line-index in
    let before : List Asking = c.args.found.now.items in
    let found : List Asking = c.loop-line.found.items in
    let asking : Asking = record { by = c.args.by; attendee = c.in_ok-attendee.attendee } in
    let done : take (i + 1) lines ≡ take i lines ++ line ∷ [] = take_more lines i line c.loop-line-test.true ∙
    ap (λ (x : Property). take i lines ++ x ∷ []) (sym c.line-item.is) in
    subst (λ (after : List Asking). AddsAskings (AsksLines by (take (i + 1) lines)) before after) (sym c.in_ok-push.ensures.items)
    (subst (λ (ls : List Property). AddsAskings (AsksLines by ls) before (found ++ asking ∷ [])) (sym done)
    (lines_more by (take i lines) line before found asking refl (c.in_ok-attendee.ensures.key ∙ ap attendee_key c.value.ensures)
    c.loop-line.invariant))

pub returns : goal.returns
returns c =
    let by : Option Key = option_copied c.args.by in
    subst (λ (ls : List Property). AddsAskings (AsksLines by ls) c.args.found.now.items c.loop-line.found.items)
    (take_all c.loop-line.line-index c.args.lines.now c.loop-line-test.false) c.loop-line.invariant
