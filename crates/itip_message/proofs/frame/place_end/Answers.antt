use Rattle.std.proofs.Common.{◌≡◌, ◌∙◌, sym, ap, true, false, List, ℕ, []}
use Rattle.itip_message.specs.Frame.{innermost_first, place, with_front, component_name}
use Rattle.itip_todo.specs.Participation.{same_text}
use Rattle.itip_message.proofs.Frames.{last_of, place_wrong_end, place_right_end, if_nested}
use Rattle.itip_message.proofs.frame.place_end.Goals as goal

pub returns-then-not-ended-clause-fault : goal.returns-then-not-ended-clause-fault
returns-then-not-ended-clause-fault c = if_nested c.nested.result c.args.line.now.number _ c.nested.ensures (λ lines.
    let r = last_of c.args.inside.now.items c.requires.2 in
    let other : same_text (component_name c.args.line.now.line) r.inner ≡ false =
    ap (λ (name : List ℕ). same_text name r.inner) (sym c.in_ok-name.ensures) ∙ sym (c.end-ended.ensures r.inner r.outer r.whole).0 ∙
    c.if-not-ended.true in
    place_wrong_end c.args.inside.now.items r c.args.line.now lines c.requires.0 c.requires.1 other)

pub returns-clause-placed : goal.returns-clause-placed
returns-clause-placed c = λ lines.
    let r = last_of c.args.inside.now.items c.requires.2 in
    let same : same_text (component_name c.args.line.now.line) r.inner ≡ true =
    ap (λ (name : List ℕ). same_text name r.inner) (sym c.in_ok-name.ensures) ∙ sym (c.end-ended.ensures r.inner r.outer r.whole).0 ∙
    c.if-not-ended.false in
    place_right_end c.args.inside.now.items r c.args.line.now lines c.requires.0 c.requires.1 same
    ∙ ap (λ (names : List (List ℕ)). with_front [] (place (innermost_first names) lines))
    (sym (c.end-ended.ensures r.inner r.outer r.whole).1)
