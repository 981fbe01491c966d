use Rattle.std.proofs.Common.{◌≡◌, ◌∙◌, ◌++◌, ◌∷◌, [], ◌+◌, ℕ, List, take, sym, ap, append_assoc, arith, append-nil}
use Rattle.std.proofs.lemmas.List.{map_more, take_all}
use Rattle.itip_items.specs.KeyParts.{uid_of}
use Rattle.itip_items.specs.declared.item.Item.{Item}
use Rattle.itip_desk.specs.FileReading.{moves_at}
use Rattle.itip_desk.proofs.file_reading.push_moves.Goals as goal

pub loop-item-init : goal.loop-item-init
loop-item-init c = sym (append-nil c.args.moves.now.items)

pub loop-item-preserved : goal.loop-item-preserved
loop-item-preserved c =
    let item : Item = c.item-item.result in
    let i = c.loop-item.item-index in
    let uid : c.in_ok-clone.field-0 ≡ uid_of item.key = c.in_ok-clone.ensures.cases ∙ c.uid.ensures in
    let more : moves_at c.args.moved (take (i + 1) c.args.items.now) ≡
    moves_at c.args.moved (take i c.args.items.now) ++ (uid_of item.key, c.args.moved) ∷ [] =
    map_more (λ (it : Item). (uid_of it.key, c.args.moved)) c.args.items.now i item (omega arith)
    ∙ ap (λ (it : Item). moves_at c.args.moved (take i c.args.items.now) ++ (uid_of it.key, c.args.moved) ∷ []) (sym c.item-item.is) in
    c.in_ok-push.ensures.items ∙ ap (λ (ms : List (List ℕ × ℕ)). ms ++ (c.in_ok-clone.field-0, c.args.moved) ∷ []) c.loop-item.invariant
    ∙ append_assoc c.args.moves.now.items (moves_at c.args.moved (take i c.args.items.now)) ((c.in_ok-clone.field-0, c.args.moved) ∷ [])
    ∙ ap (λ (u : List ℕ). c.args.moves.now.items ++ (moves_at c.args.moved (take i c.args.items.now) ++ (u, c.args.moved) ∷ [])) uid
    ∙ ap (λ (ms : List (List ℕ × ℕ)). c.args.moves.now.items ++ ms) (sym more)

pub returns : goal.returns
returns c =
    c.loop-item.invariant ∙ ap (λ (its : List Item). c.args.moves.now.items ++ moves_at c.args.moved its)
    (take_all c.loop-item.item-index c.args.items.now (omega arith))
