use Rattle.std.proofs.Common.{◌≡◌, ◌∙◌, ◌++◌, List, ℕ, ap}
use Rattle.std.specs.Prelude.{unwrap_or}
use Rattle.itip_items.specs.KeyParts.{uid_of}
use Rattle.itip_items.specs.declared.item.Item.{Item}
use Rattle.itip_state.proofs.Members.{on_ok_then}
use Rattle.itip_desk.specs.DeskFile.{message_text, moved_at}
use Rattle.itip_desk.specs.MovedSince.{tick_at}
use Rattle.itip_desk.proofs.file_writing.append_item.Goals as goal

pub returns : goal.returns
returns c =
    let changed : List (List ℕ × ℕ) = c.args.desk.now.changed in
    let file : List ℕ = c.args.file.now.items in
    let moved : c.moved_at-moved.result ≡ moved_at changed c.args.item.now =
    c.moved_at-moved.ensures ∙ ap (λ (u : List ℕ). unwrap_or (tick_at changed u) 0)
    (c.uid.ensures ∙ ap (λ (i : Item). uid_of i.key) c.item-item.ensures) in
    on_ok_then c.append_message.result (λ grown.
    grown ∙ ap (λ (m : ℕ). file ++ message_text c.args.head m c.item-item.result.now.bytes) moved
    ∙ ap (λ (i : Item). file ++ message_text c.args.head (moved_at changed c.args.item.now) i.bytes) c.item-item.ensures)
    c.append_message.ensures
