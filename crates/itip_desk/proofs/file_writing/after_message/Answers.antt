use Rattle.std.proofs.Common.{◌≡◌, ◌∙◌, ◌++◌, List, ℕ, ap}
use Rattle.itip_desk.specs.DeskFile.{message_text, moved_at}
use Rattle.itip_desk.proofs.FileNumbers.{if_none_then, begins_not}
use Rattle.itip_desk.proofs.file_writing.after_message.Goals as goal

pub returns-clause-none : goal.returns-clause-none
returns-clause-none c =
    let text : List ℕ = message_text c.args.head (moved_at c.args.desk.now.changed c.args.item.now) c.args.item.now.bytes in
    let message : c.as_slice.result.now ≡ text =
    c.as_slice.ensures.value ∙ c.in_ok-append_item.ensures ∙ ap (λ (t : List ℕ). t ++ text) c.new-message.ensures.items in
    if_none_then c.behind.result (λ none. begins_not c.args.octets.now c.as_slice.result.now text message none) c.behind.ensures.none
