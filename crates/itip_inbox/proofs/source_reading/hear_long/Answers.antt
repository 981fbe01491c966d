use Rattle.std.proofs.Common.{◌≡◌, ◌∙◌, ap, map, List, ℕ}
use Rattle.std.proofs.lemmas.Result.{on_ok_weaker}
use Rattle.itip_message.specs.Scanned.{messages_of}
use Rattle.itip_inbox.proofs.HeldParts.{all_read_for}
use Rattle.itip_inbox.proofs.source_reading.hear_long.Goals as goal

pub returns-clause-hears : goal.returns-clause-hears
returns-clause-hears g c =
    let all : map (λ text. text.now) c.as_slice-2.result.now ≡ messages_of c.args.held.now.octets.items =
    ap (map (λ text. text.now)) c.as_slice-2.ensures.value ∙ c.in_ok-texts.ensures ∙
    ap (λ (t : List ℕ). messages_of t) c.as_slice.ensures.value in
    on_ok_weaker c.hear_texts.result (λ hears came is.
    hears (messages_of came) (all_read_for c.args.held.now.is_long c.args.held.now.octets.items came
    (map (λ text. text.now) c.as_slice-2.result.now) is all)) c.hear_texts.ensures.hears
