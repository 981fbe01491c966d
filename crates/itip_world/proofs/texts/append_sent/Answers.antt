use Rattle.std.proofs.Common.{◌≡◌, ◌++◌, ◌∙◌, ℕ, List, length, ap, append_assoc, Result, Ok, Err}
use Rattle.std.specs.Prelude.{OnOk, is_ok, if◌then◌else◌}
use Rattle.itip_world.specs.AnswerTexts.{sent_head, sent_text}
use Rattle.itip_world.proofs.texts.append_sent.Goals as goal

-- what was appended, where memory was not refused
appended : {T E : Type 0} (r : Result T E) (new old more wanted : List ℕ) → new ≡ (if is_ok r then old ++ more else old) →
    old ++ more ≡ wanted → OnOk r (new ≡ wanted)
appended (Ok x) new old more wanted is same = is ∙ same
appended (Err e) new old more wanted is same = tt

pub returns : goal.returns
returns c =
    let octets = c.args.octets.now in
    appended c.extend_from_slice.result c.extend_from_slice.new.self.items c.append_sent_head.new.output.items octets
    (c.args.output.now.items ++ sent_text c.args.desk c.args.tick c.args.items octets) c.extend_from_slice.ensures.items
    (ap (λ (t : List ℕ). t ++ octets) c.in_ok-append_sent_head.ensures
    ∙ append_assoc c.args.output.now.items (sent_head c.args.desk c.args.tick c.args.items (length octets)) octets)
