use Rattle.std.proofs.Common.{List, ℕ, ◌++◌, ap, ◌∙◌}
use Rattle.std.specs.Prelude.{codes}
use Rattle.std.proofs.lemmas.Result.{on_ok_weaker}
use Rattle.json.specs.Json.{string}
use Rattle.itip_inbox.specs.JsonTokens.{member_tokens}
use Rattle.itip_inbox.proofs.JsonText.{attendee_written}
use Rattle.itip_inbox.proofs.json_records.write_attendee.Goals as goal

pub returns-clause-tokens : goal.returns-clause-tokens
returns-clause-tokens c =
    on_ok_weaker c.end_object.result (λ last.
    attendee_written c.args.attendee.now c.args.writer.now.tokens c.begin_object.new.self.tokens c.write_text.new.writer.tokens
    c.write_text-2.new.writer.tokens c.write_number.new.writer.tokens c.end_object.new.self.tokens c.in_ok-begin_object.ensures.ok
    (c.in_ok-write_text.ensures.tokens ∙ ap (λ (t : List ℕ). c.begin_object.new.self.tokens ++
    member_tokens (codes "address", string t)) c.as_str.ensures)
    (c.in_ok-write_text-2.ensures.tokens ∙ ap (λ (t : List ℕ). c.write_text.new.writer.tokens ++
    member_tokens (codes "partstat", string t)) c.as_str-2.ensures)
    c.in_ok-write_number.ensures.tokens last) c.end_object.ensures.ok
