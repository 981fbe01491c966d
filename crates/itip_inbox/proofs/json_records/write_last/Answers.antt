use Rattle.std.proofs.Common.{List, ◌++◌, map, ap, ◌∙◌}
use Rattle.std.specs.Prelude.{codes}
use Rattle.std.specs.List.{flat_map}
use Rattle.std.proofs.lemmas.Result.{on_ok_weaker}
use Rattle.json.specs.Json.{array}
use Rattle.json.specs.Token.{key}
use Rattle.itip_view.specs.declared.row.ShownAttendee.{ShownAttendee}
use Rattle.itip_inbox.specs.Json.{items_of, attendee_object, number_json}
use Rattle.itip_inbox.specs.JsonTokens.{attendee_tokens, member_tokens}
use Rattle.itip_inbox.proofs.JsonText.{array_written}
use Rattle.itip_inbox.proofs.Pieces.{two_put}
use Rattle.itip_inbox.proofs.json_records.write_last.Goals as goal

pub returns-clause-tokens : goal.returns-clause-tokens
returns-clause-tokens c =
    let row = c.args.row.now in
    let shown = c.in_ok-write_attendees.ensures.tokens ∙
    ap (λ (xs : List ShownAttendee). c.begin_array.new.self.tokens ++ flat_map attendee_tokens xs) c.as_slice.ensures in
    on_ok_weaker c.write_number.result (λ last.
    two_put member_tokens (codes "attendees", array (items_of (map attendee_object row.attendees)))
    (codes "progress", number_json row.progress) c.args.writer.now.tokens c.end_array.new.self.tokens c.write_number.new.writer.tokens
    (array_written (key (codes "attendees")) row.attendees c.args.writer.now.tokens c.key.new.self.tokens
    c.begin_array.new.self.tokens c.write_attendees.new.writer.tokens c.end_array.new.self.tokens c.in_ok-key.ensures.ok
    c.in_ok-begin_array.ensures.ok shown c.in_ok-end_array.ensures.ok) last)
    c.write_number.ensures.tokens
