use Rattle.std.proofs.lemmas.Result.{on_ok_weaker}
use Rattle.itip_inbox.specs.Json.{name_members, number_members, date_members, last_members}
use Rattle.itip_inbox.proofs.JsonText.{object_written}
use Rattle.itip_inbox.proofs.json_records.write_object.Goals as goal

pub returns-clause-tokens : goal.returns-clause-tokens
returns-clause-tokens c =
    on_ok_weaker c.end_object.result (λ last.
    object_written (name_members c.args.row.now) (number_members c.args.row.now) (date_members c.args.row.now)
    (last_members c.args.row.now) c.args.writer.now.tokens c.begin_object.new.self.tokens c.write_names.new.writer.tokens
    c.write_numbers.new.writer.tokens c.write_dates.new.writer.tokens c.write_last.new.writer.tokens c.end_object.new.self.tokens
    c.in_ok-begin_object.ensures.ok c.in_ok-write_names.ensures.tokens c.in_ok-write_numbers.ensures.tokens
    c.in_ok-write_dates.ensures.tokens c.in_ok-write_last.ensures.tokens last)
    c.end_object.ensures.ok
