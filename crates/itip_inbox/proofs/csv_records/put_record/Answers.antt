use Rattle.std.proofs.Common.{List, ℕ, ◌++◌, ap, ◌∙◌}
use Rattle.std.specs.Option.{option_copied}
use Rattle.std.proofs.lemmas.Result.{on_ok_weaker}
use Rattle.itip_inbox.specs.Csv.{field_text}
use Rattle.itip_inbox.proofs.CsvText.{record_put}
use Rattle.itip_inbox.proofs.Pieces.{put_ok}
use Rattle.itip_inbox.proofs.csv_records.put_record.Goals as goal

pub returns : goal.returns
returns c =
    on_ok_weaker c.extend_from_slice.result (λ last.
    record_put c.args.row.now (option_copied c.args.attendee) c.args.out.now.items c.put_field.new.out.items
    c.put_names.new.out.items c.put_numbers.new.out.items c.put_dates.new.out.items c.put_last.new.out.items
    c.put_attendee.new.out.items c.extend_from_slice.new.self.items
    (c.in_ok-put_field.ensures ∙ ap (λ (t : List ℕ). c.args.out.now.items ++ field_text t) c.as_str.ensures)
    c.in_ok-put_names.ensures c.in_ok-put_numbers.ensures c.in_ok-put_dates.ensures c.in_ok-put_last.ensures
    c.in_ok-put_attendee.ensures last)
    (put_ok c.extend_from_slice.result c.extend_from_slice.new.self.items _ _ c.extend_from_slice.ensures.items)
