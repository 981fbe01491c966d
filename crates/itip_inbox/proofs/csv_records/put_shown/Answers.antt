use Rattle.std.proofs.Common.{List, ℕ, ◌++◌, ap, ◌∙◌}
use Rattle.std.proofs.lemmas.Result.{on_ok_weaker}
use Rattle.std.specs.Fmt.{decimal}
use Rattle.itip_todo.specs.Participation.{partstat_text}
use Rattle.itip_inbox.specs.Csv.{field_behind, field_of}
use Rattle.itip_inbox.proofs.Pieces.{three_put}
use Rattle.itip_inbox.proofs.csv_records.put_shown.Goals as goal

pub returns : goal.returns
returns c =
    on_ok_weaker c.put_shown_number.result (λ last.
    three_put field_behind c.args.attendee.now.address (partstat_text c.args.attendee.now.partstat)
    (field_of decimal c.args.attendee.now.percent) c.args.out.now.items c.put_behind.new.out.items c.put_behind-2.new.out.items
    c.put_shown_number.new.out.items
    (c.in_ok-put_behind.ensures ∙ ap (λ (t : List ℕ). c.args.out.now.items ++ field_behind t) c.as_str.ensures)
    (c.in_ok-put_behind-2.ensures ∙ ap (λ (t : List ℕ). c.put_behind.new.out.items ++ field_behind t) c.as_str-2.ensures) last)
    c.put_shown_number.ensures
