use Rattle.std.proofs.lemmas.Result.{on_ok_weaker}
use Rattle.itip_todo.specs.StatusText.{status_text}
use Rattle.std.specs.Fmt.{decimal}
use Rattle.itip_inbox.specs.Csv.{field_behind, field_of, row_name}
use Rattle.itip_inbox.proofs.Pieces.{three_put}
use Rattle.itip_inbox.proofs.csv_records.put_names.Goals as goal

pub returns : goal.returns
returns c =
    on_ok_weaker c.put_status.result (λ last.
    three_put field_behind (field_of (λ text. text) (row_name c.args.row.now.id)) (decimal c.args.row.now.seq)
    (field_of status_text c.args.row.now.status) c.args.out.now.items c.put_name.new.out.items c.put_number.new.out.items
    c.put_status.new.out.items c.in_ok-put_name.ensures c.in_ok-put_number.ensures last)
    c.put_status.ensures
