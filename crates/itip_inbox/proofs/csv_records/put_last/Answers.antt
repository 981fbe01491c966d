use Rattle.std.proofs.lemmas.Result.{on_ok_weaker}
use Rattle.std.specs.Fmt.{decimal}
use Rattle.itip_inbox.specs.Csv.{field_behind, field_of}
use Rattle.itip_inbox.proofs.Pieces.{two_put}
use Rattle.itip_inbox.proofs.csv_records.put_last.Goals as goal

pub returns : goal.returns
returns c =
    on_ok_weaker c.put_shown_number.result (λ last.
    two_put field_behind (field_of (λ text. text) c.args.row.now.summary) (field_of decimal c.args.row.now.progress)
    c.args.out.now.items c.put_summary.new.out.items c.put_shown_number.new.out.items c.in_ok-put_summary.ensures last)
    c.put_shown_number.ensures
