use Rattle.std.proofs.lemmas.Result.{on_ok_weaker}
use Rattle.itip_moment.specs.Shown.{shown_moment}
use Rattle.itip_inbox.specs.Csv.{field_behind, field_of}
use Rattle.itip_inbox.proofs.Pieces.{two_put}
use Rattle.itip_inbox.proofs.csv_records.put_dates.Goals as goal

pub returns : goal.returns
returns c =
    on_ok_weaker c.put_moment-2.result (λ last.
    two_put field_behind (field_of shown_moment c.args.row.now.start) (field_of shown_moment c.args.row.now.due)
    c.args.out.now.items c.put_moment.new.out.items c.put_moment-2.new.out.items c.in_ok-put_moment.ensures last)
    c.put_moment-2.ensures
