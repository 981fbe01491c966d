use Rattle.itip_inbox.specs.Csv.{doubled}
use Rattle.itip_page.proofs.Putting.{octet_more}
use Rattle.itip_inbox.proofs.csv_records.put_doubled.Goals as goal

pub loop-octet-preserved : goal.loop-octet-preserved
loop-octet-preserved c =
    octet_more doubled c.args.octets.now c.loop-octet.octet-index c.args.out.now.items c.loop-octet.out.items
    c.put_octet.new.out.items c.loop-octet-test.true c.loop-octet.invariant c.in_ok-put_octet.ensures
