use Rattle.std.proofs.Common.{[], ◌∷◌}
use Rattle.std.specs.List.{flat_map}
use Rattle.std.proofs.lemmas.Result.{on_ok_weaker}
use Rattle.itip_page.proofs.Putting.{three}
use Rattle.itip_inbox.specs.Csv.{doubled}
use Rattle.itip_inbox.proofs.Pieces.{put_ok}
use Rattle.itip_inbox.proofs.csv_records.put_quoted.Goals as goal

pub returns : goal.returns
returns c =
    on_ok_weaker c.extend_from_slice.result (λ last.
    three c.args.out.now.items c.push.new.self.items c.put_doubled.new.out.items c.extend_from_slice.new.self.items (34 ∷ [])
    (flat_map doubled c.args.octets.now) (34 ∷ []) c.in_ok-push.ensures.items c.in_ok-put_doubled.ensures last)
    (put_ok c.extend_from_slice.result c.extend_from_slice.new.self.items _ _ c.extend_from_slice.ensures.items)
