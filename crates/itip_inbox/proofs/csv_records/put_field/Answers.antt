use Rattle.std.proofs.Common.{◌≡◌, ◌++◌, ◌∙◌, List, ℕ, false, sym, ap}
use Rattle.std.specs.List.{list_any}
use Rattle.std.proofs.lemmas.Result.{on_ok_weaker}
use Rattle.itip_inbox.specs.Csv.{is_special}
use Rattle.itip_inbox.proofs.CsvText.{plain_field}
use Rattle.itip_inbox.proofs.Pieces.{put_ok}
use Rattle.itip_inbox.proofs.csv_records.put_field.Goals as goal

pub returns : goal.returns
returns c =
    let none : list_any is_special c.args.field.now ≡ false =
    ap (λ (t : List ℕ). list_any is_special t) (sym c.as_bytes-octets.ensures.value) ∙ sym c.needs_quotes.ensures ∙
    c.if-needs_quotes.false in
    on_ok_weaker c.extend_from_slice.result (λ is.
    is ∙ ap (λ (t : List ℕ). c.args.out.now.items ++ t) (c.as_bytes-octets.ensures.value ∙ sym (plain_field c.args.field.now none)))
    (put_ok c.extend_from_slice.result c.extend_from_slice.new.self.items _ _ c.extend_from_slice.ensures.items)
