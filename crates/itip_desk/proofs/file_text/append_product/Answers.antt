use Rattle.std.proofs.Common.{◌≡◌, ◌++◌, rules}
use Rattle.std.specs.Prelude.{codes}
use Rattle.itip_desk.specs.DeskFile.{begins_text, product_parameters}
use Rattle.itip_desk.proofs.FileWriting.{in_three}
use Rattle.itip_desk.proofs.file_text.append_product.Goals as goal

pub returns : goal.returns
unfolding lib.Utf8.encode
returns c =
    let begun : c.extend_from_slice.new.self.items ≡ c.args.file.now.items ++ begins_text = search rules in
    let ended : c.extend_from_slice-2.new.self.items ≡ c.append_form.new.file.items ++ codes ":-//itipdesk//1//EN\r\nVERSION" =
    rw c.as_bytes-2.ensures.value at c.in_ok-extend_from_slice-2.ensures.items in
    in_three c.args.file.now.items begins_text (product_parameters c.args.head) (codes ":-//itipdesk//1//EN\r\nVERSION")
    c.extend_from_slice.new.self.items c.append_form.new.file.items _ begun c.in_ok-append_form.ensures ended
