use Rattle.std.proofs.Common.{◌∙◌, ◌++◌, ℕ, List, ap}
use Rattle.itip_writing.proofs.Composed.{front_written}
use Rattle.itip_writing.proofs.message.begun.Goals as goal

pub returns : goal.returns
returns c =
    front_written c.args.method c.new-octets.result.items c.extend_from_slice.new.self.items c.extend_from_slice-2.new.self.items
    c.new-octets.ensures.items c.in_ok-extend_from_slice.ensures.items
    (c.in_ok-extend_from_slice-2.ensures.items ∙ ap (λ (line : List ℕ). c.extend_from_slice.new.self.items ++ line) c.method_line.ensures)
