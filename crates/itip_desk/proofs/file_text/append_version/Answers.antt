use Rattle.std.proofs.Common.{◌≡◌, ◌++◌, rules}
use Rattle.std.specs.Prelude.{codes}
use Rattle.itip_desk.specs.DeskFile.{tick_parameters, parameter_text}
use Rattle.itip_desk.proofs.FileWriting.{in_three}
use Rattle.itip_desk.proofs.file_text.append_version.Goals as goal

pub returns : goal.returns
unfolding lib.Utf8.encode
returns c =
    let ended : c.extend_from_slice.new.self.items ≡ c.append_parameter.new.file.items ++ codes ":2.0\r\n" = search rules in
    in_three c.args.file.now.items (tick_parameters c.args.head) (parameter_text (codes ";X-MOVED=") c.args.moved) (codes ":2.0\r\n")
    c.append_tick.new.file.items c.append_parameter.new.file.items _ c.in_ok-append_tick.ensures c.in_ok-append_parameter.ensures ended
