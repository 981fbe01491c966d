use Rattle.std.proofs.Common.{sym, subst}
use Rattle.itip_lines.specs.Joining.{IsOneLine}
use Rattle.itip_lines.proofs.Joined.{one_value}
use Rattle.itip_todo.proofs.list.add_rule.Goals as goal

pub push-requires : goal.push-requires
push-requires c =
    subst IsOneLine (sym c.value.ensures) (one_value c.args.line.now.value c.args.line.now.lawful.octets c.args.line.now.lawful.utf8)
