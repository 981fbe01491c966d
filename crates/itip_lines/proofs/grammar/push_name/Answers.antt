use Rattle.itip_lines.proofs.Written.{name_appended}
use Rattle.itip_lines.proofs.grammar.push_name.Goals as goal

pub returns : goal.returns
returns c =
    name_appended c.args.out.now.items c.push.new.self.items c.push_upper.new.out.items c.push-2.new.self.items _
    c.in_ok-push.ensures.items c.in_ok-push_upper.ensures c.in_ok-push-2.ensures.items
