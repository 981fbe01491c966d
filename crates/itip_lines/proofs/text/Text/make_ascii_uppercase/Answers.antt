use Rattle.std.proofs.Common.{◌∙◌, map, sym, ap, subst}
use Rattle.std.specs.Char.{to_ascii_uppercase}
use Rattle.std.specs.Str.{IsUtf8}
use Rattle.itip_lines.proofs.Cases.{changed, raised}
use Rattle.itip_lines.proofs.text.Text.make_ascii_uppercase.Goals as goal

pub invariant_of-self : goal.invariant_of-self
invariant_of-self c =
    subst IsUtf8
    (sym (changed to_ascii_uppercase c.self.inside.octets c.make_ascii_uppercase.new.self
    (c.make_ascii_uppercase.ensures.after ∙ ap (map to_ascii_uppercase) c.as_mut_slice.ensures.value)))
    (raised c.self.inside.octets.items c.self.invariant)

pub returns : goal.returns
returns c =
    changed to_ascii_uppercase c.self.inside.octets c.make_ascii_uppercase.new.self
    (c.make_ascii_uppercase.ensures.after ∙ ap (map to_ascii_uppercase) c.as_mut_slice.ensures.value)
    ∙ ap (map to_ascii_uppercase) c.self.view_is
