use Rattle.std.proofs.Common.{◌∙◌, ℕ, List, sym, ap, subst}
use Rattle.itip_lines.specs.LinePlaces.{IsLineAt}
use Rattle.itip_lines.specs.Writing.{unfolded_text}
use Rattle.itip_lines.proofs.LinePlaces.{text_of}
use Rattle.itip_lines.proofs.seen_line.SeenLine.into_own.Goals as goal

pub new-requires : goal.new-requires
new-requires c =
    subst (λ (t : List ℕ). IsLineAt t c.self.inside.name c.self.inside.value) (sym c.in_ok-octets.ensures) c.self.inside.stands

pub returns : goal.returns
returns c = c.new.ensures c.args.self (c.in_ok-octets.ensures ∙ text_of _ c.self.inside.stands.is_line ∙ ap unfolded_text c.self.view_is)
