use Rattle.std.proofs.Common.{◌∙◌, ℕ, List, length, sym, ap}
use Rattle.std.specs.Prelude.{◌==◌}
use Rattle.itip_lines.proofs.Joined.{empty_told}
use Rattle.itip_lines.proofs.text_list.TextList.is_empty.Goals as goal

pub returns : goal.returns
returns c =
    let told = empty_told c.is_empty.result c.self.inside.octets
    (c.is_empty.ensures ∙ ap (λ (t : List ℕ). length t == 0) c.as_slice.ensures)
    c.self.invariant in
    let seen = ap length c.self.view_is in
    (λ t. sym seen ∙ told.0 t, λ e. told.1 (seen ∙ e))
