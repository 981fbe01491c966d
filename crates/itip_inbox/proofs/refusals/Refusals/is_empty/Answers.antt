use Rattle.std.proofs.Common.{◌∙◌, ◌≡◌, ◌==◌, sym, ap, length, vec_len}
use Rattle.itip_inbox.specs.Leb128.{numbers}
use Rattle.itip_inbox.proofs.Packing.{as_many}
use Rattle.itip_inbox.proofs.refusals.Refusals.is_empty.Goals as goal

pub returns : goal.returns
returns c =
    let many : length c.args.self.now ≡ vec_len c.self.inside.causes =
    ap length (sym c.self.view_is) ∙ as_many c.self.inside.causes.items (numbers c.self.inside.places.items) ∙
    sym c.self.inside.causes.ok.0 in
    c.is_empty.ensures ∙ ap (λ n. n == 0) (sym many)
