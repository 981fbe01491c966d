use Rattle.std.proofs.Common.{◌∙◌, ap, sym, List, ℕ, ◌++◌, arith}
use Rattle.std.specs.Prelude.{None, codes, decimal}
use Rattle.itip_streams.specs.Told.{place_of, refusal_at}
use Rattle.itip_streams.specs.Visible.{visible}
use Rattle.itip_streams.specs.declared.source_name.SourceName.{SourceName}
use Rattle.itip_streams.proofs.Fronts.{refused_line}
use Rattle.itip_streams.proofs.shown_source.ShownSource.refused_line.Goals as goal

pub returns : goal.returns
returns c =
    c.in_ok-format.ensures.ok ∙
    ap (λ (front : List ℕ). front ++ (decimal c.args.message ++ (codes ": refused " ++ decimal c.args.number)))
    (c.as_str-front.ensures.value ∙ c.self.invariant) ∙
    sym (refused_line c.self.inside.name.now c.args.message c.args.number (omega (arith, c.ranges.message.fits))
    (omega (arith, c.ranges.number.fits))) ∙
    ap (λ (name : SourceName). visible (refusal_at (place_of name c.args.message) c.args.number None)) c.self.view_is
