-- The octets of a line, wherever they are stored (our own form).
use Rattle.std.specs.Prelude.{ℕ, List}
use Rattle.itip_lines.specs.declared.line_octets.LineOctets.{LineOctets}
use Rattle.itip_lines.specs.declared.line_octets.LineOctets.TheVariants.{InText, Own}

abbrev pub octets_of : LineOctets → List ℕ
octets_of (InText octets) = octets.now
octets_of (Own octets) = octets.items
