-- What is lawful again of a lawful line.
use Rattle.std.proofs.Common.{ℕ, List, [], ◌∷◌, ◌++◌, arith, length-append}
use Rattle.itip_lines.specs.Lawful.{params_text, IsLawful}
use Rattle.itip_lines.specs.declared.line.Param.{Param}

-- the line without its parameters
pub lawful_without_params : (name : List ℕ) (params : List Param) (value : List ℕ) → IsLawful name params value → IsLawful name [] value
lawful_without_params name params value h = record {
  named = h.named;
  each_param = tt;
  octets = h.octets;
  utf8 = h.utf8;
  short = omega (
    arith,
    h.short,
    length-append name (params_text params ++ 58 ∷ value),
    length-append (params_text params) (58 ∷ value),
    length-append name (58 ∷ value),
  );
}
