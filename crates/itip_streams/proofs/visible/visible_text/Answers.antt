use Rattle.std.proofs.Common.{◌≡◌, ◌∙◌, List, ℕ, Result, Ok, Err, ap, sym, subst}
use Rattle.std.specs.Prelude.{IfOk, String}
use Rattle.std.specs.Str.{IsUtf8}
use Rattle.std.specs.String.{string_bytes}
use Rattle.itip_streams.specs.Visible.{visible}
use Rattle.itip_streams.proofs.Escaping.{visible_utf8}
use Rattle.itip_streams.proofs.visible.visible_text.Goals as goal

pub returns : goal.returns
returns c =
    let octets : c.as_slice.result.now ≡ visible c.as_bytes.result.now = c.as_slice.ensures.value ∙ c.in_ok-octets.ensures in
    if_whole c.from_utf8_lossy.result c.as_slice.result.now (visible c.args.text.now) (octets ∙ ap visible c.as_bytes.ensures.value)
    (subst IsUtf8 (sym octets) (visible_utf8 c.as_bytes.result.now c.as_bytes.ensures.utf8))
    c.from_utf8_lossy.ensures.ok
  where
    if_whole : {Z E : Type 0} (r : Result (String Z) E) (bs text : List ℕ) → bs ≡ text → IsUtf8 bs →
        IfOk r (λ t. IsUtf8 bs → string_bytes t ≡ bs) → IfOk r (λ t. string_bytes t ≡ text)
    if_whole (Ok t) bs text same utf8 h = h utf8 ∙ same
    if_whole (Err e) bs text same utf8 h = tt
