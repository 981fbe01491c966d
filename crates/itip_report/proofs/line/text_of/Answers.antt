use Rattle.std.proofs.Common.{◌≡◌, ◌∙◌, ◌++◌, List, ℕ, Result, Ok, Err, ap, sym, subst}
use Rattle.std.specs.Prelude.{IfOk}
use Rattle.std.specs.Prelude.{String}
use Rattle.std.specs.Str.{IsUtf8}
use Rattle.std.specs.String.{string_bytes}
use Rattle.std.proofs.lemmas.Str.{IsUtf8-from_ascii}
use Rattle.itip_moment.specs.Written.{moment_text}
use Rattle.itip_report.proofs.Ascii.{moment_ascii}
use Rattle.itip_report.proofs.line.text_of.Goals as goal

pub returns : goal.returns
returns c =
    let octets : c.deref.result.now ≡ moment_text c.args.moment.now =
    c.deref.ensures.value ∙ c.in_ok-write_moment.ensures.ok ∙ ap (λ xs. xs ++ moment_text c.args.moment.now) c.new-octets.ensures.items in
    if_whole c.from_utf8_lossy.result c.deref.result.now (moment_text c.args.moment.now) octets
    (subst IsUtf8 (sym octets) (IsUtf8-from_ascii (moment_text c.args.moment.now) (moment_ascii c.args.moment.now)))
    c.from_utf8_lossy.ensures.ok
  where
    if_whole : {Z E : Type 0} (r : Result (String Z) E) (bs text : List ℕ) → bs ≡ text → IsUtf8 bs →
        IfOk r (λ t. IsUtf8 bs → string_bytes t ≡ bs) → IfOk r (λ t. string_bytes t ≡ text)
    if_whole (Ok t) bs text same utf8 h = h utf8 ∙ same
    if_whole (Err e) bs text same utf8 h = tt
