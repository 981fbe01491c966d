use Rattle.std.proofs.Common.{◌≡◌, ◌∙◌, ◌++◌, ℕ, ◌-◌, List, length, take, drop, min, ap, append_assoc, arith}
use Rattle.std.proofs.lemmas.List.{drop_min, take_rest}
use Rattle.itip_desk.specs.DeskFile.{product_text, version_text}
use Rattle.itip_desk.proofs.file_text.append_message.Goals as goal

pub returns : goal.returns
returns c =
    let head = c.args.head in
    let product : List ℕ = product_text head in
    let version : List ℕ = version_text head c.args.moved in
    let bytes : List ℕ = c.as_slice-bytes.result.now in
    let canonical : bytes ≡ c.args.item.now.bytes =
    c.as_slice-bytes.ensures.value ∙ c.in_ok-append_to.ensures.ok ∙ ap (λ (t : List ℕ). t ++ c.args.item.now.bytes)
    c.new-canonical.ensures.items in
    let at : c.min.result ≡ min 57 (length bytes) = omega arith in
    let rest : take (length bytes - c.min.result) (drop c.min.result bytes) ≡ drop 57 c.args.item.now.bytes =
    take_rest bytes c.min.result ∙ ap (λ (k : ℕ). drop k bytes) at ∙ drop_min 57 bytes ∙ ap (drop 57) canonical in
    c.in_ok-extend_from_slice.ensures.items
    ∙ ap (λ (t : List ℕ). t ++ take (length bytes - c.min.result) (drop c.min.result bytes))
    (c.in_ok-append_version.ensures ∙ ap (λ (t : List ℕ). t ++ version) c.in_ok-append_product.ensures)
    ∙ ap (λ (t : List ℕ). ((c.args.file.now.items ++ product) ++ version) ++ t) rest
    ∙ ap (λ (t : List ℕ). t ++ drop 57 c.args.item.now.bytes) (append_assoc c.args.file.now.items product version)
    ∙ append_assoc c.args.file.now.items (product ++ version) (drop 57 c.args.item.now.bytes)
