use Rattle.std.proofs.Common.{◌≡◌, ◌+◌, ◌<◌, ◌∷◌, [], ◌++◌, ◌∙◌, ℕ, List}
use Rattle.std.proofs.Common.{length, get_or, drop, refl, sym, ap, subst, append_assoc, append-nil}
use Rattle.std.proofs.lemmas.List.{at_drop_more, at_drop_all}
use Rattle.std.specs.String.{string_bytes}
use Rattle.itip_streams.specs.declared.source_name.SourceName.{SourceName}
use Rattle.itip_explain.specs.Explanation.{AreLines}
use Rattle.itip_explain.specs.Knowing.{told_to}
use Rattle.itip_explain.specs.declared.told.ToldItem.{ToldItem}
use Rattle.itip_explain.proofs.text.lines.Goals as goal

-- one more line before the rest
line_more : (told : List ToldItem) (names : List SourceName) (items : List ToldItem) (i : ℕ) (one : ToldItem) (line before after : List ℕ) →
    items ≡ told → i < length items → one ≡ get_or items i one
    → ((rest : List ℕ) → AreLines told names (drop (i + 1) told) rest → AreLines told names (one ∷ drop (i + 1) told) (line ++ rest))
    → after ≡ before ++ line
    → ((rest : List ℕ) → AreLines told names (drop i told) rest → AreLines told names told (before ++ rest)) → (rest : List ℕ)
    → AreLines told names (drop (i + 1) told) rest → AreLines told names told (after ++ rest)
line_more told names items i one line before after same below is lines grown all rest others =
    let here : drop i items ≡ one ∷ drop (i + 1) items = at_drop_more (λ (xs : List ToldItem). xs) items i one below ∙
    ap (λ (x : ToldItem). x ∷ drop (i + 1) items) (sym is) in
    let there : drop i told ≡ one ∷ drop (i + 1) told =
    subst (λ (xs : List ToldItem). drop i xs ≡ one ∷ drop (i + 1) xs) same here in
    subst (AreLines told names told) (sym (append_assoc before line rest) ∙ ap (λ (xs : List ℕ). xs ++ rest) (sym grown))
    (all (line ++ rest) (subst (λ (ts : List ToldItem). AreLines told names ts (line ++ rest)) (sym there) (lines rest others)))

pub loop-one-preserved : goal.loop-one-preserved
loop-one-preserved c =
    let line : List ℕ = string_bytes c.in_ok-line.line in
    line_more (told_to c.args.fates.now) c.args.names.now c.told-one-items.result.now c.loop-one.one-index c.one-item.result line
    c.loop-one.text.items c.extend_from_slice.new.self.items c.told-one-items.ensures c.loop-one-test.true c.one-item.is
    (λ rest others. (c.fate-became.result, rest, c.fate-became.ensures, others, ap (λ (xs : List ℕ). xs ++ rest) c.in_ok-line.ensures))
    (c.in_ok-extend_from_slice.ensures.items ∙
    ap (λ (xs : List ℕ). c.loop-one.text.items ++ xs) (c.as_bytes.ensures.value ∙ c.as_str.ensures.value)) c.loop-one.invariant

pub returns : goal.returns
returns c =
    let told : List ToldItem = told_to c.args.fates.now in
    let items : List ToldItem = c.told-one-items.result.now in
    let none : drop c.loop-one.one-index told ≡ [] = subst (λ (xs : List ToldItem). drop c.loop-one.one-index xs ≡ [])
    c.told-one-items.ensures
    (at_drop_all (λ (xs : List ToldItem). xs) items c.loop-one.one-index c.loop-one-test.false) in
    subst (AreLines told c.args.names.now told) (append-nil c.loop-one.text.items)
    (c.loop-one.invariant [] (subst (λ (xs : List ToldItem). AreLines told c.args.names.now xs []) (sym none) refl))
