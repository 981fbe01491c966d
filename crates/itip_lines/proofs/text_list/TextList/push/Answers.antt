use Rattle.std.proofs.Common.{◌≡◌, ◌++◌, ◌∷◌, [], ℕ, List, subst}
use Rattle.std.specs.Prelude.{OnOk, OnErr}
use Rattle.itip_lines.specs.Joining.{texts_in}
use Rattle.itip_lines.proofs.Joined.{pushed_joined, pushed_texts, kept_texts}
use Rattle.itip_lines.proofs.text_list.TextList.push.Goals as goal

pub invariant_of-self : goal.invariant_of-self
invariant_of-self c =
    pushed_joined c.push_text.result c.self.inside.octets c.push_text.new.self c.as_bytes.result.now c.self.invariant
    (rw c.as_bytes.ensures.value c.requires) c.push_text.ensures.pushed c.push_text.ensures.err

pub returns-clause-pushed : goal.returns-clause-pushed
returns-clause-pushed c =
    subst (λ (old : List (List ℕ)). OnOk c.push_text.result (texts_in c.push_text.new.self ≡ old ++ c.args.text.now ∷ [])) c.self.view_is
    (subst (λ (t : List ℕ). OnOk c.push_text.result (texts_in c.push_text.new.self ≡ texts_in c.self.inside.octets ++ t ∷ []))
    c.as_bytes.ensures.value
    (pushed_texts c.push_text.result c.self.inside.octets c.push_text.new.self c.as_bytes.result.now c.self.invariant
    (rw c.as_bytes.ensures.value c.requires) c.push_text.ensures.pushed))

pub returns-clause-err : goal.returns-clause-err
returns-clause-err c =
    subst (λ (old : List (List ℕ)). OnErr c.push_text.result (texts_in c.push_text.new.self ≡ old)) c.self.view_is
    (kept_texts c.push_text.result c.self.inside.octets c.push_text.new.self c.push_text.ensures.err)
