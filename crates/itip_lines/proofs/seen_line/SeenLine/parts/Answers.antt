use Rattle.std.proofs.Common.{◌∙◌, ◌-◌, ℕ, List, ap, take, drop, length, arith}
use Rattle.itip_lines.specs.Lawful.{params_text}
use Rattle.itip_lines.specs.declared.line.Line.{Line}
use Rattle.itip_lines.proofs.LinePlaces.{parts_of}
use Rattle.itip_lines.proofs.seen_line.SeenLine.parts.Goals as goal

pub split_at-requires : goal.split_at-requires
split_at-requires c = omega (arith, (parts_of _ _ _ c.self.inside.stands).begins, ap length c.as_slice-octets.ensures)

pub overflow_sub-self-inside : goal.overflow_sub-self-inside
overflow_sub-self-inside c = omega (arith, (parts_of _ _ _ c.self.inside.stands).parted)

pub overflow_sub-self-inside-2 : goal.overflow_sub-self-inside-2
overflow_sub-self-inside-2 c = omega (arith, (parts_of _ _ _ c.self.inside.stands).parted)

pub split_at-requires-2 : goal.split_at-requires-2
split_at-requires-2 c =
    let p = parts_of _ _ _ c.self.inside.stands in
    omega (
      arith,
      p.params_end,
      ap length (c.split_at.ensures.back
          ∙ ap (λ (t : List ℕ). drop c.self.inside.name t) c.as_slice-octets.ensures),
    )

pub split_at-requires-3 : goal.split_at-requires-3
split_at-requires-3 c =
    let p = parts_of _ _ _ c.self.inside.stands in
    let k = c.self.inside.value - c.self.inside.name - 1 in
    omega (
      arith,
      p.rest,
      ap length (c.split_at-2.ensures.back ∙ ap (λ (t : List ℕ). drop k t)
          (c.split_at.ensures.back ∙ ap (λ (t : List ℕ). drop c.self.inside.name t) c.as_slice-octets.ensures)),
    )

pub returns-clause-name : goal.returns-clause-name
returns-clause-name c =
    let p = parts_of _ _ _ c.self.inside.stands in
    c.split_at.ensures.front ∙ ap (λ (t : List ℕ). take c.self.inside.name t) c.as_slice-octets.ensures ∙ p.name_is
    ∙ ap (λ (l : Line). l.name) c.self.view_is

pub returns-clause-params : goal.returns-clause-params
returns-clause-params c =
    let p = parts_of _ _ _ c.self.inside.stands in
    let k = c.self.inside.value - c.self.inside.name - 1 in
    c.split_at-2.ensures.front ∙ ap (λ (t : List ℕ). take k t)
    (c.split_at.ensures.back ∙ ap (λ (t : List ℕ). drop c.self.inside.name t) c.as_slice-octets.ensures)
    ∙ p.params_are ∙ ap (λ (l : Line). params_text l.params) c.self.view_is

pub returns-clause-value : goal.returns-clause-value
returns-clause-value c =
    let p = parts_of _ _ _ c.self.inside.stands in
    let k = c.self.inside.value - c.self.inside.name - 1 in
    c.split_at-3.ensures.back ∙ ap (λ (t : List ℕ). drop 1 t) (c.split_at-2.ensures.back ∙ ap (λ (t : List ℕ). drop k t)
    (c.split_at.ensures.back ∙ ap (λ (t : List ℕ). drop c.self.inside.name t) c.as_slice-octets.ensures))
    ∙ p.value_is ∙ ap (λ (l : Line). l.value) c.self.view_is
