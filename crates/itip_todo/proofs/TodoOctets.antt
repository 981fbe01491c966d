-- The octets of a to-do are read as this to-do.
use Rattle.std.proofs.Common.{◌≡◌, ◌∙◌, sym, ap, refl, ℕ, List, [], ◌∷◌, ◌++◌, arith, subst}
use Rattle.std.specs.Prelude.{codes}
use Rattle.std.specs.List.{AllByRecursion}
use Rattle.std.proofs.lemmas.List.{append_cancel_left}
use Rattle.itip_todo.specs.Lawful.{IsLawfulContent}
use Rattle.itip_todo.specs.Octets.{AreReadAs}
use Rattle.itip_todo.specs.PartsOf.{parts_of}
use Rattle.itip_todo.specs.Written.{Content, contents_octets, parts_contents, todo_contents, bare}
use Rattle.itip_todo.specs.declared.todo.Todo.{Todo}
use Rattle.itip_todo.proofs.ContentLines.{lines_from, contents_of, length_from, reads_from, plain_lawful, followed}
use Rattle.itip_todo.proofs.WritingLaws.{read_again}

begins : IsLawfulContent (bare (codes "BEGIN") (codes "VTODO"))
begins = plain_lawful (codes "BEGIN") (codes "VTODO") (omega arith) refl refl refl (omega arith)

ends : IsLawfulContent (bare (codes "END") (codes "VTODO"))
ends = plain_lawful (codes "END") (codes "VTODO") (omega arith) refl refl refl (omega arith)

lawful : (todo : Todo) → AllByRecursion IsLawfulContent (todo_contents (parts_of todo))
lawful todo = (begins, followed (parts_contents (parts_of todo)) (bare (codes "END") (codes "VTODO") ∷ []) todo.lawful.lines (ends, tt))

written_todo : (todo : Todo) → AreReadAs (contents_octets (todo_contents (parts_of todo))) todo
written_todo todo = record {
  lines = lines_from (todo_contents (parts_of todo)) (lawful todo);
  inside = lines_from (parts_contents (parts_of todo)) todo.lawful.lines;
  spelled = ap contents_octets (sym (contents_of (todo_contents (parts_of todo)) (lawful todo)));
  are = λ few short. reads_from (todo_contents (parts_of todo)) (lawful todo)
      (omega (arith, few, length_from (todo_contents (parts_of todo)) (lawful todo))) short;
  framed =
      contents_of (todo_contents (parts_of todo)) (lawful todo)
      ∙ ap (λ (cs : List Content). bare (codes "BEGIN") (codes "VTODO") ∷ (cs ++ bare (codes "END") (codes "VTODO") ∷ []))
      (sym (contents_of (parts_contents (parts_of todo)) todo.lawful.lines));
  reads = read_again (lines_from (parts_contents (parts_of todo)) todo.lawful.lines) todo
      (contents_of (parts_contents (parts_of todo)) todo.lawful.lines);
}

-- what was appended is read as the to-do
pub appended_todo : (old new : List ℕ) (todo : Todo) → new ≡ old ++ contents_octets (todo_contents (parts_of todo)) → (octets : List ℕ) →
    new ≡ old ++ octets → AreReadAs octets todo
appended_todo old new todo is octets same =
    subst (λ (text : List ℕ). AreReadAs text todo)
    (append_cancel_left old (contents_octets (todo_contents (parts_of todo))) octets (sym is ∙ same)) (written_todo todo)
