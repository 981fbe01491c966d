-- To-dos of components, one more.
use Rattle.std.proofs.Common.{◌≡◌, refl, sym, ℕ, ◌+◌, List, [], ◌∷◌, ◌++◌, append_assoc, subst, inl, inr}
use Rattle.itip_todo.specs.Reading as todo_reading
use Rattle.itip_todo.specs.declared.error.TodoError.{TodoError}
use Rattle.itip_todo.specs.declared.error.TodoError.TheVariants as todo_error
use Rattle.itip_todo.specs.declared.todo.Todo.{Todo}
use Rattle.itip_message.specs.Refusals.{IfRefused, todo_gives}
use Rattle.itip_message.specs.Message.{ReadsComponent, RefusesComponent, AreComponents, FirstRefused}
use Rattle.itip_items.specs.declared.kind.Method.{Method}
use Rattle.itip_message.specs.declared.sort.Component.{Component}
use Rattle.itip_message.specs.declared.error.MessageRefusal.{MessageRefusal}
use Rattle.itip_message.specs.declared.error.ReadError.{ReadError}
use Rattle.itip_message.specs.declared.error.ReadError.TheVariants as error

-- one component more
pub component_more : (m : Method) (all left rest : List Component) (done : List Todo) (component : Component) (todo : Todo)
    → ((more : List Todo) → AreComponents m left more → AreComponents m all (done ++ more)) → left ≡ component ∷ rest →
    ReadsComponent m component todo
    → (more : List Todo) → AreComponents m rest more → AreComponents m all ((done ++ todo ∷ []) ++ more)
component_more m all left rest done component todo was e reads more h =
    subst (λ (ts : List Todo). AreComponents m all ts) (sym (append_assoc done (todo ∷ []) more))
    (was (todo ∷ more) (subst (λ (cs : List Component). AreComponents m cs (todo ∷ more)) (sym e) (reads, h)))

pub refused_more : (m : Method) (number : ℕ) (all left rest : List Component) (component : Component) (todo : Todo)
    → ((f : MessageRefusal) → FirstRefused m number left f → FirstRefused m 1 all f) → left ≡ component ∷ rest →
    ReadsComponent m component todo
    → (f : MessageRefusal) → FirstRefused m (number + 1) rest f → FirstRefused m 1 all f
refused_more m number all left rest component todo was e reads f h =
    was f (subst (λ (cs : List Component). FirstRefused m number cs f) (sym e) (inr ((todo, reads), h)))

pub refused_here : (e : ReadError) (m : Method) (number : ℕ) (all left rest : List Component) (component : Component)
    → ((f : MessageRefusal) → FirstRefused m number left f → FirstRefused m 1 all f) → left ≡ component ∷ rest →
    IfRefused e (RefusesComponent m number component) → IfRefused e (FirstRefused m 1 all)
refused_here error.NoMemory m number all left rest component was e h = tt
refused_here (error.Refused f) m number all left rest component was e h =
    was f (subst (λ (cs : List Component). FirstRefused m number cs f) (sym e) (inl h))

pub todo_refused : (e : TodoError) (m : Method) (number : ℕ) (component : Component) →
    todo_reading.IfRefused e (todo_reading.RefusesTodo component.lines) →
    IfRefused (todo_gives number e) (RefusesComponent m number component)
todo_refused todo_error.NoMemory m number component h = tt
todo_refused (todo_error.Refused refusal) m number component h = inl (refusal, h, refl)
