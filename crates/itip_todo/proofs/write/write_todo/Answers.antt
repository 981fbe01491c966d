use Rattle.std.proofs.Common.{◌≡◌, ◌≤◌, ◌∙◌, ◌++◌, ℕ, List, length, cond, ap, arith, Ok, Err, Result}
use Rattle.std.proofs.lemmas.Result.{on_ok_weaker}
use Rattle.std.specs.Prelude.{OnOk, is_ok}
use Rattle.itip_todo.specs.PartsOf.{parts_of}
use Rattle.itip_todo.specs.Written.{contents_octets, todo_contents}
use Rattle.itip_todo.proofs.TodoOctets.{appended_todo}
use Rattle.itip_todo.proofs.write.write_todo.Goals as goal

-- where the whole was appended
appended : {E : Type 0} (r : Result (Unit {0}) E) (old new text : List ℕ) (goal : List ℕ) → new ≡ cond (is_ok r) (old ++ text) old →
    text ≡ goal → OnOk r (new ≡ old ++ goal)
appended (Ok u) old new text goal e same = e ∙ ap (λ (t : List ℕ). old ++ t) same
appended (Err x) old new text goal e same = tt

pub returns-clause-ok : goal.returns-clause-ok
returns-clause-ok c =
    let few : length c.write_todo_up_to.new.out.items ≤ 18446744073709551615 = omega arith in
    appended c.extend_from_slice.result c.args.out.now.items c.extend_from_slice.new.self.items c.as_slice.result.now
    (contents_octets (todo_contents (parts_of c.args.todo.now))) c.extend_from_slice.ensures.items
    (c.as_slice.ensures.value ∙ c.in_ok-write_todo_up_to.ensures.whole few ∙
    ap (λ (front : List ℕ). front ++ contents_octets (todo_contents (parts_of c.args.todo.now))) c.in_ok-text.ensures.items)

pub returns-clause-read_again : goal.returns-clause-read_again
returns-clause-read_again c =
    on_ok_weaker c.extend_from_slice.result (appended_todo c.args.out.now.items c.extend_from_slice.new.self.items c.args.todo.now)
    (returns-clause-ok c)
