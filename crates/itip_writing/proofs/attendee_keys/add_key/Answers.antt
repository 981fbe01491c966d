use Rattle.std.proofs.Common.{◌∙◌, ◌||◌, ℕ, List, sym, ap, Bool}
use Rattle.std.specs.BTreeSet.{contains}
use Rattle.std.specs.Cmp.Lexicographic.{slice_cmp, texts_ties, nat_list_eq_equiv}
use Rattle.std.specs.Ordering.{eq_by_cmp, nat_cmp}
use Rattle.itip_todo.specs.Participation.{same_text}
use Rattle.itip_todo.proofs.Putting.{cond_or}
use Rattle.itip_writing.proofs.attendee_keys.add_key.Goals as goal

pub returns : goal.returns
returns c = λ key.
    let new : List ℕ = c.in_ok-key.key in
    let had : Bool = contains (slice_cmp nat_cmp) c.args.keys.now key in
    c.in_ok-insert.ensures.updates.0 key ∙ cond_or (eq_by_cmp (slice_cmp nat_cmp) new key) had
    ∙ ap (λ b. had || b) (sym (texts_ties new key) ∙ nat_list_eq_equiv.symm new key)
    ∙ ap (λ (name : List ℕ). had || same_text key name) c.in_ok-key.ensures.key
