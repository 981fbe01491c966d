use Rattle.std.proofs.Common.{◌≢◌, ◌∙◌, sym, ap, ℕ, List}
use Rattle.std.specs.Arc.{arc_value}
use Rattle.std.specs.Ordering.{nat_cmp}
use Rattle.std.specs.Cmp.Lexicographic.{slice_cmp}
use Rattle.itip_todo.specs.Heads.{head_of}
use Rattle.itip_todo.proofs.HeadOrder.{heads_decide}
use Rattle.itip_todo.proofs.uid.UidOrd.cmp.Goals as goal

pub returns : goal.returns
returns c =
    let mine = c.self.invariant in
    let theirs = c.other.invariant in
    let own : List ℕ = arc_value c.self.inside.text in
    let others : List ℕ = arc_value c.other.inside.text in
    let apart : head_of own ≢ head_of others = λ same. c.if-self-other.false (mine.number ∙ same ∙ sym theirs.number) in
    c.cmp-2.ensures ∙ ap (λ (head : ℕ). nat_cmp head c.other.inside.head) mine.number ∙
    ap (λ (head : ℕ). nat_cmp (head_of own) head) theirs.number
    ∙ heads_decide own others mine.octets theirs.octets apart
    ∙ ap (λ (text : List ℕ). slice_cmp nat_cmp text others) c.self.view_is
    ∙ ap (λ (text : List ℕ). slice_cmp nat_cmp c.args.self.now text) c.other.view_is
