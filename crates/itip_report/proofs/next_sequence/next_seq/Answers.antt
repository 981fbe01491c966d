use Rattle.std.proofs.Common.{ℕ, ◌≤◌, arith, subst, Some}
use Rattle.itip_state.specs.Organizers.{IsLastUsed}
use Rattle.itip_report.specs.NextSequence.{last_sequence}
use Rattle.itip_report.proofs.Effective.{last_small, one_more}
use Rattle.itip_report.proofs.next_sequence.next_seq.Goals as goal

pub overflow_add-result : goal.overflow_add-result
overflow_add-result c =
    let small : c.in-Some.used ≤ last_sequence = last_small c.args.state.now c.args.uid.now c.in-Some.used c.in-Some.ensures in
    omega (arith, small)

pub returns-in-Some-eq2147483647 : goal.returns-in-Some-eq2147483647
returns-in-Some-eq2147483647 c =
    subst (λ (n : ℕ). IsLastUsed c.args.state.now c.args.uid.now (Some n)) c.in-Some-eq2147483647.field-0-test
    c.in-Some-eq2147483647.ensures

pub returns-in-Some : goal.returns-in-Some
returns-in-Some c = one_more c.args.state.now c.args.uid.now c.in-Some.used c.in-Some.ensures c.in-Some.used-test.1
