use Rattle.std.proofs.Common.{Option, List, ℕ, subst}
use Rattle.std.specs.Prelude.{IfOk, IfErr}
use Rattle.itip_words.specs.Calls.{IsCallBy}
use Rattle.itip_words.specs.Finding.{Never, Finds}
use Rattle.itip_words.specs.NoCalls.{IsCause}
use Rattle.itip_words.specs.Options.{Options}
use Rattle.itip_words.proofs.words.call_of.Goals as goal

pub returns-in-Some-clause-found : goal.returns-in-Some-clause-found
returns-in-Some-clause-found c =
    subst (λ (given : Option (List ℕ × Options)). IfOk c.named_call.result (Finds (IsCallBy given c.args.clock))) c.in-Some.ensures
    c.named_call.ensures.found

pub returns-in-Some-clause-fault : goal.returns-in-Some-clause-fault
returns-in-Some-clause-fault c =
    subst (λ (given : Option (List ℕ × Options)). IfErr c.named_call.result
    (IsCause (Never (IsCallBy given c.args.clock)) c.args.clock)) c.in-Some.ensures c.named_call.ensures.fault

pub returns-in-None-clause-found : goal.returns-in-None-clause-found
returns-in-None-clause-found c =
    subst (λ (given : Option (List ℕ × Options)). Never (IsCallBy given c.args.clock)) c.in-None.ensures (λ what is. is)
