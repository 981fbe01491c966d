use Rattle.std.proofs.Common.{◌∙◌, refl, sym}
use Rattle.itip_words.specs.Calls.{IsStreamOf}
use Rattle.itip_words.specs.Options.{options_of}
use Rattle.itip_words.proofs.Calling.{script_called, never_stream}
use Rattle.itip_words.proofs.words.run_of.Goals as goal

pub returns-then-not-is_set : goal.returns-then-not-is_set
returns-then-not-is_set c = λ clock.
    script_called (options_of c.args.words.now) clock c.script_of.result c.map.result c.map.ensures.cases
    (sym c.is_set.ensures ∙ c.if-not-is_set.true) c.script_of.ensures.found c.script_of.ensures.desks

pub returns-in-Some : goal.returns-in-Some
returns-in-Some c = λ clock.
    let is : IsStreamOf (options_of c.args.words.now) c.in-Some.streamed = rw c.in-Some.is at c.in_ok-streamed.ensures in
    record { asked = (refl, sym c.is_set.ensures ∙ c.if-not-is_set.false, is.asked); possible = is.possible }

pub returns-in-None : goal.returns-in-None
returns-in-None c = λ clock.
    never_stream (options_of c.args.words.now) clock (sym c.is_set.ensures ∙ c.if-not-is_set.false)
    (rw c.in-None.is at c.in_ok-streamed.ensures)
