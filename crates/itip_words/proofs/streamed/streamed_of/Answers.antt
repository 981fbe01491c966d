use Rattle.std.proofs.Common.{◌≢◌, ◌∙◌, ℕ, List, Some, ap, sym, subst}
use Rattle.std.specs.List.{All}
use Rattle.itip_words.specs.declared.streamed.Load.{Load}
use Rattle.itip_words.specs.Options.{options_of}
use Rattle.itip_words.proofs.Loading.{no_load, one_load, none_read, one_read, all_read}
use Rattle.itip_words.proofs.Streaming.{no_stream}
use Rattle.itip_words.proofs.streamed.streamed_of.Goals as goal

pub loop-text-init : goal.loop-text-init
loop-text-init c = record {
  read = none_read c.loads_named-text-items.result.now c.new-loads.result.items c.new-loads.ensures.items;
  are = no_load c.in-Some.scripted.desks c.new-loads.result.items c.new-loads.ensures.items;
}

pub loop-text-preserved : goal.loop-text-preserved
loop-text-preserved c = record {
  read = one_read c.loads_named-text-items.result.now c.loop-text.text-index _ c.loop-text.loads.items c.push.new.self.items
      (record { desk = c.in-Some-next_load.load.0; file = c.in_ok-file.file }) c.loop-text-test.true
      (c.in-Some-next_load.ensures.named ∙ ap (λ (file : List ℕ). Some (c.in-Some-next_load.load.0, file)) (sym c.in_ok-file.ensures.ok))
      c.in_ok-push.ensures.items c.loop-text.invariant.read;
  are = one_load c.in-Some.scripted.desks c.loop-text.loads.items c.push.new.self.items
      (record { desk = c.in-Some-next_load.load.0; file = c.in_ok-file.file }) c.in_ok-push.ensures.items
      c.in-Some-next_load.ensures.there
      (subst (λ (loads : List Load). All (λ (load : Load). load.desk ≢ c.in-Some-next_load.load.0) loads) c.as_slice.ensures.value
      c.in-Some-next_load.ensures.once) c.loop-text.invariant.are;
}

pub returns-in_default : goal.returns-in_default
returns-in_default c = λ streamed is. c.in_default.ensures.none streamed.scripted is.asked.script

pub returns-in_default-next_load : goal.returns-in_default-next_load
returns-in_default-next_load c =
    no_stream (options_of c.args.words.now) c.in-Some.scripted c.in-Some.ensures.asked c.loads_named-text-items.result.now
    c.loads_named-text-items.ensures c.loop-text.text-index _ c.loop-text-test.true c.loop-text.loads.items c.as_slice.result.now
    c.as_slice.ensures.value c.loop-text.invariant.read c.in_default-next_load.ensures.none

pub returns : goal.returns
returns c = record {
  asked = record {
    script = c.in-Some.ensures.asked;
    loads = all_read c.loads_named-text-items.result.now c.loop-text.text-index _ c.loop-text.loads.items c.loop-text-test.false
        c.loads_named-text-items.ensures c.loop-text.invariant.read;
  };
  possible = record { desks = c.in-Some.ensures.desks; loads = c.loop-text.invariant.are };
}
