use Rattle.std.proofs.Common.{Ok, inr, map, subst, sym}
use Rattle.std.specs.String.{string_bytes}
use Rattle.itip_app.proofs.run.status.Goals as goal

pub returns : goal.returns
returns g c = inr (inr (record {
  words = map string_bytes c.as_slice.result.now;
  given = subst (λ texts. g.R.Gives.gives c.args.rt.now (Ok (map string_bytes texts))) (sym c.as_slice.ensures.value)
      c.in-Ok.ensures.given;
  clock = c.moment.result;
  ticked = c.moment.ensures;
  what = c.read_words.result;
  asked = c.read_words.ensures.asked;
  unasked = c.read_words.ensures.no_call;
  called = c.done.ensures.called;
  not_run = c.done.ensures.not_run;
}))
