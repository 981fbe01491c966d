use Rattle.std.proofs.Common.{◌≡◌, ◌++◌, ◌∙◌, List, ℕ, suc, refl, sym, ap, subst, take, drop, arith, rules}
use Rattle.std.specs.Io.KnownBytes.{Consumes}
use Rattle.std.proofs.KnownBytes.{Consumes-trans}
use Rattle.std.proofs.lemmas.List.{take-append-le}
use Rattle.itip_streams.proofs.InARow.{gave_some, one_more}
use Rattle.itip_streams.proofs.input.read_within.Given.{Over}
use Rattle.itip_streams.proofs.input.read_within.Goals as goal

-- what was read comes after what there was
grown : (g : Over) (c : goal.In_ok-extend_from_slice g) →
    c.extend_from_slice.new.self.items ≡ c.loop.text.items ++ take c.in_ok-count.count c.read_some.new.buffer
grown g c =
    c.in_ok-extend_from_slice.ensures.items ∙
    ap (λ (t : List ℕ). c.loop.text.items ++ t)
    (take-append-le c.in_ok-count.count c.read_some.new.buffer (drop c.if-left-lt-ROOM.room c.loop.buffer) c.in_ok-count.ensures.bound)

pub loop-init : goal.loop-init
loop-init g c = record { given = search rules; few = search rules; well = (0, refl) }

pub loop-preserved : goal.loop-preserved
loop-preserved g c = record {
  given = subst (λ (t : List ℕ). Consumes (g.R.Read.remaining c.args.reader.now) (g.R.Read.remaining c.read_some.new.reader) t)
      (sym (grown g c))
      (Consumes-trans _ _ _ c.loop.text.items (take c.in_ok-count.count c.read_some.new.buffer) c.loop.invariant.given
      c.in_ok-count.ensures.bytes.0);
  few = search rules;
  well = (
    suc c.loop.invariant.well.0,
    (
      c.loop.reader,
      c.loop.invariant.well.1,
      record { count = c.in_ok-count.count; some = omega arith; buffer = c.read_some.new.buffer; read = c.in_ok-count.ensures.once },
    ),
  );
}

pub returns-in_err-extend_from_slice-clause-stopped : goal.returns-in_err-extend_from_slice-clause-stopped
returns-in_err-extend_from_slice-clause-stopped g c = λ _.
    one_more g.R.ReadOnce.reads _ c.loop.reader _ c.loop.invariant.well
    (gave_some g.R.ReadOnce.reads _ _ _ _ c.in_ok-count.ensures.once c.if-count-eq0.false)
