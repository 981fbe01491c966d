use Rattle.std.proofs.Common.{◌≡◌, ◌++◌, ℕ, List, refl, sym, ap, subst, length, take, drop, length-take, arith, rules}
use Rattle.std.specs.Io.KnownBytes.{Consumes}
use Rattle.std.proofs.KnownBytes.{Consumes-trans}
use Rattle.itip_streams.proofs.LineReading.{none_read, read_more, more_octets, fewer_read, all_read}
use Rattle.itip_streams.proofs.InARow.{gave_none, gave_some, one_more, to_last}
use Rattle.itip_streams.proofs.input.read_octets.Goals as goal

pub loop-buffer-init : goal.loop-buffer-init
loop-buffer-init g c = record { given = search rules; few = search rules; well = (0, refl) }

pub returns-then-brought-eq0-clause-reads : goal.returns-then-brought-eq0-clause-reads
returns-then-brought-eq0-clause-reads g c =
    fewer_read c.args.count _ _ c.loop-buffer.octets.items c.loop-buffer.invariant.given _ (omega arith)
    (none_read _ _ _ _ c.in_ok-brought.ensures.bytes.0 c.in_ok-brought.ensures.bytes.1 c.if-brought-eq0.true
    (omega (arith, length-take c.min-room.result c.loop-buffer.buffer)))

pub returns-then-brought-eq0-clause-well : goal.returns-then-brought-eq0-clause-well
returns-then-brought-eq0-clause-well g c =
    to_last g.R.ReadOnce.reads _ _ c.loop-buffer.reader _ c.loop-buffer.invariant.well
    (gave_none g.R.ReadOnce.reads _ _ _ _ c.in_ok-brought.ensures.once c.if-brought-eq0.true)

pub loop-buffer-preserved : goal.loop-buffer-preserved
loop-buffer-preserved g c =
    let brought : List ℕ = take c.in_ok-brought.brought c.read_some.new.buffer in
    let grown : c.extend_from_slice.new.self.items ≡ c.loop-buffer.octets.items ++ brought =
    read_more _ c.read_some.new.buffer (drop c.min-room.result c.loop-buffer.buffer) _ _ c.in_ok-brought.ensures.bound
    c.in_ok-extend_from_slice.ensures.items in
    let size = more_octets c.loop-buffer.octets.items c.in_ok-brought.brought c.read_some.new.buffer c.in_ok-brought.ensures.bound in
    record {
      given = subst (λ (t : List ℕ). Consumes (g.R.Read.remaining c.args.reader.now) (g.R.Read.remaining c.read_some.new.reader) t)
          (sym grown) (Consumes-trans _ _ _ c.loop-buffer.octets.items brought c.loop-buffer.invariant.given
          c.in_ok-brought.ensures.bytes.0);
      few = omega (arith, ap length grown, size, c.in_ok-brought.ensures.bound, length-take c.min-room.result c.loop-buffer.buffer);
      well = one_more g.R.ReadOnce.reads _ c.loop-buffer.reader _ c.loop-buffer.invariant.well
          (gave_some g.R.ReadOnce.reads _ _ _ _ c.in_ok-brought.ensures.once c.if-brought-eq0.false);
    }

pub returns-clause-reads : goal.returns-clause-reads
returns-clause-reads g c = all_read c.args.count _ _ c.loop-buffer.octets.items c.loop-buffer.invariant.given (omega arith)

pub returns-in_err-extend_from_slice-clause-stopped : goal.returns-in_err-extend_from_slice-clause-stopped
returns-in_err-extend_from_slice-clause-stopped g c = λ _.
    one_more g.R.ReadOnce.reads _ c.loop-buffer.reader _ c.loop-buffer.invariant.well
    (gave_some g.R.ReadOnce.reads _ _ _ _ c.in_ok-brought.ensures.once c.if-brought-eq0.false)
