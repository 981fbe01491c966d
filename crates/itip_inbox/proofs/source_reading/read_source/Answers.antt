use Rattle.std.proofs.Common.{◌∙◌, refl}
use Rattle.std.specs.Option.{option_copied}
use Rattle.itip_inbox.proofs.Streams.{reads_none, reads_share, reads_last, some_on}
use Rattle.itip_inbox.proofs.source_reading.read_source.Goals as goal

pub loop-init : goal.loop-init
loop-init g c = record {
  reads = λ before kept. reads_none (option_copied c.args.about) before c.args.inbox.now (g.R.Read.remaining c.args.reader.now)
      c.nothing-held.result c.nothing-held.ensures.octets c.nothing-held.ensures.short kept;
  source = refl;
}

pub returns-then-is_end-clause-got : goal.returns-then-is_end-clause-got
returns-then-is_end-clause-got g c = λ before kept.
    reads_last (option_copied c.args.about) before c.args.inbox.now c.loop.inbox (g.R.Read.remaining c.args.reader.now)
    (g.R.Read.remaining c.loop.reader) c.loop.held (c.loop.invariant.reads before kept) c.loop.invariant.source
    (g.R.Read.remaining c.fill.new.reader) c.fill.new.held.items c.in_ok-is_end.ensures.fills.0 c.hear_last.new.inbox
    c.in_ok-hear_last.ensures.hears (c.in_ok-is_end.ensures.fills.1 c.if-is_end.true)

pub returns-then-is_end-clause-some : goal.returns-then-is_end-clause-some
returns-then-is_end-clause-some g c = λ had.
    some_on (option_copied c.args.about) had.messages c.args.inbox.now c.loop.inbox (g.R.Read.remaining c.args.reader.now)
    (g.R.Read.remaining c.loop.reader) c.loop.held (c.loop.invariant.reads had.messages had.got) c.loop.invariant.source
    (g.R.Read.remaining c.fill.new.reader) c.fill.new.held.items c.in_ok-is_end.ensures.fills.0 c.hear_last.new.inbox
    c.in_ok-hear_last.ensures.hears

pub returns-then-is_end-clause-source : goal.returns-then-is_end-clause-source
returns-then-is_end-clause-source g c = c.in_ok-hear_last.ensures.source ∙ c.loop.invariant.source

pub loop-preserved : goal.loop-preserved
loop-preserved g c = record {
  reads = λ before kept.
      reads_share (option_copied c.args.about) before c.args.inbox.now c.loop.inbox (g.R.Read.remaining c.args.reader.now)
      (g.R.Read.remaining c.loop.reader) c.loop.held (c.loop.invariant.reads before kept) c.loop.invariant.source
      (g.R.Read.remaining c.fill.new.reader) c.fill.new.held.items c.in_ok-is_end.ensures.fills.0 c.in_ok-held.held
      c.hear_first.new.inbox c.in_ok-held.ensures.hears;
  source = c.in_ok-held.ensures.source ∙ c.loop.invariant.source;
}
