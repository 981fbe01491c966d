use Rattle.std.proofs.Common.{List, take_all, subst, sym, arith}
use Rattle.std.specs.List.{Contains}
use Rattle.itip_words.specs.Streams.{names_of}
use Rattle.itip_words.specs.declared.streamed.Load.{Load}
use Rattle.itip_app.proofs.Beginning.{none_more, named_at}
use Rattle.itip_app.proofs.stream.file_of.Goals as goal

pub loop-load-init : goal.loop-load-init
loop-load-init c = λ file there. omega (arith, there.1)

pub loop-load-preserved : goal.loop-load-preserved
loop-load-preserved c =
    none_more c.args.loads.now c.loop-load.load-index c.load-item.result c.args.number c.loop-load-test.true c.load-item.is
    (λ same. c.if-load-number.false same) c.loop-load.invariant

pub returns-then-load-number-clause-named : goal.returns-then-load-number-clause-named
returns-then-load-number-clause-named c =
    named_at c.args.loads.now c.loop-load.load-index c.load-item.result c.args.number c.as_str.result.now c.loop-load-test.true
    c.load-item.is
    c.if-load-number.true c.as_str.ensures.value

pub returns-clause-none : goal.returns-clause-none
returns-clause-none c = λ file there.
    c.loop-load.invariant file
    (subst (λ (l : List Load). Contains (names_of l) (c.args.number, file))
    (sym (take_all c.loop-load.load-index c.args.loads.now (omega (arith, c.loop-load-test.false)))) there)
