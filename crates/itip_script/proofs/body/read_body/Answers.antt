use Rattle.std.proofs.Common.{ℕ, ◌<◌, inl, inr, arith}
use Rattle.std.proofs.lemmas.Result.{IfOk-weaker}
use Rattle.itip_script.specs.Stream.{ReadsBody, body_of}
use Rattle.itip_script.specs.declared.body.Body.{Body}
use Rattle.itip_script.proofs.Wishes.{short_body, whole_body}
use Rattle.itip_script.proofs.body.read_body.Goals as goal

pub returns-then-octets-limit-clause-reads : goal.returns-then-octets-limit-clause-reads
returns-then-octets-limit-clause-reads g c =
    let old = g.R.Read.remaining c.args.reader.now in
    let new = g.R.Read.remaining c.pass_body.new.reader in
    IfOk-weaker c.pass_body.result
    (λ (body : Body). (limit : ℕ) → limit < c.args.octets → ReadsBody limit c.args.octets old new (body_of body))
    (λ (body : Body). ReadsBody c.args.limit c.args.octets old new (body_of body)) (λ body reads. reads c.args.limit (omega arith))
    c.pass_body.ensures.reads

pub returns-in-Some-clause-reads : goal.returns-in-Some-clause-reads
returns-in-Some-clause-reads g c =
    whole_body c.args.limit c.args.octets (g.R.Read.remaining c.args.reader.now) (g.R.Read.remaining c.read_octets.new.reader)
    c.in-Some.octets.items (omega arith) (rw c.in-Some.is at c.in_ok-octets.ensures.reads)

pub returns-in-None-clause-reads : goal.returns-in-None-clause-reads
returns-in-None-clause-reads g c =
    short_body c.args.limit c.args.octets (g.R.Read.remaining c.args.reader.now) (g.R.Read.remaining c.read_octets.new.reader)
    (rw c.in-None.is at c.in_ok-octets.ensures.reads)

pub returns-in-Some-clause-well : goal.returns-in-Some-clause-well
returns-in-Some-clause-well g c = inr (rw c.in-Some.is at c.in_ok-octets.ensures.well)

pub returns-in-None-clause-well : goal.returns-in-None-clause-well
returns-in-None-clause-well g c = inl (rw c.in-None.is at c.in_ok-octets.ensures.well)
