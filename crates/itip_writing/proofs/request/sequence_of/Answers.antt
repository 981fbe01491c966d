use Rattle.itip_writing.proofs.Requested.{known_more}
use Rattle.itip_writing.proofs.request.sequence_of.Goals as goal

pub returns-clause-rest : goal.returns-clause-rest
returns-clause-rest c =
    known_more c.args.state.now c.args.known.now c.note.new.known c.args.uid.now c.in-Some-next_seq.sequence c.in-Some-next_seq.ensures
    c.in_ok-note.ensures
