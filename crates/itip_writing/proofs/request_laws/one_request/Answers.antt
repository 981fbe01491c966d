use Rattle.itip_writing.proofs.OneRequest.{one_octets, only_memory, one_error}
use Rattle.itip_writing.proofs.request_laws.one_request.Goals as goal

pub returns : goal.returns
returns c = record { octets = one_octets; apart = only_memory; cause = one_error }
