-- What a buffer in front of a reader gives before it has read.
use Rattle.std.proofs.Common.{◌≡◌, ℕ, List, [], Option, Some, None, refl}
use Rattle.std.specs.Io.KnownBytes.{prepend_known}
use Rattle.std.specs.Io.Buffered.{reader_buffer, reader_capacity, reader_inner, reader_remaining}
use Rattle.std.specs.declared.io.buffered.BufReader.{BufReader}

nothing_before : (known : Option (List ℕ)) → prepend_known [] known ≡ known
nothing_before None = refl
nothing_before (Some xs) = refl

-- a reader that has read nothing ahead gives what the one below it gives
pub unread : {T A : Type 0} (remaining : T → Option (List ℕ)) (r : BufReader T A) (inner : T)
    → reader_capacity r ≡ 8192 → reader_buffer r ≡ [] → reader_inner r ≡ inner → reader_remaining remaining r ≡ remaining inner
unread remaining r inner capacity empty is = rw (capacity, empty, is) (nothing_before (remaining inner))
