-- What is held of a UID once a series item was heard, if something was held of it before (our own form).
use Rattle.std.specs.Prelude.{◌≡◌, Option, Some, None}
use Rattle.itip_state.specs.Held.{Best, UidState, series_alone}
use Rattle.itip_state.specs.Joined.{IsJoinedAt}

abbrev pub IsRaisedAt : Option UidState → Best → Option UidState → Type 0
IsRaisedAt None newer now = now ≡ None
IsRaisedAt (Some was) newer now = IsJoinedAt (Some was) (Some (series_alone newer)) now
