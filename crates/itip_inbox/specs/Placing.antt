-- The places of messages that come after others of their source (our own form).
use Rattle.std.specs.Prelude.{ℕ, ◌+◌}
use Rattle.itip_explain.specs.declared.told.ToldItem.{ToldItem}
use Rattle.itip_inbox.specs.declared.refused.RefusedMessage.{RefusedMessage}

-- a refused message after `count` others
abbrev pub later_refusal : ℕ → RefusedMessage → RefusedMessage
later_refusal count refused = record { source = refused.source; message = refused.message + count; refusal = refused.refusal }

-- an item of a message after `count` others
abbrev pub later_told : ℕ → ToldItem → ToldItem
later_told count told = record {
  place = record { source = told.place.source; message = told.place.message + count };
  item = told.item;
}
