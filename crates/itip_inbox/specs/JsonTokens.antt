-- What is written of objects, piece by piece (our own form).
use Rattle.std.specs.Prelude.{◌≡◌, ℕ, List, [], ◌∷◌, ◌++◌, codes}
use Rattle.std.specs.List.{flat_map}
use Rattle.json.specs.Token.{Token, key}
use Rattle.json.specs.Tree.{json_tokens}
use Rattle.itip_view.specs.ByUid.{AreLeft}
use Rattle.itip_view.specs.declared.by_uid.RowsByUid.{RowsByUid}
use Rattle.itip_view.specs.declared.row.Row.{Row}
use Rattle.itip_view.specs.declared.row.ShownAttendee.{ShownAttendee}
use Rattle.itip_inbox.specs.Json.{Member, attendee_object, object_behind, object_text}

abbrev pub member_tokens : Member → List Token
member_tokens m = key m.0 ∷ json_tokens m.1

-- the tokens of some members, each after its name
abbrev pub named_tokens : List Member → List Token
named_tokens members = flat_map member_tokens members

abbrev pub attendee_tokens : ShownAttendee → List Token
attendee_tokens attendee = json_tokens (attendee_object attendee)

-- the array from its beginning to the last of some rows
abbrev pub opened_text : List Row → List ℕ
opened_text [] = []
opened_text (row ∷ rows) = codes "[\n" ++ (object_text row ++ flat_map object_behind rows)

-- the rows are the first of all, none only if there are none, and the others are left
abbrev pub IsFrontOf : RowsByUid → List Row → List Row → Type 0
IsFrontOf left rows all = (rest : List Row) × AreLeft left rest × (all ≡ rows ++ rest) × (rows ≡ [] → all ≡ [])
