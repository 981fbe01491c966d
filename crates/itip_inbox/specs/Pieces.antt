-- Sources that are cut into pieces (our own form).
use Rattle.std.specs.Prelude.{◌≡◌, ℕ, ◌+◌, List, [], ◌∷◌, ◌++◌, length, Option, cond}
use Rattle.std.specs.List.{AllZip}
use Rattle.itip_items.specs.declared.item.Item.{Item}
use Rattle.itip_message.specs.Scanned.{messages_of}
use Rattle.itip_inbox.specs.Inbox.{Placed, placed_from}
use Rattle.itip_inbox.specs.Streaming.{Tells}
use Rattle.itip_inbox.specs.declared.source_pieces.Piece.{Piece}
use Rattle.itip_inbox.specs.declared.read_pieces.ReadPiece.{ReadPiece}

-- the messages of a piece
abbrev pub texts_of : Piece → List (List ℕ)
texts_of piece = messages_of piece.octets.now

-- how many messages of its source come before a piece, if `count` do where it goes on: none if the source begins with it
abbrev pub count_before : ℕ → Piece → ℕ
count_before count piece = cond piece.is_first 0 count

-- how many messages the source of the last piece has up to its end, if `count` messages come before the first piece
abbrev pub count_behind : ℕ → List Piece → ℕ
count_behind count [] = count
count_behind count (piece ∷ pieces) = count_behind (count_before count piece + length (texts_of piece)) pieces

-- the messages of pieces, numbered within their sources, if `count` messages come before the first piece
abbrev pub pieces_from : ℕ → List Piece → List Placed
pieces_from count [] = []
pieces_from count (piece ∷ pieces) =
    placed_from piece.source (count_before count piece + 1) (texts_of piece) ++
    pieces_from (count_before count piece + length (texts_of piece)) pieces

-- this is what the messages of a piece tell, numbered from 1
pub record IsRead (about : Option (List ℕ)) (kept : List Item) (piece : Piece) (read : ReadPiece) : Type 0 where
  pub first : read.is_first ≡ piece.is_first
  pub tells : Tells about kept (placed_from piece.source 1 (texts_of piece)) read.heard

-- each piece was read
abbrev pub AreRead : Option (List ℕ) → List Item → List Piece → List ReadPiece → Type 0
AreRead about kept pieces read = AllZip (IsRead about kept) pieces read
