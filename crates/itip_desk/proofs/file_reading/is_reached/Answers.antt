use Rattle.std.proofs.Common.{◌≡◌, ◌∙◌, ◌==◌, ap, ℕ, List}
use Rattle.std.specs.List.{list_any}
use Rattle.itip_desk.proofs.LastMoves.{move_reaches, reached_moves}
use Rattle.itip_desk.proofs.file_reading.is_reached.Goals as goal

pub returns : goal.returns
returns c =
    let tick : ℕ = c.args.parts.now.tick in
    let moves : List (List ℕ × ℕ) = c.args.parts.now.moves.items in
    let same : c.some_moved_at.result ≡ list_any (λ (move : List ℕ × ℕ). move.1 == tick) moves = c.some_moved_at.ensures
    ∙ ap (list_any (λ (move : List ℕ × ℕ). move.1 == tick)) c.as_slice.ensures.value in (
      λ moved. move_reaches tick moves c.some_moved_at.result same moved,
      λ reach. reached_moves tick moves c.some_moved_at.result same c.if-parts-eq0.false reach,
    )
