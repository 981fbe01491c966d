-- The commands of a script, in order (our own format).
use Rattle.std.specs.Prelude.{◌≡◌, ℕ, List, [], ◌∷◌, ◌++◌, if◌then◌else◌}
use Rattle.std.specs.List.{concat, list_all}
use Rattle.itip_script.specs.Lines.{lines_of, content_of, is_empty, is_command, before_command}
use Rattle.itip_script.specs.Orders.{Order, malformed, order_at, is_take}

-- A stretch of lines that belongs to no `!take` is one malformed command, unless each line of it is empty.
abbrev pub stray : List (List ℕ) → List Order
stray stretch = if list_all is_empty stretch then [] else malformed ∷ []

-- A command line, and the lines after it up to the next command: the message of a `!take`, else out of place.
abbrev pub given_by : List ℕ → List (List ℕ) → List Order
given_by line stretch =
    if is_take (content_of line) then order_at (content_of line) (concat stretch) ∷ []
    else order_at (content_of line) [] ∷ stray stretch

-- The commands of lines, without what comes before the first command.
abbrev pub given_from : List (List ℕ) → List Order
given_from [] = []
given_from (line ∷ lines) =
    if is_command line then given_by line (before_command lines) ++ given_from lines else given_from lines

-- all commands of a script
abbrev pub orders_of : List ℕ → List Order
orders_of script = stray (before_command (lines_of script)) ++ given_from (lines_of script)

-- What the lines from a command line on give: an order, and the commands of the rest.
abbrev pub GivesFirst : List ℕ → List ℕ → Order → List ℕ → Type 0
GivesFirst line after order rest = given_by line (before_command (lines_of after)) ++ given_from (lines_of after) ≡ order ∷ orders_of rest
