-- The canonical octets of a to-do, put together from their parts.
use Rattle.std.proofs.Common.{◌≡◌, ◌∙◌, sym, ap, subst, ℕ, ◌+◌, ◌<◌, ◌≤◌, List, [], ◌∷◌, ◌++◌, length, length-append, append_assoc}
use Rattle.std.proofs.Common.{append-nil, arith}
use Rattle.std.specs.Prelude.{codes}
use Rattle.itip_todo.specs.Parts.{Parts}
use Rattle.itip_todo.specs.UpTo.{AppendsEach, AppendsUpTo}
use Rattle.itip_todo.specs.Written.{Content, contents_octets, parts_contents, todo_contents, front_contents, rest_contents}
use Rattle.itip_todo.proofs.Appending.{appends_all, each_behind, then_up_to, front_and_rest}
use Rattle.itip_todo.proofs.Contents.{contents_octets-append}
use Rattle.itip_items.specs.Items.{bare, canonical_contents, canonical_octets, opening_contents, closing_contents, front_octets}
use Rattle.itip_items.specs.declared.kind.Kind.{Kind}

abbrev end_calendar : List Content
end_calendar = bare (codes "END") (codes "VCALENDAR") ∷ []

-- the lines before a to-do, those of the to-do, and the last
canonical_lines : (k : Kind) (parts : Parts) → canonical_contents k parts ≡ opening_contents k ++ (todo_contents parts ++ end_calendar)
canonical_lines k parts =
    ap (λ (cs : List Content). opening_contents k ++ (bare (codes "BEGIN") (codes "VTODO") ∷ cs))
    (sym (append_assoc (parts_contents parts) (bare (codes "END") (codes "VTODO") ∷ []) end_calendar))

-- the lines up to ORGANIZER, and those after them
front_lines : (k : Kind) (parts : Parts) → canonical_contents k parts ≡ (opening_contents k ++ front_contents parts) ++
    closing_contents parts
front_lines k parts =
    canonical_lines k parts
    ∙ ap (λ (cs : List Content). opening_contents k ++ (cs ++ end_calendar)) (front_and_rest parts)
    ∙ ap (λ (cs : List Content). opening_contents k ++ cs) (append_assoc (front_contents parts) (rest_contents parts) end_calendar)
    ∙ sym (append_assoc (opening_contents k) (front_contents parts) (closing_contents parts))

-- a line after lines that are written as far as a limit allows
pub end_up_to : (limit : ℕ) (cs : List Content) (old mid new : List ℕ) → AppendsUpTo limit cs old mid →
    new ≡ mid ++ contents_octets end_calendar → AppendsUpTo limit (cs ++ end_calendar) old new
end_up_to limit cs old mid new written end =
    then_up_to limit cs end_calendar old mid new written (appends_all limit end_calendar mid new end)

-- the canonical form, where the to-do is written as far as a limit allows
pub canonical_up_to : (limit : ℕ) (k : Kind) (parts : Parts) (opening todo all : List ℕ) → opening ≡ contents_octets (opening_contents k)
    → AppendsUpTo limit (todo_contents parts) opening todo
    → all ≡ todo ++ contents_octets end_calendar
    → AppendsUpTo limit (canonical_contents k parts) [] all
canonical_up_to limit k parts opening todo all p q r =
    subst (λ (cs : List Content). AppendsUpTo limit cs [] all) (sym (canonical_lines k parts))
    (then_up_to limit (opening_contents k) (todo_contents parts ++ end_calendar) [] opening all
    (appends_all limit (opening_contents k) [] opening p) (end_up_to limit (todo_contents parts) opening todo all q r))

-- the octets of a front
pub front_is : (k : Kind) (parts : Parts) (opening front : List ℕ) → opening ≡ contents_octets (opening_contents k) →
    front ≡ opening ++ contents_octets (front_contents parts) → front ≡ front_octets k parts
front_is k parts opening front p q =
    q ∙ ap (λ (o : List ℕ). o ++ contents_octets (front_contents parts)) p ∙
    sym (contents_octets-append (opening_contents k) (front_contents parts))

-- a front, and lines after it that are written as far as there is room: together they are written as far as the limit allows
behind_front : (limit room : ℕ) (cs : List Content) (front own : List ℕ) → room + length front ≡ limit → AppendsUpTo room cs [] own →
    AppendsUpTo limit cs front (front ++ own)
behind_front limit room cs front own sum written =
    let now = length-append front own in
    let all = length-append front (contents_octets cs) in
    record {
      lines = subst (λ (old : List ℕ). AppendsEach limit cs old (front ++ own)) (append-nil front)
          (each_behind limit room front sum cs [] own written.lines);
      grows = omega (arith, now);
      whole = λ short. ap (λ (octets : List ℕ). front ++ octets) (written.whole (omega (arith, short, now, sum)));
      over = λ long. let more : room < length (contents_octets cs) = written.over (omega (arith, long, now, sum)) in
          omega (arith, more, all, sum);
    }

-- the canonical form, where what follows the front is written as far as there is room
pub canonical_behind : (limit room : ℕ) (k : Kind) (parts : Parts) (front own : List ℕ) → front ≡ front_octets k parts →
    room + length front ≡ limit → AppendsUpTo room (closing_contents parts) [] own
    → AppendsUpTo limit (canonical_contents k parts) [] (front ++ own)
canonical_behind limit room k parts front own is sum written =
    subst (λ (cs : List Content). AppendsUpTo limit cs [] (front ++ own)) (sym (front_lines k parts))
    (then_up_to limit (opening_contents k ++ front_contents parts) (closing_contents parts) [] front (front ++ own)
    (appends_all limit (opening_contents k ++ front_contents parts) [] front is)
    (behind_front limit room (closing_contents parts) front own sum written))

-- a front has no more octets than the canonical form
pub front_shorter : (k : Kind) (parts : Parts) → length (front_octets k parts) ≤ length (canonical_octets k parts)
front_shorter k parts =
    let same = ap (λ (cs : List Content). length (contents_octets cs)) (front_lines k parts) in
    let both = ap length (contents_octets-append (opening_contents k ++ front_contents parts) (closing_contents parts)) in
    let sum = length-append (front_octets k parts) (contents_octets (closing_contents parts)) in
    omega (arith, same, both, sum)
