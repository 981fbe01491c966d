use Rattle.std.proofs.Common.{◌≡◌, ◌∙◌, ap, ℕ, ◌+◌, ◌<◌, ◌≤◌, ◌++◌, List, [], length, length-append, arith}
use Rattle.itip_todo.specs.Parts.{Parts}
use Rattle.itip_todo.specs.PartsOf.{parts_of}
use Rattle.itip_todo.specs.UpTo.{AppendsUpTo}
use Rattle.itip_items.specs.Items.{draft_of, canonical_contents, canonical_octets, front_octets}
use Rattle.itip_items.proofs.Adding.{over_one}
use Rattle.itip_items.proofs.Composing.{canonical_behind, front_shorter}
use Rattle.itip_items.proofs.Limits.{few_lines, few_octets, long_octets, many_lines}
use Rattle.itip_items.proofs.canonical.bytes_behind.Goals as goal

pub returns-then-line_count-gt-LINES_LIMIT-clause-large : goal.returns-then-line_count-gt-LINES_LIMIT-clause-large
returns-then-line_count-gt-LINES_LIMIT-clause-large c = λ key eff.
    over_one (draft_of key eff c.args.todo.now c.args.kind) (λ within. many_lines
    (length (canonical_contents c.args.kind (parts_of c.args.todo.now))) c.line_count.result (c.line_count.ensures c.args.kind)
    c.if-line_count-gt-LINES_LIMIT.true within.lines)

-- a front that is above the limit
long_front : (front canonical : List ℕ) → length front ≤ length canonical → 262144 < length front → length canonical ≤ 262144 → ⊥
long_front front canonical shorter long short = omega (arith, shorter, long, short)

pub returns-in_default-clause-large : goal.returns-in_default-clause-large
returns-in_default-clause-large c = λ key eff.
    let parts : Parts = parts_of c.args.todo.now in
    let same = ap length c.requires in
    let seen = ap length c.as_slice.ensures in
    let long : 262144 < length (front_octets c.args.kind parts) = omega (arith, same, seen) in
    over_one (draft_of key eff c.args.todo.now c.args.kind) (λ within. long_front (front_octets c.args.kind parts)
    (canonical_octets c.args.kind parts) (front_shorter c.args.kind parts) long within.octets)

pub returns-then-len-room-clause-large : goal.returns-then-len-room-clause-large
returns-then-len-room-clause-large c = λ key eff.
    let parts : Parts = parts_of c.args.todo.now in
    let front : List ℕ = c.args.front.now in
    let own : List ℕ = c.in_ok-own.own.items in
    let seen = ap length c.as_slice.ensures in
    let sum : c.in-Some.room + length front ≡ 262144 = omega (arith, seen) in
    let written : AppendsUpTo 262144 (canonical_contents c.args.kind parts) [] (front ++ own) =
    canonical_behind 262144 c.in-Some.room c.args.kind parts front own c.requires sum c.in_ok-own.ensures in
    let both = length-append front own in
    let long : 262144 < length (front ++ own) = omega (arith, both, sum) in
    over_one (draft_of key eff c.args.todo.now c.args.kind) (λ within. long_octets
    (canonical_octets c.args.kind parts) (written.over long) within.octets)

pub returns-clause-bytes : goal.returns-clause-bytes
returns-clause-bytes c = λ key eff.
    let parts : Parts = parts_of c.args.todo.now in
    let front : List ℕ = c.args.front.now in
    let own : List ℕ = c.in_ok-own.own.items in
    let seen = ap length c.as_slice.ensures in
    let sum : c.in-Some.room + length front ≡ 262144 = omega (arith, seen) in
    let written : AppendsUpTo 262144 (canonical_contents c.args.kind parts) [] (front ++ own) =
    canonical_behind 262144 c.in-Some.room c.args.kind parts front own c.requires sum c.in_ok-own.ensures in
    let both = length-append front own in
    let few : length (front ++ own) ≤ 262144 = omega (arith, both, sum) in
    let same : front ++ own ≡ canonical_octets c.args.kind parts = written.whole few in record {
      bytes_are = c.in_ok-behind.ensures ∙ same;
      within = record {
        octets = few_octets (front ++ own) (canonical_octets c.args.kind parts) same few;
        lines = few_lines (length (canonical_contents c.args.kind parts)) c.line_count.result (c.line_count.ensures c.args.kind)
            c.if-line_count-gt-LINES_LIMIT.false;
      };
    }
