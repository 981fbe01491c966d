use Rattle.std.proofs.Common.{◌≡◌, ◌∙◌, ◌<◌, ◌≤◌, length, arith}
use Rattle.itip_todo.specs.PartsOf.{parts_of}
use Rattle.itip_items.specs.Items.{draft_of, canonical_contents, canonical_octets}
use Rattle.itip_items.proofs.Adding.{over_one}
use Rattle.itip_items.proofs.Limits.{few_lines, few_octets, long_octets, many_lines}
use Rattle.itip_items.proofs.canonical.bytes_within.Goals as goal

pub returns-then-line_count-gt-LINES_LIMIT-clause-large : goal.returns-then-line_count-gt-LINES_LIMIT-clause-large
returns-then-line_count-gt-LINES_LIMIT-clause-large c = λ key eff.
    over_one (draft_of key eff c.args.todo.now c.args.kind) (λ within. many_lines
    (length (canonical_contents c.args.kind (parts_of c.args.todo.now))) c.line_count.result (c.line_count.ensures c.args.kind)
    c.if-line_count-gt-LINES_LIMIT.true within.lines)

pub returns-then-len-gt-OCTETS_LIMIT-clause-large : goal.returns-then-len-gt-OCTETS_LIMIT-clause-large
returns-then-len-gt-OCTETS_LIMIT-clause-large c = λ key eff.
    let known : c.len.result ≡ length c.in_ok-octets.octets.items = omega arith in
    let long : 262144 < length c.in_ok-octets.octets.items = omega (arith, known, c.if-len-gt-OCTETS_LIMIT.true) in
    over_one (draft_of key eff c.args.todo.now c.args.kind) (λ within. long_octets
    (canonical_octets c.args.kind (parts_of c.args.todo.now)) (c.in_ok-octets.ensures.over long) within.octets)

pub returns-clause-bytes : goal.returns-clause-bytes
returns-clause-bytes c = λ key eff.
    let known : c.len.result ≡ length c.in_ok-octets.octets.items = omega arith in
    let few : length c.in_ok-octets.octets.items ≤ 262144 = omega (arith, known, c.if-len-gt-OCTETS_LIMIT.false) in
    let same : c.in_ok-octets.octets.items ≡ canonical_octets c.args.kind (parts_of c.args.todo.now) =
    c.in_ok-octets.ensures.whole few in record {
      bytes_are = c.new.ensures ∙ same;
      within = record {
        octets = few_octets c.in_ok-octets.octets.items (canonical_octets c.args.kind (parts_of c.args.todo.now)) same few;
        lines = few_lines (length (canonical_contents c.args.kind (parts_of c.args.todo.now))) c.line_count.result
            (c.line_count.ensures c.args.kind) c.if-line_count-gt-LINES_LIMIT.false;
      };
    }
