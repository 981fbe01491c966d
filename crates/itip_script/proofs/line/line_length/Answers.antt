use Rattle.std.proofs.Common.{ℕ, ◌<◌, ◌==◌, length, arith, rules}
use Rattle.std.proofs.lemmas.List.Sums.{position_or_len_is}
use Rattle.itip_script.proofs.FirstLines.{line_length_at, line_length_all}
use Rattle.itip_script.proofs.line.line_length.Goals as goal

pub returns-in-Some : goal.returns-in-Some
returns-in-Some c =
    let bytes = c.args.bytes.now in
    let found = position_or_len_is (λ (b : ℕ). b == 10) bytes c.in-Some.at 0 (search rules) (search rules) (search rules) in
    let within : c.in-Some.at < length bytes = search rules in
    let same = line_length_at bytes (omega (arith, found, within)) in
    record { exact = omega (arith, found, same); within = omega arith }

pub returns-in-None : goal.returns-in-None
returns-in-None c =
    let bytes = c.args.bytes.now in
    let none = position_or_len_is (λ (b : ℕ). b == 10) bytes (length bytes) 0 (omega arith) (search rules) (search rules) in
    record { exact = omega (arith, line_length_all bytes none); within = omega arith }
