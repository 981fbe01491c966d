use Rattle.std.proofs.Common.{◌≡◌, ◌∙◌, ℕ, List, sym, subst}
use Rattle.itip_lines.specs.Finding.{or_anew, IsFoundIn}
use Rattle.itip_lines.specs.LinePlaces.{IsLineAt}
use Rattle.itip_lines.specs.Parts.{LacksLine}
use Rattle.itip_lines.specs.SeenOctets.{octets_of}
use Rattle.itip_lines.specs.Spelling.{Spells}
use Rattle.itip_lines.specs.declared.line.Line.{Line}
use Rattle.itip_lines.proofs.Finding.{line_found, octets_found, found_at}
use Rattle.itip_lines.proofs.grammar.read_text.Goals as goal

pub returns-in_default : goal.returns-in_default
returns-in_default c = subst LacksLine c.as_slice.ensures (rw c.in_default.is at c.in_ok-found.ensures)

pub new-requires : goal.new-requires
new-requires c =
    let found : IsFoundIn c.as_slice.result.now c.in-Some.found = rw c.in-Some.is at c.in_ok-found.ensures in
    let here : IsFoundIn (octets_of c.args.text) c.in-Some.found =
    subst (λ (t : List ℕ). IsFoundIn t c.in-Some.found) c.as_slice.ensures found in
    subst (λ (t : List ℕ). IsLineAt t c.in-Some.found.name c.in-Some.found.value) (sym c.or_anew.ensures)
    (found_at _ _ here c.requires.utf8 c.requires.short)

pub returns : goal.returns
returns c =
    let found : IsFoundIn c.as_slice.result.now c.in-Some.found = rw c.in-Some.is at c.in_ok-found.ensures in
    let here : IsFoundIn (octets_of c.args.text) c.in-Some.found =
    subst (λ (t : List ℕ). IsFoundIn t c.in-Some.found) c.as_slice.ensures found in
    let line : Line = line_found _ _ here c.requires.utf8 c.requires.short in
    let same : c.new.result ≡ line = c.new.ensures line (c.or_anew.ensures ∙ octets_found _ _ here c.requires.utf8 c.requires.short) in
    subst (λ (l : Line). Spells (octets_of c.args.text) l.name l.params l.value) (sym same) here.spells
