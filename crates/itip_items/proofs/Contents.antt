-- Lawful contents are known by their octets, and those of an item are lawful.
use Rattle.std.proofs.Common.{◌≡◌, ◌∙◌, sym, ap, refl, ℕ, ◌≤◌, List, [], ◌∷◌, ◌++◌, length, map, arith, subst}
use Rattle.std.specs.Prelude.{codes}
use Rattle.std.specs.List.{AllByRecursion}
use Rattle.itip_lines.specs.Reading.{ReadsLines}
use Rattle.itip_lines.proofs.OneReading.{one_plain_reading}
use Rattle.itip_todo.specs.Lawful.{IsLawfulContent}
use Rattle.itip_todo.specs.Parts.{Parts}
use Rattle.itip_todo.specs.Written.{Content, contents_octets, content_of, parts_contents}
use Rattle.itip_todo.proofs.ContentLines.{lines_from, contents_of, reads_from, plain_lawful, followed}
use Rattle.itip_items.specs.Items.{bare, canonical_contents, method_of, method_text}
use Rattle.itip_items.specs.declared.kind.Kind.{Kind}
use Rattle.itip_items.specs.declared.kind.Method.{Method}
use Rattle.itip_items.specs.declared.kind.Method.TheVariants as method

pub reads_contents : (cs : List Content) (h : AllByRecursion IsLawfulContent cs) → length cs ≤ 20000 →
    length (contents_octets cs) ≤ 262144 → ReadsLines (contents_octets cs) (lines_from cs h)
reads_contents cs h few short = reads_from cs h few (omega (arith, short))

-- contents are known by their octets
pub same_contents : (cs ds : List Content) → AllByRecursion IsLawfulContent cs → AllByRecursion IsLawfulContent ds → length cs ≤ 20000 →
    length ds ≤ 20000 → length (contents_octets cs) ≤ 262144 → contents_octets cs ≡ contents_octets ds → cs ≡ ds
same_contents cs ds h k few less short same =
    let reads : ReadsLines (contents_octets cs) (lines_from ds k) =
    subst (λ (bytes : List ℕ). ReadsLines bytes (lines_from ds k)) (sym same)
    (reads_contents ds k less (omega (arith, ap length same))) in
    sym (contents_of cs h) ∙ ap (map content_of)
    (one_plain_reading (contents_octets cs) (lines_from cs h) (lines_from ds k) (reads_contents cs h few short) reads) ∙
    contents_of ds k

-- the lines around a to-do

method_lawful : (m : Method) → IsLawfulContent (bare (codes "METHOD") (method_text m))
method_lawful method.Request = plain_lawful (codes "METHOD") (codes "REQUEST") (omega arith) refl refl refl (omega arith)
method_lawful method.Add = plain_lawful (codes "METHOD") (codes "ADD") (omega arith) refl refl refl (omega arith)
method_lawful method.Cancel = plain_lawful (codes "METHOD") (codes "CANCEL") (omega arith) refl refl refl (omega arith)
method_lawful method.Reply = plain_lawful (codes "METHOD") (codes "REPLY") (omega arith) refl refl refl (omega arith)
method_lawful method.Refresh = plain_lawful (codes "METHOD") (codes "REFRESH") (omega arith) refl refl refl (omega arith)

lawful_ends : AllByRecursion IsLawfulContent (bare (codes "END") (codes "VTODO") ∷ bare (codes "END") (codes "VCALENDAR") ∷ [])
lawful_ends = (
  plain_lawful (codes "END") (codes "VTODO") (omega arith) refl refl refl (omega arith),
  (plain_lawful (codes "END") (codes "VCALENDAR") (omega arith) refl refl refl (omega arith), tt),
)

lawful_head : (k : Kind) → AllByRecursion IsLawfulContent (bare (codes "BEGIN") (codes "VCALENDAR") ∷
    bare (codes "PRODID") (codes "-//itipdesk//1//EN") ∷ bare (codes "VERSION") (codes "2.0") ∷
    bare (codes "METHOD") (method_text (method_of k)) ∷ bare (codes "BEGIN") (codes "VTODO") ∷ [])
lawful_head k =
    let begin : IsLawfulContent (bare (codes "BEGIN") (codes "VCALENDAR")) =
    plain_lawful (codes "BEGIN") (codes "VCALENDAR") (omega arith) refl refl refl (omega arith) in
    let product : IsLawfulContent (bare (codes "PRODID") (codes "-//itipdesk//1//EN")) =
    plain_lawful (codes "PRODID") (codes "-//itipdesk//1//EN") (omega arith) refl refl refl (omega arith) in
    let version : IsLawfulContent (bare (codes "VERSION") (codes "2.0")) =
    plain_lawful (codes "VERSION") (codes "2.0") (omega arith) refl refl refl (omega arith) in
    let todo : IsLawfulContent (bare (codes "BEGIN") (codes "VTODO")) =
    plain_lawful (codes "BEGIN") (codes "VTODO") (omega arith) refl refl refl (omega arith) in
    (begin, (product, (version, (method_lawful (method_of k), (todo, tt)))))

-- the canonical lines of a lawful to-do are lawful
pub canonical_lawful : (k : Kind) (parts : Parts) → AllByRecursion IsLawfulContent (parts_contents parts) →
    AllByRecursion IsLawfulContent (canonical_contents k parts)
canonical_lawful k parts h =
    followed (bare (codes "BEGIN") (codes "VCALENDAR") ∷ bare (codes "PRODID") (codes "-//itipdesk//1//EN") ∷
    bare (codes "VERSION") (codes "2.0") ∷ bare (codes "METHOD") (method_text (method_of k)) ∷ bare (codes "BEGIN") (codes "VTODO") ∷
    []) (parts_contents parts ++ (bare (codes "END") (codes "VTODO") ∷ bare (codes "END") (codes "VCALENDAR") ∷ [])) (lawful_head k)
    (followed (parts_contents parts) (bare (codes "END") (codes "VTODO") ∷ bare (codes "END") (codes "VCALENDAR") ∷ []) h lawful_ends)
