-- The bytes of a message, put together from their parts.
use Rattle.std.proofs.Common.{◌≡◌, ◌≢◌, ◌∙◌, sym, ap, refl, ℕ, ◌+◌, ◌<◌, List, [], ◌∷◌, ◌++◌, length, take, get_or, append-nil}
use Rattle.std.specs.Prelude.{codes}
use Rattle.std.specs.List.{flat_map}
use Rattle.itip_todo.specs.Parts.{Parts}
use Rattle.itip_todo.specs.Written.{Content, content_octets, contents_octets, todo_contents}
use Rattle.itip_todo.proofs.Contents.{then_lines}
use Rattle.itip_todo.proofs.Segments.{attendee_lines, base_on, organizer_lines, percent_lines, rid_lines, status_lines}
use Rattle.itip_items.specs.Items.{bare, method_text}
use Rattle.itip_items.specs.declared.kind.Method.{Method}
use Rattle.itip_items.specs.declared.kind.Method.TheVariants as method
use Rattle.itip_view.proofs.FlatMap.{flat_map_more}
use Rattle.itip_writing.specs.Sent.{brief_parts, calendar_end, sent_front, sent_head, sent_octets, sent_todo}
use Rattle.itip_writing.specs.declared.brief.BriefTodo.{BriefTodo}
use Rattle.itip_writing.proofs.Framing.{inner_of, sent_is}

abbrev begin_todo : Content
begin_todo = bare (codes "BEGIN") (codes "VTODO")

abbrev end_todo : Content
end_todo = bare (codes "END") (codes "VTODO")

-- a to-do of which only a few properties are written, one part after the other
pub brief_written : (m : Method) (b : BriefTodo) (o begun headed o1 o2 o3 o4 o5 ended : List ℕ)
    → begun ≡ o ++ contents_octets (begin_todo ∷ [])
    → headed ≡ begun ++ contents_octets (sent_head m (brief_parts b))
    → o1 ≡ headed ++ contents_octets (rid_lines (brief_parts b))
    → o2 ≡ o1 ++ contents_octets (status_lines (brief_parts b))
    → o3 ≡ o2 ++ contents_octets (percent_lines (brief_parts b))
    → o4 ≡ o3 ++ contents_octets (organizer_lines (brief_parts b))
    → o5 ≡ o4 ++ contents_octets (attendee_lines (brief_parts b))
    → ended ≡ o5 ++ contents_octets (end_todo ∷ []) → ended ≡ o ++ contents_octets (sent_todo m (brief_parts b))
brief_written m b o begun headed o1 o2 o3 o4 o5 ended eb eh e1 e2 e3 e4 e5 ee =
    let p : Parts = brief_parts b in
    let organized : List Content = organizer_lines p ++ (attendee_lines p ++ []) in
    let told : List Content = percent_lines p ++ organized in
    let stated : List Content = status_lines p ++ told in
    let last : o5 ≡ o4 ++ contents_octets (attendee_lines p ++ []) =
    e5 ∙ ap (λ (cs : List Content). o4 ++ contents_octets cs) (sym (append-nil (attendee_lines p))) in
    let all : o5 ≡ headed ++ contents_octets (rid_lines p ++ stated) =
    then_lines headed o1 o5 (rid_lines p) stated e1
    (then_lines o1 o2 o5 (status_lines p) told e2
    (then_lines o2 o3 o5 (percent_lines p) organized e3 (then_lines o3 o4 o5 (organizer_lines p) (attendee_lines p ++ []) e4 last))) in
    let inner : o5 ≡ begun ++ contents_octets (inner_of m p) = then_lines begun headed o5 (sent_head m p) (base_on p) eh all in
    then_lines o begun ended (begin_todo ∷ []) (inner_of m p ++ end_todo ∷ []) eb
    (then_lines begun o5 ended (inner_of m p) (end_todo ∷ []) inner ee)
    ∙ ap (λ (cs : List Content). o ++ contents_octets cs) (sym (sent_is m p))

-- under every method but REFRESH all lines of a to-do are written
pub all_lines : (m : Method) (p : Parts) → m ≢ method.Refresh → sent_todo m p ≡ todo_contents p
all_lines method.Request p h = refl
all_lines method.Add p h = refl
all_lines method.Cancel p h = refl
all_lines method.Reply p h = refl
all_lines method.Refresh p h = absurd (h refl)

-- one more to-do
pub one_more_todo : {X : Type 0} (f : X → List Content) (xs : List X) (i : ℕ) (x : X) (front old new : List ℕ) → i < length xs →
    x ≡ get_or xs i x → old ≡ front ++ contents_octets (flat_map f (take i xs)) → new ≡ old ++ contents_octets (f x) →
    new ≡ front ++ contents_octets (flat_map f (take (i + 1) xs))
one_more_todo f xs i x front old new less is first second =
    then_lines front old new (flat_map f (take i xs)) (f x) first second
    ∙ ap (λ (cs : List Content). front ++ contents_octets cs) (sym (flat_map_more f xs i x less is))

-- the lines before the to-dos, the to-dos, and the line after them
pub whole_message : (m : Method) (ps : List Parts) (old new : List ℕ) →
    old ≡ contents_octets (sent_front m) ++ contents_octets (flat_map (sent_todo m) ps) → new ≡ old ++ content_octets calendar_end →
    new ≡ sent_octets m ps
whole_message m ps old new first second =
    let front : List ℕ = contents_octets (sent_front m) in
    let todos : List Content = flat_map (sent_todo m) ps in
    let rest : new ≡ front ++ contents_octets (todos ++ calendar_end ∷ []) =
    then_lines front old new todos (calendar_end ∷ []) first
    (second ∙ ap (λ (text : List ℕ). old ++ text) (sym (append-nil (content_octets calendar_end)))) in
    then_lines [] front new (sent_front m) (todos ++ calendar_end ∷ []) refl rest

-- the lines before METHOD
abbrev first_lines : List Content
first_lines =
    bare (codes "BEGIN") (codes "VCALENDAR") ∷ bare (codes "PRODID") (codes "-//itipdesk//1//EN") ∷ bare (codes "VERSION") (codes "2.0")
    ∷ []

pub front_written : (m : Method) (empty first all : List ℕ) → empty ≡ [] → first ≡ empty ++ contents_octets first_lines →
    all ≡ first ++ content_octets (bare (codes "METHOD") (method_text m)) → all ≡ contents_octets (sent_front m)
front_written m empty first all none begun ended =
    let line : Content = bare (codes "METHOD") (method_text m) in
    then_lines empty first all first_lines (line ∷ []) begun
    (ended ∙ ap (λ (text : List ℕ). first ++ text) (sym (append-nil (content_octets line))))
    ∙ ap (λ (text : List ℕ). text ++ contents_octets (sent_front m)) none
