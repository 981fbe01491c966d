-- Lines that are written as far as a limit of octets allows, one part after the other.
use Rattle.std.proofs.Common.{◌≡◌, ◌∙◌, sym, ap, refl, subst, ℕ, ◌<◌, ◌≤◌, List, [], ◌∷◌, ◌++◌, length, take, drop, map, arith, inl, inr}
use Rattle.std.proofs.Common.{◌+◌, append-nil, append_assoc}
use Rattle.std.proofs.lemmas.Bool.{cases_lt}
use Rattle.std.proofs.lemmas.List.{length-append, map-append, take-append-drop, take_all}
use Rattle.std.specs.Prelude.{◌⊎◌, codes}
use Rattle.itip_todo.specs.Parts.{Parts}
use Rattle.itip_todo.specs.UpTo.{AppendsEach, AppendsUpTo}
use Rattle.itip_lines.specs.Writing.{folded, unfolded_text}
use Rattle.itip_lines.specs.declared.line.Line.{Line}
use Rattle.itip_todo.specs.Written.{Content, content_of, content_octets, contents_octets, head_contents, list_contents, parts_contents}
use Rattle.itip_todo.specs.Written.{todo_contents, bare, front_contents, rest_contents, without_lists}
use Rattle.itip_todo.proofs.Contents.{then_lines}
use Rattle.itip_todo.proofs.Segments.{base_lines, base_on, rid_lines, rid_on, start_lines, start_on, due_lines, due_on, status_lines}
use Rattle.itip_todo.proofs.Segments.{status_on, percent_lines, percent_on, priority_lines, priority_on, summary_lines, summary_on}
use Rattle.itip_todo.proofs.Segments.{organizer_lines, organizer_on, attendee_lines, rule_lines, rule_on, rdate_lines}
use Rattle.itip_todo.proofs.Segments.{rdate_on, exdate_lines, exdate_on, other_lines, other_on}

-- ---- each line is appended, or left out above the limit

each_all : (limit : ℕ) (lines : List Content) (old : List ℕ) → AppendsEach limit lines old (old ++ contents_octets lines)
each_all limit [] old = append-nil old
each_all limit (line ∷ lines) old =
    inl (subst (λ (new : List ℕ). AppendsEach limit lines (old ++ content_octets line) new)
    (append_assoc old (content_octets line) (contents_octets lines)) (each_all limit lines (old ++ content_octets line)))

each_left_out : (limit : ℕ) (lines : List Content) (old : List ℕ) → limit < length old → AppendsEach limit lines old old
each_left_out limit [] old long = refl
each_left_out limit (line ∷ lines) old long = inr (long, each_left_out limit lines old long)

each_then : (limit : ℕ) (xs ys : List Content) (old mid new : List ℕ) → AppendsEach limit xs old mid → AppendsEach limit ys mid new →
    AppendsEach limit (xs ++ ys) old new
each_then limit [] ys old mid new first second = subst (λ (o : List ℕ). AppendsEach limit ys o new) first second
each_then limit (x ∷ xs) ys old mid new (inl on) second = inl (each_then limit xs ys (old ++ content_octets x) mid new on second)
each_then limit (x ∷ xs) ys old mid new (inr out) second = inr (out.0, each_then limit xs ys old mid new out.1 second)

-- with octets before what was there, and as many more in the limit
pub each_behind : (limit room : ℕ) (front : List ℕ) → room + length front ≡ limit → (lines : List Content) (old new : List ℕ) →
    AppendsEach room lines old new → AppendsEach limit lines (front ++ old) (front ++ new)
each_behind limit room front sum [] old new same = ap (λ (octets : List ℕ). front ++ octets) same
each_behind limit room front sum (line ∷ lines) old new (inl on) =
    inl (subst (λ (o : List ℕ). AppendsEach limit lines o (front ++ new)) (sym (append_assoc front old (content_octets line)))
    (each_behind limit room front sum lines (old ++ content_octets line) new on))
each_behind limit room front sum (line ∷ lines) old new (inr out) =
    let both = length-append front old in
    let long : room < length old = out.0 in
    inr (omega (arith, sum, both, long), each_behind limit room front sum lines old new out.1)

-- ---- and what follows

-- all lines are written
pub appends_all : (limit : ℕ) (contents : List Content) (old new : List ℕ) → new ≡ old ++ contents_octets contents →
    AppendsUpTo limit contents old new
appends_all limit contents old new is =
    let same = ap length is in
    let both = length-append old (contents_octets contents) in
    record {
      lines = subst (λ (octets : List ℕ). AppendsEach limit contents old octets) (sym is) (each_all limit contents old);
      grows = omega (arith, same, both);
      whole = λ short. is;
      over = λ long. subst (λ (octets : List ℕ). limit < length octets) is long;
    }

-- what has more octets than the limit has more with the lines after it
over_behind : (limit : ℕ) (xs ys : List Content) (old : List ℕ) → limit < length (old ++ contents_octets xs) →
    limit < length (old ++ contents_octets (xs ++ ys))
over_behind limit xs ys old long =
    let front : List ℕ = old ++ contents_octets xs in
    let same = ap length (then_lines old front (front ++ contents_octets ys) xs ys refl refl) in
    let both = length-append front (contents_octets ys) in
    omega (arith, same, both, long)

-- lines after lines
pub then_up_to : (limit : ℕ) (xs ys : List Content) (old mid new : List ℕ) → AppendsUpTo limit xs old mid → AppendsUpTo limit ys mid new →
    AppendsUpTo limit (xs ++ ys) old new
then_up_to limit xs ys old mid new first second = record {
  lines = each_then limit xs ys old mid new first.lines second.lines;
  grows = omega (arith, first.grows, second.grows);
  whole = λ short. then_lines old mid new xs ys (first.whole (omega (arith, second.grows, short))) (second.whole short);
  over = λ long. each long (cases_lt limit (length mid));
}
  where
    each : limit < length new → (limit < length mid) ⊎ (length mid ≤ limit) → limit < length (old ++ contents_octets (xs ++ ys))
    each long (inl many) = over_behind limit xs ys old (first.over many)
    each long (inr few) =
        subst (λ (octets : List ℕ). limit < length octets) (then_lines old mid (mid ++ contents_octets ys) xs ys (first.whole few) refl)
        (second.over long)

-- the lines so far are written, and those that are left are not, once there are more octets than the limit
stopped_before : (limit : ℕ) (done left : List Content) (old now : List ℕ) → now ≡ old ++ contents_octets done → limit < length now →
    AppendsUpTo limit (done ++ left) old now
stopped_before limit done left old now is long =
    let same = ap length is in
    let both = length-append old (contents_octets done) in
    let front : AppendsEach limit done old now =
    subst (λ (octets : List ℕ). AppendsEach limit done old octets) (sym is) (each_all limit done old) in
    record {
      lines = each_then limit done left old now now front (each_left_out limit left now long);
      grows = omega (arith, same, both);
      whole = λ short. absurd (omega (arith, short, long));
      over = λ more. over_behind limit done left old (subst (λ (octets : List ℕ). limit < length octets) is long);
    }

-- the lines of a list, of which none is written once there are more octets than the limit
pub stopped : {A : Type 0} (f : A → Content) (xs : List A) (limit i : ℕ) (old now : List ℕ) →
    now ≡ old ++ contents_octets (map f (take i xs)) → limit < length now → AppendsUpTo limit (map f xs) old now
stopped {A} f xs limit i old now is long =
    subst (λ (cs : List Content). AppendsUpTo limit cs old now)
    (sym (map-append f (take i xs) (drop i xs)) ∙ ap (map f) (take-append-drop i xs))
    (stopped_before limit (map f (take i xs)) (map f (drop i xs)) old now is long)

pub finished : {A : Type 0} (f : A → Content) (xs : List A) (limit i : ℕ) (old now : List ℕ) → length xs ≤ i →
    now ≡ old ++ contents_octets (map f (take i xs)) → AppendsUpTo limit (map f xs) old now
finished {A} f xs limit i old now done is =
    appends_all limit (map f xs) old now (is ∙ ap (λ (ys : List A). old ++ contents_octets (map f ys)) (take_all i xs done))

-- These lines are left to write: the others follow what was there.
pub record Leaves (contents : List Content) (old now : List ℕ) (left : List Content) : Type 0 where
  pub done : List Content
  pub all : done ++ left ≡ contents
  pub wrote : now ≡ old ++ contents_octets done

pub leaves_all : (contents : List Content) (old : List ℕ) → Leaves contents old old contents
leaves_all contents old = record { done = []; all = refl; wrote = sym (append-nil old) }

pub leaves_less : (contents : List Content) (old now : List ℕ) (line : Content) (rest : List Content) (new : List ℕ) →
    Leaves contents old now (line ∷ rest) → new ≡ now ++ contents_octets (line ∷ []) → Leaves contents old new rest
leaves_less contents old now line rest new before wrote = record {
  done = before.done ++ line ∷ [];
  all = append_assoc before.done (line ∷ []) rest ∙ before.all;
  wrote = then_lines old now new before.done (line ∷ []) before.wrote wrote;
}

pub leaves_none : (contents : List Content) (limit : ℕ) (old now : List ℕ) → Leaves contents old now [] → AppendsUpTo limit contents old now
leaves_none contents limit old now before =
    appends_all limit contents old now
    (before.wrote ∙ ap (λ (cs : List Content). old ++ contents_octets cs) (sym (append-nil before.done) ∙ before.all))

pub leaves_some : (contents : List Content) (limit : ℕ) (old now : List ℕ) (left : List Content) → limit < length now →
    Leaves contents old now left → AppendsUpTo limit contents old now
leaves_some contents limit old now left long before =
    subst (λ (cs : List Content). AppendsUpTo limit cs old now) before.all
    (stopped_before limit before.done left old now before.wrote long)

-- ---- lines that are kept as texts

-- the line of a text
text_octets : (line : Line) → folded 0 (unfolded_text line) ≡ contents_octets (content_of line ∷ [])
unfolding unfolded_text
text_octets line = sym (append-nil (content_octets (content_of line)))

-- the lines of which these are the texts are left to write
pub record LeavesTexts (lines : List Line) (old now : List ℕ) (texts : List (List ℕ)) : Type 0 where
  pub rest : List Line
  pub texts_are : texts ≡ map unfolded_text rest
  pub leaves : Leaves (map content_of lines) old now (map content_of rest)

pub texts_all : (lines : List Line) (old : List ℕ) (texts : List (List ℕ)) → texts ≡ map unfolded_text lines →
    LeavesTexts lines old old texts
texts_all lines old texts are = record { rest = lines; texts_are = are; leaves = leaves_all (map content_of lines) old }

-- of these lines, the first has this text
text_first : (lines : List Line) (old now new : List ℕ) (text : List ℕ) (more : List (List ℕ)) (rest : List Line) →
    text ∷ more ≡ map unfolded_text rest → Leaves (map content_of lines) old now (map content_of rest) → new ≡ now ++ folded 0 text →
    LeavesTexts lines old new more
text_first lines old now new text more [] e before wrote = absurd cc
text_first lines old now new text more (line ∷ rest) e before wrote =
    let both : text ∷ more ≡ unfolded_text line ∷ map unfolded_text rest = e in
    let first : text ≡ unfolded_text line = cc in
    let others : more ≡ map unfolded_text rest = cc in
    record {
      rest = rest;
      texts_are = others;
      leaves = leaves_less (map content_of lines) old now (content_of line) (map content_of rest) new before
          (wrote ∙ ap (λ (octets : List ℕ). now ++ octets) (ap (folded 0) first ∙ text_octets line));
    }

pub texts_less : (lines : List Line) (old now new : List ℕ) (texts : List (List ℕ)) (text : List ℕ) (more : List (List ℕ)) →
    LeavesTexts lines old now texts → texts ≡ text ∷ more → new ≡ now ++ folded 0 text → LeavesTexts lines old new more
texts_less lines old now new texts text more before is wrote =
    text_first lines old now new text more before.rest (sym is ∙ before.texts_are) before.leaves wrote

pub texts_none : (lines : List Line) (limit : ℕ) (old now : List ℕ) (texts : List (List ℕ)) → texts ≡ [] →
    LeavesTexts lines old now texts → AppendsUpTo limit (map content_of lines) old now
texts_none lines limit old now texts none before = by before.rest (sym none ∙ before.texts_are) before.leaves
  where
    by : (rest : List Line) → [] ≡ map unfolded_text rest → Leaves (map content_of lines) old now (map content_of rest) →
        AppendsUpTo limit (map content_of lines) old now
    by [] e l = leaves_none (map content_of lines) limit old now l
    by (line ∷ rest) e l = absurd cc

pub texts_some : (lines : List Line) (limit : ℕ) (old now : List ℕ) (texts : List (List ℕ)) → limit < length now →
    LeavesTexts lines old now texts → AppendsUpTo limit (map content_of lines) old now
texts_some lines limit old now texts long before =
    leaves_some (map content_of lines) limit old now (map content_of before.rest) long before.leaves

-- the lines up to ORGANIZER, one part after the other
pub front_of : (parts : Parts) (o0 begun headed o1 o2 o3 o4 o5 o6 o7 o8 o9 : List ℕ) → begun ≡ o0 ++
    contents_octets (bare (codes "BEGIN") (codes "VTODO") ∷ []) → headed ≡ begun ++ contents_octets (head_contents parts)
    → o1 ≡ headed ++ contents_octets (base_lines parts)
    → o2 ≡ o1 ++ contents_octets (rid_lines parts)
    → o3 ≡ o2 ++ contents_octets (start_lines parts)
    → o4 ≡ o3 ++ contents_octets (due_lines parts)
    → o5 ≡ o4 ++ contents_octets (status_lines parts)
    → o6 ≡ o5 ++ contents_octets (percent_lines parts)
    → o7 ≡ o6 ++ contents_octets (priority_lines parts)
    → o8 ≡ o7 ++ contents_octets (summary_lines parts)
    → o9 ≡ o8 ++ contents_octets (organizer_lines parts) → o9 ≡ o0 ++ contents_octets (front_contents parts)
front_of parts o0 begun headed o1 o2 o3 o4 o5 o6 o7 o8 o9 eb eh e1 e2 e3 e4 e5 e6 e7 e8 e9 =
    let few : Parts = without_lists parts in
    then_lines o0 begun o9 (bare (codes "BEGIN") (codes "VTODO") ∷ []) (parts_contents few) eb
    (then_lines begun headed o9 (head_contents parts) (base_on few) eh
    (then_lines headed o1 o9 (base_lines parts) (rid_on few) e1
    (then_lines o1 o2 o9 (rid_lines parts) (start_on few) e2
    (then_lines o2 o3 o9 (start_lines parts) (due_on few) e3
    (then_lines o3 o4 o9 (due_lines parts) (status_on few) e4
    (then_lines o4 o5 o9 (status_lines parts) (percent_on few) e5
    (then_lines o5 o6 o9 (percent_lines parts) (priority_on few) e6
    (then_lines o6 o7 o9 (priority_lines parts) (summary_on few) e7
    (then_lines o7 o8 o9 (summary_lines parts) (organizer_on few) e8
    (then_lines o8 o9 o9 (organizer_lines parts) [] e9 (sym (append-nil o9))))))))))))

-- the lines from ATTENDEE on, one list after the other
pub rest_up_to : (limit : ℕ) (parts : Parts) (o9 o10 o11 o12 o13 o14 ended : List ℕ) → AppendsUpTo limit (attendee_lines parts) o9 o10
    → AppendsUpTo limit (rule_lines parts) o10 o11
    → AppendsUpTo limit (rdate_lines parts) o11 o12
    → AppendsUpTo limit (exdate_lines parts) o12 o13
    → AppendsUpTo limit (other_lines parts) o13 o14
    → ended ≡ o14 ++ contents_octets (bare (codes "END") (codes "VTODO") ∷ []) → AppendsUpTo limit (rest_contents parts) o9 ended
rest_up_to limit parts o9 o10 o11 o12 o13 o14 ended a10 a11 a12 a13 a14 ee =
    let ends : List Content = bare (codes "END") (codes "VTODO") ∷ [] in
    then_up_to limit (list_contents parts) ends o9 o14 ended
    (then_up_to limit (attendee_lines parts) (rule_on parts) o9 o10 o14 a10
    (then_up_to limit (rule_lines parts) (rdate_on parts) o10 o11 o14 a11
    (then_up_to limit (rdate_lines parts) (exdate_on parts) o11 o12 o14 a12
    (then_up_to limit (exdate_lines parts) (other_on parts) o12 o13 o14 a13 a14))))
    (appends_all limit ends o14 ended ee)

-- lines before two parts of lines
before : (xs ys zs ws : List Content) → ys ≡ zs ++ ws → xs ++ ys ≡ (xs ++ zs) ++ ws
before xs ys zs ws e = ap (λ (cs : List Content). xs ++ cs) e ∙ sym (append_assoc xs zs ws)

parts_are : (parts : Parts) → parts_contents parts ≡ parts_contents (without_lists parts) ++ list_contents parts
parts_are parts =
    let few : Parts = without_lists parts in
    let lists : List Content = list_contents parts in
    before (head_contents parts) (base_on parts) (base_on few) lists
    (before (base_lines parts) (rid_on parts) (rid_on few) lists
    (before (rid_lines parts) (start_on parts) (start_on few) lists
    (before (start_lines parts) (due_on parts) (due_on few) lists
    (before (due_lines parts) (status_on parts) (status_on few) lists
    (before (status_lines parts) (percent_on parts) (percent_on few) lists
    (before (percent_lines parts) (priority_on parts) (priority_on few) lists
    (before (priority_lines parts) (summary_on parts) (summary_on few) lists
    (before (summary_lines parts) (organizer_on parts) (organizer_on few) lists
    (before (organizer_lines parts) lists [] lists refl)))))))))

-- the lines of a to-do are those up to ORGANIZER and those after it
pub front_and_rest : (parts : Parts) → todo_contents parts ≡ front_contents parts ++ rest_contents parts
front_and_rest parts =
    let ends : List Content = bare (codes "END") (codes "VTODO") ∷ [] in
    let begin : Content = bare (codes "BEGIN") (codes "VTODO") in
    ap (λ (cs : List Content). begin ∷ (cs ++ ends)) (parts_are parts) ∙
    ap (λ (cs : List Content). begin ∷ cs) (append_assoc (parts_contents (without_lists parts)) (list_contents parts) ends)

-- all lines of a to-do
pub all_up_to : (limit : ℕ) (parts : Parts) (old mid new : List ℕ) → mid ≡ old ++ contents_octets (front_contents parts) →
    AppendsUpTo limit (rest_contents parts) mid new → AppendsUpTo limit (todo_contents parts) old new
all_up_to limit parts old mid new front rest =
    let lines : List Content = front_contents parts in
    subst (λ (cs : List Content). AppendsUpTo limit cs old new) (sym (front_and_rest parts))
    (then_up_to limit lines (rest_contents parts) old mid new (appends_all limit lines old mid front) rest)
