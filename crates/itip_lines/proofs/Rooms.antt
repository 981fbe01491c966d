-- Room for a line is room for each of its parts, one after the other.
use Rattle.std.proofs.Common.{◌≡◌, ◌∙◌, sym, ap, subst, ℕ, ◌+◌, ◌≤◌, ◌<◌, Bool, true}
use Rattle.std.proofs.Common.{false, cond, List, [], ◌∷◌, ◌++◌, length, get_or, take, drop}
use Rattle.std.proofs.Common.{vec_len, vec_capacity, length-append, append-nil, arith, Result, Ok, Err, IsOk, IfErr}
use Rattle.std.proofs.lemmas.Bool.Decides.{nat_tests}
use Rattle.std.proofs.lemmas.List.{take-append-drop, at_drop_more}
use Rattle.std.specs.declared.vec.Vec.{Vec}
use Rattle.std.specs.List.{list_any}
use Rattle.itip_lines.specs.Lawful.{value_text, params_text}
use Rattle.itip_lines.specs.Octets.{is_separator}
use Rattle.itip_lines.specs.Room.{HasRoomFor, KeepsRoom}
use Rattle.itip_lines.specs.Writing.{following, fits, folded, Writes}

-- an answer that is no error, where P holds
pub refused_only : {A E : Type 0} (r : Result A E) (P : Type 0) → (P → IsOk r) → IfErr r (λ e. ¬ P)
refused_only (Ok x) P h = tt
refused_only (Err e) P h = λ p. let no : false ≡ true = h p in absurd cc

-- ---- how long a text is with its folds

-- an octet, with a fold before it or without
abbrev stands : Bool → ℕ → List ℕ → List ℕ → List ℕ
stands f b on below = cond f (b ∷ on) (13 ∷ (10 ∷ (32 ∷ (b ∷ below))))

one_longer : (f : Bool) (b n : ℕ) (on below : List ℕ) → n ≤ length on → n ≤ length below → n + 1 ≤ length (stands f b on below)
one_longer true b n on below h k = omega (arith, h)
one_longer false b n on below h k = omega (arith, k)

no_longer : (f : Bool) (b : ℕ) (on below on_more below_more : List ℕ) → length on ≤ length on_more → length below ≤ length below_more →
    length (stands f b on below) ≤ length (stands f b on_more below_more)
no_longer true b on below on_more below_more h k = omega (arith, h)
no_longer false b on below on_more below_more h k = omega (arith, k)

-- the last break at least
folded_some : (used : ℕ) (bs : List ℕ) → 2 ≤ length (folded used bs)
folded_some used [] = omega arith
folded_some used (b ∷ bs) =
    let more : 2 + 1 ≤ length (folded used (b ∷ bs)) =
    one_longer (fits used b) b 2 (folded (used + 1) bs) (folded 2 bs) (folded_some (used + 1) bs) (folded_some 2 bs) in
    omega (arith, more)

-- no shorter than the text
pub folded_longer : (used : ℕ) (bs : List ℕ) → length bs ≤ length (folded used bs)
folded_longer used [] = omega arith
folded_longer used (b ∷ bs) =
    let more : length bs + 1 ≤ length (folded used (b ∷ bs)) =
    one_longer (fits used b) b (length bs) (folded (used + 1) bs) (folded 2 bs) (folded_longer (used + 1) bs) (folded_longer 2 bs) in
    omega (arith, more)

-- no longer than with more after it
folded_front : (used : ℕ) (bs more : List ℕ) → length (folded used bs) ≤ length (folded used (bs ++ more))
folded_front used [] more = folded_some used more
folded_front used (b ∷ bs) more =
    no_longer (fits used b) b (folded (used + 1) bs) (folded 2 bs) (folded (used + 1) (bs ++ more)) (folded 2 (bs ++ more))
    (folded_front (used + 1) bs more) (folded_front 2 bs more)

-- with a fold before it an octet is four
pub folded_apart : (used b : ℕ) → 75 < used + 1 + following b → 4 ≤ length (folded used (b ∷ []))
folded_apart used b over = rw does_not (omega arith)
  where
    does_not : fits used b ≡ false
    does_not = grind (arith, nat_tests)

-- ---- and a parameter

pub plain_long : (value : List ℕ) → list_any is_separator value ≡ false → length (value_text value) ≡ length value
plain_long value plain = ap (λ (t : Bool). length (cond t (34 ∷ (value ++ 34 ∷ [])) value)) plain

pub quoted_long : (value : List ℕ) → list_any is_separator value ≡ true → length (value_text value) ≡ length value + 2
quoted_long value needs =
    let both = length-append value (34 ∷ []) in
    let long : length (34 ∷ (value ++ 34 ∷ [])) ≡ length value + 2 = omega (arith, both) in
    ap (λ (t : Bool). length (cond t (34 ∷ (value ++ 34 ∷ [])) value)) needs ∙ long

pub param_long : (name value : List ℕ) → length (params_text ((record { name = name; values = value ∷ [] }) ∷ [])) ≡
    length name + length (value_text value) + 2
param_long name value =
    let end : length (params_text ((record { name = name; values = value ∷ [] }) ∷ [])) ≡ length (59 ∷ (name ++ 61 ∷ value_text value)) =
    ap length (append-nil (59 ∷ (name ++ 61 ∷ value_text value))) in
    let both = length-append name (61 ∷ value_text value) in
    omega (arith, end, both)

-- ---- and where there is room

-- less is written
pub room_less : {Z : Type 0} (v : Vec ℕ Z) (bs more : List ℕ) → length bs ≤ length more → HasRoomFor v more → HasRoomFor v bs
room_less v bs more less room = omega (arith, less, room)

-- for a prefix of a text
pub room_front : {Z : Type 0} (v : Vec ℕ Z) (used : ℕ) (bs more : List ℕ) → HasRoomFor v (folded used (bs ++ more)) →
    HasRoomFor v (folded used bs)
room_front v used bs more room = room_less v (folded used bs) (folded used (bs ++ more)) (folded_front used bs more) room

-- for the rest, after the prefix
pub room_behind : {Z : Type 0} (old new : Vec ℕ Z) (used : ℕ) (bs more : List ℕ) (now : ℕ) → Writes old.items used bs new.items now →
    KeepsRoom old new → HasRoomFor old (folded used (bs ++ more)) → HasRoomFor new (folded now more)
room_behind old new used bs more now wrote keeps room =
    let same = ap length (wrote.on more) in
    let before = length-append old.items (folded used (bs ++ more)) in
    let behind = length-append new.items (folded now more) in
    let old_long = old.ok.0 in
    let new_long = new.ok.0 in
    omega (arith, same, before, behind, old_long, new_long, keeps, room)

-- for the last break, after the text
pub room_ended : {Z : Type 0} (old new : Vec ℕ Z) (used : ℕ) (bs : List ℕ) (now : ℕ) → Writes old.items used bs new.items now →
    KeepsRoom old new → HasRoomFor old (folded used bs) → vec_len new + 2 ≤ vec_capacity new
room_ended old new used bs now wrote keeps room =
    room_behind old new used bs [] now wrote keeps (subst (λ (text : List ℕ). HasRoomFor old (folded used text)) (sym (append-nil bs)) room)

-- for one octet of a text, after those before it
pub room_at : {Z : Type 0} (old new : Vec ℕ Z) (used : ℕ) (bs : List ℕ) (i now : ℕ) → i < length bs →
    Writes old.items used (take i bs) new.items now → KeepsRoom old new
    → HasRoomFor old (folded used bs) → HasRoomFor new (folded now (get_or bs i 0 ∷ []))
room_at old new used bs i now less wrote keeps room =
    let here : drop i bs ≡ get_or bs i 0 ∷ drop (i + 1) bs = at_drop_more (λ (xs : List ℕ). xs) bs i 0 less in
    let whole : bs ≡ take i bs ++ drop i bs = sym (take-append-drop i bs) in
    room_front new now (get_or bs i 0 ∷ []) (drop (i + 1) bs)
    (subst (λ (rest : List ℕ). HasRoomFor new (folded now rest)) here
    (room_behind old new used (take i bs) (drop i bs) now wrote keeps
    (subst (λ (text : List ℕ). HasRoomFor old (folded used text)) whole room)))

-- ---- for the parts of a line: its colon, after name and parameters, and its value

pub colon_room : {Z : Type 0} (old m n : Vec ℕ Z) (name : List ℕ) (i : ℕ) (params : List ℕ) (j : ℕ) (value : List ℕ)
    → Writes old.items 0 name m.items i → KeepsRoom old m → Writes m.items i params n.items j → KeepsRoom m n
    → HasRoomFor old (folded 0 (name ++ (params ++ 58 ∷ value))) → HasRoomFor n (folded j (58 ∷ value))
colon_room old m n name i params j value first keeps second keeps_more room =
    room_behind m n i params (58 ∷ value) j second keeps_more (room_behind old m 0 name (params ++ 58 ∷ value) i first keeps room)

pub value_room : {Z : Type 0} (old m n k : Vec ℕ Z) (name : List ℕ) (i : ℕ) (params : List ℕ) (j l : ℕ) (value : List ℕ)
    → Writes old.items 0 name m.items i → KeepsRoom old m → Writes m.items i params n.items j → KeepsRoom m n
    → Writes n.items j (58 ∷ []) k.items l → KeepsRoom n k
    → HasRoomFor old (folded 0 (name ++ (params ++ 58 ∷ value))) → HasRoomFor k (folded l value)
value_room old m n k name i params j l value first keeps second keeps_more third keeps_all room =
    room_behind n k j (58 ∷ []) value l third keeps_all
    (colon_room old m n name i params j value first keeps second keeps_more room)
