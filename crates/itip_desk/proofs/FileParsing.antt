-- The parameters of a message of a desk's file, read one after another.
use Rattle.std.proofs.Common.{◌≡◌, ◌∙◌, sym, ap, refl, ℕ, ◌<◌, ◌^◌, List, ◌++◌, drop, get_or, arith, append_assoc}
use Rattle.std.proofs.Common.{Bor, Option, Some, None}
use Rattle.std.proofs.lemmas.List.{append_cancel_left}
use Rattle.std.specs.Prelude.{IfSome, IfNone, codes}
use Rattle.std.specs.Option.{option_copied}
use Rattle.std.specs.Fmt.{decimal}
use Rattle.itip_desk.specs.declared.file_text.FileHead.{FileHead}
use Rattle.itip_desk.specs.DeskFile.{product_parameters, begins_text, version_text}
use Rattle.itip_desk.specs.DeskFile.{message_text, HasNumber}
use Rattle.itip_desk.specs.FileReading.{IsBehind, IsHead, behind_product, FollowsProduct, TellsMove, first_text}
use Rattle.itip_desk.proofs.FileNumbers.{has_number, one_number, written_once, differ_at, behind_same, behind_written}

-- what is between the parameters of PRODID and those of VERSION, and what follows these
abbrev pub between : List ℕ
between = codes ":-//itipdesk//1//EN\r\nVERSION"

abbrev pub version_end : List ℕ
version_end = codes ":2.0\r\n"

-- ---- a message from left to right

flat : (b p q v d : List ℕ) → (((b ++ p) ++ q) ++ v) ++ d ≡ b ++ (p ++ (q ++ (v ++ d)))
flat b p q v d = simp append_assoc

pub message_flat : (head : Option FileHead) (at : ℕ) (bytes : List ℕ) →
    message_text head at bytes ≡ begins_text ++ (product_parameters head ++ (between ++ behind_product head at bytes))
message_flat head at bytes = flat begins_text (product_parameters head) between (version_text head at) (drop 57 bytes)

pub message_flat_more : (head : Option FileHead) (at : ℕ) (bytes rest : List ℕ) →
    message_text head at bytes ++ rest ≡ begins_text ++ (product_parameters head ++ (between ++ (behind_product head at bytes ++ rest)))
message_flat_more head at bytes rest =
    ap (λ (t : List ℕ). t ++ rest) (message_flat head at bytes)
    ∙ grouped begins_text (product_parameters head) between (behind_product head at bytes) rest
  where
    grouped : (b p q x r : List ℕ) → (b ++ (p ++ (q ++ x))) ++ r ≡ b ++ (p ++ (q ++ (x ++ r)))
    grouped b p q x r = simp append_assoc

-- the parameters of the first message one after another
two_numbers : (f d i e t : List ℕ) → ((f ++ d) ++ (i ++ e)) ++ t ≡ f ++ (d ++ (i ++ (e ++ t)))
two_numbers f d i e t = simp append_assoc

pub product_flat : (head : FileHead) (t : List ℕ) →
    product_parameters (Some head) ++ t ≡ codes ";X-FORM=" ++ (decimal 1 ++ (codes ";X-ITEMS=" ++ (decimal head.items ++ t)))
product_flat head t = two_numbers (codes ";X-FORM=") (decimal 1) (codes ";X-ITEMS=") (decimal head.items) t

three_parts : (f d i e r t : List ℕ) → ((f ++ d) ++ (i ++ e)) ++ r ++ t ≡ f ++ (d ++ (i ++ (e ++ (r ++ t))))
three_parts f d i e r t = simp append_assoc

pub version_flat : (head : FileHead) (at : ℕ) (bytes : List ℕ) →
    behind_product (Some head) at bytes ≡ codes ";X-TICK=" ++ (decimal head.tick ++ (codes ";X-MOVED=" ++ (decimal at ++
    (version_end ++ drop 57 bytes))))
version_flat head at bytes =
    three_parts (codes ";X-TICK=") (decimal head.tick) (codes ";X-MOVED=") (decimal at) version_end (drop 57 bytes)

one_part : (i e r t : List ℕ) → (i ++ e) ++ r ++ t ≡ i ++ (e ++ (r ++ t))
one_part i e r t = simp append_assoc

pub version_flat_none : (at : ℕ) (bytes : List ℕ) →
    behind_product None at bytes ≡ codes ";X-MOVED=" ++ (decimal at ++ (version_end ++ drop 57 bytes))
version_flat_none at bytes = one_part (codes ";X-MOVED=") (decimal at) version_end (drop 57 bytes)

one_fits : 1 < 2 ^ 64
one_fits = omega arith

-- ---- names that differ

no_form : (t : List ℕ) (number : ℕ) (after : List ℕ) → HasNumber (between ++ t) (codes ";X-FORM=") number after → ⊥
no_form t number after = differ_at 0 (between ++ t) (codes ";X-FORM=") number after (λ more e. let n : 58 ≡ 59 = e in omega (arith, n))

no_items : (t : List ℕ) (number : ℕ) (after : List ℕ) → HasNumber (between ++ t) (codes ";X-ITEMS=") number after → ⊥
no_items t number after = differ_at 0 (between ++ t) (codes ";X-ITEMS=") number after (λ more e. let n : 58 ≡ 59 = e in omega (arith, n))

no_tick : (t : List ℕ) (number : ℕ) (after : List ℕ) → HasNumber (codes ";X-MOVED=" ++ t) (codes ";X-TICK=") number after → ⊥
no_tick t number after =
    differ_at 3 (codes ";X-MOVED=" ++ t) (codes ";X-TICK=") number after (λ more e. let n : 77 ≡ 84 = e in omega (arith, n))

-- ---- they are passed

pub product_passed : (head : Option FileHead) → IfSome head IsHead → (t a b : List ℕ) →
    IsBehind (product_parameters head ++ (between ++ t)) (codes ";X-FORM=") a → IsBehind a (codes ";X-ITEMS=") b → b ≡ between ++ t
product_passed None is t a b form items =
    let first : a ≡ between ++ t = form.none (no_form t) in
    let second : IsBehind (between ++ t) (codes ";X-ITEMS=") b = behind_same a (between ++ t) (codes ";X-ITEMS=") b first items in
    second.none (no_items t)
product_passed (Some head) is t a b form items =
    let rest : List ℕ = codes ";X-ITEMS=" ++ (decimal head.items ++ (between ++ t)) in
    let first : a ≡ rest = behind_written (codes ";X-FORM=") rest a 1 one_fits refl
    (behind_same (product_parameters (Some head) ++ (between ++ t)) (codes ";X-FORM=" ++ (decimal 1 ++ rest)) (codes ";X-FORM=") a
    (product_flat head (between ++ t)) form) in
    behind_written (codes ";X-ITEMS=") (between ++ t) b head.items is.items refl (behind_same a rest (codes ";X-ITEMS=") b first items)

pub tick_passed : (head : Option FileHead) → IfSome head IsHead → (at : ℕ) (bytes a : List ℕ) →
    IsBehind (behind_product head at bytes) (codes ";X-TICK=") a
    → a ≡ codes ";X-MOVED=" ++ (decimal at ++ (version_end ++ drop 57 bytes))
tick_passed None is at bytes a tick =
    let t : List ℕ = decimal at ++ (version_end ++ drop 57 bytes) in
    (behind_same (behind_product None at bytes) (codes ";X-MOVED=" ++ t) (codes ";X-TICK=") a (version_flat_none at bytes) tick).none
    (no_tick t)
tick_passed (Some head) is at bytes a tick =
    let rest : List ℕ = codes ";X-MOVED=" ++ (decimal at ++ (version_end ++ drop 57 bytes)) in
    behind_written (codes ";X-TICK=") rest a head.tick is.tick refl
    (behind_same (behind_product (Some head) at bytes) (codes ";X-TICK=" ++ (decimal head.tick ++ rest)) (codes ";X-TICK=") a
    (version_flat head at bytes) tick)

-- ---- what follows the parameters of PRODID

pub none_begins : (text : List ℕ) → ((after : List ℕ) → text ≡ begins_text ++ after → ⊥) → FollowsProduct text None
none_begins text none head at bytes is same =
    absurd (none (product_parameters head ++ (between ++ behind_product head at bytes)) (same ∙ message_flat head at bytes))

module _ (text parameters a b : List ℕ) (begins : text ≡ begins_text ++ parameters) (form : IsBehind parameters (codes ";X-FORM=") a)
    (items : IsBehind a (codes ";X-ITEMS=") b) where
  passed : (head : Option FileHead) (at : ℕ) (bytes : List ℕ) → IfSome head IsHead → text ≡ message_text head at bytes →
      b ≡ between ++ behind_product head at bytes
  passed head at bytes is same =
      let t : List ℕ = behind_product head at bytes in
      let parts : parameters ≡ product_parameters head ++ (between ++ t) =
      append_cancel_left begins_text parameters (product_parameters head ++ (between ++ t))
      (sym begins ∙ same ∙ message_flat head at bytes) in
      product_passed head is t a b
      (behind_same parameters (product_parameters head ++ (between ++ t)) (codes ";X-FORM=") a parts form) items

  pub some_product : (found : List ℕ) → b ≡ between ++ found → FollowsProduct text (Some found)
  some_product found cut head at bytes is same =
      ap Some (append_cancel_left between found (behind_product head at bytes) (sym cut ∙ passed head at bytes is same))

  pub none_product : ((after : List ℕ) → b ≡ between ++ after → ⊥) → FollowsProduct text None
  none_product none head at bytes is same = absurd (none (behind_product head at bytes) (passed head at bytes is same))

-- ---- the move of a message

some_same_list : (x y : List ℕ) → Some x ≡ Some y → x ≡ y
some_same_list x y e = cc

no_list : (x : List ℕ) → None ≡ Some x → ⊥
no_list x e = cc

pub none_follows : (text : List ℕ) → FollowsProduct text None → TellsMove text None
none_follows text follows head at bytes fits is same = absurd (no_list (behind_product head at bytes) (follows head at bytes is same))

module _ (text parameters a : List ℕ) (follows : FollowsProduct text (Some parameters))
    (tick : IsBehind parameters (codes ";X-TICK=") a) where
  moved_there : (head : Option FileHead) (at : ℕ) (bytes : List ℕ) → at < 2 ^ 64 → IfSome head IsHead → text ≡ message_text head at bytes →
      HasNumber a (codes ";X-MOVED=") at (version_end ++ drop 57 bytes)
  moved_there head at bytes fits is same =
      let here : parameters ≡ behind_product head at bytes =
      some_same_list parameters (behind_product head at bytes) (follows head at bytes is same) in
      let rest : a ≡ codes ";X-MOVED=" ++ (decimal at ++ (version_end ++ drop 57 bytes)) =
      tick_passed head is at bytes a (behind_same parameters (behind_product head at bytes) (codes ";X-TICK=") a here tick) in
      let h = has_number (codes ";X-MOVED=") (version_end ++ drop 57 bytes) at fits refl in
      record { digits = h.digits; whole = rest ∙ h.whole; all = h.all; some = h.some; value = h.value; fits = h.fits }

  pub some_moved_at : (moved : ℕ) (after : List ℕ) → HasNumber a (codes ";X-MOVED=") moved after → TellsMove text (Some moved)
  some_moved_at moved after h head at bytes fits is same =
      ap Some (one_number a (codes ";X-MOVED=") moved at after (version_end ++ drop 57 bytes) h (moved_there head at bytes fits is same)).0

  pub no_move : ((moved : ℕ) (after : List ℕ) → HasNumber a (codes ";X-MOVED=") moved after → ⊥) → TellsMove text None
  no_move none head at bytes fits is same =
      absurd (none at (version_end ++ drop 57 bytes) (moved_there head at bytes fits is same))

-- ---- the tick after the form

pub first_flat : (items tick : ℕ) (rest : List ℕ) →
    first_text items tick rest ≡ codes ";X-ITEMS=" ++ (decimal items ++ (between ++ (codes ";X-TICK=" ++ (decimal tick ++
    (codes ";X-MOVED=" ++ rest)))))
first_flat items tick rest =
    grouped (codes ";X-ITEMS=") (decimal items) between (codes ";X-TICK=") (decimal tick) (codes ";X-MOVED=" ++ rest)
  where
    grouped : (i d q t e r : List ℕ) → (i ++ d) ++ (q ++ ((t ++ e) ++ r)) ≡ i ++ (d ++ (q ++ (t ++ (e ++ r))))
    grouped i d q t e r = simp append_assoc

pub tick_there : (after a : List ℕ) → IsBehind after (codes ";X-ITEMS=") a → (items tick : ℕ) (rest : List ℕ) → items < 2 ^ 64 →
    after ≡ first_text items tick rest → a ≡ between ++ (codes ";X-TICK=" ++ (decimal tick ++ (codes ";X-MOVED=" ++ rest)))
tick_there after a is items tick rest fits same =
    let t : List ℕ = between ++ (codes ";X-TICK=" ++ (decimal tick ++ (codes ";X-MOVED=" ++ rest))) in
    behind_written (codes ";X-ITEMS=") t a items fits refl
    (behind_same after (codes ";X-ITEMS=" ++ (decimal items ++ t)) (codes ";X-ITEMS=") a (same ∙ first_flat items tick rest) is)

-- ---- two messages with one text

fronts_differ : ◌≡◌ {A = ℕ} 58 59 → ⊥
fronts_differ e = omega (arith, e)

-- after the parameters of PRODID they have one text too
pub product_once : (h k : Option FileHead) → IfSome h IsHead → IfSome k IsHead → (s t : List ℕ) →
    product_parameters h ++ (between ++ s) ≡ product_parameters k ++ (between ++ t) → s ≡ t
product_once None None is are s t same = append_cancel_left between s t same
product_once None (Some k) is are s t same = absurd (fronts_differ (ap (λ (xs : List ℕ). get_or xs 0 0) same))
product_once (Some h) None is are s t same = absurd (fronts_differ (sym (ap (λ (xs : List ℕ). get_or xs 0 0) same)))
product_once (Some h) (Some k) is are s t same =
    let left : List ℕ = codes ";X-ITEMS=" ++ (decimal h.items ++ (between ++ s)) in
    let right : List ℕ = codes ";X-ITEMS=" ++ (decimal k.items ++ (between ++ t)) in
    let forms = written_once (codes ";X-FORM=") 1 1 left right one_fits one_fits refl refl
    (sym (product_flat h (between ++ s)) ∙ same ∙ product_flat k (between ++ t)) in
    let items = written_once (codes ";X-ITEMS=") h.items k.items (between ++ s) (between ++ t) is.items are.items refl refl forms.1 in
    append_cancel_left between s t items.1

-- a message without a head and one with a head differ
heads_alike : (h : FileHead) (s t : List ℕ) → product_parameters None ++ (between ++ s) ≡ product_parameters (Some h) ++ (between ++ t) → ⊥
heads_alike h s t same = fronts_differ (ap (λ (xs : List ℕ). get_or xs 0 0) same)

pub parameters_once : (h k : Option FileHead) (a b : ℕ) (x y s t : List ℕ) → message_text h a x ++ s ≡ message_text k b y ++ t →
    product_parameters h ++ (between ++ (behind_product h a x ++ s)) ≡ product_parameters k ++ (between ++ (behind_product k b y ++ t))
parameters_once h k a b x y s t same =
    append_cancel_left begins_text (product_parameters h ++ (between ++ (behind_product h a x ++ s)))
    (product_parameters k ++ (between ++ (behind_product k b y ++ t)))
    (sym (message_flat_more h a x s) ∙ same ∙ message_flat_more k b y t)

version_more : (head : FileHead) (at : ℕ) (bytes s : List ℕ) →
    behind_product (Some head) at bytes ++ s ≡ codes ";X-TICK=" ++ (decimal head.tick ++ (codes ";X-MOVED=" ++ (decimal at ++
    (version_end ++ (drop 57 bytes ++ s)))))
version_more head at bytes s =
    ap (λ (t : List ℕ). t ++ s) (version_flat head at bytes) ∙
    grouped (codes ";X-TICK=") (decimal head.tick) (codes ";X-MOVED=") (decimal at) version_end (drop 57 bytes) s
  where
    grouped : (f d i e r t s : List ℕ) → (f ++ (d ++ (i ++ (e ++ (r ++ t))))) ++ s ≡ f ++ (d ++ (i ++ (e ++ (r ++ (t ++ s)))))
    grouped f d i e r t s = simp append_assoc

-- two first messages with one text tell the same tick
pub tick_once : (h k : FileHead) → IsHead h → IsHead k → (a b : ℕ) (x y s t : List ℕ) →
    message_text (Some h) a x ++ s ≡ message_text (Some k) b y ++ t → h.tick ≡ k.tick
tick_once h k is are a b x y s t same =
    let behind : behind_product (Some h) a x ++ s ≡ behind_product (Some k) b y ++ t =
    product_once (Some h) (Some k) is are (behind_product (Some h) a x ++ s) (behind_product (Some k) b y ++ t)
    (parameters_once (Some h) (Some k) a b x y s t same) in
    (written_once (codes ";X-TICK=") h.tick k.tick (codes ";X-MOVED=" ++ (decimal a ++ (version_end ++ (drop 57 x ++ s))))
    (codes ";X-MOVED=" ++ (decimal b ++ (version_end ++ (drop 57 y ++ t)))) is.tick are.tick refl refl
    (sym (version_more h a x s) ∙ behind ∙ version_more k b y t)).0

-- a message tells only one move
pub moved_once : (h : Option FileHead) (a : ℕ) (x : List ℕ) → a < 2 ^ 64 → IfSome h IsHead → TellsMove (message_text h a x) (Some a)
moved_once None a x fits is None b y less are same =
    let behind : behind_product None a x ≡ behind_product None b y =
    product_once None None tt tt (behind_product None a x) (behind_product None b y)
    (append_cancel_left begins_text (product_parameters None ++ (between ++ behind_product None a x))
    (product_parameters None ++ (between ++ behind_product None b y)) (sym (message_flat None a x) ∙ same ∙ message_flat None b y)) in
    ap Some (written_once (codes ";X-MOVED=") a b (version_end ++ drop 57 x) (version_end ++ drop 57 y) fits less refl refl
    (sym (version_flat_none a x) ∙ behind ∙ version_flat_none b y)).0
moved_once (Some h) a x fits is (Some k) b y less are same =
    let behind : behind_product (Some h) a x ≡ behind_product (Some k) b y =
    product_once (Some h) (Some k) is are (behind_product (Some h) a x) (behind_product (Some k) b y)
    (append_cancel_left begins_text (product_parameters (Some h) ++ (between ++ behind_product (Some h) a x))
    (product_parameters (Some k) ++ (between ++ behind_product (Some k) b y))
    (sym (message_flat (Some h) a x) ∙ same ∙ message_flat (Some k) b y)) in
    let ticks = written_once (codes ";X-TICK=") h.tick k.tick (codes ";X-MOVED=" ++ (decimal a ++ (version_end ++ drop 57 x)))
    (codes ";X-MOVED=" ++ (decimal b ++ (version_end ++ drop 57 y))) is.tick are.tick refl refl
    (sym (version_flat h a x) ∙ behind ∙ version_flat k b y) in
    ap Some (written_once (codes ";X-MOVED=") a b (version_end ++ drop 57 x) (version_end ++ drop 57 y) fits less refl refl ticks.1).0
moved_once None a x fits is (Some k) b y less are same =
    absurd (heads_alike k (behind_product None a x) (behind_product (Some k) b y)
    (append_cancel_left begins_text (product_parameters None ++ (between ++ behind_product None a x))
    (product_parameters (Some k) ++ (between ++ behind_product (Some k) b y))
    (sym (message_flat None a x) ∙ same ∙ message_flat (Some k) b y)))
moved_once (Some h) a x fits is None b y less are same =
    absurd (heads_alike h (behind_product None b y) (behind_product (Some h) a x)
    (append_cancel_left begins_text (product_parameters None ++ (between ++ behind_product None b y))
    (product_parameters (Some h) ++ (between ++ behind_product (Some h) a x))
    (sym (message_flat None b y) ∙ sym same ∙ message_flat (Some h) a x)))

-- ---- the form of a first message

pub form_of_first : (octets : List ℕ) (head : FileHead) (at : ℕ) (bytes rest : List ℕ) →
    octets ≡ message_text (Some head) at bytes ++ rest →
    HasNumber octets (begins_text ++ codes ";X-FORM=") 1 (first_text head.items head.tick
    (decimal at ++ (version_end ++ (drop 57 bytes ++ rest))))
form_of_first octets head at bytes rest same =
    let after : List ℕ = first_text head.items head.tick (decimal at ++ (version_end ++ (drop 57 bytes ++ rest))) in
    let h = has_number (begins_text ++ codes ";X-FORM=") after 1 one_fits refl in
    let whole : octets ≡ (begins_text ++ codes ";X-FORM=") ++ (decimal 1 ++ after) =
    same ∙ message_flat_more (Some head) at bytes rest
    ∙ ap (λ (t : List ℕ). begins_text ++ t) (product_flat head (between ++ (behind_product (Some head) at bytes ++ rest))
    ∙ ap (λ (t : List ℕ). codes ";X-FORM=" ++ (decimal 1 ++ (codes ";X-ITEMS=" ++ (decimal head.items ++ (between ++ t)))))
    (version_more head at bytes rest)
    ∙ ap (λ (t : List ℕ). codes ";X-FORM=" ++ (decimal 1 ++ t))
    (sym (first_flat head.items head.tick (decimal at ++ (version_end ++ (drop 57 bytes ++ rest))))))
    ∙ sym (append_assoc begins_text (codes ";X-FORM=") (decimal 1 ++ after)) in
    record { digits = h.digits; whole = whole ∙ h.whole; all = h.all; some = h.some; value = h.value; fits = h.fits }

-- what follows them, found or not
pub follows_by : (text parameters a b : List ℕ) (begins : text ≡ begins_text ++ parameters)
    (form : IsBehind parameters (codes ";X-FORM=") a)
    (items : IsBehind a (codes ";X-ITEMS=") b) (found : Option (Bor (List ℕ))) → IfSome found (λ after. b ≡ between ++ after.now) →
    IfNone found ((after : List ℕ) → b ≡ between ++ after → ⊥) → FollowsProduct text (option_copied found)
follows_by text parameters a b begins form items None some none = none_product text parameters a b begins form items none
follows_by text parameters a b begins form items (Some found) some none = some_product text parameters a b begins form items found.now some
