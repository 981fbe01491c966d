-- What a stream answers if bytes are brought to a desk.
use Rattle.std.proofs.Common.{◌≡◌, ◌≢◌, ◌∙◌, sym, ap, refl, subst, ℕ, zero, suc, ◌<◌, ◌≤◌, List, [], ◌∷◌}
use Rattle.std.proofs.Common.{length, Some, Result, Ok, Err, inl, inr, arith}
use Rattle.std.specs.Prelude.{slice_get, slice_set, IfOk, OnOk}
use Rattle.std.specs.Vec.{with_item}
use Rattle.std.specs.declared.vec.Vec.{Vec}
use denote.Struct.Props.{props}
use mathlib.Core.HLevel.{is_prop→PathP}
use Rattle.itip_view.specs.declared.window.Window.{Window}
use Rattle.itip_items.specs.declared.item.Item.{Item}
use Rattle.itip_message.specs.declared.error.MessageRefusal.{MessageRefusal}
use Rattle.itip_desk.specs.Desk.{Shown}
use Rattle.itip_desk.specs.declared.refusal.Refusal.{Refusal}
use Rattle.itip_desk.specs.declared.refusal.Refusal.TheVariants.{LongDelta, NoDesk}
use Rattle.itip_script.specs.Stream.{whole, too_long, cut_off}
use Rattle.itip_world.specs.Looking.{StopsOctets, StopsFor}
use Rattle.itip_world.specs.Running.{Answer, answer_of, refused}
use Rattle.itip_world.specs.Serving.{Serving, Serves, RefusesAt, take, arrive, long_message}
use Rattle.itip_world.specs.Serving.Serves.{long_take, takes_nowhere, long_delta, arrives_nowhere}
use Rattle.itip_world.specs.declared.answer.Answer.{Answer as Given}
use Rattle.itip_world.specs.declared.served.Served.{Served}
use Rattle.itip_world.specs.declared.stop.Cause.{Cause}
use Rattle.itip_world.specs.declared.stop.Cause.TheVariants as cause
use Rattle.itip_streams.specs.declared.fault.StreamFault.{StreamFault}
use Rattle.itip_world.proofs.Desks.{set_itself}

-- ---- bytes that a desk doesn't hear

module _ (old : List Shown) (desk : ℕ) (was : Shown) (there : slice_get old desk ≡ Some was) (Gives : List Item → Type 0)
    (Refuses : MessageRefusal → Type 0) (serving : Serving)
    (told : (window : Window) (why : Refusal) → StopsFor Gives Refuses desk was why →
    Serves window old serving (Some (refused why)) old) where
  told_so : (came : Cause) (given : Answer) → StopsOctets Gives Refuses desk was came → came ≢ cause.NoMemory →
      ((why : Refusal) → came ≡ cause.Refused why → given ≡ refused why) → (window : Window) → Serves window old serving (Some given) old
  told_so cause.NoMemory given stops some is window = absurd (some refl)
  told_so (cause.Refused why) given stops some is window =
      subst (λ (a : Answer). Serves window old serving (Some a) old) (sym (is why refl)) (told window why stops)

  -- they leave it unchanged
  pub unheard_serves : (r : Result Given StreamFault) (came : Cause) (is : Shown) → is ≡ was → StopsOctets Gives Refuses desk was came →
      IfOk r (λ given. (why : Refusal) → came ≡ cause.Refused why → answer_of given ≡ refused why) → OnOk r (came ≢ cause.NoMemory) →
      IfOk r (λ given. (window : Window) → Serves window old serving (Some (answer_of given)) (slice_set old desk is))
  unheard_serves (Ok given) came is still stops refuses some = λ window.
      subst (λ (desks : List Shown). Serves window old serving (Some (answer_of given)) desks)
      (sym (ap (λ (shown : Shown). slice_set old desk shown) still ∙ set_itself old desk was there))
      (told_so came (answer_of given) stops some refuses window)
  unheard_serves (Err fault) came is still stops refuses some = tt

-- ---- a desk that is put back as it was

still_vec : {A : Type 0} (desks : Vec Shown A) (desk : ℕ) (is : Shown) → slice_set desks.items desk is ≡ desks.items →
    with_item desks desk is ≡ desks
still_vec desks desk is same = λ i. record {
  ptr = desks.ptr;
  len = desks.len;
  cap = desks.cap;
  alloc = desks.alloc;
  items = same i;
  ok = (
    is_prop→PathP (λ j. desks.len ≡ length (same j)) (λ j. hlevel props) (with_item desks desk is).ok.0 desks.ok.0 i,
    desks.ok.1,
  );
  small = desks.small;
}

pub desks_still : (asked : Served) (desk : ℕ) (was is : Shown) → slice_get asked.desks.items desk ≡ Some was → is ≡ was →
    record asked { desks = with_item asked.desks desk is } ≡ asked
desks_still asked desk was is there still =
    let same = ap (λ (shown : Shown). slice_set asked.desks.items desk shown) still ∙ set_itself asked.desks.items desk was there in
    λ i. record asked { desks = still_vec asked.desks desk is same i }

-- ---- an existing desk

pub within_if : (desks : List Shown) (desk : ℕ) (d : Shown) → slice_get desks desk ≡ Some d → desk < length desks
within_if [] desk d at = absurd cc
within_if (x ∷ xs) zero d at = omega arith
within_if (x ∷ xs) (suc desk) d at = omega (arith, within_if xs desk d at)

-- ---- bytes that are refused

whole_is_read : (octets : List ℕ) → whole octets ≡ cut_off → ⊥
whole_is_read octets e = cc

long_is_read : too_long ≡ cut_off → ⊥
long_is_read e = cc

module _ (old : List Shown) (desk : ℕ) (window : Window) where
  pub long_taken : (given : Answer) → RefusesAt old desk long_message given → Serves window old (take desk too_long) (Some given) old
  long_taken given (inl (within, is)) =
      subst (λ (a : Answer). Serves window old (take desk too_long) (Some a) old) (sym is) (long_take desk within)
  long_taken given (inr (missing, is)) =
      subst (λ (a : Answer). Serves window old (take desk too_long) (Some a) old) (sym is)
      (takes_nowhere desk too_long long_is_read missing)

  pub long_arrived : (given : Answer) → RefusesAt old desk LongDelta given → Serves window old (arrive desk too_long) (Some given) old
  long_arrived given (inl (within, is)) =
      subst (λ (a : Answer). Serves window old (arrive desk too_long) (Some a) old) (sym is) (long_delta desk within)
  long_arrived given (inr (missing, is)) =
      subst (λ (a : Answer). Serves window old (arrive desk too_long) (Some a) old) (sym is)
      (arrives_nowhere desk too_long long_is_read missing)

  pub taken_nowhere : (octets : List ℕ) → length old ≤ desk → Serves window old (take desk (whole octets))
      (Some (refused (NoDesk desk))) old
  taken_nowhere octets missing = takes_nowhere desk (whole octets) (whole_is_read octets) missing

  pub arrived_nowhere : (octets : List ℕ) → length old ≤ desk →
      Serves window old (arrive desk (whole octets)) (Some (refused (NoDesk desk))) old
  arrived_nowhere octets missing = arrives_nowhere desk (whole octets) (whole_is_read octets) missing
