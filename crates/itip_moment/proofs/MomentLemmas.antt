-- What a text spells beside a zone, and that one that spells no date, no date-time in UTC and no local one spells no moment.
use Rattle.std.proofs.Common.{◌≡◌, ◌∙◌, refl, sym, ap, ℕ, ℤ, List, [], Bor}
use Rattle.std.proofs.Common.{Option, Some, None, unwrap_or, IfSome, IfNone, IfOk, Result, Ok, Err}
use Rattle.std.specs.Prelude.{option_copied}
use Rattle.itip_moment.specs.declared.stamp.Stamp.{Stamp}
use Rattle.itip_moment.specs.declared.moment.Moment.{Moment}
use Rattle.itip_moment.specs.declared.moment.Moment.TheVariants.{Date, Floating, Utc, Zoned}
use Rattle.itip_moment.specs.Spelling.{IsDateText, IsLocalText, IsUtcText, MomentText}
use Rattle.itip_moment.specs.Moment.{local_moment}
use Rattle.itip_moment.specs.Zone.{Name, zone_text}
use Rattle.itip_moment.proofs.OptionLemmas.{Some-one}

pub no_moment : (text : List ℕ) (tzid : Option (List ℕ)) → ((day : ℤ) → IsDateText text day → ⊥) →
    ((day : ℤ) (second : ℕ) → IsUtcText text day second → ⊥) → ((day : ℤ) (second : ℕ) → IsLocalText text day second → ⊥) → (m : Moment) →
    MomentText text tzid m → ⊥
no_moment text tzid date utc local (Date day) is = date day.number is
no_moment text tzid date utc local (Floating stamp) is = local stamp.day stamp.second is.0
no_moment text tzid date utc local (Utc stamp) is = utc stamp.day stamp.second is
no_moment text tzid date utc local (Zoned zone stamp) is = local stamp.day stamp.second is.0

-- the text of an absent TZID
pub copied_or : (tzid : Option (Bor (List ℕ))) (default : Bor (List ℕ)) → default.now ≡ [] →
    (unwrap_or tzid default).now ≡ unwrap_or (option_copied tzid) []
copied_or None default e = e
copied_or (Some text) default e = refl

-- the zone of a moment is named by TZID if this is the text of TZID
named : (tzid : Option (List ℕ)) (text : List ℕ) (zone : Name) → text ≡ unwrap_or tzid [] → Some text ≡ Some zone.bytes →
    tzid ≡ Some zone.bytes
named None text zone e same = absurd (zone.not_empty (sym (Some-one same) ∙ e))
named (Some tzid) text zone e same = ap Some (sym e ∙ Some-one same)

-- a text that spells no local time is read alike beside any TZID
unzoned : (text : List ℕ) (a b : Option (List ℕ)) → ((day : ℤ) (second : ℕ) → IsLocalText text day second → ⊥) → (m : Moment) →
    MomentText text a m → MomentText text b m
unzoned text a b local (Date day) is = is
unzoned text a b local (Floating stamp) is = absurd (local stamp.day stamp.second is.0)
unzoned text a b local (Utc stamp) is = is
unzoned text a b local (Zoned zone stamp) is = absurd (local stamp.day stamp.second is.0)

pub found_unzoned : {E : Type 0} (r : Result (Option Moment) E) (text : List ℕ) (a b : Option (List ℕ)) →
    ((day : ℤ) (second : ℕ) → IsLocalText text day second → ⊥) → IfOk r (λ o. IfSome o (MomentText text a)) →
    IfOk r (λ o. IfSome o (MomentText text b))
found_unzoned (Ok (Some m)) text a b local is = unzoned text a b local m is
found_unzoned (Ok None) text a b local is = tt
found_unzoned (Err error) text a b local is = tt

pub none_unzoned : {E : Type 0} (r : Result (Option Moment) E) (text : List ℕ) (a b : Option (List ℕ)) →
    ((day : ℤ) (second : ℕ) → IsLocalText text day second → ⊥) → IfOk r (λ o. IfNone o ((m : Moment) → MomentText text a m → ⊥)) →
    IfOk r (λ o. IfNone o ((m : Moment) → MomentText text b m → ⊥))
none_unzoned (Ok (Some m)) text a b local none = tt
none_unzoned (Ok None) text a b local none = λ m is. none m (unzoned text b a local m is)
none_unzoned (Err error) text a b local none = tt

-- a local time is the moment in the zone that TZID names
pub local_found : (text : List ℕ) (tzid : Option (List ℕ)) (zone : Option Name) (stamp : Stamp) →
    IsLocalText text stamp.day stamp.second → zone_text zone ≡ unwrap_or tzid [] → MomentText text tzid (local_moment zone stamp)
local_found text tzid None stamp is e = (is, sym e)
local_found text tzid (Some name) stamp is e = (is, named tzid name.bytes name e refl)
