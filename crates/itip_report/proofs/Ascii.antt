-- The text of a moment is ASCII.
use Rattle.std.proofs.Common.{◌≡◌, ℕ, ◌<◌, List, [], ◌∷◌, ◌++◌, Bool, true, false, ◌&&◌, refl, sym, ◌∙◌, arith}
use Rattle.std.specs.Str.{IsAscii}
use Rattle.std.specs.List.{list_all}
use Rattle.std.proofs.lemmas.Bool.Decides.{nat_tests}
use Rattle.std.proofs.lemmas.List.Folds.{list_all-append}
use Rattle.std.proofs.lemmas.Str.Ascii.{IsAscii-nil, IsAscii-cons}
use Rattle.itip_moment.specs.Written.{date_text, clock_text, local_text, stamp_text, moment_text}
use Rattle.itip_moment.specs.declared.day.Day.{Day}
use Rattle.itip_moment.specs.declared.stamp.Stamp.{Stamp}
use Rattle.itip_moment.specs.declared.moment.Moment.{Moment}
use Rattle.itip_moment.specs.declared.moment.Moment.TheVariants.{Date, Floating, Utc, Zoned}
use Rattle.itip_moment.proofs.WrittenOctets.{is_stamp_octet, stamp_text_octets}

both : (a b : Bool) → (a && b) ≡ true → (a ≡ true) × (b ≡ true)
both true b e = (refl, e)
both false b e = cc

octet_small : (b : ℕ) → is_stamp_octet b ≡ true → b < 128
octet_small b e = grind (arith, nat_tests)

ascii_of : (text : List ℕ) → list_all is_stamp_octet text ≡ true → IsAscii text
ascii_of [] e = IsAscii-nil
ascii_of (b ∷ bs) e = let parts = both (is_stamp_octet b) (list_all is_stamp_octet bs) e in
    IsAscii-cons b bs (octet_small b parts.0) (ascii_of bs parts.1)

front : (xs ys : List ℕ) → list_all is_stamp_octet (xs ++ ys) ≡ true → list_all is_stamp_octet xs ≡ true
front xs ys e = (both (list_all is_stamp_octet xs) (list_all is_stamp_octet ys) (sym (list_all-append is_stamp_octet xs ys) ∙ e)).0

local_octets : (s : Stamp) → list_all is_stamp_octet (local_text s.day s.second) ≡ true
local_octets s = front (local_text s.day s.second) (90 ∷ []) (stamp_text_octets s).0

abbrev midnight : Day → Stamp
midnight day = record { day = day.number; second = 0; in_years = day.in_years; in_day = omega arith }

date_octets : (day : Day) → list_all is_stamp_octet (date_text day.number) ≡ true
date_octets day = front (date_text day.number) (84 ∷ clock_text 0) (local_octets (midnight day))

pub moment_ascii : (m : Moment) → IsAscii (moment_text m)
moment_ascii (Date day) = ascii_of (date_text day.number) (date_octets day)
moment_ascii (Floating s) = ascii_of (local_text s.day s.second) (local_octets s)
moment_ascii (Utc s) = ascii_of (stamp_text s) (stamp_text_octets s).0
moment_ascii (Zoned zone s) = ascii_of (local_text s.day s.second) (local_octets s)
