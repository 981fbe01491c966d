-- The name of a time zone, as TZID gives it (RFC 5545 3.2.19).
use Rattle.std.specs.Prelude.{◌≡◌, ◌≢◌, ℕ, List, [], Option, Some, None}
use Rattle.std.specs.Coded.{Coded, coded_list, coded_ℕ}
use base.Stored.{coded_via}
use mathlib.Core.HLevel.{is_prop→PathP, ¬_prop}

-- a text that isn't empty, by its bytes
pub record Name : Type 0 where
  pub bytes : List ℕ
  pub not_empty : bytes ≢ []

-- names with the same bytes are one name
pub same_name : (a b : Name) → a.bytes ≡ b.bytes → a ≡ b
same_name a b e =
    λ i. record { bytes = e i; not_empty = is_prop→PathP (λ j. e j ≢ []) (λ j. ¬_prop) a.not_empty b.not_empty i }

abbrev pub name_code : Coded Name
name_code = coded_via (coded_list coded_ℕ) (λ n. n.bytes) same_name

-- the bytes of a name, and none if there is no name
abbrev pub zone_text : Option Name → List ℕ
zone_text None = []
zone_text (Some name) = name.bytes
