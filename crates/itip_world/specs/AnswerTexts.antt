-- The texts of answers (our own format). Each line ends with LF. The texts of refusals and lists are those of `itip_desk`.
use Rattle.std.specs.Prelude.{ℕ, List, [], ◌∷◌, ◌++◌, length, codes, Option, Some, None}
use Rattle.std.specs.Fmt.{decimal}
use Rattle.std.specs.List.{flat_map}
use Rattle.itip_report.specs.ReportNames.{name_text}
use Rattle.itip_report.specs.declared.report_name.ReportName.{ReportName}

-- the tick after a message was taken, and how many UIDs it changed
abbrev pub taken_text : ℕ → ℕ → ℕ → List ℕ
taken_text desk tick changed =
    codes "take " ++ decimal desk ++ codes " tick " ++ decimal tick ++ codes " changed " ++ decimal changed ++ 10 ∷ []

-- the number of a packet that was posted, and how many items it has
abbrev pub posted_text : ℕ → ℕ → List ℕ
posted_text packet items = codes "post " ++ decimal packet ++ codes " items " ++ decimal items ++ 10 ∷ []

-- the tick after a packet arrived at a desk, and how many UIDs it changed
abbrev pub arrived_text : ℕ → ℕ → ℕ → ℕ → List ℕ
arrived_text packet desk tick changed =
    codes "arrive " ++ decimal packet ++ codes " " ++ decimal desk
    ++ codes " tick " ++ decimal tick ++ codes " changed " ++ decimal changed ++ 10 ∷ []

-- how many items a desk keeps
abbrev pub counted_text : ℕ → ℕ → List ℕ
counted_text desk entries = codes "entries " ++ decimal desk ++ codes " " ++ decimal entries ++ 10 ∷ []

-- the line before those of a report, with how many there are
abbrev pub report_head : ℕ → ReportName → ℕ → List ℕ
report_head desk named count = codes "report " ++ decimal desk ++ codes " " ++ name_text named ++ codes " " ++ decimal count ++ 10 ∷ []

abbrev pub ended : List ℕ → List ℕ
ended line = line ++ 10 ∷ []

abbrev pub reported_text : ℕ → ReportName → List (List ℕ) → List ℕ
reported_text desk named lines = report_head desk named (length lines) ++ flat_map ended lines

-- the messages to send again, after a line with the number of their bytes; or that there are none
abbrev pub resent_text : ℕ → Option (List ℕ) → List ℕ
resent_text desk (Some bytes) = codes "resend " ++ decimal desk ++ codes " bytes " ++ decimal (length bytes) ++ 10 ∷ bytes
resent_text desk None = codes "resend " ++ decimal desk ++ codes " none" ++ 10 ∷ []

-- the next sequence to use, if there is one left
abbrev pub next_text : ℕ → Option ℕ → List ℕ
next_text desk (Some sequence) = codes "next " ++ decimal desk ++ codes " " ++ decimal sequence ++ 10 ∷ []
next_text desk None = codes "next " ++ decimal desk ++ codes " none" ++ 10 ∷ []

-- the line before the bytes of a delta, with the tick of the desk, how many items there are and how many bytes
abbrev pub sent_head : ℕ → ℕ → ℕ → ℕ → List ℕ
sent_head desk tick items count =
    codes "post " ++ decimal desk ++ codes " tick " ++ decimal tick ++ codes " items " ++ decimal items
    ++ codes " bytes " ++ decimal count ++ 10 ∷ []

abbrev pub sent_text : ℕ → ℕ → ℕ → List ℕ → List ℕ
sent_text desk tick items octets = sent_head desk tick items (length octets) ++ octets

-- the tick after a delta reached a desk, and how many UIDs it changed
abbrev pub reached_text : ℕ → ℕ → ℕ → List ℕ
reached_text desk tick changed =
    codes "arrive " ++ decimal desk ++ codes " tick " ++ decimal tick ++ codes " changed " ++ decimal changed ++ 10 ∷ []

-- the tick at which a desk was saved
abbrev pub saved_text : ℕ → ℕ → List ℕ
saved_text desk tick = codes "save " ++ decimal desk ++ codes " tick " ++ decimal tick ++ 10 ∷ []
