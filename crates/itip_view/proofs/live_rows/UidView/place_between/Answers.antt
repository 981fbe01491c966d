use Rattle.std.proofs.Common.{◌≡◌, subst, Option, Some, None, Bor}
use Rattle.std.specs.Prelude.{MatchOption}
use Rattle.itip_moment.specs.declared.moment.Moment.{Moment}
use Rattle.itip_state.specs.OfUid.{UidPart}
use Rattle.itip_view.specs.RowsOfUid.{IsBetween}
use Rattle.itip_view.specs.Standing.{Rules, NoneRules}
use Rattle.itip_view.specs.declared.keyed_item.KeyedItem.{KeyedItem}
use Rattle.itip_view.proofs.live_rows.UidView.place_between.Goals as goal

-- what the ranges say of a moment is said of the items
ruling_in : (part other : UidPart) (at : Moment) (found : Option (Bor KeyedItem)) → part ≡ other →
    MatchOption found (NoneRules part.items part.uid at) (λ range. (id : Moment) × Rules part.items part.uid at id range.now.item.now)
    → MatchOption found (NoneRules other.items other.uid at) (λ range. (id : Moment) × Rules other.items other.uid at id range.now.item.now)
ruling_in part other at found same =
    subst (λ (p : UidPart). MatchOption found (NoneRules p.items p.uid at) (λ range. (id : Moment) ×
    Rules p.items p.uid at id range.now.item.now)) same

pub returns-in_default : goal.returns-in_default
returns-in_default c =
    absurd (subst (IsBetween c.args.self.now.items.now c.args.self.now.window) c.in_default.is c.requires.between c.args.at.now
    c.requires.occurs)

pub range_place-requires-clause-live : goal.range_place-requires-clause-live
range_place-requires-clause-live c = (subst (IsBetween c.args.self.now.items.now c.args.self.now.window) c.in-Some.is c.requires.between).0

pub range_place-requires-clause-rules : goal.range_place-requires-clause-rules
range_place-requires-clause-rules c =
    ruling_in c.in-Some.between.ranges c.args.self.now.items.now c.args.at.now (Some c.in-Some-ruling.range)
    (subst (IsBetween c.args.self.now.items.now c.args.self.now.window) c.in-Some.is c.requires.between).1 c.in-Some-ruling.ensures

pub occurrence_place-requires-clause-live : goal.occurrence_place-requires-clause-live
occurrence_place-requires-clause-live c =
    (subst (IsBetween c.args.self.now.items.now c.args.self.now.window) c.in-Some.is c.requires.between).0

pub occurrence_place-requires-clause-none_rules : goal.occurrence_place-requires-clause-none_rules
occurrence_place-requires-clause-none_rules c =
    ruling_in c.in-Some.between.ranges c.args.self.now.items.now c.args.at.now None
    (subst (IsBetween c.args.self.now.items.now c.args.self.now.window) c.in-Some.is c.requires.between).1 c.in-None.ensures
