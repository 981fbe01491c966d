use Rattle.std.proofs.Common.{List, refl, sym, subst}
use Rattle.itip_moment.specs.declared.moment.Moment.{Moment}
use Rattle.itip_state.specs.OfUid.{UidPart}
use Rattle.itip_view.specs.RowsOfUid.{AreOccurrencesOf}
use Rattle.itip_view.proofs.live_rows.UidView.of.Goals as goal

pub returns : goal.returns
returns c =
    let part : UidPart = c.args.items.now in
    let of : AreOccurrencesOf part.items c.args.window part.uid c.in_ok-occurrences.occurrences.items =
    c.in_ok-occurrences.ensures part.items part.uid c.in_ok-whole.ensures in
    record {
      items_are = refl;
      window_is = refl;
      found = record {
        whole = c.in_ok-whole.ensures;
        between = c.in_ok-between.ensures c.args.window
            (subst (λ (ms : List Moment). AreOccurrencesOf part.items c.args.window part.uid ms) (sym c.as_slice.ensures.value) of);
        places = c.in_ok-places.ensures c.args.window of;
      };
    }
