use Rattle.std.proofs.Common.{inr}
use Rattle.itip_app.proofs.Unread.{unread}
use Rattle.itip_app.proofs.run.called.Goals as goal

pub returns : goal.returns
returns g c = inr (record {
  explained = c.call_on.ensures.explained;
  reader = c.reader.result;
  left = _;
  old = _;
  new = _;
  ends = rw (unread g.R.Reader.Read.remaining c.in-Ok.reader c.reader.result c.in-Ok.ensures.capacity c.in-Ok.ensures.empty
      c.in-Ok.ensures.inner) at c.call_on.ensures.ends;
})
