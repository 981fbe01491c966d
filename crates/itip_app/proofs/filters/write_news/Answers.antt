use Rattle.itip_inbox.specs.News.{IsNews}
use Rattle.itip_app.proofs.Filtering.{on_err, written}
use Rattle.itip_app.proofs.filters.write_news.Goals as goal

pub returns-in_err-done-clause-front : goal.returns-in_err-done-clause-front
returns-in_err-done-clause-front g c = on_err c.from_residual.result c.in_err-done.ensures.front

pub returns-clause-output : goal.returns-clause-output
returns-clause-output g c = λ known inputs known_are are.
    written (IsNews known inputs) (g.W.Write.contents c.args.writer.now) (g.W.Write.contents c.news.new.writer) c.in_ok-done.done
    c.done_with.result c.done_with.ensures.refused c.done_with.ensures.whole c.done_with.ensures.is_done
    (c.in_ok-done.ensures.output known inputs known_are are)
