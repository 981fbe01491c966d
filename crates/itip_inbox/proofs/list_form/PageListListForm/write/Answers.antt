use Rattle.std.proofs.Common.{◌≡◌, ◌++◌, ◌∙◌, List, ℕ, ap, subst}
use Rattle.std.specs.Io.KnownBytes.{Appends}
use Rattle.std.proofs.lemmas.Result.{on_ok_weaker, on_err_weaker}
use Rattle.itip_page.specs.Page.{head_markup, page_markup}
use Rattle.itip_streams.specs.Written.{AppendsFront}
use Rattle.itip_streams.proofs.Writing.{front_none}
use Rattle.itip_inbox.proofs.Outputs.{on_err}
use Rattle.itip_inbox.proofs.Paging.{page_front, page_stays, page_written, page_cut}
use Rattle.itip_inbox.proofs.list_form.PageListListForm.write.Given.{Over}
use Rattle.itip_inbox.proofs.list_form.PageListListForm.write.Goals as goal
use Rattle.itip_inbox.proofs.list_form.PageListListForm.write.Goals.{In_ok-put_head}

-- what is kept is the head
head : (g : Over) (c : In_ok-put_head g) →
    c.put_head.new.out.items ≡ head_markup c.args.window c.args.self.now.today.number c.args.number
head g c =
    c.in_ok-put_head.ensures.ok ∙
    ap (λ (t : List ℕ). t ++ head_markup c.args.window c.args.self.now.today.number c.args.number) c.new-kept.ensures.items

pub returns-in_err-put_head-clause-front : goal.returns-in_err-put_head-clause-front
returns-in_err-put_head-clause-front g c =
    on_err c.from_residual.result
    (λ few. front_none (g.W.Write.contents c.args.writer.now)
    (page_markup c.args.window c.args.self.now.today.number few.rows))

pub returns-in_err-write_rows-clause-front : goal.returns-in_err-write_rows-clause-front
returns-in_err-write_rows-clause-front g c =
    on_err c.from_residual-in_err-write_rows.result (λ few.
    page_front c.args.window c.args.self.now.today.number c.args.rows c.args.number few _ _ _ c.put_head.new.out.items
    c.put_head.new.out.items (head g (goal.at.returns-in_err-write_rows-clause-front g c).In_ok-put_head)
    (c.in_err-write_rows.ensures.front few.rows few.are_left))

pub returns-in_err-put_foot-clause-front : goal.returns-in_err-put_foot-clause-front
returns-in_err-put_foot-clause-front g c =
    on_err c.from_residual-in_err-put_foot.result (λ few.
    page_stays c.args.window c.args.self.now.today.number c.args.rows c.args.number few _ _ _ c.write_rows.new.kept.items
    c.write_rows.new.kept.items (head g (goal.at.returns-in_err-put_foot-clause-front g c).In_ok-put_head)
    (c.in_ok-write_rows.ensures.moved few.rows few.are_left))

pub returns-clause-all : goal.returns-clause-all
returns-clause-all g c =
    on_ok_weaker c.write_output.result (λ appended few.
    page_written c.args.window c.args.self.now.today.number c.args.rows c.args.number few _ _ _ c.write_rows.new.kept.items
    c.put_foot.new.out.items (head g (goal.at.returns-clause-all g c).In_ok-put_head)
    (c.in_ok-write_rows.ensures.moved few.rows few.are_left) c.in_ok-put_foot.ensures.ok _
    (subst (λ (t : List ℕ). Appends (g.W.Write.contents c.write_rows.new.writer) (g.W.Write.contents c.write_output.new.writer) t)
    c.as_slice.ensures.value appended)) c.write_output.ensures.all

pub returns-clause-front : goal.returns-clause-front
returns-clause-front g c =
    on_err_weaker c.write_output.result (λ front few.
    page_cut c.args.window c.args.self.now.today.number c.args.rows c.args.number few _ _ _ c.write_rows.new.kept.items
    c.put_foot.new.out.items (head g (goal.at.returns-clause-front g c).In_ok-put_head)
    (c.in_ok-write_rows.ensures.moved few.rows few.are_left) c.in_ok-put_foot.ensures.ok _
    (subst (λ (t : List ℕ). AppendsFront (g.W.Write.contents c.write_rows.new.writer) (g.W.Write.contents c.write_output.new.writer) t)
    c.as_slice.ensures.value front)) c.write_output.ensures.front
