use Rattle.std.proofs.Common.{◌≡◌, ℕ, Bool, ◌++◌, ◌∷◌, ◌||◌, [], List, map, refl, sym, ap, subst, ◌∙◌}
use Rattle.std.specs.Prelude.{is_some}
use Rattle.std.proofs.lemmas.List.{map_push}
use Rattle.std.specs.Io.KnownBytes.{Appends}
use Rattle.itip_view.specs.declared.window.Window.{Window}
use Rattle.itip_world.specs.Worlds.{no_past, IsWorldOf}
use Rattle.itip_streams.specs.Written.{AppendsFront}
use Rattle.itip_script.specs.Orders.{order_of}
use Rattle.itip_script.specs.Script.{orders_of}
use Rattle.itip_script.specs.Left.{orders_left}
use Rattle.itip_world.specs.Running.{Replies, RepliesFront, RunsSoFar}
use Rattle.itip_world.proofs.Runnings.{on_err, starts, front_written, all_written, moved_out, one_replied, front_replied}
use Rattle.itip_world.proofs.script.run_commands.Goals as goal
use Rattle.itip_world.proofs.script.run_commands.Goals.{In_ok-refused}

-- the run with one command more
more : (g : _) (c : In_ok-refused g) (is_refused : Bool) → is_refused ≡ is_some c.in_ok-refused.refused → (desks : ℕ)
    → IsWorldOf (no_past desks) c.args.asked.now.world
    → RunsSoFar c.args.asked.now.window desks (g.W.Write.contents c.args.writer.now) (g.W.Write.contents c.reply.new.writer)
    (orders_of c.args.script.now) (map order_of (c.loop-command.yielded ++ c.in-Some.command ∷ []))
    (orders_left c.next.new.self) c.reply.new.self.world c.reply.new.kept.items (c.loop-command.is_refused || is_refused)
more g c is_refused same desks start =
    one_replied _ _ _ _ _ _ _ _ _ _ _ (c.loop-command.invariant.0 desks start) (order_of c.in-Some.command) (orders_left c.next.new.self)
    (map order_of (c.loop-command.yielded ++ c.in-Some.command ∷ []))
    c.in-Some.ensures.steps (map_push order_of c.loop-command.yielded c.in-Some.command) c.reply.new.self.world
    c.reply.new.kept.items c.in_ok-refused.refused is_refused
    (subst (λ (w : Window). Replies w (order_of c.in-Some.command) c.loop-command.asked.world c.reply.new.self.world
    (g.W.Write.contents c.loop-command.writer) (g.W.Write.contents c.reply.new.writer) c.loop-command.kept.items
    c.reply.new.kept.items c.in_ok-refused.refused) c.loop-command.invariant.1 c.in_ok-refused.ensures.replies)
    same

pub loop-command-init : goal.loop-command-init
loop-command-init g c = (
  λ desks start. starts c.args.asked.now.window desks _ (orders_of c.args.script.now) _ c.args.asked.now.world c.new-kept.result.items
      start
      (sym c.new-command-items.ensures ∙ ap orders_left (sym c.into_iter-command-iterator.ensures.into_iter_gives))
      c.new-kept.ensures.items,
  refl,
)

pub returns-in_err-refused-clause-front : goal.returns-in_err-refused-clause-front
returns-in_err-refused-clause-front g c =
    on_err c.from_residual.result (λ desks start.
    front_replied _ _ _ _ _ _ _ _ _ _ _ (c.loop-command.invariant.0 desks start) (order_of c.in-Some.command) (orders_left c.next.new.self)
    (map order_of (c.loop-command.yielded ++ c.in-Some.command ∷ []))
    c.in-Some.ensures.steps (map_push order_of c.loop-command.yielded c.in-Some.command)
    (subst (λ (w : Window). RepliesFront w (order_of c.in-Some.command) c.loop-command.asked.world
    (g.W.Write.contents c.loop-command.writer) (g.W.Write.contents c.reply.new.writer) c.loop-command.kept.items)
    c.loop-command.invariant.1 c.in_err-refused.ensures.front))

pub loop-command-preserved : goal.loop-command-preserved
loop-command-preserved g c = (
  λ desks start. moved_out _ _ _ _ _ _ _ _ _ _ (more g (goal.at.loop-command-preserved g c).In_ok-refused
      c.is_some-is_refused.result c.is_some-is_refused.ensures desks start) _
      c.write_if_many.new.kept.items c.in_ok-write_if_many.ensures.moved,
  c.in_ok-refused.ensures.window ∙ c.loop-command.invariant.1,
)

pub returns-in_err-write_if_many-clause-front : goal.returns-in_err-write_if_many-clause-front
returns-in_err-write_if_many-clause-front g c =
    on_err c.from_residual-in_err-write_if_many.result
    (λ desks start. front_written _ _ _ _ _ _ _ _ _ _
    (more g (goal.at.returns-in_err-write_if_many-clause-front g c).In_ok-refused c.is_some-is_refused.result
    c.is_some-is_refused.ensures desks start) _ c.in_err-write_if_many.ensures.front)

pub returns-in_err-write_output-clause-front : goal.returns-in_err-write_output-clause-front
returns-in_err-write_output-clause-front g c =
    on_err c.from_residual-in_err-write_output.result
    (λ desks start. front_written _ _ _ _ _ _ _ _ _ _ (c.loop-command.invariant.0 desks start) _
    (subst (λ (t : List ℕ). AppendsFront (g.W.Write.contents c.loop-command.writer) (g.W.Write.contents c.write_output.new.writer) t)
    c.as_slice.ensures.value c.in_err-write_output.ensures.front))

pub returns-clause-all : goal.returns-clause-all
returns-clause-all g c = λ desks start.
    all_written _ _ _ _ _ _ _ _ _ _ (c.loop-command.invariant.0 desks start) _ c.in-None.ensures.steps.0
    (subst (λ (t : List ℕ). Appends (g.W.Write.contents c.loop-command.writer) (g.W.Write.contents c.write_output.new.writer) t)
    c.as_slice.ensures.value c.in_ok-write_output.ensures.all)
