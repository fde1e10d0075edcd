use Rattle.std.proofs.Common.{[], refl, ◌∙◌, arith}
use Rattle.nvme_log.specs.Places.{waiting}
use Rattle.nvme_ctrl_log.specs.Notes.{logged}
use Rattle.nvme_engine.proofs.NextPicks.{stands_with}
use Rattle.nvme_engine.proofs.Endings.{take_whole, few_wait, index_at, pushed}
use Rattle.nvme_engine.proofs.engine.Engine.waiting_in.Goals as goal
use Rattle.nvme_engine.proofs.engine.Engine.waiting_in.Goals.{in-Some, in_default}

pub loop-n-init : goal.loop-n-init
loop-n-init c = record {
  end = λ rules late notes s queue opened. c.waiting-n-end.ensures.waits s.their s.their_late notes c.args.self.now.slots.items s.stands queue opened;
  taken = λ rules late notes s queue opened. c.new-indexes.ensures;
}

pub loop-n-preserved : goal.loop-n-preserved
loop-n-preserved c = record {
  end = c.loop-n.invariant.end;
  taken = λ rules late notes s queue opened.
      let self = c.args.self.now in
      let places = waiting (logged notes) queue.region in
      let end = c.loop-n.invariant.end rules late notes s queue opened in
      let was = c.loop-n.invariant.taken rules late notes s queue opened in
      let stands = stands_with rules late notes [] self s c.as_slice.result.now c.as_slice.ensures.value in
      elim c.match-waits.branch [
        | in-Some w ↦
            let at = index_at rules late notes [] self s c.args.qid queue opened c.loop-n.n w.in-Some.command.entry w.in-Some.command.cookie
            (w.in-Some.ensures.some s.their s.their_late notes stands) in
            let more = pushed c.loop-n.n w.in-Some.command.cookie places c.loop-n.indexes.items w.try_push-fits.new.self.items w.try_push-fits.result was at
            (few_wait rules late notes [] self s queue.region) w.try_push-fits.ensures.variant w.try_push-fits.ensures.ok in
            rw w.indexes-is more
        | in_default w ↦
            let none = w.in_default.ensures.none s.their s.their_late notes stands refl queue opened in
            absurd (omega (arith, none, end, c.loop-n-test.true))
      ];
}

pub returns : goal.returns
returns c rules late notes s queue opened =
    let end = c.loop-n.invariant.end rules late notes s queue opened in
    c.loop-n.invariant.taken rules late notes s queue opened
    ∙ take_whole (waiting (logged notes) queue.region) c.loop-n.n (omega (arith, end, c.loop-n.auto.n-end, c.loop-n-test.false))
