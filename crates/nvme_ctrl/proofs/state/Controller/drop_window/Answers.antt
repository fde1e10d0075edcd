use Rattle.std.proofs.Common.{refl, ap, ◌∙◌, arith}
use Rattle.nvme_ctrl.specs.declared.state.Controller.{Controller}
use Rattle.nvme_ctrl.specs.declared.state.SqState.{SqState}
use Rattle.nvme_ctrl.proofs.Dropping.{dropping_start, dropping_next, dropping_done, window_length}
use Rattle.nvme_slots.proofs.Generations.{left_self, left_both}
use Rattle.nvme_ctrl.proofs.state.Controller.drop_window.Goals as goal

pub loop-init : goal.loop-init
loop-init c = record {
  end = ap (λ (s : SqState). s.window.len) c.sq-end.ensures;
  left = refl;
  size = refl;
  generations = left_self c.args.slots.now;
  dropping = λ rules notes k g region to y h none may loose. dropping_start rules notes k g c.args.qid region to c.args.slots.now y c.args.self.now h may loose;
}

pub loop-preserved : goal.loop-preserved
loop-preserved c = record {
  end = c.loop.invariant.end;
  left = c.drop_oldest.ensures.left ∙ ap (λ (x : Controller). record x { sqs = c.drop_oldest.new.self.sqs; cqs = c.drop_oldest.new.self.cqs; readied = c.drop_oldest.new.self.readied }) c.loop.invariant.left;
  size = c.drop_oldest.ensures.size ∙ c.loop.invariant.size;
  generations = left_both c.args.slots.now c.loop.slots c.drop_oldest.new.slots c.loop.invariant.generations c.drop_oldest.ensures.generations;
  dropping = λ rules notes k g region to y h none may loose.
      dropping_next rules notes k c.args.qid region to c.args.slots.now y c.loop.self c.drop_oldest.new.self c.loop.slots c.drop_oldest.new.slots (g.windows region) c.loop.counter
      (omega (arith, c.loop-test.true, c.loop.invariant.end, window_length rules notes c.args.self.now c.args.slots.now k g c.args.qid region h may.there))
      (ap (λ (x : Controller). x.picked) c.loop.invariant.left ∙ none)
      (c.loop.invariant.dropping rules notes k g region to y h none may loose)
      (λ k g x rest keeps none may is. c.drop_oldest.ensures.dropped rules notes k g region to x rest keeps none may is)
      c.drop_oldest.ensures.size
      (λ k g x rest keeps life is. c.drop_oldest.ensures.others rules notes k g region x rest keeps life is);
}

pub returns-clause-dropped : goal.returns-clause-dropped
returns-clause-dropped c = λ rules notes k g region to y h none may loose.
    dropping_done rules notes k c.args.qid region to c.args.slots.now y c.loop.self c.loop.slots (g.windows region) c.loop.counter
    (omega (arith, c.loop-test.false, c.loop.invariant.end, window_length rules notes c.args.self.now c.args.slots.now k g c.args.qid region h may.there))
    (ap (λ (x : Controller). x.picked) c.loop.invariant.left ∙ none)
    (c.loop.invariant.dropping rules notes k g region to y h none may loose)

pub returns-clause-left : goal.returns-clause-left
returns-clause-left c = c.loop.invariant.left

pub returns-clause-size : goal.returns-clause-size
returns-clause-size c = c.loop.invariant.size

pub returns-clause-generations : goal.returns-clause-generations
returns-clause-generations c = c.loop.invariant.generations
