use Rattle.std.proofs.Common.{◌∙◌, refl, sym, arith}
use Rattle.nvme_simulation.proofs.Machines.{goes_front}
use Rattle.nvme_simulation.proofs.Quiet.{front_by, front_goes}
use Rattle.nvme_simulation.proofs.Hosted.{all_stay}
use Rattle.nvme_simulation.proofs.machine.Machine.collect.Goals as goal

pub returns-then-not-complete-clause-goes : goal.returns-then-not-complete-clause-goes
returns-then-not-complete-clause-goes c = goes_front _ _ (all_stay _ _) (front_by _ _ c.complete.ensures.front c.complete.ensures.quiet) refl refl

pub returns-in_default-clause-goes : goal.returns-in_default-clause-goes
returns-in_default-clause-goes c = goes_front _ _ (all_stay _ _) (front_goes _ _ _ (front_by _ _ c.complete.ensures.front c.complete.ensures.quiet) (front_by _ _ c.post.ensures.front c.post.ensures.quiet)) refl refl

pub returns-then-not-is_completion-clause-goes : goal.returns-then-not-is_completion-clause-goes
returns-then-not-is_completion-clause-goes c = goes_front _ _ (all_stay _ _) (front_goes _ _ _ (front_by _ _ c.complete.ensures.front c.complete.ensures.quiet) (front_by _ _ c.post.ensures.front c.post.ensures.quiet)) refl refl

pub returns-in_default-completed-clause-goes : goal.returns-in_default-completed-clause-goes
returns-in_default-completed-clause-goes c = goes_front _ _ (c.completed.ensures.goes _) (front_goes _ _ _ (front_by _ _ c.complete.ensures.front c.complete.ensures.quiet) (front_by _ _ c.post.ensures.front c.post.ensures.quiet)) refl refl

pub returns-then-read-clause-goes : goal.returns-then-read-clause-goes
returns-then-read-clause-goes c = goes_front _ _ (c.completed.ensures.goes _) (front_goes _ _ _ (front_goes _ _ _ (front_by _ _ c.complete.ensures.front c.complete.ensures.quiet) (front_by _ _ c.post.ensures.front c.post.ensures.quiet)) (front_by _ _ c.read.ensures.front c.read.ensures.quiet)) refl refl

pub returns-else-read-clause-goes : goal.returns-else-read-clause-goes
returns-else-read-clause-goes c = goes_front _ _ (c.completed.ensures.goes _) (front_goes _ _ _ (front_goes _ _ _ (front_by _ _ c.complete.ensures.front c.complete.ensures.quiet) (front_by _ _ c.post.ensures.front c.post.ensures.quiet)) (front_by _ _ c.read.ensures.front c.read.ensures.quiet)) refl refl

pub returns-then-read-clause-completes : goal.returns-then-read-clause-completes
returns-then-read-clause-completes c = record {
  answered = c.complete.new.self;
  stays = c.complete.ensures.front;
  post = c.in-Some.post;
  posts = sym c.post.ensures.value ∙ c.in-Some.is;
  completion = c.is_completion.ensures (grind (arith, c.if-not-is_completion.false));
  hears = c.in-Some-completed.ensures.hears;
}
