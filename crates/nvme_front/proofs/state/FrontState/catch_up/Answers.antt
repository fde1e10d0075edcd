use Rattle.std.proofs.Common.{Ok, Err, ap, ◌∙◌}
use Rattle.std.proofs.lemmas.Result.{err_from_is_err_and}
use Rattle.nvme_log.specs.Histories.{picks_in}
use Rattle.nvme_front.proofs.States.{Goes-trans, admin-goes}
use Rattle.nvme_front.proofs.Still.{done_by, drained_before, stray_means, log_error_means, caught_up_balanced}
use Rattle.nvme_front.proofs.Loading.{posts-by, posts-trans, posts-pending}
use Rattle.nvme_front.proofs.state.FrontState.catch_up.Goals as goal

pub gain-requires-clause-admin : goal.gain-requires-clause-admin
gain-requires-clause-admin g c = admin-goes c.args.self.now c.hand-handed.new.self c.hand-handed.ensures.goes c.requires.admin

pub gain-requires-clause-seat : goal.gain-requires-clause-seat
gain-requires-clause-seat g c = c.hand-handed.ensures.goes.seat.lane ∙ c.requires.seat

pub post-requires-clause-admin : goal.post-requires-clause-admin
post-requires-clause-admin g c =
    admin-goes c.args.self.now c.gain.new.self (Goes-trans _ _ _ c.hand-handed.ensures.goes c.gain.ensures.goes) c.requires.admin

pub returns-in_err-gained-clause-goes : goal.returns-in_err-gained-clause-goes
returns-in_err-gained-clause-goes g c = Goes-trans _ _ _ c.hand-handed.ensures.goes c.gain.ensures.goes

pub returns-in_err-gained-clause-picks : goal.returns-in_err-gained-clause-picks
returns-in_err-gained-clause-picks g c = ap picks_in c.gain.ensures.log ∙ ap picks_in c.hand-handed.ensures.log

pub returns-in_err-gained-clause-error : goal.returns-in_err-gained-clause-error
returns-in_err-gained-clause-error g c =
    let p = err_from_is_err_and c.from_residual.result c.from_residual.ensures.1 in
    let s = c.in_err-gained.ensures.stray in
    rw (p.1, p.2) (stray_means s.0 c.args.self.now c.hand-handed.new.self c.gain.new.self c.hand-handed.ensures.goes c.hand-handed.ensures.balanced c.hand-handed.ensures.log c.gain.ensures.log c.in_err-gained.field-0.0 s.1 s.2)

pub returns-in_err-posted-clause-goes : goal.returns-in_err-posted-clause-goes
returns-in_err-posted-clause-goes g c = Goes-trans _ _ _ c.hand-handed.ensures.goes (Goes-trans _ _ _ c.gain.ensures.goes c.post.ensures.goes)

pub returns-in_err-posted-clause-picks : goal.returns-in_err-posted-clause-picks
returns-in_err-posted-clause-picks g c = c.post.ensures.picks ∙ ap picks_in c.gain.ensures.log ∙ ap picks_in c.hand-handed.ensures.log

pub returns-in_err-posted-clause-error : goal.returns-in_err-posted-clause-error
returns-in_err-posted-clause-error g c =
    let p = err_from_is_err_and c.from_residual-in_err-posted.result c.from_residual-in_err-posted.ensures.1 in
    let post = c.in_err-posted.ensures in
    rw (p.1, p.2) (log_error_means c.args.self.now c.post.new.self c.in_err-posted.field-0.0
    (caught_up_balanced c.args.self.now c.hand-handed.new.self c.gain.new.self c.post.new.self c.hand-handed.ensures.goes c.gain.ensures.goes
    c.hand-handed.ensures.balanced c.in_ok-gained.ensures.balanced c.post.ensures.jobs)
    (c.post.ensures.picks ∙ ap picks_in c.gain.ensures.log ∙ ap picks_in c.hand-handed.ensures.log) (λ e. post.full (ap Err e)) post.no_stray)

pub returns-clause-goes : goal.returns-clause-goes
returns-clause-goes g c = Goes-trans _ _ _ c.hand-handed.ensures.goes (Goes-trans _ _ _ c.gain.ensures.goes c.post.ensures.goes)

pub returns-clause-picks : goal.returns-clause-picks
returns-clause-picks g c = c.post.ensures.picks ∙ ap picks_in c.gain.ensures.log ∙ ap picks_in c.hand-handed.ensures.log

pub returns-clause-done : goal.returns-clause-done
returns-clause-done g c =
    let hand = c.hand-handed.ensures in
    let gain = c.in_ok-gained.ensures in
    let post = c.in_ok-posted.ensures in
    done_by c.args.self.now c.hand-handed.new.self c.gain.new.self c.post.new.self hand.goes gain.goes post.goes hand.ends
    c.hand-handed.result c.in_ok-gained.gained c.in_ok-posted.posted hand.more hand.still (λ t. gain.more (ap Ok t)) (λ f. gain.still (ap Ok f))
    (λ t. post.more (ap Ok t)) (λ f. let same = post.still (ap Ok f) in (same, drained_before c.gain.new.self c.post.new.self same post.drained))

pub returns-clause-balanced : goal.returns-clause-balanced
returns-clause-balanced g c =
    caught_up_balanced c.args.self.now c.hand-handed.new.self c.gain.new.self c.post.new.self c.hand-handed.ensures.goes c.gain.ensures.goes
    c.hand-handed.ensures.balanced c.in_ok-gained.ensures.balanced c.post.ensures.jobs

-- handing and gaining leave the log and the submission regions
pub returns-in_err-gained-clause-posts : goal.returns-in_err-gained-clause-posts
returns-in_err-gained-clause-posts g c =
    posts-by c.args.self.now c.gain.new.self (c.gain.ensures.log ∙ c.hand-handed.ensures.log) (c.gain.ensures.sqs ∙ c.hand-handed.ensures.sqs)

pub returns-in_err-posted-clause-posts : goal.returns-in_err-posted-clause-posts
returns-in_err-posted-clause-posts g c =
    posts-trans c.args.self.now c.gain.new.self c.post.new.self
    (posts-by c.args.self.now c.gain.new.self (c.gain.ensures.log ∙ c.hand-handed.ensures.log) (c.gain.ensures.sqs ∙ c.hand-handed.ensures.sqs)) c.post.ensures.posts

pub returns-clause-posts : goal.returns-clause-posts
returns-clause-posts g c =
    posts-trans c.args.self.now c.gain.new.self c.post.new.self
    (posts-by c.args.self.now c.gain.new.self (c.gain.ensures.log ∙ c.hand-handed.ensures.log) (c.gain.ensures.sqs ∙ c.hand-handed.ensures.sqs)) c.post.ensures.posts

-- so the same deletion is pending
pub returns-in_err-gained-clause-deletion : goal.returns-in_err-gained-clause-deletion
returns-in_err-gained-clause-deletion g c = posts-pending c.args.self.now c.gain.new.self (returns-in_err-gained-clause-posts g c)

pub returns-in_err-posted-clause-deletion : goal.returns-in_err-posted-clause-deletion
returns-in_err-posted-clause-deletion g c = posts-pending c.args.self.now c.post.new.self (returns-in_err-posted-clause-posts g c)

pub returns-clause-deletion : goal.returns-clause-deletion
returns-clause-deletion g c = posts-pending c.args.self.now c.post.new.self (returns-clause-posts g c)
