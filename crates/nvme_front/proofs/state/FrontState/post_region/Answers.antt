-- A completion after another: each makes the log longer, and where none was posted nothing changed.
use Rattle.std.proofs.Common.{◌≡◌, ◌∙◌, true, false, Ok, refl, ap, arith}
use Rattle.nvme_front.proofs.States.{Goes-refl, Goes-trans, IsSame-refl, IsSame-trans, admin-goes}
use Rattle.nvme_front.proofs.Drained.{drained_on}
use Rattle.nvme_front.proofs.PostOne.{posts-over, goes-longer}
use Rattle.nvme_front.proofs.state.FrontState.post_region.Goals as goal

pub loop-posted-init : goal.loop-posted-init
loop-posted-init c = record {
  consistent = c.requires.consistent;
  goes = Goes-refl c.args.self.now;
  jobs = refl;
  picks = refl;
  posts = record { gets = refl; log = refl };
  admin = c.requires.admin;
  is_open = c.requires.is_open;
  others = λ x other was. was;
  more = λ f. cc f;
  still = λ _. IsSame-refl c.args.self.now;
}

pub loop-posted-preserved : goal.loop-posted-preserved
loop-posted-preserved c =
    let i = c.loop-posted.invariant in
    let e = c.post_one.ensures in
    let r : c.post_one.result ≡ Ok true = c.in_ok-post_one.was ∙ ap Ok c.if-branch.true in
    let before = goes-longer c.args.self.now c.loop-posted.self i.goes in
    let more = e.more r in
    record {
      consistent = e.consistent;
      goes = Goes-trans c.args.self.now c.loop-posted.self c.post_one.new.self i.goes e.goes;
      jobs = e.jobs ∙ i.jobs;
      picks = e.picks ∙ i.picks;
      posts = posts-over c.args.self.now c.loop-posted.self c.post_one.new.self i.posts e.posts;
      admin = admin-goes c.loop-posted.self c.post_one.new.self e.goes i.admin;
      is_open = e.is_open;
      others = λ x other was. e.others x other (i.others x other was);
      more = λ t. omega (arith, before, more);
      still = λ f. cc f;
    }

pub returns-in_err-post_one-clause-goes : goal.returns-in_err-post_one-clause-goes
returns-in_err-post_one-clause-goes c = Goes-trans c.args.self.now c.loop-posted.self c.post_one.new.self c.loop-posted.invariant.goes c.post_one.ensures.goes

pub returns-clause-goes : goal.returns-clause-goes
returns-clause-goes c = Goes-trans c.args.self.now c.loop-posted.self c.post_one.new.self c.loop-posted.invariant.goes c.post_one.ensures.goes

pub returns-clause-more : goal.returns-clause-more
returns-clause-more c = λ r.
    let some : c.loop-posted.posted ≡ true = cc r in
    let more = c.loop-posted.invariant.more some in
    let longer = goes-longer c.loop-posted.self c.post_one.new.self c.post_one.ensures.goes in
    omega (arith, more, longer)

pub returns-in_err-post_one-clause-others : goal.returns-in_err-post_one-clause-others
returns-in_err-post_one-clause-others c = λ x other was. c.post_one.ensures.others x other (c.loop-posted.invariant.others x other was)

pub returns-clause-others : goal.returns-clause-others
returns-clause-others c = λ x other was. c.post_one.ensures.others x other (c.loop-posted.invariant.others x other was)

pub returns-clause-drained : goal.returns-clause-drained
returns-clause-drained c =
    let last : c.post_one.result ≡ Ok false = c.in_ok-post_one.was ∙ ap Ok c.if-branch.false in
    let s = c.post_one.ensures.still last in
    drained_on c.loop-posted.self c.post_one.new.self c.args.c s.0 s.1

pub returns-clause-still : goal.returns-clause-still
returns-clause-still c = λ r.
    let none : c.loop-posted.posted ≡ false = cc r in
    let last : c.post_one.result ≡ Ok false = c.in_ok-post_one.was ∙ ap Ok c.if-branch.false in
    IsSame-trans c.args.self.now c.loop-posted.self c.post_one.new.self (c.loop-posted.invariant.still none) (c.post_one.ensures.still last).0

pub returns-in_err-post_one-clause-posts : goal.returns-in_err-post_one-clause-posts
returns-in_err-post_one-clause-posts c = posts-over c.args.self.now c.loop-posted.self c.post_one.new.self c.loop-posted.invariant.posts c.post_one.ensures.posts

pub returns-clause-posts : goal.returns-clause-posts
returns-clause-posts c = posts-over c.args.self.now c.loop-posted.self c.post_one.new.self c.loop-posted.invariant.posts c.post_one.ensures.posts
