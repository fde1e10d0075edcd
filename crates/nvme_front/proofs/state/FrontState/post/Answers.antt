-- A queue after another: as long as nothing is posted nothing changes, and the queues before stay drained.
use Rattle.std.proofs.Common.{◌≡◌, ◌∙◌, ℕ, Some, true, false, Ok, refl, sym, ap, arith, below_more, inl, inr}
use Rattle.std.proofs.lemmas.Bool.{cases_lt}
use Rattle.nvme_log.specs.Queues.{open_cq}
use Rattle.nvme_log.specs.Rules.{Past}
use Rattle.nvme_front.specs.inside.Goes.{IsDrained}
use Rattle.nvme_front.specs.inside.State.{past_of, rules_of}
use Rattle.nvme_front.proofs.Drained.{all_drained, all_posted_drains}
use Rattle.nvme_front.proofs.States.{Goes-refl, Goes-trans, IsSame-refl, IsSame-trans, admin-goes}
use Rattle.nvme_front.proofs.PostOne.{posts-over, goes-longer, open_stays}
use Rattle.nvme_front.proofs.state.FrontState.post.Goals as goal
use Rattle.nvme_front.proofs.state.FrontState.post.Goals.{then-branch, else-branch}

pub loop-cqid-init : goal.loop-cqid-init
loop-cqid-init c =
    let s = c.args.self.now in
    let k = c.requires.consistent.running c.requires.admin in
    record {
      consistent = c.requires.consistent;
      admin = c.requires.admin;
      goes = Goes-refl s;
      jobs = refl;
      picks = refl;
      posts = record { gets = refl; log = refl };
      more = λ f. cc f;
      still = λ _. IsSame-refl s;
      drained = λ q below. absurd (omega (arith, below));
      beyond = λ q from. ap (λ (p : Past). open_cq p q) (sym k.past_is) ∙ c.queues-cqid-end.ensures.cqs (rules_of s) s.late k.notes k.stands q from;
    }

pub loop-cqid-preserved : goal.loop-cqid-preserved
loop-cqid-preserved c =
    let i = c.loop-cqid.invariant in
    let e = c.post_queue.ensures in
    let ok = c.in_ok-post_queue.ensures in
    let was = c.loop-cqid.self in
    let now = c.post_queue.new.self in
    let before = goes-longer c.args.self.now was i.goes in
    let here = goes-longer was now e.goes in
    let goes = Goes-trans c.args.self.now was now i.goes e.goes in
    let admin = admin-goes was now e.goes i.admin in
    let posts = posts-over c.args.self.now was now i.posts e.posts in
    let drained = below_more (λ q. (x : ℕ) → open_cq (past_of now) q ≡ Some x → IsDrained now x) c.loop-cqid.cqid
    (λ q below x is. ok.others x (i.drained q below x (sym (open_stays was now e.posts q) ∙ is))) ok.drained in
    elim c.if-branch.branch [
      | then-branch w ↦
          let r : c.post_queue.result ≡ Ok true = c.in_ok-post_queue.was ∙ ap Ok w.if-branch.true in
          let more = e.more r in
          record {
            consistent = e.consistent;
            admin = admin;
            goes = goes;
            jobs = e.jobs ∙ i.jobs;
            picks = e.picks ∙ i.picks;
            posts = posts;
            more = λ _. omega (arith, before, more);
            still = λ f. cc (f, w.posted-is);
            drained = drained;
            beyond = λ q from. open_stays was now e.posts q ∙ i.beyond q from;
          }
      | else-branch w ↦
          let r : c.post_queue.result ≡ Ok false = c.in_ok-post_queue.was ∙ ap Ok w.if-branch.false in
          record {
            consistent = e.consistent;
            admin = admin;
            goes = goes;
            jobs = e.jobs ∙ i.jobs;
            picks = e.picks ∙ i.picks;
            posts = posts;
            more = λ t. let before = i.more (sym w.posted-is ∙ t) in omega (arith, before, here);
            still = λ f. IsSame-trans c.args.self.now was now (i.still (sym w.posted-is ∙ f)) (e.still r);
            drained = drained;
            beyond = λ q from. open_stays was now e.posts q ∙ i.beyond q from;
          }
    ]

pub returns-clause-drained : goal.returns-clause-drained
returns-clause-drained c =
    let i = c.loop-cqid.invariant in
    let past = c.loop-cqid-test.false in
    all_drained c.loop-cqid.self (i.consistent.running i.admin) (λ q x within is. elim (cases_lt q c.loop-cqid.cqid) [
      | inl before ↦ i.drained q before x is
      | inr from ↦ let none = i.beyond q (omega (arith, from, past)) in absurd (cc (none, is))
    ])

pub returns-in_err-post_queue-clause-goes : goal.returns-in_err-post_queue-clause-goes
returns-in_err-post_queue-clause-goes c = Goes-trans c.args.self.now c.loop-cqid.self c.post_queue.new.self c.loop-cqid.invariant.goes c.post_queue.ensures.goes

pub returns-in_err-post_queue-clause-posts : goal.returns-in_err-post_queue-clause-posts
returns-in_err-post_queue-clause-posts c = posts-over c.args.self.now c.loop-cqid.self c.post_queue.new.self c.loop-cqid.invariant.posts c.post_queue.ensures.posts

pub returns-clause-more : goal.returns-clause-more
returns-clause-more c = λ r.
    let some : c.loop-cqid.posted ≡ true = cc r in
    c.loop-cqid.invariant.more some

pub returns-clause-still : goal.returns-clause-still
returns-clause-still c = λ r.
    let none : c.loop-cqid.posted ≡ false = cc r in
    c.loop-cqid.invariant.still none

-- no completion is ready, so none can be posted
pub returns-then-not-has_ready-clause-drained : goal.returns-then-not-has_ready-clause-drained
returns-then-not-has_ready-clause-drained c =
    let s = c.args.self.now in
    let k = c.requires.consistent.running c.requires.admin in
    all_drained s k (λ q x within is. all_posted_drains s k x (c.has_ready.ensures.none (rules_of s) s.late k.notes q x k.stands (ap (λ (p : Past). open_cq p q) k.past_is ∙ is) (search)))
