use Rattle.std.proofs.Common.{◌≡◌, ℕ, [], List, length, ap, ◌∙◌, subst, arith}
use Rattle.nvme_arbiter.specs.declared.pick.Seen.{Seen}
use Rattle.nvme_engine.proofs.NextPicks.{observed_is}
use Rattle.nvme_engine.proofs.Observed.{AreSeenBelow, none_pushed, one_pushed, all_seen}
use Rattle.nvme_engine.proofs.engine.Engine.observed.Goals as goal
use Rattle.nvme_engine.proofs.engine.Engine.observed.Goals.{in-Some, in_default}

pub loop-qid-init : goal.loop-qid-init
loop-qid-init c rules late notes s = (c.new-seen.ensures, omega (arith, ap (λ (xs : List Seen). length xs) c.new-seen.ensures))

pub loop-qid-preserved : goal.loop-qid-preserved
loop-qid-preserved c rules late notes s =
    let pool = c.args.self.now.slots.items in
    let qid = c.loop-qid.qid in
    let old = c.loop-qid.seen.items in
    let are = c.loop-qid.invariant rules late notes s in
    elim c.match-seen.branch [
      | in-Some w ↦
          rw w.seen-is (one_pushed notes qid w.in-Some.queue old w.try_push-fits.new.self.items w.try_push-fits.result are
          (w.in-Some.ensures s.their s.their_late notes pool s.stands) (omega (arith, c.loop-qid-test.true, s.few.0))
          w.try_push-fits.ensures.variant w.try_push-fits.ensures.ok)
      | in_default w ↦ rw w.seen-is (none_pushed notes qid old are (w.in_default.ensures s.their s.their_late notes pool s.stands))
    ]

pub returns : goal.returns
returns c rules late notes s =
    let seen = c.loop-qid.seen.items in
    let all : c.loop-qid.qid ≡ c.args.self.now.queues = omega (arith, c.loop-qid.auto.qid-end, c.loop-qid-test.false) in
    all_seen notes c.args.self.now.queues (λ q from. (s.few.1 q from).0) seen s.few.0
    (subst (λ (n : ℕ). AreSeenBelow notes n seen) all (c.loop-qid.invariant rules late notes s)) ∙ observed_is rules late notes [] c.args.self.now s
