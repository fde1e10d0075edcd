use Rattle.std.proofs.Common.{◌≡◌, ◌∙◌, true, false, Ok, refl, ap, sym, arith, below_more, inl, inr}
use Rattle.std.proofs.lemmas.Bool.{cases_lt}
use Rattle.nvme_log.specs.Queues.{open_sq}
use Rattle.nvme_log.specs.Rules.{Past}
use Rattle.nvme_front.specs.inside.Goes.{IsScanned}
use Rattle.nvme_front.specs.inside.State.{rules_of}
use Rattle.nvme_front.proofs.States.{Goes-refl, Goes-trans, IsSame-refl, IsSame-trans, admin-goes}
use Rattle.nvme_front.proofs.Scans.{goes_longer}
use Rattle.nvme_front.proofs.Loading.{loads-trans}
use Rattle.nvme_front.proofs.state.FrontState.scan.Goals as goal
use Rattle.nvme_front.proofs.state.FrontState.scan.Goals.{then-branch, else-branch}

pub loop-qid-preserved : goal.loop-qid-preserved
loop-qid-preserved c =
    let i = c.loop-qid.invariant in
    let e = c.scan_queue.ensures in
    let was = c.in_ok-scan_queue.was in
    record {
      consistent = e.consistent;
      goes = Goes-trans _ _ _ i.goes e.goes;
      cqs = e.cqs ∙ i.cqs;
      jobs = e.jobs ∙ i.jobs;
      picks = e.picks ∙ i.picks;
      admin = admin-goes _ _ e.goes i.admin;
      none_pending = e.none_pending;
      posted = λ none. e.posted (i.posted none);
      loads = loads-trans c.args.self.now c.loop-qid.self c.scan_queue.new.self i.consistent e.consistent e.goes i.loads (e.loads i.scanned);
      more = elim c.if-branch.branch [
        | then-branch w ↦ λ h. let before = goes_longer _ _ i.goes in let more = e.more (was ∙ ap Ok w.if-branch.true) in omega arith
        | else-branch w ↦ λ h. let before = i.more (sym w.fetched-is ∙ h) in let longer = goes_longer _ _ e.goes in omega arith
      ];
      still = elim c.if-branch.branch [
        | then-branch w ↦ λ h. absurd (cc (w.fetched-is, h))
        | else-branch w ↦ λ h. IsSame-trans _ _ _ (i.still (sym w.fetched-is ∙ h)) (e.still (was ∙ ap Ok w.if-branch.false))
      ];
      scanned = below_more (λ q. IsScanned c.scan_queue.new.self q) c.loop-qid.qid (λ q below. e.others q (λ same. omega (arith, below, same)) (i.scanned q below)) c.in_ok-scan_queue.ensures.scanned;
      beyond = λ q from. e.others q (λ same. omega (arith, c.loop-qid-test.true, from, same)) (i.beyond q from);
    }

pub returns-in_err-scan_queue-clause-goes : goal.returns-in_err-scan_queue-clause-goes
returns-in_err-scan_queue-clause-goes c = Goes-trans c.args.self.now c.loop-qid.self c.scan_queue.new.self c.loop-qid.invariant.goes c.scan_queue.ensures.goes

pub returns-in_err-scan_queue-clause-loads : goal.returns-in_err-scan_queue-clause-loads
returns-in_err-scan_queue-clause-loads c =
    let i = c.loop-qid.invariant in
    let e = c.scan_queue.ensures in
    loads-trans c.args.self.now c.loop-qid.self c.scan_queue.new.self i.consistent e.consistent e.goes i.loads (e.loads i.scanned)

pub loop-qid-init : goal.loop-qid-init
loop-qid-init c =
    let a = c.args.self.now in
    record {
      consistent = c.requires.consistent;
      goes = Goes-refl a;
      cqs = refl;
      jobs = refl;
      picks = refl;
      loads = λ scripts within loaded. loaded;
      admin = c.requires.admin;
      none_pending = c.requires.none_pending;
      posted = λ none. none;
      more = λ h. absurd (cc h);
      still = λ h. IsSame-refl a;
      scanned = λ q below. absurd (omega (arith, below));
      beyond = λ q from queue opened. (
          let k = c.requires.consistent.running c.requires.admin in
          let none = c.queues-qid-end.ensures.sqs (rules_of a) a.late k.notes k.stands q from in
          absurd (cc (none, ap (λ (p : Past). open_sq p q) k.past_is ∙ opened)));
    }

pub returns-clause-scanned : goal.returns-clause-scanned
returns-clause-scanned c = λ q within. elim (cases_lt q c.loop-qid.qid) [
  | inl before ↦ c.loop-qid.invariant.scanned q before
  | inr from ↦ c.loop-qid.invariant.beyond q (omega (arith, from, c.loop-qid-test.false))
]

pub returns-in_err-scan_queue-clause-posted : goal.returns-in_err-scan_queue-clause-posted
returns-in_err-scan_queue-clause-posted c = λ none. c.scan_queue.ensures.posted (c.loop-qid.invariant.posted none)

pub returns-clause-more : goal.returns-clause-more
returns-clause-more c = λ r.
    let some : c.loop-qid.fetched ≡ true = cc r in
    c.loop-qid.invariant.more some

pub returns-clause-still : goal.returns-clause-still
returns-clause-still c = λ r.
    let none : c.loop-qid.fetched ≡ false = cc r in
    c.loop-qid.invariant.still none
