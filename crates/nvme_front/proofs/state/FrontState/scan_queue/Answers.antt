-- A command after another: each makes the log longer, and where none was fetched nothing changed.
use Rattle.std.proofs.Common.{◌≡◌, ◌≢◌, ◌∙◌, ℕ, ◌<◌, true, false, Ok, refl, ap, arith}
use Rattle.nvme_front.proofs.States.{Goes-refl, Goes-trans, IsSame-refl, IsSame-trans, admin-goes}
use Rattle.nvme_front.proofs.Scans.{goes_longer, scanned_on}
use Rattle.nvme_front.specs.declared.state.FrontState.{FrontState}
use Rattle.nvme_front.specs.inside.Room.{IsConsistent}
use Rattle.nvme_front.specs.inside.Goes.{Goes, IsScanned}
use Rattle.nvme_front.specs.inside.Loads.{Loads}
use Rattle.nvme_front.proofs.Loading.{loads-trans}
use Rattle.nvme_front.proofs.state.FrontState.scan_queue.Goals as goal

-- a fetch more leaves a loaded front
next : (a b c : FrontState) (qid : ℕ) → (((q : ℕ) → q < qid → IsScanned a q) → Loads a b) → ((q : ℕ) → q ≢ qid → IsScanned a q → IsScanned b q) → IsConsistent b → IsConsistent c → Goes b c
    → (((q : ℕ) → q < qid → IsScanned b q) → Loads b c) → ((q : ℕ) → q < qid → IsScanned a q) → Loads a c
next a b c qid first others kept kept' goes second lower =
    loads-trans a b c kept kept' goes (first lower) (second (λ q below. others q (λ same. omega (arith, below, same)) (lower q below)))

pub loop-fetched-init : goal.loop-fetched-init
loop-fetched-init c = record {
  consistent = c.requires.consistent;
  goes = Goes-refl c.args.self.now;
  cqs = refl;
  jobs = refl;
  picks = refl;
  admin = c.requires.admin;
  none_pending = c.requires.none_pending;
  posted = λ none. none;
  others = λ q other was. was;
  loads = λ lower scripts within loaded. loaded;
  more = λ h. absurd (cc h);
  still = λ h. IsSame-refl c.args.self.now;
}

pub loop-fetched-preserved : goal.loop-fetched-preserved
loop-fetched-preserved c =
    let i = c.loop-fetched.invariant in
    let e = c.fetch_one.ensures in
    let r : c.fetch_one.result ≡ Ok true = c.in_ok-fetch_one.was ∙ ap Ok c.if-branch.true in
    let before = goes_longer c.args.self.now c.loop-fetched.self i.goes in
    let more = e.more r in
    record {
      consistent = e.consistent;
      goes = Goes-trans c.args.self.now c.loop-fetched.self c.fetch_one.new.self i.goes e.goes;
      cqs = e.cqs ∙ i.cqs;
      jobs = e.jobs ∙ i.jobs;
      picks = e.picks ∙ i.picks;
      admin = admin-goes c.loop-fetched.self c.fetch_one.new.self e.goes i.admin;
      none_pending = e.none_pending;
      posted = λ none. e.posted (i.posted none);
      others = λ q other was. e.others q other (i.others q other was);
      loads = λ lower. next c.args.self.now c.loop-fetched.self c.fetch_one.new.self c.args.qid i.loads i.others i.consistent e.consistent e.goes e.loads lower;
      more = λ t. omega (arith, before, more);
      still = λ f. cc f;
    }

pub returns-in_err-fetch_one-clause-goes : goal.returns-in_err-fetch_one-clause-goes
returns-in_err-fetch_one-clause-goes c = Goes-trans c.args.self.now c.loop-fetched.self c.fetch_one.new.self c.loop-fetched.invariant.goes c.fetch_one.ensures.goes

pub returns-clause-goes : goal.returns-clause-goes
returns-clause-goes c = Goes-trans c.args.self.now c.loop-fetched.self c.fetch_one.new.self c.loop-fetched.invariant.goes c.fetch_one.ensures.goes

pub returns-clause-more : goal.returns-clause-more
returns-clause-more c = λ r.
    let some : c.loop-fetched.fetched ≡ true = cc r in
    let more = c.loop-fetched.invariant.more some in
    let longer = goes_longer c.loop-fetched.self c.fetch_one.new.self c.fetch_one.ensures.goes in
    omega (arith, more, longer)

pub returns-in_err-fetch_one-clause-others : goal.returns-in_err-fetch_one-clause-others
returns-in_err-fetch_one-clause-others c = λ q other was. c.fetch_one.ensures.others q other (c.loop-fetched.invariant.others q other was)

pub returns-clause-others : goal.returns-clause-others
returns-clause-others c = λ q other was. c.fetch_one.ensures.others q other (c.loop-fetched.invariant.others q other was)

pub returns-clause-scanned : goal.returns-clause-scanned
returns-clause-scanned c =
    let last : c.fetch_one.result ≡ Ok false = c.in_ok-fetch_one.was ∙ ap Ok c.if-branch.false in
    let s = c.fetch_one.ensures.still last in
    scanned_on c.loop-fetched.self c.fetch_one.new.self s.0 c.args.qid s.1

pub returns-clause-still : goal.returns-clause-still
returns-clause-still c = λ r.
    let none : c.loop-fetched.fetched ≡ false = cc r in
    let last : c.fetch_one.result ≡ Ok false = c.in_ok-fetch_one.was ∙ ap Ok c.if-branch.false in
    IsSame-trans c.args.self.now c.loop-fetched.self c.fetch_one.new.self (c.loop-fetched.invariant.still none) (c.fetch_one.ensures.still last).0

pub returns-in_err-fetch_one-clause-loads : goal.returns-in_err-fetch_one-clause-loads
returns-in_err-fetch_one-clause-loads c = λ lower.
    let i = c.loop-fetched.invariant in
    let e = c.fetch_one.ensures in
    next c.args.self.now c.loop-fetched.self c.fetch_one.new.self c.args.qid i.loads i.others i.consistent e.consistent e.goes e.loads lower

pub returns-clause-loads : goal.returns-clause-loads
returns-clause-loads c = λ lower.
    let i = c.loop-fetched.invariant in
    let e = c.fetch_one.ensures in
    next c.args.self.now c.loop-fetched.self c.fetch_one.new.self c.args.qid i.loads i.others i.consistent e.consistent e.goes e.loads lower

pub returns-in_err-fetch_one-clause-posted : goal.returns-in_err-fetch_one-clause-posted
returns-in_err-fetch_one-clause-posted c = λ none. c.fetch_one.ensures.posted (c.loop-fetched.invariant.posted none)

pub returns-clause-posted : goal.returns-clause-posted
returns-clause-posted c = λ none. c.fetch_one.ensures.posted (c.loop-fetched.invariant.posted none)
