-- What was gained since a time before, weighed against what was handed over.
use Rattle.std.proofs.Common.{◌≡◌, ℕ, List, [], ◌∷◌, subst, arith}
use Rattle.nvme_pool.specs.declared.jobs.Finished.{Finished}
use Rattle.nvme_jobs.specs.Hands.{Hands}
use Rattle.nvme_jobs.specs.Balance.{Balances}
use Rattle.nvme_jobs.proofs.Balances.{balances-same, balances-still, balances-trans}
use Rattle.nvme_front.specs.declared.state.FrontState.{FrontState}
use Rattle.nvme_front.specs.View.{GainedStray}
use Rattle.nvme_front.specs.inside.Goes.{Goes}
use Rattle.nvme_front.specs.inside.State.{view_of}
use Rattle.nvme_front.specs.inside.Turn.{Balanced}

-- where the jobs stayed
pub balanced_still : (a b : FrontState) → b.jobs ≡ a.jobs → Balanced a b
balanced_still a b same = balances-still a.config.spaces a.jobs b.jobs same

-- where nothing was handed and nothing gained
pub balanced_same : (a b : FrontState) → b.jobs.hands.seat ≡ a.jobs.hands.seat → b.jobs.hands.running ≡ a.jobs.hands.running → Balanced a b
balanced_same a b seat running = balances-same a.config.spaces a.jobs.hands b.jobs.hands seat running

-- with strays, by the namespaces of the same front before
sizes_before : (a b : FrontState) → Goes a b → (x y : Hands) (strays : List Finished) → Balances b.config.spaces x y strays → Balances a.config.spaces x y strays
sizes_before a b goes x y strays it = subst (λ (sizes : List ℕ). Balances sizes x y strays) (λ t. (goes.config t).spaces) it

-- over a time before
pub balanced_trans : (a b c : FrontState) → Goes a b → Balanced a b → Balanced b c → Balanced a c
balanced_trans a b c goes first next =
    balances-trans a.config.spaces a.jobs.hands b.jobs.hands c.jobs.hands [] first (sizes_before a b goes b.jobs.hands c.jobs.hands [] next)

-- a result of no job, since a time before
pub stray_since : (ticket : ℕ) (a h g : FrontState) → Goes a h → Balanced a h → GainedStray ticket (view_of h) (view_of g) → GainedStray ticket (view_of a) (view_of g)
stray_since ticket a h g goes balanced s = record {
  result = s.result;
  ticket_is = s.ticket_is;
  more = omega (arith, s.more, goes.gained);
  before = s.before;
  end = s.end;
  after = s.after;
  got = s.got;
  ends_are = s.ends_are;
  last = s.last;
  of_none = s.of_none;
  stray = balances-trans a.config.spaces a.jobs.hands h.jobs.hands g.jobs.hands (s.result ∷ []) balanced
      (sizes_before a h goes h.jobs.hands g.jobs.hands (s.result ∷ []) s.stray);
}
