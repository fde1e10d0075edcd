-- Commands that are neither picked nor start.
use Rattle.std.proofs.Common.{◌≡◌, ◌∙◌, ◌≤◌, ◌<◌, ℕ, length, Option, Some, None, refl, ap, arith, inl, inr}
use Rattle.std.specs.Prelude.{IfSome, slice_get, slice_set}
use Rattle.std.proofs.lemmas.Bool.{cases_eq}
use Rattle.nvme_simulation.specs.Progress.{rank}
use Rattle.nvme_simulation.specs.Ranks.{next_stage}
use Rattle.nvme_simulation.specs.Resting.{AllRest, HostRests}
use Rattle.nvme_simulation.specs.Stages.{HasCome, Moves, came_in, stage_at}
use Rattle.nvme_simulation.specs.declared.flight.Flight.{Flight}
use Rattle.nvme_simulation.specs.declared.flight.Flights.{Flights}
use Rattle.nvme_simulation.specs.declared.flight.Request.{Request}
use Rattle.nvme_simulation.specs.declared.flight.Stage.{Stage}
use Rattle.nvme_simulation.specs.declared.host.Host.{Host}
use Rattle.nvme_simulation.specs.declared.hosts.Hosts.{Hosts}
use Rattle.nvme_simulation.proofs.Hosted.{between_both, between_self, one_changes}

pub host_rests : (h : Host) → HostRests h h
host_rests h = record { picked = λ n l. l; started = λ n l. l; times = refl; head = refl }

pub rests_then : (a b c : Host) → HostRests a b → HostRests b c → HostRests a c
rests_then a b c first second = record {
  picked = λ n l. first.picked n (second.picked n l);
  started = λ n l. first.started n (second.started n l);
  times = second.times ∙ first.times;
  head = second.head ∙ first.head;
}

pub rests_same : (a b : Host) → b.flights ≡ a.flights → b.streams.arrivals ≡ a.streams.arrivals → b.head ≡ a.head → HostRests a b
rests_same a b flights times head = record {
  picked = λ n l. omega (arith, l, ap (λ (f : Flights). rank (stage_at f n)) flights);
  started = λ n l. omega (arith, l, ap (λ (f : Flights). rank (stage_at f n)) flights);
  times = times;
  head = head;
}

-- one goes on, but not to these stages
pub below : (r number now : ℕ) (from : Stage) (flight : Flight) (a b : Flights) → (r ≤ rank (Some (next_stage from)) → r ≤ rank (Some from))
    → Moves number from now flight a b → (n : ℕ) → r ≤ rank (stage_at b n) → r ≤ rank (stage_at a n)
below r number now from flight a b past m n l = elim (cases_eq n number) [
  | inl same ↦
      let was : stage_at a n ≡ Some from = ap (stage_at a) same ∙ m.was in
      let is : stage_at b n ≡ Some (next_stage from) = ap (stage_at b) same ∙ m.is in
      omega (arith, ap rank was, past (omega (arith, l, ap rank is)))
  | inr other ↦ omega (arith, l, ap rank (m.others n other))
]

pub rests_moved : (number now : ℕ) (from : Stage) (flight : Flight) (a b : Host) → (4 ≤ rank (Some (next_stage from)) → 4 ≤ rank (Some from))
    → (5 ≤ rank (Some (next_stage from)) → 5 ≤ rank (Some from)) → b.streams.arrivals ≡ a.streams.arrivals → b.head ≡ a.head
    → Moves number from now flight a.flights b.flights → HostRests a b
rests_moved number now from flight a b four five times head m = record {
  picked = below 4 number now from flight a.flights b.flights four m;
  started = below 5 number now from flight a.flights b.flights five m;
  times = times;
  head = head;
}

come_below : (r now : ℕ) (request : Request) (a b : Flights) → 1 < r → HasCome now request a b → (n : ℕ) → r ≤ rank (stage_at b n) → r ≤ rank (stage_at a n)
come_below r now request a b more c n l = elim (cases_eq n (came_in a)) [
  | inl same ↦ absurd (omega (arith, l, more, ap rank (ap (stage_at b) same ∙ c.is)))
  | inr other ↦ omega (arith, l, ap rank (c.others n other))
]

pub rests_come : (now : ℕ) (request : Request) (a b : Host) → b.streams.arrivals ≡ a.streams.arrivals → b.head ≡ a.head → HasCome now request a.flights b.flights
    → HostRests a b
rests_come now request a b times head c = record {
  picked = come_below 4 now request a.flights b.flights (omega arith) c;
  started = come_below 5 now request a.flights b.flights (omega arith) c;
  times = times;
  head = head;
}

-- where there is such a command it goes on, and else nothing changes
pub rests_by : {R : Type 0} (P : R → Type 0) (a b : Host) (o : Option R) → b.streams.arrivals ≡ a.streams.arrivals → b.head ≡ a.head → (o ≡ None → b.flights ≡ a.flights)
    → IfSome o P → ((x : R) → P x → HostRests a b) → HostRests a b
rests_by P a b None times head none some moves = rests_same a b (none refl) times head
rests_by P a b (Some x) times head none some moves = moves x some

pub all_rest : (hs : Hosts) → AllRest hs hs
all_rest hs = record { each = λ k. between_self HostRests host_rests (slice_get hs.all.items k) }

pub all_rest_then : (a b c : Hosts) → AllRest a b → AllRest b c → AllRest a c
all_rest_then a b c first second = record {
  each = λ k. between_both HostRests HostRests HostRests rests_then (slice_get a.all.items k) (slice_get b.all.items k) (slice_get c.all.items k) (first.each k)
      (second.each k);
}

pub one_rests : (before after : Hosts) (place : ℕ) (h w : Host) → after.all.items ≡ slice_set before.all.items place w → place < length before.all.items
    → slice_get before.all.items place ≡ Some h → HostRests h w → AllRest before after
one_rests before after place h w items within at rests = record { each = one_changes HostRests host_rests before after place h w items within at rests }
