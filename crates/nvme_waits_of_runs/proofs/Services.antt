-- What commands ask for stays, as they are picked and start.
use Rattle.std.proofs.Common.{◌≡◌, ◌∙◌, ◌≤◌, ℕ, Option, Some, None, inl, inr, refl, sym, ap, subst}
use Rattle.std.specs.Prelude.{IfSome, slice_get}
use Rattle.std.proofs.lemmas.Bool.{cases_eq}
use Rattle.nvme_simulation.specs.Marks.{flight_at, gone_from}
use Rattle.nvme_simulation.specs.Moving.{HostMoves, OneMoves, StartsIn}
use Rattle.nvme_simulation.specs.Progress.{AsksFor, BetweenOne}
use Rattle.nvme_simulation.specs.Stages.{Keeps, Moves}
use Rattle.nvme_simulation.specs.declared.flight.Flight.{Flight}
use Rattle.nvme_simulation.specs.declared.flight.Flights.{Flights}
use Rattle.nvme_simulation.specs.declared.flight.Request.{Request}
use Rattle.nvme_simulation.specs.declared.flight.Stage.{Stage}
use Rattle.nvme_simulation.specs.declared.flight.Stage.TheVariants.{Came, Submitted, Fetched, Picked, Started as Begun, Done}
use Rattle.nvme_simulation.specs.declared.host.Host.{Host}
use Rattle.nvme_simulation.specs.declared.hosts.Hosts.{Hosts}
use Rattle.nvme_waits_of_runs.specs.Waits.{AllRunAtMost, RunsAtMost}

pub request_stays : (s : Stage) (now : ℕ) (f : Flight) → (gone_from s now f).request ≡ f.request
request_stays Came now f = refl
request_stays Submitted now f = refl
request_stays Fetched now f = refl
request_stays Picked now f = refl
request_stays Begun now f = refl
request_stays Done now f = refl

abbrev pub Short : ℕ → Option Flight → Type 0
Short longest o = IfSome o (λ f. f.request.service ≤ longest)

kept_short : (longest : ℕ) (o p : Option Flight) → Keeps o p → Short longest o → Short longest p
kept_short longest o p (inl same) short = subst (Short longest) (sym same) short
kept_short longest o p (inr gone) short = subst (Short longest) (sym gone) tt

flights_short : (longest number now : ℕ) (from : Stage) (flight : Flight) (a b : Flights) → Moves number from now flight a b → ((n : ℕ) → Short longest (flight_at a n))
    → (n : ℕ) → Short longest (flight_at b n)
flights_short longest number now from flight a b m short n = elim (cases_eq n number) [
  | inl e ↦
      let old : m.old.request.service ≤ longest = subst (Short longest) m.found (short number) in
      let same : flight.request ≡ m.old.request = ap (λ (f : Flight). f.request) m.gone ∙ request_stays m.old.stage now m.old in
      let here : flight.request.service ≤ longest = subst (λ (r : Request). r.service ≤ longest) (sym same) old in
      kept_short longest (Some flight) (flight_at b n) (subst (λ (k : ℕ). Keeps (Some flight) (flight_at b k)) (sym e) m.here) here
  | inr ne ↦ kept_short longest (flight_at a n) (flight_at b n) (m.there n ne) (short n)
]

one_short : (longest number now : ℕ) (from : Stage) (o p : Option Host) → BetweenOne (HostMoves number from now) o p → IfSome o (RunsAtMost longest) → IfSome p (RunsAtMost longest)
one_short longest number now from None p moves short = absurd moves
one_short longest number now from (Some h) None moves short = absurd moves
one_short longest number now from (Some h) (Some w) moves short = λ n. flights_short longest number now from moves.flights.0 h.flights w.flights moves.flights.1 short n

pub moves_short : (longest qid number now : ℕ) (from : Stage) (a b : Hosts) → OneMoves qid number from now a b → AllRunAtMost longest a → AllRunAtMost longest b
moves_short longest qid number now from a b m short k = elim (cases_eq k m.place) [
  | inl e ↦
      subst (λ (j : ℕ). IfSome (slice_get b.all.items j) (RunsAtMost longest)) (sym e)
      (one_short longest number now from (slice_get a.all.items m.place) (slice_get b.all.items m.place) m.moves (short m.place))
  | inr ne ↦ subst (λ (o : Option Host). IfSome o (RunsAtMost longest)) (sym (m.others k ne)) (short k)
]

pub starts_short : (longest now : ℕ) (started : _) (a b : Hosts) → StartsIn started now a b → AllRunAtMost longest a → AllRunAtMost longest b
starts_short longest now None a b same short = subst (AllRunAtMost longest) (sym same) short
starts_short longest now (Some s) a b moves short = moves_short longest s.command.qid s.command.number now Picked a b moves short

-- so no command that is picked runs longer
pub asks_short : (longest qid number : ℕ) (hosts : Hosts) (request : Request) → AsksFor qid number hosts request → AllRunAtMost longest hosts → request.service ≤ longest
asks_short longest qid number hosts request asks short =
    let host = subst (λ (o : Option Host). IfSome o (RunsAtMost longest)) asks.at (short asks.place) in
    let flight = subst (Short longest) asks.asks.kept (host number) in
    subst (λ (r : Request). r.service ≤ longest) (sym asks.asks.is) flight
