-- How the commands of queues go on.
use Rattle.std.proofs.Common.{◌≡◌, ◌≢◌, ◌∙◌, ◌≤◌, ℕ, zero, suc, ◌+◌, Bool, true, false, Option, Some, None, refl, sym, ap, subst, arith, inl, inr}
use Rattle.std.specs.Prelude.{IfSome}
use Rattle.std.proofs.lemmas.Bool.{cases_eq}
use Rattle.nvme_simulation.specs.declared.flight.Flight.{Flight}
use Rattle.nvme_simulation.specs.declared.flight.Flights.{Flights}
use Rattle.nvme_simulation.specs.declared.flight.Request.{Request}
use Rattle.nvme_simulation.specs.declared.flight.Stage.{Stage}
use Rattle.nvme_simulation.specs.declared.flight.Stage.TheVariants.{Came, Submitted, Fetched, Picked, Started, Done}
use Rattle.nvme_simulation.specs.declared.host.Host.{Host}
use Rattle.nvme_simulation.specs.Asking.{Asking, Draws, asking_of}
use Rattle.nvme_simulation.specs.Marks.{HasGone, arrived, flight_at, gone_from, gone_on, went}
use Rattle.nvme_simulation.specs.Ranks.{next_stage}
use Rattle.nvme_simulation.specs.Stages.{HasCome, Keeps, Moves, MovesWith, came_in, next_in, stage_at}
use Rattle.nvme_simulation.specs.Progress.{Becomes, ComesOne, EndsOne, GoOn, HasAsked, HostComesOne, HostEndsOne, HostGoesOn, rank}

-- a command that came to six stages is done
highest : (s : Option Stage) → 6 ≤ rank s → s ≡ Some Done
highest None l = absurd (omega (arith, l))
highest (Some Came) l = absurd (omega (arith, l))
highest (Some Submitted) l = absurd (omega (arith, l))
highest (Some Fetched) l = absurd (omega (arith, l))
highest (Some Picked) l = absurd (omega (arith, l))
highest (Some Started) l = absurd (omega (arith, l))
highest (Some Done) l = refl

pub ranks_rise : (s : Stage) → rank (Some s) ≤ rank (Some (next_stage s))
ranks_rise Came = omega arith
ranks_rise Submitted = omega arith
ranks_rise Fetched = omega arith
ranks_rise Picked = omega arith
ranks_rise Started = omega arith
ranks_rise Done = omega arith

no_less : (s t : Option Stage) → s ≡ t → rank t ≤ rank s
no_less s t e = omega (arith, ap rank e)

-- a command that stays, and one that goes on twice
gone_self : (now : ℕ) (f : Flight) → HasGone now f f
unfolding went
gone_self now f = record { stages = 0; is = refl }

gone_one : (now : ℕ) (f g : Flight) → g ≡ gone_on now f → HasGone now f g
unfolding went
gone_one now f g is = record { stages = 1; is = is }

went_both : (j k now : ℕ) (f : Flight) → went (j + k) now f ≡ went j now (went k now f)
unfolding went
went_both zero k now f = ap (λ (n : ℕ). went n now f) (let e : 0 + k ≡ k = omega arith in e)
went_both (suc j) k now f =
    ap (λ (n : ℕ). went n now f) (let e : suc j + k ≡ suc (j + k) = omega arith in e) ∙ ap (gone_on now) (went_both j k now f)

gone_then : (now : ℕ) (f g h : Flight) → HasGone now f g → HasGone now g h → HasGone now f h
gone_then now f g h first second = record {
  stages = second.stages + first.stages;
  is = second.is ∙ ap (went second.stages now) first.is ∙ sym (went_both second.stages first.stages now f);
}

becomes_self : (now : ℕ) (o : Option Flight) → Becomes now o o
becomes_self now None = tt
becomes_self now (Some f) = gone_self now f

becomes_then : (now : ℕ) (a b c : Option Flight) → Becomes now a b → Becomes now b c → Becomes now a c
becomes_then now None None None first second = tt
becomes_then now None None (Some h) first second = absurd second
becomes_then now None (Some g) c first second = absurd first
becomes_then now (Some f) b None first second = tt
becomes_then now (Some f) None (Some h) first second = absurd second
becomes_then now (Some f) (Some g) (Some h) first second = gone_then now f g h first second

becomes_none : (now : ℕ) (o : Option Flight) → Becomes now o None
becomes_none now None = tt
becomes_none now (Some f) = tt

-- one that is kept stays, and one that is kept at its next stage goes on
becomes_kept : (now : ℕ) (a b : Option Flight) → Keeps a b → Becomes now a b
becomes_kept now a b (inl e) = subst (λ (o : Option Flight). Becomes now a o) (sym e) (becomes_self now a)
becomes_kept now a b (inr e) = subst (λ (o : Option Flight). Becomes now a o) (sym e) (becomes_none now a)

becomes_next : (now : ℕ) (f g : Flight) (o : Option Flight) → HasGone now f g → Keeps (Some g) o → Becomes now (Some f) o
becomes_next now f g o gone (inl e) = subst (λ (p : Option Flight). Becomes now (Some f) p) (sym e) gone
becomes_next now f g o gone (inr e) = subst (λ (p : Option Flight). Becomes now (Some f) p) (sym e) tt

-- what a command was that is kept
pub record Was (now : ℕ) (o : Option Flight) (after : Flight) : Type 0 where
  pub before : Flight
  pub is : o ≡ Some before
  pub gone : HasGone now before after

pub becomes_some : (now : ℕ) (o : Option Flight) (g : Flight) → Becomes now o (Some g) → Was now o g
becomes_some now None g b = absurd b
becomes_some now (Some f) g b = record { before = f; is = refl; gone = b }

-- no time is kept of when a command is read or ends
pub fetched_at : (at now : ℕ) (f g : Flight) → f.stage ≡ Submitted → g ≡ gone_on at f → g ≡ gone_on now f
fetched_at at now f g stage is =
    is ∙ ap (λ (s : Stage). gone_from s at f) stage ∙ sym (ap (λ (s : Stage). gone_from s now f) stage)

pub ended_at : (at now : ℕ) (f g : Flight) → f.stage ≡ Started → g ≡ gone_on at f → g ≡ gone_on now f
ended_at at now f g stage is =
    is ∙ ap (λ (s : Stage). gone_from s at f) stage ∙ sym (ap (λ (s : Stage). gone_from s now f) stage)

-- a command asks for what it asked for
same_request : (s : Stage) (now : ℕ) (f : Flight) → (gone_from s now f).request ≡ f.request
same_request Came now f = refl
same_request Submitted now f = refl
same_request Fetched now f = refl
same_request Picked now f = refl
same_request Started now f = refl
same_request Done now f = refl

pub asked : (request : Request) (number : ℕ) (from : Stage) (now : ℕ) (before after : Flights) → MovesWith request number from now before after
    → HasAsked number before request
asked request number from now before after m = record {
  flight = m.moves.old;
  kept = m.moves.found;
  is = m.asks ∙ ap (λ (f : Flight). f.request) m.moves.gone ∙ same_request m.moves.old.stage now m.moves.old;
}

pub stay : (now : ℕ) (f : Flights) → GoOn now f f
stay now f = record { rises = λ n. omega arith; done = λ n is. is; times = λ n. becomes_self now (flight_at f n) }

pub and_then : (now : ℕ) (a b c : Flights) → GoOn now a b → GoOn now b c → GoOn now a c
and_then now a b c first second = record {
  rises = λ n. omega (arith, first.rises n, second.rises n);
  done = λ n is. first.done n (second.done n is);
  times = λ n. becomes_then now (flight_at a n) (flight_at b n) (flight_at c n) (first.times n) (second.times n);
}

-- one is at the next stage
rises_by : (number : ℕ) (from : Stage) (at : ℕ) (flight : Flight) (before after : Flights) → Moves number from at flight before after
    → (n : ℕ) → rank (stage_at before n) ≤ rank (stage_at after n)
rises_by number from at flight before after m n = elim (cases_eq n number) [
  | inl same ↦
      let was : stage_at before n ≡ Some from = ap (stage_at before) same ∙ m.was in
      let is : stage_at after n ≡ Some (next_stage from) = ap (stage_at after) same ∙ m.is in
      omega (arith, ap rank was, ap rank is, ranks_rise from)
  | inr other ↦ no_less (stage_at after n) (stage_at before n) (m.others n other)
]

pub moved : (number : ℕ) (from : Stage) (at now : ℕ) (flight : Flight) (before after : Flights) → Some (next_stage from) ≢ Some Done
    → ((f g : Flight) → f.stage ≡ from → g ≡ gone_on at f → g ≡ gone_on now f) → Moves number from at flight before after → GoOn now before after
moved number from at now flight before after undone timed m = record {
  rises = rises_by number from at flight before after m;
  done = λ n is. elim (cases_eq n number) [
    | inl same ↦ absurd (undone (sym (ap (stage_at after) same ∙ m.is) ∙ is))
    | inr other ↦ sym (m.others n other) ∙ is
  ];
  times = λ n. elim (cases_eq n number) [
    | inl same ↦
        let found : flight_at before n ≡ Some m.old = ap (flight_at before) same ∙ m.found in
        subst (λ (o : Option Flight). Becomes now o (flight_at after n)) (sym found)
        (subst (λ (k : ℕ). Becomes now (Some m.old) (flight_at after k)) (sym same)
        (becomes_next now m.old flight (flight_at after number) (gone_one now m.old flight (timed m.old flight m.stood m.gone)) m.here))
    | inr other ↦ becomes_kept now (flight_at before n) (flight_at after n) (m.there n other)
  ];
}

pub ended : (number at now : ℕ) (flight : Flight) (before after : Flights) → Moves number Started at flight before after → EndsOne number now flight before after
ended number at now flight before after m = record {
  rises = rises_by number Started at flight before after m;
  was = λ e. absurd (omega (arith, ap rank (sym m.was ∙ e)));
  is = m.is;
  others = λ n other is. sym (m.others n other) ∙ is;
  old = m.old;
  found = m.found;
  gone = gone_one now m.old flight (ended_at at now m.old flight m.stood m.gone);
  done = m.stage;
  here = becomes_kept now (Some flight) (flight_at after number) m.here;
  times = λ n other. becomes_kept now (flight_at before n) (flight_at after n) (m.there n other);
}

pub come : (now : ℕ) (request : Request) (before after : Flights) → HasCome now request before after → ComesOne now request before after
come now request before after c = record {
  rises = λ n. elim (cases_eq n (came_in before)) [
    | inl same ↦ let was : stage_at before n ≡ None = ap (stage_at before) same ∙ c.was in omega (arith, ap rank was)
    | inr other ↦ no_less (stage_at after n) (stage_at before n) (c.others n other)
  ];
  done = λ n is. elim (cases_eq n (came_in before)) [
    | inl same ↦ absurd (omega (arith, ap rank (sym (ap (stage_at after) same ∙ c.is) ∙ is)))
    | inr other ↦ sym (c.others n other) ∙ is
  ];
  was = c.was;
  is = omega (arith, ap rank c.is);
  comes = subst (λ (o : Option Flight). Becomes now (Some (arrived now request)) o) (sym c.here) (gone_self now (arrived now request));
  others = λ n other. becomes_kept now (flight_at before n) (flight_at after n) (inl (c.there n other));
}

-- commands go on behind one that comes
pub comes_then : (now : ℕ) (request : Request) (a b c : Flights) → ComesOne now request a b → GoOn now b c → ComesOne now request a c
comes_then now request a b c one second = record {
  rises = λ n. omega (arith, one.rises n, second.rises n);
  done = λ n is. one.done n (second.done n is);
  was = one.was;
  is = omega (arith, one.is, second.rises (came_in a));
  comes = becomes_then now (Some (arrived now request)) (flight_at b (came_in a)) (flight_at c (came_in a)) one.comes (second.times (came_in a));
  others = λ n other. becomes_then now (flight_at a n) (flight_at b n) (flight_at c n) (one.others n other) (second.times n);
}

-- commands go on before one ends, and after
pub ends_after : (number now : ℕ) (flight : Flight) (a b c : Flights) → GoOn now a b → EndsOne number now flight b c → EndsOne number now flight a c
ends_after number now flight a b c first e =
    let it : Was now (flight_at a number) e.old =
    becomes_some now (flight_at a number) e.old (subst (λ (o : Option Flight). Becomes now (flight_at a number) o) e.found (first.times number)) in
    record {
      rises = λ n. omega (arith, first.rises n, e.rises n);
      was = λ is. e.was (highest (stage_at b number) (omega (arith, first.rises number, ap rank is)));
      is = e.is;
      others = λ n other is. first.done n (e.others n other is);
      old = it.before;
      found = it.is;
      gone = gone_then now it.before e.old flight it.gone e.gone;
      done = e.done;
      here = e.here;
      times = λ n other. becomes_then now (flight_at a n) (flight_at b n) (flight_at c n) (first.times n) (e.times n other);
    }

pub ends_before : (number now : ℕ) (flight : Flight) (a b c : Flights) → EndsOne number now flight a b → GoOn now b c → EndsOne number now flight a c
ends_before number now flight a b c e second = record {
  rises = λ n. omega (arith, e.rises n, second.rises n);
  was = e.was;
  is = highest (stage_at c number) (omega (arith, second.rises number, ap rank e.is));
  others = λ n other is. e.others n other (second.done n is);
  old = e.old;
  found = e.found;
  gone = e.gone;
  done = e.done;
  here = becomes_then now (Some flight) (flight_at b number) (flight_at c number) e.here (second.times number);
  times = λ n other. becomes_then now (flight_at a n) (flight_at b n) (flight_at c n) (e.times n other) (second.times n);
}

-- hosts
pub host_stays : (now : ℕ) (h : Host) → HostGoesOn now h h
host_stays now h = record { flights = stay now h.flights; asking = refl }

pub host_then : (now : ℕ) (a b c : Host) → HostGoesOn now a b → HostGoesOn now b c → HostGoesOn now a c
host_then now a b c first second = record {
  flights = and_then now a.flights b.flights c.flights first.flights second.flights;
  asking = second.asking ∙ first.asking;
}

-- a host whose commands are as they were
pub host_same : (now : ℕ) (a b : Host) → b.flights ≡ a.flights → asking_of b ≡ asking_of a → HostGoesOn now a b
host_same now a b flights asking = record { flights = subst (λ (f : Flights). GoOn now a.flights f) (sym flights) (stay now a.flights); asking = asking }

-- what one stage makes of a host: where there is such a command it goes on, and else nothing changes
pub host_by : {R : Type 0} (P : R → Type 0) (now : ℕ) (a b : Host) (o : Option R) → asking_of b ≡ asking_of a → (o ≡ None → b.flights ≡ a.flights) → IfSome o P
    → ((x : R) → P x → GoOn now a.flights b.flights) → HostGoesOn now a b
host_by P now a b None asking none some goes = host_same now a b (none refl) asking
host_by P now a b (Some x) asking none some goes = record { flights = goes x some; asking = asking }

pub host_if : (now : ℕ) (a b : Host) (done : Bool) → asking_of b ≡ asking_of a → (done ≡ false → b.flights ≡ a.flights)
    → (done ≡ true → GoOn now a.flights b.flights) → HostGoesOn now a b
host_if now a b false asking none goes = host_same now a b (none refl) asking
host_if now a b true asking none goes = record { flights = goes refl; asking = asking }

pub if_some : {T : Type 0} (P Q : T → Type 0) (o : Option T) → ((x : T) → P x → Q x) → IfSome o P → IfSome o Q
if_some P Q None f p = tt
if_some P Q (Some x) f p = f x p

pub host_ends_after : (number now : ℕ) (flight : Flight) (a b c : Host) → HostGoesOn now a b → HostEndsOne number now flight b c → HostEndsOne number now flight a c
host_ends_after number now flight a b c first e = record {
  flights = ends_after number now flight a.flights b.flights c.flights first.flights e.flights;
  asking = e.asking ∙ first.asking;
}

pub host_ends_before : (number now : ℕ) (flight : Flight) (a b c : Host) → HostEndsOne number now flight a b → HostGoesOn now b c → HostEndsOne number now flight a c
host_ends_before number now flight a b c e second = record {
  flights = ends_before number now flight a.flights b.flights c.flights e.flights second.flights;
  asking = second.asking ∙ e.asking;
}

pub host_comes_then : (now : ℕ) (counts : Bool) (a b c : Host) → HostComesOne now counts a b → HostGoesOn now b c → HostComesOne now counts a c
host_comes_then now counts a b c one second = record {
  request = one.request;
  flights = comes_then now one.request a.flights b.flights c.flights one.flights second.flights;
  draws = subst (λ (x : Asking). Draws (next_in a.flights) (asking_of a) x one.request) (sym second.asking) one.draws;
  counted = one.counted;
}
