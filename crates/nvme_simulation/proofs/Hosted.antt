-- How the commands of all hosts go on.
use Rattle.std.proofs.Common.{◌≡◌, ◌≢◌, ◌∙◌, ◌<◌, ℕ, ◌+◌, Bool, List, length, get_or, Option, Some, None, sym, ap, subst, inl, inr}
use Rattle.std.specs.Prelude.{OnSome, slice_get, slice_set}
use Rattle.std.proofs.lemmas.Bool.{cases_eq}
use Rattle.std.proofs.lemmas.Option.{slice_get-get_or}
use Rattle.nvme_simulation.specs.declared.flight.Flight.{Flight}
use Rattle.nvme_simulation.specs.declared.flight.Stage.{Stage}
use Rattle.nvme_simulation.specs.declared.host.Host.{Host}
use Rattle.nvme_simulation.specs.declared.hosts.Hosts.{Hosts}
use Rattle.nvme_simulation.specs.Following.{DrawsNext, IsNextOf}
use Rattle.nvme_simulation.specs.Moving.{HostMoves, OneMoves}
use Rattle.nvme_simulation.specs.Rings.{Hears, OneHears}
use Rattle.nvme_simulation.specs.Progress.{AllGoOn, Between, BetweenOne, HostComesOne, HostEndsOne, HostGoesOn, OneComes, OneEnds}
use Rattle.nvme_simulation.proofs.Moves.{set_here, set_there}
use Rattle.nvme_simulation.proofs.Progress.{host_comes_then, host_ends_after, host_ends_before, host_stays, host_then}

pub between_self : (R : Host → Host → Type 0) → ((h : Host) → R h h) → (o : Option Host) → Between R o o
between_self R same None = tt
between_self R same (Some h) = same h

-- where two steps make a third of each host, they do so of all
pub between_both : (P Q R : Host → Host → Type 0) → ((x y z : Host) → P x y → Q y z → R x z) → (a b c : Option Host) → Between P a b → Between Q b c → Between R a c
between_both P Q R f None None None first second = tt
between_both P Q R f None None (Some z) first second = absurd second
between_both P Q R f None (Some y) c first second = absurd first
between_both P Q R f (Some x) None c first second = absurd first
between_both P Q R f (Some x) (Some y) None first second = absurd second
between_both P Q R f (Some x) (Some y) (Some z) first second = f x y z first second

one_behind : (P Q R : Host → Host → Type 0) → ((x y z : Host) → P x y → Q y z → R x z) → (a b c : Option Host) → Between P a b → BetweenOne Q b c → BetweenOne R a c
one_behind P Q R f None None None first second = absurd second
one_behind P Q R f None None (Some z) first second = absurd second
one_behind P Q R f None (Some y) c first second = absurd first
one_behind P Q R f (Some x) None c first second = absurd first
one_behind P Q R f (Some x) (Some y) None first second = absurd second
one_behind P Q R f (Some x) (Some y) (Some z) first second = f x y z first second

one_in_front : (P Q R : Host → Host → Type 0) → ((x y z : Host) → P x y → Q y z → R x z) → (a b c : Option Host) → BetweenOne P a b → Between Q b c → BetweenOne R a c
one_in_front P Q R f None None c first second = absurd first
one_in_front P Q R f None (Some y) c first second = absurd first
one_in_front P Q R f (Some x) None c first second = absurd first
one_in_front P Q R f (Some x) (Some y) None first second = absurd second
one_in_front P Q R f (Some x) (Some y) (Some z) first second = f x y z first second

between_one : (R : Host → Host → Type 0) (a b : Option Host) → BetweenOne R a b → Between R a b
between_one R None None r = absurd r
between_one R None (Some y) r = absurd r
between_one R (Some x) None r = absurd r
between_one R (Some x) (Some y) r = r

between_then : (now : ℕ) (a b c : Option Host) → Between (HostGoesOn now) a b → Between (HostGoesOn now) b c → Between (HostGoesOn now) a c
between_then now a b c first second = between_both (HostGoesOn now) (HostGoesOn now) (HostGoesOn now) (host_then now) a b c first second

pub all_stay : (now : ℕ) (hs : Hosts) → AllGoOn now hs hs
all_stay now hs = record { each = λ k. between_self (HostGoesOn now) (host_stays now) (slice_get hs.all.items k) }

pub all_then : (now : ℕ) (a b c : Hosts) → AllGoOn now a b → AllGoOn now b c → AllGoOn now a c
all_then now a b c first second =
    record { each = λ k. between_then now (slice_get a.all.items k) (slice_get b.all.items k) (slice_get c.all.items k) (first.each k) (second.each k) }

pub on_some : {T P : Type 0} (o : Option T) → P → OnSome o P
on_some None p = tt
on_some (Some x) p = p

-- the host at a place that was looked up
pub held : (xs : List Host) (place : ℕ) (h : Host) → place < length xs → h ≡ get_or xs place h → slice_get xs place ≡ Some h
held xs place h within is = slice_get-get_or xs place h within ∙ ap Some (sym is)

-- one host is another
at_place : (R : Host → Host → Type 0) (xs ys : List Host) (place : ℕ) (h w : Host) → ys ≡ slice_set xs place w → place < length xs → slice_get xs place ≡ Some h
    → R h w → BetweenOne R (slice_get xs place) (slice_get ys place)
at_place R xs ys place h w items within at r =
    let is : slice_get ys place ≡ Some w = ap (λ (zs : List Host). slice_get zs place) items ∙ set_here xs place w within in
    subst (λ (o : Option Host). BetweenOne R o (slice_get ys place)) (sym at) (subst (λ (o : Option Host). BetweenOne R (Some h) o) (sym is) r)

-- and each other one is the same
others_same : (xs ys : List Host) (place : ℕ) (w : Host) → ys ≡ slice_set xs place w → (k : ℕ) → k ≢ place → slice_get ys k ≡ slice_get xs k
others_same xs ys place w items k other = ap (λ (zs : List Host). slice_get zs k) items ∙ set_there xs place k w other

beside_place : (R : Host → Host → Type 0) → ((h : Host) → R h h) → (xs ys : List Host) (place : ℕ) (w : Host) → ys ≡ slice_set xs place w → (k : ℕ) → k ≢ place
    → Between R (slice_get xs k) (slice_get ys k)
beside_place R same xs ys place w items k other =
    subst (λ (o : Option Host). Between R (slice_get xs k) o) (sym (others_same xs ys place w items k other)) (between_self R same (slice_get xs k))

pub one_changes : (R : Host → Host → Type 0) → ((h : Host) → R h h) → (before after : Hosts) (place : ℕ) (h w : Host)
    → after.all.items ≡ slice_set before.all.items place w → place < length before.all.items → slice_get before.all.items place ≡ Some h → R h w
    → (k : ℕ) → Between R (slice_get before.all.items k) (slice_get after.all.items k)
one_changes R self before after place h w items within at is k = elim (cases_eq k place) [
  | inl same ↦
      subst (λ (j : ℕ). Between R (slice_get before.all.items j) (slice_get after.all.items j)) (sym same)
      (between_one R (slice_get before.all.items place) (slice_get after.all.items place) (at_place R before.all.items after.all.items place h w items within at is))
  | inr other ↦ beside_place R self before.all.items after.all.items place w items k other
]

pub one_goes : (now : ℕ) (before after : Hosts) (place : ℕ) (h w : Host) → after.all.items ≡ slice_set before.all.items place w → place < length before.all.items
    → slice_get before.all.items place ≡ Some h → HostGoesOn now h w → AllGoOn now before after
one_goes now before after place h w items within at goes =
    record { each = one_changes (HostGoesOn now) (host_stays now) before after place h w items within at goes }

pub one_moves : (qid number : ℕ) (from : Stage) (now : ℕ) (before after : Hosts) (place : ℕ) (h w : Host) → qid ≡ place + 1
    → after.all.items ≡ slice_set before.all.items place w → place < length before.all.items → slice_get before.all.items place ≡ Some h
    → HostMoves number from now h w → OneMoves qid number from now before after
one_moves qid number from now before after place h w queue items within at moves = record {
  place = place;
  queue = queue;
  moves = at_place (HostMoves number from now) before.all.items after.all.items place h w items within at moves;
  others = others_same before.all.items after.all.items place w items;
}

pub one_hears : (qid sqhd : ℕ) (before after : Hosts) (place : ℕ) (h w : Host) → qid ≡ place + 1 → after.all.items ≡ slice_set before.all.items place w
    → place < length before.all.items → slice_get before.all.items place ≡ Some h → Hears sqhd h w → OneHears qid sqhd before after
one_hears qid sqhd before after place h w queue items within at hears = record {
  place = place;
  queue = queue;
  hears = at_place (Hears sqhd) before.all.items after.all.items place h w items within at hears;
  others = others_same before.all.items after.all.items place w items;
}

pub one_draws : (qid time : ℕ) (next : Option ℕ) (before after : Hosts) (place : ℕ) (h w : Host) → qid ≡ place + 1
    → after.all.items ≡ slice_set before.all.items place w → place < length before.all.items → slice_get before.all.items place ≡ Some h
    → DrawsNext time next h w → IsNextOf qid time next before after
one_draws qid time next before after place h w queue items within at draws = record {
  place = place;
  queue = queue;
  draws = at_place (DrawsNext time next) before.all.items after.all.items place h w items within at draws;
  others = others_same before.all.items after.all.items place w items;
}

pub one_ends : (qid number now : ℕ) (flight : Flight) (before after : Hosts) (place : ℕ) (h w : Host) → qid ≡ place + 1
    → after.all.items ≡ slice_set before.all.items place w → place < length before.all.items → slice_get before.all.items place ≡ Some h
    → HostEndsOne number now flight h w → OneEnds qid number now flight before after
one_ends qid number now flight before after place h w queue items within at ends = record {
  place = place;
  queue = queue;
  ends = at_place (HostEndsOne number now flight) before.all.items after.all.items place h w items within at ends;
  others = beside_place (HostGoesOn now) (host_stays now) before.all.items after.all.items place w items;
}

pub one_comes : (qid now : ℕ) (counts : Bool) (before after : Hosts) (place : ℕ) (h w : Host) → qid ≡ place + 1
    → after.all.items ≡ slice_set before.all.items place w → place < length before.all.items → slice_get before.all.items place ≡ Some h
    → HostComesOne now counts h w → OneComes qid now counts before after
one_comes qid now counts before after place h w queue items within at comes = record {
  place = place;
  queue = queue;
  comes = at_place (HostComesOne now counts) before.all.items after.all.items place h w items within at comes;
  others = beside_place (HostGoesOn now) (host_stays now) before.all.items after.all.items place w items;
}

pub one_after : (qid number now : ℕ) (flight : Flight) (a b c : Hosts) → AllGoOn now a b → OneEnds qid number now flight b c → OneEnds qid number now flight a c
one_after qid number now flight a b c first e = record {
  place = e.place;
  queue = e.queue;
  ends = one_behind (HostGoesOn now) (HostEndsOne number now flight) (HostEndsOne number now flight) (host_ends_after number now flight)
      (slice_get a.all.items e.place) (slice_get b.all.items e.place) (slice_get c.all.items e.place) (first.each e.place) e.ends;
  others = λ k other. between_then now (slice_get a.all.items k) (slice_get b.all.items k) (slice_get c.all.items k) (first.each k) (e.others k other);
}

pub one_before : (qid number now : ℕ) (flight : Flight) (a b c : Hosts) → OneEnds qid number now flight a b → AllGoOn now b c → OneEnds qid number now flight a c
one_before qid number now flight a b c e second = record {
  place = e.place;
  queue = e.queue;
  ends = one_in_front (HostEndsOne number now flight) (HostGoesOn now) (HostEndsOne number now flight) (host_ends_before number now flight)
      (slice_get a.all.items e.place) (slice_get b.all.items e.place) (slice_get c.all.items e.place) e.ends (second.each e.place);
  others = λ k other. between_then now (slice_get a.all.items k) (slice_get b.all.items k) (slice_get c.all.items k) (e.others k other) (second.each k);
}

pub come_then : (qid now : ℕ) (counts : Bool) (a b c : Hosts) → OneComes qid now counts a b → AllGoOn now b c → OneComes qid now counts a c
come_then qid now counts a b c one second = record {
  place = one.place;
  queue = one.queue;
  comes = one_in_front (HostComesOne now counts) (HostGoesOn now) (HostComesOne now counts) (host_comes_then now counts)
      (slice_get a.all.items one.place) (slice_get b.all.items one.place) (slice_get c.all.items one.place) one.comes (second.each one.place);
  others = λ k other. between_then now (slice_get a.all.items k) (slice_get b.all.items k) (slice_get c.all.items k) (one.others k other) (second.each k);
}
