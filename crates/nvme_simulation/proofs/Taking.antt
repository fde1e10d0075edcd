-- Commands that are picked, and that start.
use Rattle.std.proofs.Common.{◌≡◌, ℕ, suc, ◌+◌, Option, Some, None, Result, Ok, Err, refl, sym, subst, arith}
use Rattle.std.specs.Prelude.{IfSome, OnOk, OnSome}
use Rattle.nvme_simulation.specs.Machines.{TakesPicked}
use Rattle.nvme_simulation.specs.Moving.{HostMoves, OneMoves, StartsIn}
use Rattle.nvme_simulation.specs.Stages.{MovesOne}
use Rattle.nvme_simulation.specs.Taking.{TakesAll}
use Rattle.nvme_simulation.specs.declared.channels.Started.{Started}
use Rattle.nvme_simulation.specs.declared.flight.Stage.{Stage}
use Rattle.nvme_simulation.specs.declared.flight.Stage.TheVariants.{Picked}
use Rattle.nvme_simulation.specs.declared.host.Host.{Host}
use Rattle.nvme_simulation.specs.declared.hosts.Hosts.{Hosts}
use Rattle.nvme_simulation.specs.declared.machine.Machine.{Machine}

-- where there is such a command, it comes to the next stage
pub moves_some : {R : Type 0} (P : R → Type 0) (o : Option R) (n k : ℕ) (from : Stage) (now : ℕ) (a b : Host) → n ≡ k → b ≡ record a { flights = b.flights } → IfSome o P
    → ((x : R) → P x → MovesOne n from now a.flights b.flights) → OnSome o (HostMoves k from now a b)
moves_some P None n k from now a b same rest some moves = tt
moves_some P (Some x) n k from now a b same rest some moves =
    record { flights = subst (λ (m : ℕ). MovesOne m from now a.flights b.flights) same (moves x some); rest = rest }

-- at a time that is told
pub moves_at : (qid number : ℕ) (from : Stage) (t u : ℕ) (a b : Hosts) → t ≡ u → OneMoves qid number from t a b → OneMoves qid number from u a b
moves_at qid number from t u a b time moves = subst (λ (v : ℕ). OneMoves qid number from v a b) time moves

pub starts_some : (s : Started) (now : ℕ) (o : Option Started) (a b : Hosts) → o ≡ Some s → OneMoves s.command.qid s.command.number Picked now a b → StartsIn o now a b
starts_some s now o a b some moves = subst (λ (p : Option Started). StartsIn p now a b) (sym some) moves

pub takes_none : (qid : ℕ) (m : Machine) → TakesAll 0 qid m m
unfolding TakesAll
takes_none qid m = refl

pub takes_more : (n qid : ℕ) (a b c : Machine) → TakesAll n qid a b → TakesPicked qid b c → TakesAll (n + 1) qid a c
unfolding TakesAll
takes_more n qid a b c before one =
    let next : suc n ≡ n + 1 = omega arith in
    subst (λ (k : ℕ). TakesAll k qid a c) next (b, (before, one))

pub on_ok_both : {T E P Q R : Type 0} (r : Result T E) → (P → Q → R) → OnOk r P → OnOk r Q → OnOk r R
on_ok_both (Ok x) f p q = f p q
on_ok_both (Err e) f p q = tt
