-- The first events of a simulation.
use Rattle.std.proofs.Common.{◌≡◌, ◌∙◌, ℕ, suc, ◌+◌, ◌*◌, ◌/◌, Bool, true, false, refl, sym, ap, subst, arith}
use Rattle.nvme_clock.specs.Held.{Held, pushed}
use Rattle.nvme_simulation.specs.First.{BeginsQueue, BeginsQueues, PlansFirst, PlansFirstIf}
use Rattle.nvme_simulation.specs.Plans.{arrivals_at, first_pauses, planned}
use Rattle.nvme_simulation.specs.declared.agenda.Event.{Event}
use Rattle.nvme_simulation.specs.declared.agenda.Event.TheVariants.{Arrival, Pause}
use Rattle.nvme_simulation.specs.declared.hosts.Hosts.{Hosts}

-- a command more
pub arrivals_more : (qid n : ℕ) (h a b : Held Event) → a ≡ planned (arrivals_at 0 qid n) h → b ≡ pushed 0 (Arrival qid) a → b ≡ planned (arrivals_at 0 qid (n + 1)) h
unfolding planned arrivals_at
arrivals_more qid n h a b before is =
    let one : suc n ≡ n + 1 = omega arith in
    subst (λ (m : ℕ). b ≡ planned (arrivals_at 0 qid m) h) one (is ∙ ap (pushed 0 (Arrival qid)) before)

pub arrivals_none : (qid : ℕ) (h : Held Event) → h ≡ planned (arrivals_at 0 qid 0) h
unfolding planned arrivals_at
arrivals_none qid h = refl

-- a pause more
pub pauses_more : (every count n at : ℕ) (h a b : Held Event) → a ≡ planned (first_pauses every count n) h → at ≡ every * (n + 1) / count → b ≡ pushed at (Pause n) a
    → b ≡ planned (first_pauses every count (n + 1)) h
unfolding planned first_pauses
pauses_more every count n at h a b before time is =
    let one : suc n ≡ n + 1 = omega arith in
    subst (λ (m : ℕ). b ≡ planned (first_pauses every count m) h) one
    (is ∙ ap (λ (t : ℕ). pushed t (Pause n) a) time ∙ ap (pushed (every * (n + 1) / count) (Pause n)) before)

pub pauses_none : (every count : ℕ) (h : Held Event) → h ≡ planned (first_pauses every count 0) h
unfolding planned first_pauses
pauses_none every count h = refl

-- a queue more
pub queues_more : (n : ℕ) (a b c : Hosts) (h f g : Held Event) → BeginsQueues n a b h f → BeginsQueue (n + 1) b c f g → BeginsQueues (n + 1) a c h g
unfolding BeginsQueues
queues_more n a b c h f g before is =
    let one : suc n ≡ n + 1 = omega arith in
    subst (λ (m : ℕ). BeginsQueues m a c h g) one (b, (f, (before, is)))

pub queues_none : (a : Hosts) (h : Held Event) → BeginsQueues 0 a a h h
unfolding BeginsQueues
queues_none a h = (refl, refl)

-- no first command of a queue is planned, or one is
pub first_if_not : (goes : Bool) (qid : ℕ) (a : Hosts) (h g : Held Event) → goes ≡ false → g ≡ h → PlansFirstIf goes qid a a h g
first_if_not goes qid a h g none is = subst (λ (b : Bool). PlansFirstIf b qid a a h g) (sym none) (refl, is)

pub first_if : (goes : Bool) (qid : ℕ) (a b : Hosts) (h g : Held Event) → goes ≡ true → PlansFirst qid a b h g → PlansFirstIf goes qid a b h g
first_if goes qid a b h g one is = subst (λ (c : Bool). PlansFirstIf c qid a b h g) (sym one) is
