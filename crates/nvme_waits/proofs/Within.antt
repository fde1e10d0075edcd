-- No command takes longer than the longest service.
use Rattle.std.proofs.Common.{◌≡◌, ◌∙◌, ℕ, ◌<◌, ◌≤◌, ◌==◌, Bool, cond, Contains, List, sym, ap, subst, arith}
use Rattle.std.proofs.lemmas.Bool.{ne_eqb}
use Rattle.nvme_load.specs.declared.arrivals.Arrivals.{Arrivals}
use Rattle.nvme_load.specs.declared.arrivals.Arrivals.TheVariants.{Poisson, Regular, OnOff, Closed, Replay}
use Rattle.nvme_load.specs.declared.mix.Operation.{Operation}
use Rattle.nvme_load.specs.declared.mix.Operation.TheVariants.{Read, Write, Flush}
use Rattle.nvme_load.specs.declared.replay.Request.{Request}
use Rattle.nvme_load.specs.Longest.{longest_by}
use Rattle.nvme_model.specs.declared.queue.Queue.{Queue}
use Rattle.nvme_waits.specs.Laws.{NoneTakesLonger}
use Rattle.nvme_waits.specs.Longest.{MayCome, MayDraw, longest_coming, longest_drawn, longest_drawn_of, longest_in, longest_listed, longest_of, share_of}
use Rattle.nvme_waits.proofs.Greatest.{greatest_at}

-- where there is a share, the longest is that of the operation
with_share : (share a : ℕ) → 0 < share → cond (share == 0) 0 a ≡ a
with_share share a some = ap (λ (b : Bool). cond b 0 a) (ne_eqb share 0 (λ e. omega (arith, some, e)))

of_operation : (q : Queue) (operation : Operation) → longest_drawn_of q operation ≤ longest_drawn q
of_operation q Read = omega arith
of_operation q Write = omega arith
of_operation q Flush = omega arith

drawn : (q : Queue) (operation : Operation) (blocks : ℕ) → MayDraw q operation blocks → longest_by q.services operation blocks ≤ longest_drawn q
drawn q operation blocks (some, is) =
    let P : ℕ → Type 0 = λ n. longest_by q.services operation n ≤ longest_drawn q in
    subst P (sym is)
    (let e : longest_drawn_of q operation ≡ longest_by q.services operation q.places.extent.blocks =
    with_share (share_of q.mix operation) (longest_by q.services operation q.places.extent.blocks) some in
    omega (arith, e, of_operation q operation))

listed : (q : Queue) (requests : List Request) (r : Request) → Contains requests r → longest_by q.services r.operation r.blocks ≤ longest_listed q.services requests
listed q requests r (k, l, at) =
    let P : Request → Type 0 = λ (it : Request). longest_by q.services it.operation it.blocks ≤ longest_listed q.services requests in
    subst P at (greatest_at (λ (it : Request). longest_by q.services it.operation it.blocks) requests k r l)

in_queue : (q : Queue) (coming : Arrivals) (operation : Operation) (blocks : ℕ) → MayCome q coming operation blocks
    → longest_by q.services operation blocks ≤ longest_coming q coming
in_queue q (Poisson mean) operation blocks may = drawn q operation blocks may
in_queue q (Regular gap) operation blocks may = drawn q operation blocks may
in_queue q (OnOff phases) operation blocks may = drawn q operation blocks may
in_queue q (Closed host) operation blocks may = drawn q operation blocks may
in_queue q (Replay list) operation blocks (r, there, (does, has)) =
    let e : longest_by q.services r.operation r.blocks ≡ longest_by q.services operation blocks =
    ap (λ (o : Operation). longest_by q.services o r.blocks) does ∙ ap (λ (n : ℕ). longest_by q.services operation n) has in
    omega (arith, e, listed q list.requests.items r there)

pub none_takes_longer : NoneTakesLonger
none_takes_longer queues q operation blocks (k, l, at) may =
    let P : Queue → Type 0 = λ (it : Queue). longest_in it ≤ longest_of queues in
    let within : longest_in q ≤ longest_of queues = subst P at (greatest_at longest_in queues k q l) in
    omega (arith, within, in_queue q q.arrivals operation blocks may)
