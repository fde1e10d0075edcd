-- Regions under tokens: where a token is found, and what keeps them.
use Rattle.std.proofs.Common.{◌≡◌, ℕ, zero, suc, ◌+◌, ◌*◌, ◌<◌, ◌==◌, true, false, List, [], ◌∷◌, ◌++◌, length, set, Option, Some, None, slice_get, refl, sym, ◌∙◌, ap, arith, eq-eqb, ◌≤◌, Bool, not, ◌||◌, ◌&&◌, is_some, nat_lt, if◌then◌else◌, ltb-false, true≢false}
use Rattle.nvme_admin.specs.declared.bounds.TheConstants.{MAX_IO_QUEUES, MAX_REGIONS, MIN_SLOTS, MAX_SLOTS}
use Rattle.nvme_admin.specs.declared.region.AdminError.TheVariants.{Used, TooMany, Size}
use Rattle.nvme_admin.specs.Standing.{TableView, region_fault}
use Rattle.nvme_admin.specs.Layout.{allotted_by}
use Rattle.std.specs.List.{position_or_len}
use Rattle.nvme_admin.specs.declared.region.Region.{Region}
use Rattle.nvme_admin.specs.QueueTable.{region_number}
use Rattle.nvme_admin.proofs.Slots.{other}
use Rattle.nvme_placing.specs.Telling.{AreTokens, is_ring_size}

-- the place of a token
place : (a first : ℕ) (rs : List Region) (k : ℕ) → AreTokens first rs → k < length rs → a ≡ first + 2 * k → position_or_len (λ r. r.address == a) rs ≡ k
place a first [] k t l e = absurd (omega arith)
place a first (r ∷ rs) zero t l e =
    let here : r.address ≡ a = omega (arith, t.0, e) in
    rw (eq-eqb r.address a here) refl
place a first (r ∷ rs) (suc k) t l e =
    let past : r.address ≡ a → ⊥ = λ same. omega (arith, t.0, e, same) in
    let rest : position_or_len (λ r. r.address == a) rs ≡ k = place a (first + 2) rs k t.1 (omega arith) (omega arith) in
    rw (other r.address a past) (omega (arith, rest))

pub token-found : (a first : ℕ) (rs : List Region) (k : ℕ) → AreTokens first rs → k < length rs → a ≡ first + 2 * k → region_number rs a ≡ Some k
token-found a first rs k t l e =
    let at : position_or_len (λ r. r.address == a) rs ≡ k = place a first rs k t l e in
    rw at (grind (arith, l))

-- an address that is no token
absent : (a first : ℕ) (rs : List Region) → AreTokens first rs → ((j : ℕ) → j < length rs → a ≡ first + 2 * j → ⊥) → position_or_len (λ r. r.address == a) rs ≡ length rs
absent a first [] t n = refl
absent a first (r ∷ rs) t n =
    let past : r.address ≡ a → ⊥ = λ same. n 0 (omega arith) (omega (arith, t.0, same)) in
    let rest : position_or_len (λ r. r.address == a) rs ≡ length rs = absent a (first + 2) rs t.1 (λ j l e. n (suc j) (omega (arith, l)) (omega (arith, e))) in
    rw (other r.address a past) (omega (arith, rest))

pub token-missing : (a first : ℕ) (rs : List Region) → AreTokens first rs → ((j : ℕ) → j < length rs → a ≡ first + 2 * j → ⊥) → region_number rs a ≡ None
token-missing a first rs t n =
    let at : position_or_len (λ r. r.address == a) rs ≡ length rs = absent a first rs t n in
    rw at (grind arith)

-- a region more
pub tokens-more : (first : ℕ) (rs : List Region) (r : Region) → AreTokens first rs → r.address ≡ first + 2 * length rs → AreTokens first (rs ++ r ∷ [])
tokens-more first [] r t e = (omega (arith, e), tt)
tokens-more first (x ∷ rs) r t e = (t.0, tokens-more (first + 2) rs r t.1 (omega (arith, e)))

-- a region of another size
pub tokens-set : (first : ℕ) (rs : List Region) (k : ℕ) (r s : Region) → AreTokens first rs → slice_get rs k ≡ Some r → s.address ≡ r.address → AreTokens first (set rs k s)
tokens-set first [] k r s t h e = tt
tokens-set first (x ∷ rs) zero r s t h e =
    let same : x.address ≡ r.address = ap address_in h in
    (e ∙ sym same ∙ t.0, t.1)
  where
    address_in : Option Region → ℕ
    address_in None = 0
    address_in (Some y) = y.address
tokens-set first (x ∷ rs) (suc k) r s t h e = (t.0, tokens-set (first + 2) rs k r s t.1 h e)

-- an allotted number is at most the most
few-of : (n : ℕ) (zero_one above : Bool) → nat_lt MAX_IO_QUEUES n ≡ above → (if zero_one then 1 else (if above then MAX_IO_QUEUES else n)) ≤ MAX_IO_QUEUES
few-of n true above e = omega arith
few-of n false true e = omega arith
few-of n false false e = ltb-false MAX_IO_QUEUES n e

pub allotted-few : (n : ℕ) → allotted_by n ≤ MAX_IO_QUEUES
allotted-few n = few-of n (n == 0) (nat_lt MAX_IO_QUEUES n) refl

-- ---- a region under the next token isn't refused
sizes : (under over : Bool) → (not under && not over) ≡ true → (under || over) ≡ false
sizes true over h = absurd (true≢false (sym h))
sizes false true h = absurd (true≢false (sym h))
sizes false false h = refl

no-fault : (v : TableView) (rs : List Region) (address slots : ℕ) → region_number v.sq_regions address ≡ None → region_number v.cq_regions address ≡ None
    → length rs < MAX_REGIONS → is_ring_size slots ≡ true → region_fault v rs address slots ≡ None
no-fault v rs address slots sq cq room size =
    let full : (length rs == MAX_REGIONS) ≡ false = other (length rs) MAX_REGIONS (λ e. omega (arith, e, room)) in
    λ i. if is_some (sq i) || is_some (cq i) then Some Used
    else (if full i then Some TooMany
    else (if (sizes (nat_lt slots MIN_SLOTS) (nat_lt MAX_SLOTS slots) size) i then Some Size
    else None))

pub sq-added : (v : TableView) (number slots : ℕ) → AreTokens 0 v.sq_regions → AreTokens 1 v.cq_regions → length v.sq_regions ≡ number → number < MAX_REGIONS
    → is_ring_size slots ≡ true → region_fault v v.sq_regions (2 * number) slots ≡ None
sq-added v number slots sqs cqs next room size =
    no-fault v v.sq_regions (2 * number) slots
    (token-missing (2 * number) 0 v.sq_regions sqs (λ j l e. omega (arith, l, e, next)))
    (token-missing (2 * number) 1 v.cq_regions cqs (λ j l e. omega (arith, e)))
    (omega (arith, next, room)) size

pub cq-added : (v : TableView) (number slots : ℕ) → AreTokens 0 v.sq_regions → AreTokens 1 v.cq_regions → length v.cq_regions ≡ number → number < MAX_REGIONS
    → is_ring_size slots ≡ true → region_fault v v.cq_regions (2 * number + 1) slots ≡ None
cq-added v number slots sqs cqs next room size =
    no-fault v v.cq_regions (2 * number + 1) slots
    (token-missing (2 * number + 1) 0 v.sq_regions sqs (λ j l e. omega (arith, e)))
    (token-missing (2 * number + 1) 1 v.cq_regions cqs (λ j l e. omega (arith, l, e, next)))
    (omega (arith, next, room)) size

-- ---- a table with one region of each kind more
pub one-longer : (rs : List Region) (r : Region) → length (rs ++ r ∷ []) ≡ length rs + 1
one-longer [] r = refl
one-longer (x ∷ rs) r = let rest : length (rs ++ r ∷ []) ≡ length rs + 1 = one-longer rs r in omega (arith, rest)

-- the admin queue is open from the first region on
pub opened-first : {A : Type 0} (admin : Bool) (n : ℕ) (x was : Option A) → was ≡ (if admin then (if n == 0 then None else x) else None)
    → (if admin then x else was) ≡ (if admin then (if n + 1 == 0 then None else x) else None)
opened-first true n x was is = let above : (n + 1 == 0) ≡ false = other (n + 1) 0 (λ e. omega (arith, e)) in rw above refl
opened-first false n x was is = is
