-- The judge counts the submission queues of a completion queue: more were created onto it than ended where it finds one there.
use Rattle.std.proofs.Common.{◌≡◌, ℕ, zero, suc, ◌+◌, ◌<◌, ◌==◌, Bool, true, false, if◌then◌else◌, [], ◌∷◌, Some, None, refl, sym, ap, arith}
use Rattle.std.proofs.lemmas.Bool.{eq-eqb, ne_eqb, lt-ltb, le-ltb}
use Rattle.nvme_entry.specs.declared.admin.AdminCommand.{AdminCommand}
use Rattle.nvme_entry.specs.declared.admin.AdminCommand.TheVariants.{DeleteSq, CreateSq, DeleteCq, CreateCq, Abort, SetFeatures, GetFeatures, Other}
use Rattle.nvme_log.specs.Rules.{upto}
use Rattle.nvme_log.specs.Places.{one_if}
use Rattle.nvme_log.specs.Laws.{count_of}
use Rattle.nvme_log.proofs.Counting.{count_of-push, counts_change}
use Rattle.nvme_audit.specs.declared.event.Event.TheVariants.{Tail, Head, Fetch, Post}
use Rattle.nvme_audit.specs.declared.facts.Ring.{Ring}
use Rattle.nvme_audit.specs.declared.facts.Start.{Start}
use Rattle.nvme_audit.specs.Lives.{Past, done}
use Rattle.nvme_audit.specs.Queues.{ring_of, ring_by}
use Rattle.nvme_audit.specs.Turns.{joins, joined, is_on, ring_ended, parted}
use Rattle.nvme_audit.specs.Facts.{cq_after}
use Rattle.nvme_audit.specs.Answers.{is_attached}
use Rattle.nvme_own_statuses.proofs.Counts.{counts_one}

-- ---- the identifiers of submission queues that were created or deleted
abbrev turned : AdminCommand → ℕ
turned (DeleteSq qid) = qid
turned (CreateSq qid qsize prp1 cqid qprio pc) = qid
turned command = 0

-- all lie below a number
abbrev AreBelow : ℕ → Past → Type 0
AreBelow n [] = Unit {0}
AreBelow n (Post cq slot completion ∷ past) = (turned (done past completion) < n) × AreBelow n past
AreBelow n (e ∷ past) = AreBelow n past

below_more : (n k : ℕ) (log : Past) → AreBelow n log → AreBelow (n + k) log
below_more n k [] h = tt
below_more n k (Tail sq slot ∷ past) h = below_more n k past h
below_more n k (Head cq slot ∷ past) h = below_more n k past h
below_more n k (Fetch sq slot cid command ∷ past) h = below_more n k past h
below_more n k (Post cq slot completion ∷ past) h = (let lt : turned (done past completion) < n = h.0 in omega (arith, lt), below_more n k past h.1)

some_bound : (log : Past) → (n : ℕ) × AreBelow n log
some_bound [] = (0, tt)
some_bound (Tail sq slot ∷ past) = some_bound past
some_bound (Head cq slot ∷ past) = some_bound past
some_bound (Fetch sq slot cid command ∷ past) = some_bound past
some_bound (Post cq slot completion ∷ past) =
    let before = some_bound past in
    (before.0 + (turned (done past completion) + 1), (omega arith, below_more before.0 (turned (done past completion) + 1) past before.1))

-- ---- rings that post to a completion queue
module _ (start : Start) (q : ℕ) (io : q ≡ 0 → ⊥) where
  abbrev rings : Past → ℕ → ℕ
  rings log n = count_of (λ p. is_on q (ring_of start log p)) (upto n)

  counts_none : (t : ℕ → Bool) → ((p : ℕ) → t p ≡ false) → (n : ℕ) → count_of t (upto n) ≡ 0
  counts_none t none zero = refl
  counts_none t none (suc n) = (let here : one_if (t n) ≡ 0 = ap one_if (none n) in omega (arith, here, counts_none t none n, count_of-push t (upto n) n))

  none_first : (p : ℕ) → is_on q (ring_of start [] p) ≡ false
  none_first p = by (p == 0) where
    by : (b : Bool) → is_on q (if b then Some (record { qsize = start.asqs; cqid = 0 }) else None) ≡ false
    by true = ne_eqb 0 q (λ same. io (sym same))
    by false = refl

  -- a command that succeeds keeps the balance
  module _ (past : Past) (n : ℕ) where
    abbrev on_it : ℕ → Bool
    on_it p = is_on q (ring_of start past p)

    more_if : (b : Bool) (k : ℕ) → (if b then k + 1 else k) ≡ k + one_if b
    more_if true k = omega arith
    more_if false k = omega arith

    balance : (a : AdminCommand) → turned a < n → joined past q ≡ parted start past q + rings past n
        → (if joins a q then joined past q + 1 else joined past q) ≡ (if is_on q (ring_ended start past a) then parted start past q + 1 else parted start past q) + count_of (λ p. is_on q (ring_by a p (ring_of start past p))) (upto n)
    balance (DeleteSq p) lt h =
        let after : ℕ → Bool = λ (k : ℕ). is_on q (ring_by (DeleteSq p) k (ring_of start past k)) in
        let change = counts_change on_it after p n lt (λ k apart. ap (λ (b : Bool). is_on q (if b then None else ring_of start past k)) (ne_eqb p k apart)) in
        let now : after p ≡ false = ap (λ (b : Bool). is_on q (if b then None else ring_of start past p)) (eq-eqb p p refl) in
        omega (arith, h, change, ap one_if now, more_if (on_it p) (parted start past q))
    balance (CreateSq p qsize prp1 cqid qprio pc) lt h =
        let after : ℕ → Bool = λ (k : ℕ). is_on q (ring_by (CreateSq p qsize prp1 cqid qprio pc) k (ring_of start past k)) in
        let ring : Ring = record { qsize = qsize; cqid = cqid } in
        let change = counts_change on_it after p n lt (λ k apart. ap (λ (b : Bool). is_on q (if b then Some ring else ring_of start past k)) (ne_eqb p k apart)) in
        let now : after p ≡ (cqid == q) = ap (λ (b : Bool). is_on q (if b then Some ring else ring_of start past p)) (eq-eqb p p refl) in
        omega (arith, h, change, ap one_if now, more_if (on_it p) (parted start past q), more_if (cqid == q) (joined past q))
    balance (DeleteCq p) lt h = h
    balance (CreateCq p qsize prp1 pc) lt h = h
    balance (Abort sqid cid) lt h = h
    balance (SetFeatures fid sv cdw11) lt h = h
    balance (GetFeatures fid) lt h = h
    balance Other lt h = h

  balanced : (log : Past) (n : ℕ) → AreBelow n log → joined log q ≡ parted start log q + rings log n
  balanced [] n below = omega (arith, counts_none (λ p. is_on q (ring_of start [] p)) none_first n)
  balanced (Tail sq slot ∷ past) n below = balanced past n below
  balanced (Head cq slot ∷ past) n below = balanced past n below
  balanced (Fetch sq slot cid command ∷ past) n below = balanced past n below
  balanced (Post cq slot completion ∷ past) n below = balance past n (done past completion) below.0 (balanced past n below.1)

  pub unattached : (log : Past) → ((p : ℕ) → is_on q (ring_of start log p) ≡ false) → is_attached (cq_after start log q) ≡ false
  unattached log none =
      let bound = some_bound log in
      let same = balanced log bound.0 bound.1 in
      le-ltb (parted start log q) (joined log q) (omega (arith, same, counts_none (λ p. is_on q (ring_of start log p)) none bound.0))

  pub attached : (log : Past) (p : ℕ) → is_on q (ring_of start log p) ≡ true → is_attached (cq_after start log q) ≡ true
  attached log p is =
      let bound = some_bound log in
      let same = balanced log (bound.0 + (p + 1)) (below_more bound.0 (p + 1) log bound.1) in
      let one = counts_one (λ k. is_on q (ring_of start log k)) p (bound.0 + (p + 1)) (omega arith) is in
      lt-ltb (parted start log q) (joined log q) (omega (arith, same, one))
