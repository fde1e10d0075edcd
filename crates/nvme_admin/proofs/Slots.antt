-- Lists of slots, and the small words of the queue table.
use Rattle.std.proofs.Common.{◌≡◌, ℕ, zero, suc, ◌+◌, ◌<◌, ◌≤◌, ◌==◌, ◌||◌, Bool, true, false, if◌then◌else◌, List, [], ◌∷◌, ◌++◌, length, get_or, set, take, replicate, Option, Some, None, IsSomeAnd, refl, sym, ◌∙◌, ap, subst, arith, inl, inr, eq-eqb, get_or-set_same, get_or-set_other, take_all, add-one, option_to_list}
use Rattle.std.specs.List.{list_any}
use Rattle.std.proofs.lemmas.Bool.{cases_eq}
use Rattle.std.proofs.lemmas.Bool.Decides.{nat_tests}
use Rattle.std.proofs.lemmas.List.Folds.{list_any_more}
use Rattle.std.proofs.lemmas.Option.{none-some}
use Rattle.nvme_admin.specs.declared.region.Region.{Region}
use Rattle.nvme_admin.specs.declared.verdict.SqEntry.{SqEntry}
use Rattle.nvme_admin.specs.History.{Effects}
use Rattle.nvme_admin.specs.QueueTable.{is_used, admin_sq, admin_cq, sq_in, cq_in, io_sq_in, io_cq_in, sq_regions_in, cq_regions_in}
use Rattle.nvme_admin.specs.Checks.{some_below}

pub other : (k q : ℕ) → (k ≡ q → ⊥) → (k == q) ≡ false
other k q n = grind (arith, nat_tests)

pub same : (k : ℕ) → (k == k) ≡ true
same k = eq-eqb k k refl

-- a slot that is filled is within the list
pub within : {A : Type 0} (xs : List (Option A)) (q : ℕ) (x : A) → get_or xs q None ≡ Some x → q < length xs
within [] q x h = absurd (none-some x h)
within (y ∷ ys) zero x h = omega arith
within (y ∷ ys) (suc q) x h = let below : q < length ys = within ys q x h in omega arith

-- a test of some element, by places
pub list_any-take : {A : Type 0} (p : A → Bool) (xs : List A) (d : A) (n : ℕ) → n ≤ length xs → list_any p (take n xs) ≡ some_below (λ q. p (get_or xs q d)) n
unfolding some_below
list_any-take p xs d zero h = refl
list_any-take p xs d (suc n) h =
    let more : list_any p (take (n + 1) xs) ≡ (list_any p (take n xs) || p (get_or xs n d)) = list_any_more p xs n d (omega arith) in
    (rw add-one at more) ∙ ap (λ (b : Bool). b || p (get_or xs n d)) (list_any-take p xs d n (omega arith))

pub list_any-below : {A : Type 0} (p : A → Bool) (xs : List A) (d : A) (n : ℕ) → length xs ≡ n → list_any p xs ≡ some_below (λ q. p (get_or xs q d)) n
list_any-below p xs d n e =
    let full : length xs ≤ n = omega arith in
    ap (list_any p) (sym (take_all n xs full)) ∙ list_any-take p xs d n (omega arith)

-- what a slot that is filled by a closing queue holds
pub closing_some : (o : Option SqEntry) → IsSomeAnd o (λ queue. queue.closing ≡ true) → (queue : SqEntry) × (o ≡ Some queue) × (queue.closing ≡ true)
closing_some None h = absurd h
closing_some (Some queue) h = (queue, refl, h)

closing_in : Option SqEntry → Bool
closing_in None = false
closing_in (Some queue) = queue.closing

-- the admin submission queue is never closing
pub admin_sq-open : (rs : List Region) (queue : SqEntry) → admin_sq rs ≡ Some queue → queue.closing ≡ false
unfolding closing_in
admin_sq-open [] queue h = absurd (none-some queue h)
admin_sq-open (r ∷ rs) queue h = sym (ap closing_in h)

pub admin_sq-append : (rs : List Region) (r : Region) (s : Region) → admin_sq (rs ++ r ∷ []) ≡ admin_sq (s ∷ [])
admin_sq-append [] r s = refl
admin_sq-append (x ∷ xs) r s = refl

pub admin_cq-append : (rs : List Region) (r : Region) → admin_cq (rs ++ r ∷ []) ≡ Some 0
admin_cq-append [] r = refl
admin_cq-append (x ∷ xs) r = refl

-- the slot of an I/O identifier is written
pub sq-set : (e e' : Effects) (sqs : List (Option SqEntry)) (k : ℕ) (x : Option SqEntry)
    → k < length sqs → (k ≡ 0 → ⊥) → sq_regions_in e ≡ sq_regions_in e' → x ≡ io_sq_in e' k
    → ((q : ℕ) → (k ≡ q → ⊥) → io_sq_in e q ≡ io_sq_in e' q)
    → ((q : ℕ) → get_or sqs q None ≡ sq_in e q)
    → (q : ℕ) → get_or (set sqs k x) q None ≡ sq_in e' q
sq-set e e' sqs k x room io regions here others was q = elim (cases_eq k q) [
  | inl is ↦ subst (λ (p : ℕ). get_or (set sqs k x) p None ≡ sq_in e' p) is
      (get_or-set_same sqs k x None room ∙ here ∙ (λ i. if (sym (other k 0 io)) i then admin_sq (sq_regions_in e') else io_sq_in e' k))
  | inr n ↦ get_or-set_other sqs k q x None (λ p. n (sym p)) ∙ was q
      ∙ (λ i. if q == 0 then admin_sq (regions i) else (others q n) i)
]

pub cq-set : (e e' : Effects) (cqs : List (Option ℕ)) (k : ℕ) (x : Option ℕ)
    → k < length cqs → (k ≡ 0 → ⊥) → cq_regions_in e ≡ cq_regions_in e' → x ≡ io_cq_in e' k
    → ((q : ℕ) → (k ≡ q → ⊥) → io_cq_in e q ≡ io_cq_in e' q)
    → ((q : ℕ) → get_or cqs q None ≡ cq_in e q)
    → (q : ℕ) → get_or (set cqs k x) q None ≡ cq_in e' q
cq-set e e' cqs k x room io regions here others was q = elim (cases_eq k q) [
  | inl is ↦ subst (λ (p : ℕ). get_or (set cqs k x) p None ≡ cq_in e' p) is
      (get_or-set_same cqs k x None room ∙ here ∙ (λ i. if (sym (other k 0 io)) i then admin_cq (cq_regions_in e') else io_cq_in e' k))
  | inr n ↦ get_or-set_other cqs k q x None (λ p. n (sym p)) ∙ was q
      ∙ (λ i. if q == 0 then admin_cq (regions i) else (others q n) i)
]

-- a slot is written, and every other slot stays
pub slot-set : {A : Type 0} (xs : List (Option A)) (k : ℕ) (x : Option A) (y : ℕ → Option A) → k < length xs → x ≡ y k
    → (q : ℕ) → get_or (set xs k x) q None ≡ (if k == q then y q else get_or xs q None)
slot-set xs k x y room is q = elim (cases_eq k q) [
  | inl own ↦ subst (λ (p : ℕ). get_or (set xs k x) p None ≡ (if k == p then y p else get_or xs p None)) own
      (get_or-set_same xs k x None room ∙ is ∙ (λ i. if (sym (same k)) i then y k else get_or xs k None))
  | inr n ↦ get_or-set_other xs k q x None (λ p. n (sym p)) ∙ (λ i. if (sym (other k q n)) i then y q else get_or xs q None)
]

-- the slot of the admin queue is written
pub slot-set-admin : {A : Type 0} (xs : List (Option A)) (x : Option A) → 0 < length xs
    → (q : ℕ) → get_or (set xs 0 x) q None ≡ (if q == 0 then x else get_or xs q None)
slot-set-admin xs x room zero = get_or-set_same xs 0 x None room
slot-set-admin xs x room (suc q) =
    let n : suc q ≡ 0 → ⊥ = λ p. omega arith in
    get_or-set_other xs 0 (suc q) x None n ∙ (λ i. if (sym (other (suc q) 0 n)) i then x else get_or xs (suc q) None)

-- a mark is set, and every other mark stays
pub mark-set : (used : List Bool) (k n : ℕ) → k < length used → k ≡ n → (j : ℕ) → get_or (set used k true) j false ≡ (n == j || get_or used j false)
mark-set used k n room is j = subst (λ (m : ℕ). get_or (set used k true) j false ≡ (m == j || get_or used j false)) is
    (elim (cases_eq k j) [
      | inl own ↦ subst (λ (p : ℕ). get_or (set used k true) p false ≡ (k == p || get_or used p false)) own
          (get_or-set_same used k true false room ∙ (λ i. (sym (same k)) i || get_or used k false))
      | inr n ↦ get_or-set_other used k j true false (λ p. n (sym p)) ∙ (λ i. (sym (other k j n)) i || get_or used j false)
    ])

-- an I/O identifier isn't the admin queue's
pub sq_in-io : (e : Effects) (q : ℕ) → (q ≡ 0 → ⊥) → sq_in e q ≡ io_sq_in e q
sq_in-io e q n = λ i. if (other q 0 n) i then admin_sq (sq_regions_in e) else io_sq_in e q

pub cq_in-io : (e : Effects) (q : ℕ) → (q ≡ 0 → ⊥) → cq_in e q ≡ io_cq_in e q
cq_in-io e q n = λ i. if (other q 0 n) i then admin_cq (cq_regions_in e) else io_cq_in e q

-- the slot of the admin queue is written
pub sq-set-admin : (e e' : Effects) (sqs : List (Option SqEntry)) (x : Option SqEntry) → 0 < length sqs → x ≡ admin_sq (sq_regions_in e')
    → ((q : ℕ) → io_sq_in e q ≡ io_sq_in e' q)
    → ((q : ℕ) → get_or sqs q None ≡ sq_in e q)
    → (q : ℕ) → get_or (set sqs 0 x) q None ≡ sq_in e' q
sq-set-admin e e' sqs x room here others was zero = get_or-set_same sqs 0 x None room ∙ here
sq-set-admin e e' sqs x room here others was (suc q) =
    let n : suc q ≡ 0 → ⊥ = λ p. omega arith in
    get_or-set_other sqs 0 (suc q) x None n ∙ was (suc q) ∙ sq_in-io e (suc q) n ∙ others (suc q) ∙ sym (sq_in-io e' (suc q) n)

pub cq-set-admin : (e e' : Effects) (cqs : List (Option ℕ)) (x : Option ℕ) → 0 < length cqs → x ≡ admin_cq (cq_regions_in e')
    → ((q : ℕ) → io_cq_in e q ≡ io_cq_in e' q)
    → ((q : ℕ) → get_or cqs q None ≡ cq_in e q)
    → (q : ℕ) → get_or (set cqs 0 x) q None ≡ cq_in e' q
cq-set-admin e e' cqs x room here others was zero = get_or-set_same cqs 0 x None room ∙ here
cq-set-admin e e' cqs x room here others was (suc q) =
    let n : suc q ≡ 0 → ⊥ = λ p. omega arith in
    get_or-set_other cqs 0 (suc q) x None n ∙ was (suc q) ∙ cq_in-io e (suc q) n ∙ others (suc q) ∙ sym (cq_in-io e' (suc q) n)

or_true : (b : Bool) → (b || true) ≡ true
or_true true = refl
or_true false = refl

-- a region is marked as used
pub used-set : (used : List Bool) (named : List ℕ) (k : ℕ) (o : Option ℕ) → k < length used → Some k ≡ o
    → ((j : ℕ) → get_or used j false ≡ is_used named j)
    → (j : ℕ) → get_or (set used k true) j false ≡ is_used (option_to_list o ++ named) j
used-set used named k o room here was j = subst (λ (p : Option ℕ). get_or (set used k true) j false ≡ is_used (option_to_list p ++ named) j) here
    (elim (cases_eq k j) [
      | inl is ↦ subst (λ (p : ℕ). get_or (set used k true) p false ≡ is_used (k ∷ named) p) is
          (get_or-set_same used k true false room ∙ sym (or_true (k == 0)) ∙ (λ i. (k == 0) || ((sym (same k)) i || list_any (λ n. n == k) named)))
      | inr n ↦ get_or-set_other used k j true false (λ p. n (sym p)) ∙ was j ∙ (λ i. (j == 0) || ((sym (other k j n)) i || list_any (λ n. n == j) named))
    ])

-- a table with no region has no queue, and of each kind region 0 counts as used
pub read-replicate : {A : Type 0} (n q : ℕ) (d : A) → get_or (replicate n d) q d ≡ d
read-replicate zero q d = refl
read-replicate (suc n) zero d = refl
read-replicate (suc n) (suc q) d = read-replicate n q d

if-same : {A : Type 0} (b : Bool) (x : A) → x ≡ (if b then x else x)
if-same true x = refl
if-same false x = refl

pub sq-new : (n q : ℕ) → get_or (replicate n None) q None ≡ sq_in [] q
sq-new n q = read-replicate n q None ∙ if-same (q == 0) None

pub cq-new : (n q : ℕ) → get_or (replicate n None) q None ≡ cq_in [] q
cq-new n q = read-replicate n q None ∙ if-same (q == 0) None

or_false : (b : Bool) → b ≡ (b || false)
or_false true = refl
or_false false = refl

pub used-new : (n k : ℕ) → get_or (true ∷ replicate n false) k false ≡ is_used [] k
used-new n zero = refl
used-new n (suc k) = read-replicate n k false ∙ sym (other (suc k) 0 (λ p. omega arith)) ∙ or_false (suc k == 0)

pub marks-new : (n k : ℕ) → get_or (true ∷ replicate n false) k false ≡ (k == 0)
marks-new n zero = refl
marks-new n (suc k) = read-replicate n k false ∙ sym (other (suc k) 0 (λ p. omega arith))
