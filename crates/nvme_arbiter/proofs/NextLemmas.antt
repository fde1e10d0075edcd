-- The next queue, looked for in a list by ascending identifier.
use Rattle.std.proofs.Common.{◌≡◌, ℕ, suc, ◌<◌, ◌&&◌, Bool, true, false, cond, nat_lt, List, [], ◌∷◌, find, refl, ap, ◌∙◌, arith}
use Rattle.std.specs.Prelude.{filter, Option, Some, None, All, AllPairs, IfSome}
use Rattle.std.specs.Option.{option_or}
use Rattle.std.proofs.lemmas.Bool.{le-ltb}
use Rattle.std.proofs.lemmas.List.Elements.{All-head, All-tail}
use Rattle.nvme_arbiter.specs.declared.pick.Seen.{Seen}
use Rattle.nvme_arbiter.specs.Next.{lower, least, above, next}

-- the first of two queues has the lower identifier
abbrev pub Below : Seen → Seen → Type 0
Below a b = a.qid < b.qid

pub below_rest : (x : Seen) (xs : List Seen) → AllPairs Below (x ∷ xs) → All (Below x) xs
below_rest x xs a = λ k d h. a 0 (suc k) d (omega arith) (omega arith)

pub rest_ascends : (x : Seen) (xs : List Seen) → AllPairs Below (x ∷ xs) → AllPairs Below xs
rest_ascends x xs a = λ i j d h k. a (suc i) (suc j) d (omega arith) (omega arith)

-- what holds of each element holds of the one found
pub IfSome-find : (P : Seen → Type 0) (p : Seen → Bool) (xs : List Seen) → All P xs → IfSome (find p xs) P
IfSome-find P p [] a = tt
IfSome-find P p (x ∷ xs) a =
    elim (p x) as (λ b. IfSome (cond b (Some x) (find p xs)) P) [ true ↦ All-head P x xs a | false ↦ IfSome-find P p xs (All-tail P x xs a) ]

lower_first : (x : Seen) (o : Option Seen) → IfSome o (Below x) → lower x o ≡ x
lower_first x None h = refl
lower_first x (Some t) h = rw (le-ltb t.qid x.qid (omega (arith, h)))

-- among ascending queues, the least that passes is the first that does
pub least-filter : (p : Seen → Bool) (xs : List Seen) → AllPairs Below xs → least (filter p xs) ≡ find p xs
least-filter p [] a = refl
least-filter p (x ∷ xs) a =
    let rest : least (filter p xs) ≡ find p xs = least-filter p xs (rest_ascends x xs a) in
    let first : lower x (least (filter p xs)) ≡ x = ap (lower x) rest ∙ lower_first x (find p xs) (IfSome-find (Below x) p xs (below_rest x xs a)) in
    elim (p x) as (λ b. least (cond b (x ∷ filter p xs) (filter p xs)) ≡ cond b (Some x) (find p xs)) [ true ↦ ap Some first | false ↦ rest ]

-- a filter of what a filter keeps
filter-filter : (p q : Seen → Bool) (xs : List Seen) → filter q (filter p xs) ≡ filter (λ x. p x && q x) xs
filter-filter p q [] = refl
filter-filter p q (x ∷ xs) =
    let rest = filter-filter p q xs in
    elim (p x) as (λ b. filter q (cond b (x ∷ filter p xs) (filter p xs)) ≡ cond (b && q x) (x ∷ filter (λ x. p x && q x) xs) (filter (λ x. p x && q x) xs)) [
      | true ↦ ap (λ ys. cond (q x) (x ∷ ys) ys) rest
      | false ↦ rest
    ]

-- the next of the queues that pass, after the one served last
pub next-filter : (p : Seen → Bool) (last : ℕ) (xs : List Seen) → AllPairs Below xs → next (Some last) (filter p xs) ≡ option_or (find (λ s. p s && nat_lt last s.qid) xs) (find p xs)
next-filter p last xs a =
    let after : least (above last (filter p xs)) ≡ find (λ s. p s && nat_lt last s.qid) xs = ap least (filter-filter p (λ s. nat_lt last s.qid) xs) ∙ least-filter (λ s. p s && nat_lt last s.qid) xs a in
    (ap (λ o. option_or o (least (filter p xs))) after) ∙ ap (option_or (find (λ s. p s && nat_lt last s.qid) xs)) (least-filter p xs a)
