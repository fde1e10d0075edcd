-- Commands that are put into a list and taken out of it.
use Rattle.std.proofs.Common.{◌≡◌, ◌∙◌, ◌<◌, ◌≤◌, ◌+◌, ◌-◌, ℕ, suc, Bool, true, false, cond, nat_lt, List, [], ◌∷◌, ◌++◌, Some, None, length, get_or, position, find, slice_get, append_assoc, append-nil, ap, sym, refl, arith}
use Rattle.std.specs.List.{position_or_len}
use Rattle.std.proofs.lemmas.Bool.{ltb-false}
use Rattle.std.proofs.lemmas.List.Folds.{find_at}
use Rattle.std.proofs.lemmas.Option.{slice_get-get_or, slice_get_past}
use Rattle.nvme_waits.specs.declared.waits.Queue.{Queue}
use Rattle.nvme_waits.specs.declared.waits.Taken.{Taken}
use Rattle.nvme_waits.specs.Waits.{next_of, picked_from, queue_behind}

of_place : (b : Bool) (n i : ℕ) → cond b (Some n) None ≡ Some i → n ≡ i
of_place true n i e = cc
of_place false n i e = cc

of_no_place : (b : Bool) (n : ℕ) → cond b (Some n) None ≡ None → b ≡ false
of_no_place true n e = cc
of_no_place false n e = refl

-- the first that passes stands at its place
pub found_at : {X : Type 0} (test : X → Bool) (xs : List X) (i : ℕ) (x : X) → position test xs ≡ Some i → i < length xs → x ≡ get_or xs i x → Some x ≡ find test xs
found_at test xs i x at l is =
    let place : position_or_len test xs ≡ i = of_place (nat_lt (position_or_len test xs) (length xs)) (position_or_len test xs) i at in
    ap (λ v. Some v) is ∙ (sym (slice_get-get_or xs i x l) ∙ (ap (λ (k : ℕ). slice_get xs k) (sym place) ∙ sym (find_at test xs)))

-- none passes
pub none_at : {X : Type 0} (test : X → Bool) (xs : List X) → position test xs ≡ None → None ≡ find test xs
none_at test xs at =
    let past : length xs ≤ position_or_len test xs =
    ltb-false (position_or_len test xs) (length xs) (of_no_place (nat_lt (position_or_len test xs) (length xs)) (position_or_len test xs) at) in
    sym (find_at test xs ∙ slice_get_past xs (position_or_len test xs) past)

-- one more command of a pick
pub picked_more : (at qid n i : ℕ) (q next : Queue) (t : Taken) (xs ys all : List Taken) → i < n → t ≡ record { queue = qid; number = q.count; since = q.last }
    → next ≡ record q { count = next_of q.count; last = at } → ys ≡ xs ++ t ∷ [] → xs ++ picked_from at qid (n - i) q ≡ all
    → ys ++ picked_from at qid (n - (i + 1)) next ≡ all
picked_more at qid n i q next t xs ys all l one after more so =
    let left : n - i ≡ suc (n - (i + 1)) = omega (arith, l) in
    let was : xs ++ picked_from at qid (suc (n - (i + 1))) q ≡ all = rw left at so in
    let this : Taken = record { queue = qid; number = q.count; since = q.last } in
    let behind : Queue = record q { count = next_of q.count; last = at } in
    rw (more, after, one) (append_assoc xs (this ∷ []) (picked_from at qid (n - (i + 1)) behind) ∙ was)

pub behind_more : (at n i : ℕ) (q next all : Queue) → i < n → next ≡ record q { count = next_of q.count; last = at } → queue_behind at (n - i) q ≡ all
    → queue_behind at (n - (i + 1)) next ≡ all
behind_more at n i q next all l after so =
    let left : n - i ≡ suc (n - (i + 1)) = omega (arith, l) in
    let was : queue_behind at (suc (n - (i + 1))) q ≡ all = rw left at so in
    rw after was

-- none is left
pub picked_all : (at qid n i : ℕ) (q : Queue) (xs all : List Taken) → n ≤ i → xs ++ picked_from at qid (n - i) q ≡ all → xs ≡ all
picked_all at qid n i q xs all l so =
    let none : n - i ≡ 0 = omega (arith, l) in
    let was : xs ++ picked_from at qid 0 q ≡ all = rw none at so in
    sym (append-nil xs) ∙ was

pub behind_all : (at n i : ℕ) (q all : Queue) → n ≤ i → queue_behind at (n - i) q ≡ all → q ≡ all
behind_all at n i q all l so = let none : n - i ≡ 0 = omega (arith, l) in rw none at so

-- all are left
pub picked_none : (at qid n : ℕ) (q : Queue) (xs : List Taken) → xs ++ picked_from at qid (n - 0) q ≡ xs ++ picked_from at qid n q
picked_none at qid n q xs = let all : n - 0 ≡ n = omega arith in rw all refl

pub behind_none : (at n : ℕ) (q : Queue) → queue_behind at (n - 0) q ≡ queue_behind at n q
behind_none at n q = let all : n - 0 ≡ n = omega arith in rw all refl
