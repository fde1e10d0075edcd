-- The counts before the first event, and after one more.
use Rattle.std.proofs.Common.{◌≡◌, ℕ, zero, suc, ◌<◌, ◌+◌, List, [], ◌∷◌, length, get_or, set, replicate, reverse, take, Option, Some, None, refl, sym, ap, ◌∙◌, arith}
use Rattle.std.proofs.lemmas.Bool.{ne_eqb}
use Rattle.std.proofs.lemmas.List.{get_or-set_other, get_or-set_same, length-replicate, reverse-append, take_more}
use Rattle.nvme_log.specs.Queues.{open_sq}
use Rattle.nvme_log.specs.declared.event.Event.{Event}
use Rattle.nvme_report.specs.inside.Tallies.{AreMost, Tallies, no_counts, region_in}

-- a list of one value alone has it everywhere
all_same : {A : Type 0} (n i : ℕ) (a : A) → get_or (replicate n a) i a ≡ a
all_same zero i a = refl
all_same (suc n) zero a = refl
all_same (suc n) (suc i) a = all_same n i a

-- only the admin queue is open, on region 0
admin_opened : (m q : ℕ) → 0 < m → get_or (set (replicate m None) 0 (Some 0)) q None ≡ region_in (open_sq [] q)
admin_opened m zero l = get_or-set_same (replicate m None) 0 (Some 0) None (rw (length-replicate {A = Option ℕ} m None) l)
admin_opened m (suc q) l =
    rw (ne_eqb (suc q) 0 (λ e. omega (arith, e)))
    (get_or-set_other (replicate m None) 0 (suc q) (Some 0) None (λ e. omega (arith, e)) ∙ all_same m (suc q) None)

-- nothing is counted
pub nothing_tallied : (n m : ℕ) → 0 < m → Tallies [] (replicate n no_counts) (set (replicate m None) 0 (Some 0))
nothing_tallied n m l = record {
  counted = λ r. rw (all_same n r no_counts) (record { fetched = refl; picked = refl; aborted = refl });
  opened = λ q below. admin_opened m q l;
}

pub nothing_most : (n : ℕ) → AreMost 0 (replicate n no_counts)
nothing_most n r = rw (all_same n r no_counts) (record { fetched = omega arith; picked = omega arith; aborted = omega arith })

-- the events so far and one more
pub past_more : (log : List Event) (i : ℕ) (e : Event) → i < length log → e ≡ get_or log i e → reverse (take (i + 1) log) ≡ e ∷ reverse (take i log)
past_more log i e l is = ap (λ v. reverse v) (take_more log i e l) ∙ reverse-append (take i log) (get_or log i e ∷ []) ∙ ap (λ z. z ∷ reverse (take i log)) (sym is)
