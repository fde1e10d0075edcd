-- A queue in its place among others.
use Rattle.std.proofs.Common.{◌≡◌, ◌<◌, ℕ, List, length, get_or, set, refl, sym, subst}
use Rattle.std.proofs.lemmas.List.{get_or-set_same, get_or_read_under}
use Rattle.nvme_load.specs.declared.arrivals.Arrivals.{Arrivals}
use Rattle.nvme_model.specs.declared.queue.Queue.{Queue}
use Rattle.nvme_model.specs.Arrivals.{HasArrivals}

-- what is said of a queue and the one in its place is said of what lists have there
pub in_place : (coming : Arrivals) (queues : List Queue) (place i : ℕ) (q old new : Queue) → i ≡ place → place < length queues → old ≡ get_or queues place old → HasArrivals coming old new → HasArrivals coming (get_or queues i q) (get_or (set queues place new) i q)
in_place coming queues place i q old new here within is has =
    subst (λ n. HasArrivals coming (get_or queues n q) (get_or (set queues place new) n q)) (sym here)
    (subst (λ (after : Queue). HasArrivals coming (get_or queues place q) after) (sym (get_or-set_same queues place new q within))
    (subst (λ (before : Queue). HasArrivals coming before new) (get_or_read_under queues place (length queues) old q is within refl) has))
