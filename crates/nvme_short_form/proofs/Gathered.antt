-- Faults that are gathered one table after another.
use Rattle.std.proofs.Common.{◌≡◌, ℕ, ◌+◌, ◌<◌, ◌≤◌, List, [], ◌∷◌, ◌++◌, length, get_or, drop, sym, ap, ◌∙◌, append_assoc, append-nil}
use Rattle.std.proofs.Math.ListN.{drop_of_length-le}
use Rattle.toml.specs.Data.{Data, as_table}
use Rattle.toml.specs.View.{view, items_view}
use Rattle.toml.specs.declared.value.Value.{Value}
use Rattle.nvme_short_form.specs.declared.flaw.Flaw.{Flaw}
use Rattle.nvme_short_form.specs.Flaws.{cq_among, each_from, queue_flaws, queues_from}
use Rattle.nvme_short_form.proofs.Turns.{item_at}

-- one item more
pub each_more : (flaws : ℕ → Data → List Flaw) (vs : List Value) (i : ℕ) (v : Value) (before after total : List Flaw) → i < length vs → v ≡ get_or vs i v
    → after ≡ before ++ flaws i (view v) → before ++ each_from flaws i (items_view (drop i vs)) ≡ total → after ++ each_from flaws (i + 1) (items_view (drop (i + 1) vs)) ≡ total
each_more flaws vs i v before after total lt at step so =
    rw step (append_assoc before (flaws i (view v)) (each_from flaws (i + 1) (items_view (drop (i + 1) vs))))
    ∙ ap (λ ys. before ++ each_from flaws i ys) (sym (item_at vs i v lt at)) ∙ so

-- after the last item
pub each_done : (flaws : ℕ → Data → List Flaw) (vs : List Value) (i : ℕ) (before total : List Flaw) → length vs ≤ i → before ++ each_from flaws i (items_view (drop i vs)) ≡ total → before ≡ total
each_done flaws vs i before total le so = sym (append-nil before) ∙ ap (λ ys. before ++ each_from flaws i (items_view ys)) (sym (drop_of_length-le vs le)) ∙ so

-- one queue more
pub queues_more : (vs : List Value) (i : ℕ) (v : Value) (cqs : List ℕ) (before after total : List Flaw) → i < length vs → v ≡ get_or vs i v
    → after ≡ before ++ queue_flaws cqs (view v) → before ++ queues_from cqs (items_view (drop i vs)) ≡ total
    → after ++ queues_from (cqs ++ cq_among cqs (as_table (view v)) ∷ []) (items_view (drop (i + 1) vs)) ≡ total
queues_more vs i v cqs before after total lt at step so =
    rw step (append_assoc before (queue_flaws cqs (view v)) (queues_from (cqs ++ cq_among cqs (as_table (view v)) ∷ []) (items_view (drop (i + 1) vs))))
    ∙ ap (λ ys. before ++ queues_from cqs ys) (sym (item_at vs i v lt at)) ∙ so

-- after the last queue
pub queues_done : (vs : List Value) (i : ℕ) (cqs : List ℕ) (before total : List Flaw) → length vs ≤ i → before ++ queues_from cqs (items_view (drop i vs)) ≡ total → before ≡ total
queues_done vs i cqs before total le so = sym (append-nil before) ∙ ap (λ ys. before ++ queues_from cqs (items_view ys)) (sym (drop_of_length-le vs le)) ∙ so
