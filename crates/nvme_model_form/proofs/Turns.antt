-- The items of an array, read in turn with their indices.
use Rattle.std.proofs.Common.{◌≡◌, ℕ, suc, ◌+◌, ◌<◌, ◌≤◌, List, [], ◌∷◌, length, get_or, drop, Option, Some, None, refl, sym, ap, ◌∙◌}
use Rattle.std.proofs.Math.ListN.{drop_of_length-le}
use Rattle.toml.specs.Data.{Data, item}
use Rattle.toml.specs.View.{view, items_view}
use Rattle.toml.specs.declared.value.Value.{Value}
use Rattle.toml.proofs.Views.{items_view-drop}
use Rattle.nvme_model_form.specs.declared.error.ModelError.{ModelError}
use Rattle.nvme_model_form.specs.declared.error.ModelError.TheVariants.{At, Settings, NoMemory}
use Rattle.nvme_model_form.specs.Readings.{Refuses, item_count, in_turn}

pub item_count_view : (vs : List Value) → item_count (items_view vs) ≡ length vs
item_count_view [] = refl
item_count_view (v ∷ vs) = ap suc (item_count_view vs)

item_at : (vs : List Value) (i : ℕ) (v : Value) → i < length vs → v ≡ get_or vs i v → items_view (drop i vs) ≡ item (view v) (items_view (drop (i + 1) vs))
item_at vs i v lt at = items_view-drop vs i v lt ∙ ap (λ w. item (view w) (items_view (drop (i + 1) vs))) (sym at)

-- an item that is read
pub turn_more : {A : Type 0} (next : ℕ → A → Data → Option A) (vs : List Value) (i : ℕ) (v : Value) (before after : A) → i < length vs → v ≡ get_or vs i v → next i before (view v) ≡ Some after → in_turn next (i + 1) after (items_view (drop (i + 1) vs)) ≡ in_turn next i before (items_view (drop i vs))
unfolding in_turn
turn_more next vs i v before after lt at step = rw (item_at vs i v lt at, step)

-- after the last item
pub turns_done : {A : Type 0} (next : ℕ → A → Data → Option A) (vs : List Value) (i : ℕ) (before : A) → length vs ≤ i → in_turn next i before (items_view (drop i vs)) ≡ Some before
unfolding in_turn
turns_done next vs i before le = rw (drop_of_length-le vs le)

-- an item that is refused
pub turn_refused : {A : Type 0} (next : ℕ → A → Data → Option A) (vs : List Value) (i : ℕ) (v : Value) (before : A) (total : Option A) (e : ModelError) → i < length vs → v ≡ get_or vs i v → Refuses e (next i before (view v)) → in_turn next i before (items_view (drop i vs)) ≡ total → Refuses e total
unfolding in_turn
turn_refused next vs i v before total NoMemory lt at step same = tt
turn_refused next vs i v before total (At place target fault) lt at step same = sym same ∙ rw (item_at vs i v lt at, step)
turn_refused next vs i v before total (Settings place fault) lt at step same = sym same ∙ rw (item_at vs i v lt at, step)
