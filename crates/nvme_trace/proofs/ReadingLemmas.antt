-- Values of a line.
use Rattle.std.proofs.Common.{◌≡◌, ℕ, suc, ◌+◌, ◌<◌, ◌≤◌, zero, List, [], ◌∷◌, ◌++◌, length, get_or, drop, Some, None, String, Global, refl, sym, ap, subst, arith}
use Rattle.std.proofs.Common.{ltb, Bool, false, true, inl, inr}
use Rattle.std.specs.Prelude.{string_bytes, if◌then◌else◌}
use Rattle.std.proofs.Math.ListN.{drop_of_length-le}
use Rattle.std.proofs.lemmas.Bool.{le-ltb, cases_Bool}
use Rattle.nvme_arbiter.specs.Limits.{queue_limit}
use Rattle.nvme_arbiter.specs.Observation.{IsObservation, is_observation_from}
use Rattle.nvme_arbiter.proofs.Observations.{tested}
use Rattle.serde_json.specs.Data.{Data, null, boolean, number, string, array, object, item, Members}
use Rattle.serde_json.specs.Find.{as_object, as_array}
use Rattle.serde_json.specs.View.{view, items_view, members_view}
use Rattle.serde_json.specs.declared.value.Value.{Value}
use Rattle.nvme_arbiter.specs.declared.pick.Seen.{Seen}
use Rattle.nvme_trace.specs.Readings.{is_extra, item_count, member_count, field_count}
use Rattle.nvme_trace.specs.Format.{queue_of, queues_from, queues_of, observation_of}

pub item_count_view : (vs : List Value) → item_count (items_view vs) ≡ length vs
item_count_view [] = refl
item_count_view (v ∷ vs) = ap suc (item_count_view vs)

few_or : (b : Bool) (n k : ℕ) → n ≤ k → (if b then n else suc n) ≤ suc k
few_or true n k le = omega arith
few_or false n k le = omega arith

-- the members that aren't ignored
pub few_members : (ms : List (String Global × Value)) → member_count (members_view ms) ≤ length ms
few_members [] = omega arith
few_members ((name, v) ∷ ms) = few_or (is_extra (string_bytes name)) (member_count (members_view ms)) (length ms) (few_members ms)

-- the first of some members is ignored
pub record IsIgnoredFirst (members rest : List (String Global × Value)) : Type 0 where
  pub same : member_count (members_view members) ≡ member_count (members_view rest)
  pub one_less : length members ≡ length rest + 1
  pub few : member_count (members_view rest) ≤ length rest

ignored_here : (e : String Global × Value) (rest : List (String Global × Value)) → is_extra (string_bytes e.0) ≡ true → IsIgnoredFirst (e ∷ rest) rest
ignored_here (name, v) rest x = record {
  same = ap (λ (b : Bool). if b then member_count (members_view rest) else suc (member_count (members_view rest))) x;
  one_less = omega arith;
  few = few_members rest;
}

pub ignored_first : (members rest : List (String Global × Value)) (e : String Global × Value) → members ≡ e ∷ rest → is_extra (string_bytes e.0) ≡ true → IsIgnoredFirst members rest
ignored_first members rest e is x = subst (λ (ms : List (String Global × Value)). IsIgnoredFirst ms rest) (sym is) (ignored_here e rest x)

pub fields_of : (d : Data) (ms : Members) → Some ms ≡ as_object d → member_count ms ≡ field_count d
fields_of null ms h = absurd (cc)
fields_of (boolean b) ms h = absurd (cc)
fields_of (number n) ms h = absurd (cc)
fields_of (string s) ms h = absurd (cc)
fields_of (array ds) ms h = absurd (cc)
fields_of (object ns) ms h = let e : ms ≡ ns = cc in ap member_count e

drop_next : (vs : List Value) (i : ℕ) (v : Value) → i < length vs → v ≡ get_or vs i v → items_view (drop i vs) ≡ item (view v) (items_view (drop (suc i) vs))
drop_next [] i v lt at = absurd (omega arith)
drop_next (w ∷ ws) zero v lt at = ap (λ x. item (view x) (items_view ws)) (sym at)
drop_next (w ∷ ws) (suc i) v lt at = drop_next ws i v (omega arith) at

drop_items : (vs : List Value) (i : ℕ) (v : Value) → i < length vs → v ≡ get_or vs i v → items_view (drop i vs) ≡ item (view v) (items_view (drop (i + 1) vs))
drop_items vs i v lt at =
    let next : suc i ≡ i + 1 = omega arith in
    subst (λ (k : ℕ). items_view (drop i vs) ≡ item (view v) (items_view (drop k vs))) next (drop_next vs i v lt at)

-- a queue that is read
pub queue_more : (vs : List Value) (i : ℕ) (v : Value) (before : List Seen) (queue : Seen) → i < length vs → v ≡ get_or vs i v → Some queue ≡ queue_of (view v) → queues_from (before ++ queue ∷ []) (items_view (drop (i + 1) vs)) ≡ queues_from before (items_view (drop i vs))
unfolding queues_from
queue_more vs i v before queue lt at is = rw (drop_items vs i v lt at, ← is)

-- an item that is no queue
pub queue_fails : (vs : List Value) (i : ℕ) (v : Value) (before : List Seen) → i < length vs → v ≡ get_or vs i v → None ≡ queue_of (view v) → None ≡ queues_from before (items_view (drop i vs))
unfolding queues_from
queue_fails vs i v before lt at is = rw (drop_items vs i v lt at, ← is)

-- after the last item
pub queues_done : (vs : List Value) (i : ℕ) (before : List Seen) → length vs ≤ i → Some before ≡ queues_from before (items_view (drop i vs))
unfolding queues_from
queues_done vs i before le = rw (drop_of_length-le vs le)

-- an array that is not too long
pub queues_whole : (d : Data) (vs : List Value) → Some (items_view vs) ≡ as_array d → length vs ≤ queue_limit → queues_from [] (items_view vs) ≡ queues_of d
unfolding queues_of
queues_whole d vs is le =
    let few : ltb queue_limit (item_count (items_view vs)) ≡ false = le-ltb _ _ (omega (arith, item_count_view vs)) in
    rw (← is, few)

-- the queues are an observation
pub observed : (d : Data) (seen : List Seen) → Some seen ≡ queues_of d → IsObservation seen → Some seen ≡ observation_of d
unfolding observation_of
observed d seen is o = let yes : is_observation_from 0 seen ≡ true = (tested seen).1 o in rw (← is, yes)

-- or they are none
pub not_observed : (d : Data) (seen : List Seen) → Some seen ≡ queues_of d → (IsObservation seen → ⊥) → None ≡ observation_of d
unfolding observation_of
not_observed d seen is n =
    let no : is_observation_from 0 seen ≡ false =
    elim (cases_Bool (is_observation_from 0 seen)) [ inl t ↦ absurd (n ((tested seen).0 t)) | inr f ↦ f ] in
    rw (← is, no)
