-- The values of keys, one more put into a document.
use Rattle.std.proofs.Common.{◌≡◌, ◌<◌, ◌≤◌, ◌+◌, ℕ, true, false, List, [], ◌∷◌, length, drop, get_or, min, Some, None, refl, arith, Bor, ◌⊎◌, inl, inr}
use Rattle.std.proofs.lemmas.List.{drop_all, drop_more}
use Rattle.toml.specs.Data.{Members}
use Rattle.nvme_points.specs.Documents.{Text, is_load, load_among, put_all, put_one}
use Rattle.nvme_points.specs.declared.axis.Axis.{Axis}

ended : (m n i : ℕ) → min m n ≤ i → (m ≤ i) ⊎ (n ≤ i)
ended m n i h = grind arith

pub put_next : (axes : List Axis) (values : List (Bor Text)) (i : ℕ) (axis : Axis) (value : Bor Text) (file made : Members) → i < length axes → i < length values
    → put_one (get_or axes i axis) (get_or values i value).now file ≡ Some made → put_all (drop i axes) (drop i values) file ≡ put_all (drop (i + 1) axes) (drop (i + 1) values) made
put_next axes values i axis value file made a b e = rw (drop_more axes i axis a, drop_more values i value b, e) refl

pub put_stops : (axes : List Axis) (values : List (Bor Text)) (i : ℕ) (axis : Axis) (value : Bor Text) (file : Members) → i < length axes → i < length values
    → put_one (get_or axes i axis) (get_or values i value).now file ≡ None → put_all (drop i axes) (drop i values) file ≡ None
put_stops axes values i axis value file a b e = rw (drop_more axes i axis a, drop_more values i value b, e) refl

put_no_values : (axes : List Axis) (file : Members) → put_all axes [] file ≡ Some file
put_no_values [] file = refl
put_no_values (axis ∷ axes) file = refl

pub put_end : (axes : List Axis) (values : List (Bor Text)) (i : ℕ) (file : Members) → min (length axes) (length values) ≤ i → put_all (drop i axes) (drop i values) file ≡ Some file
put_end axes values i file end =
    elim (ended (length axes) (length values) i end) [
      | inl none ↦ rw (drop_all i axes none) refl
      | inr none ↦ rw (drop_all i values none) (put_no_values (drop i axes) file)
    ]

pub load_here : (axes : List Axis) (values : List (Bor Text)) (i : ℕ) (axis : Axis) (value : Bor Text) → i < length axes → i < length values
    → is_load (get_or axes i axis) ≡ true → load_among (drop i axes) (drop i values) ≡ Some (get_or values i value).now
load_here axes values i axis value a b e = rw (drop_more axes i axis a, drop_more values i value b, e) refl

pub load_later : (axes : List Axis) (values : List (Bor Text)) (i : ℕ) (axis : Axis) (value : Bor Text) → i < length axes → i < length values
    → is_load (get_or axes i axis) ≡ false → load_among (drop i axes) (drop i values) ≡ load_among (drop (i + 1) axes) (drop (i + 1) values)
load_later axes values i axis value a b e = rw (drop_more axes i axis a, drop_more values i value b, e) refl

load_no_values : (axes : List Axis) → load_among axes [] ≡ None
load_no_values [] = refl
load_no_values (axis ∷ axes) = refl

pub load_end : (axes : List Axis) (values : List (Bor Text)) (i : ℕ) → min (length axes) (length values) ≤ i → load_among (drop i axes) (drop i values) ≡ None
load_end axes values i end =
    elim (ended (length axes) (length values) i end) [
      | inl none ↦ rw (drop_all i axes none) refl
      | inr none ↦ rw (drop_all i values none) (load_no_values (drop i axes))
    ]
