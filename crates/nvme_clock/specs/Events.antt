-- The order of events: by time, and at one time by number. (profile)
use Rattle.std.specs.Prelude.{◌==◌, Bool, if◌then◌else◌, List, [], ◌∷◌, map}
use Rattle.std.specs.Ordering.{is_lt, nat_cmp, ordering_then}
use Rattle.std.specs.declared.cmp.Ordering.{Ordering}
use Rattle.std.specs.declared.cmp.Reverse.{Reverse}
use Rattle.nvme_clock.specs.declared.events.Event.{Event}

abbrev pub event_cmp : {E : Type 0} → Event E → Event E → Ordering
event_cmp a b = ordering_then (nat_cmp a.at b.at) (nat_cmp a.number b.number)

abbrev pub comes_before : {E : Type 0} → Event E → Event E → Bool
comes_before a b = is_lt (event_cmp a b)

abbrev pub same_number : {E : Type 0} → Event E → Event E → Bool
same_number a b = a.number == b.number

-- a list with one more element, before the first that it comes before
abbrev pub inserted : {X : Type 0} → (X → X → Bool) → X → List X → List X
inserted R x [] = x ∷ []
inserted R x (y ∷ ys) = if R x y then x ∷ y ∷ ys else y ∷ inserted R x ys

-- the elements of a list in an order
abbrev pub sorted : {X : Type 0} → (X → X → Bool) → List X → List X
sorted R [] = []
sorted R (x ∷ xs) = inserted R x (sorted R xs)

-- a heap's greatest element is the event that comes first
abbrev pub comes_later : {E : Type 0} → Reverse (Event E) → Reverse (Event E) → Ordering
comes_later x y = event_cmp y.0 x.0

abbrev pub events_in : {E : Type 0} → List (Reverse (Event E)) → List (Event E)
events_in items = map (λ x. x.0) items
